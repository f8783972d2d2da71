use Rattle.std.proofs.Common.{◌≡◌, ◌+◌, ◌<◌, ◌≤◌, ◌∙◌, ℕ, List, length, get_or, take, drop, Option, Some, ap, subst, sym, arith}
use Rattle.std.specs.Borrow.{Bor}
use Rattle.std.proofs.lemmas.List.{length-map, take_more}
use Rattle.ipf_insert.specs.declared.fault.InsertFault.{InsertFault}
use Rattle.ipf_insert.specs.Rules.{or_then, element_of, targets_rule}
use Rattle.ipf_insert.specs.Steps.{settled, IfRule, IsKept, AreKept}
use Rattle.ipf_insert.proofs.Seeking.{room_left, reached, target_is}
use Rattle.std.proofs.lemmas.Result.{err_from_is_err_and}
use Rattle.ipf_insert.proofs.Targets.{on_rule, rising_front, all_more, all_at, targets_on}
use Rattle.ipf_insert.proofs.target_rules.check_targets.Goals as goal

pub seek-requires-clause-few : goal.seek-requires-clause-few
seek-requires-clause-few c =
    let i = settled c.args.sources.now in
    let target = get_or c.args.targets.now c.loop-place.place 0 in
    let room = room_left i.aus c.loop-place.first target c.loop-place.rest.now c.loop-place.invariant.from (c.loop-place.invariant.next c.loop-place.place (omega arith) c.loop-place-test.true) (all_at (λ t. t < length i.aus) c.args.targets.now c.loop-place.place c.requires.below c.loop-place-test.true) in
    let few = c.requires.ready.few in
    omega (arith, room, few, length-map c.args.sources.now.aus.items (λ (r : Bor (List ℕ)). r.now))

pub seek-requires-clause-there : goal.seek-requires-clause-there
seek-requires-clause-there c =
    let i = settled c.args.sources.now in
    let target = get_or c.args.targets.now c.loop-place.place 0 in
    let below = all_at (λ t. t < length i.aus) c.args.targets.now c.loop-place.place c.requires.below c.loop-place-test.true in
    let room = room_left i.aus c.loop-place.first target c.loop-place.rest.now c.loop-place.invariant.from (c.loop-place.invariant.next c.loop-place.place (omega arith) c.loop-place-test.true) below in
    omega (arith, room, below)

pub check_length-requires-clause-rising : goal.check_length-requires-clause-rising
check_length-requires-clause-rising c = rising_front c.args.targets.now (c.loop-place.place + 1) (let lt = c.loop-place-test.true in omega (arith, lt)) c.requires.rising

pub check_length-requires-clause-here : goal.check_length-requires-clause-here
check_length-requires-clause-here c =
    let r = reached (settled c.args.sources.now).aus c.loop-place.rest.now c.seek.result.0.now c.loop-place.first (get_or c.args.targets.now c.loop-place.place 0) c.seek.result.1 c.index-rest-0.result c.loop-place.invariant.from c.loop-place.invariant.framable c.seek.ensures c.index-rest-0.is in
    r.here

pub check_length-requires-clause-framable : goal.check_length-requires-clause-framable
check_length-requires-clause-framable c =
    let r = reached (settled c.args.sources.now).aus c.loop-place.rest.now c.seek.result.0.now c.loop-place.first (get_or c.args.targets.now c.loop-place.place 0) c.seek.result.1 c.index-rest-0.result c.loop-place.invariant.from c.loop-place.invariant.framable c.seek.ensures c.index-rest-0.is in
    r.one

-- a target's refusal is the refusal of all
refused : (e : InsertFault) (all one own later : Option InsertFault) → all ≡ or_then one later → one ≡ own → IfRule e (own ≡ Some e) → IfRule e (all ≡ Some e)
refused e all one own later is same h = on_rule e (own ≡ Some e) (all ≡ Some e) (λ q. is ∙ ap (λ (o : Option InsertFault). or_then o later) (same ∙ q)) h

pub returns-in_err-check_length : goal.returns-in_err-check_length
returns-in_err-check_length c =
    let i = settled c.args.sources.now in
    let es = c.args.elements.now in
    let targets = c.args.targets.now in
    let k = c.loop-place.place in
    let target = get_or targets k 0 in
    let r = reached i.aus c.loop-place.rest.now c.seek.result.0.now c.loop-place.first target c.seek.result.1 c.index-rest-0.result c.loop-place.invariant.from c.loop-place.invariant.framable c.seek.ensures c.index-rest-0.is in
    let at = c.loop-place.invariant.there target (c.loop-place.invariant.next k (omega arith) c.loop-place-test.true) ∙ r.there target r.le ∙ r.found in
    let own = target_is i es (take (k + 1) targets) target c.seek.result.1 c.index-rest-0.result c.in_ok-check_frame.ensures c.in_ok-check_units.ensures at in
    let p = err_from_is_err_and c.from_residual-in_err-check_length.result c.from_residual-in_err-check_length.ensures.1 in
    rw (p.1, p.2) (refused c.in_err-check_length.field-0.0 _ _ _ _ (sym c.loop-place.invariant.so_far ∙ targets_on i es targets k c.loop-place-test.true) own c.in_err-check_length.ensures)

pub loop-place-preserved : goal.loop-place-preserved
loop-place-preserved c =
    let i = settled c.args.sources.now in
    let es = c.args.elements.now in
    let targets = c.args.targets.now in
    let k = c.loop-place.place in
    let target = get_or targets k 0 in
    let r = reached i.aus c.loop-place.rest.now c.seek.result.0.now c.loop-place.first target c.seek.result.1 c.index-rest-0.result c.loop-place.invariant.from c.loop-place.invariant.framable c.seek.ensures c.index-rest-0.is in
    let there : (t : ℕ) → c.seek.result.1 ≤ t → element_of t 0 es ≡ element_of t c.seek.result.1 c.seek.result.0.now = λ t le. c.loop-place.invariant.there t (omega (arith, c.seek.ensures.number, le)) ∙ r.there t le in
    let frame = c.in_ok-check_frame.ensures in
    let units = c.in_ok-check_units.ensures in
    let own = target_is i es (take (k + 1) targets) target c.seek.result.1 c.index-rest-0.result frame units (there target r.le ∙ r.found) ∙ c.in_ok-check_length.ensures in
    record {
      so_far = sym (targets_on i es targets k c.loop-place-test.true ∙ ap (λ (o : Option InsertFault). or_then o (targets_rule i es (take (k + 1) targets) (drop (k + 1) targets))) own) ∙ c.loop-place.invariant.so_far;
      kept = subst (λ (ts : List ℕ). AreKept i ts) (sym (take_more targets k 0 c.loop-place-test.true))
          (all_more (λ t. IsKept i t) (take k targets) target c.loop-place.invariant.kept (record { below = all_at (λ t. t < length i.aus) targets k c.requires.below c.loop-place-test.true; frame = frame; units = units }));
      there = there;
      from = r.from;
      framable = r.framable;
      next = λ t le lt. let rise = c.requires.rising k t (omega (arith, le)) lt in omega (arith, rise, r.le);
    }
