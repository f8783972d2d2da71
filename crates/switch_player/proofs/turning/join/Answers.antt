use Rattle.std.proofs.Common.{◌≡◌, ℕ, ◌*◌, ◌++◌, List, ℤ, Ok, length, refl, sym, ap, ◌∙◌, rules, arith, false, true}
use Rattle.std.proofs.lemmas.Result.{err_from_is_err_and}
use Rattle.usac_cfg.specs.UsacConfig.{channels}
use Rattle.core_iface.specs.Answering.{drained}
use Rattle.switch_player.specs.Blending.{blended}
use Rattle.switch_player.specs.Playing.{begun}
use Rattle.switch_player.specs.Turns.{with_carried, carried_value}
use Rattle.switch_player.proofs.Lengths.{begun_fades}
use Rattle.switch_player.proofs.TurnLemmas.{begins_join, begin_refused, joined_is}
use Rattle.switch_player.proofs.turning.join.Goals as goal

pub returns-then-not-carried-clause-turns : goal.returns-then-not-carried-clause-turns
returns-then-not-carried-clause-turns g c =
    let k = c.args.carried.now in
    let plain : k.fade ≡ false = search rules in
    let b = c.begin.ensures.begins (with_carried c.args.config.now c.args.unit.now (Ok (carried_value k))) refl refl (sym c.as_slice.ensures) in
    begins_join g.C.Core.does c.args.config.now k c.args.unit.now _ _ _ _ c.begin.result plain b

pub returns-in_err-begin-clause-turns : goal.returns-in_err-begin-clause-turns
returns-in_err-begin-clause-turns g c =
    let k = c.args.carried.now in
    let p = err_from_is_err_and c.from_residual-in_err-begin.result c.from_residual-in_err-begin.ensures.1 in
    let b = c.in_err-begin.ensures.begins (with_carried c.args.config.now c.args.unit.now (Ok (carried_value k))) refl refl (sym c.as_slice-2.ensures) in
    rw (p.1, p.2) (begin_refused g.C.Core.does c.args.config.now k c.args.unit.now _ _ _ _ _ _ c.in_err-begin.field-0.0 c.in_ok-flush.ensures.answers.fed b)

pub push_faded-requires-clause-within : goal.push_faded-requires-clause-within
push_faded-requires-clause-within g c =
    let d = g.C.Core.does in
    let at = (g.C.Core.meaning c.args.core.now).ready in
    let f = with_carried c.args.config.now c.args.unit.now (Ok (carried_value c.args.carried.now)) in
    let done = c.in_ok-begin.ensures.begins f refl refl (sym c.as_slice-2.ensures) in
    let whole : c.begin-2.new.out.items ≡ begun d f = done.samples ∙ ap (λ (xs : List ℤ). xs ++ begun d f) c.new-block.ensures.items in
    let old : c.deref.result.now ≡ drained d at = c.deref.ensures.value ∙ (c.in_ok-flush.ensures.answers.samples ∙ ap (λ (xs : List ℤ). xs ++ drained d at) c.new-old.ensures.items) in
    let some : length c.deref.result.now ≡ 128 * channels c.args.config.now = ap length old ∙ c.requires.drain in
    omega (arith, begun_fades d g.met.C.Core.stays_sound f c.requires.well_formed g.met.C.Core.emits_blocks, ap length whole, some)

pub returns-in_err-push_faded-clause-turns : goal.returns-in_err-push_faded-clause-turns
returns-in_err-push_faded-clause-turns g c =
    let p = err_from_is_err_and c.from_residual-in_err-push_faded.result c.from_residual-in_err-push_faded.ensures.1 in
    let f = with_carried c.args.config.now c.args.unit.now (Ok (carried_value c.args.carried.now)) in
    let done = c.in_ok-begin.ensures.begins f refl refl (sym c.as_slice-2.ensures) in
    rw (p.1, p.2) record {
      at_least = omega (arith, done.fed, c.in_ok-flush.ensures.answers.fed);
      at_most = omega (arith, done.fed, c.in_ok-flush.ensures.answers.fed);
      samples = c.in_err-push_faded.ensures.err;
    }

pub returns-clause-turns : goal.returns-clause-turns
returns-clause-turns g c =
    let d = g.C.Core.does in
    let k = c.args.carried.now in
    let f = with_carried c.args.config.now c.args.unit.now (Ok (carried_value k)) in
    let done = c.in_ok-begin.ensures.begins f refl refl (sym c.as_slice-2.ensures) in
    let fades : k.fade ≡ true = search rules in
    let at = (g.C.Core.meaning c.args.core.now).ready in
    let old : c.deref.result.now ≡ drained d at = c.deref.ensures.value ∙ (c.in_ok-flush.ensures.answers.samples ∙ ap (λ (xs : List ℤ). xs ++ drained d at) c.new-old.ensures.items) in
    let whole : c.begin-2.new.out.items ≡ begun d f = done.samples ∙ ap (λ (xs : List ℤ). xs ++ begun d f) c.new-block.ensures.items in
    let faded : blended c.channels.result c.deref.result.now c.begin-2.new.out.items ≡ blended (channels c.args.config.now) (drained d at) (begun d f) =
    ap (λ (n : ℕ). blended n c.deref.result.now c.begin-2.new.out.items) c.channels.ensures
    ∙ (ap (λ (xs : List ℤ). blended (channels c.args.config.now) xs c.begin-2.new.out.items) old ∙ ap (λ (xs : List ℤ). blended (channels c.args.config.now) (drained d at) xs) whole) in
    record {
      ready = done.ready;
      fed = omega (arith, done.fed, c.in_ok-flush.ensures.answers.fed);
      samples = c.in_ok-push_faded.ensures.ok ∙ ap (λ (xs : List ℤ). c.args.out.now.items ++ xs) (faded ∙ sym (joined_is d (g.C.Core.meaning c.args.core.now).ready c.args.config.now c.args.unit.now k fades));
    }
