use Rattle.std.proofs.Common.{◌≡◌, ◌<◌, false, length, [], None, Ok, drop, refl, sym, ap, subst, ◌∙◌, arith}
use Rattle.au_stream.specs.declared.event.Found.{Found}
use Rattle.std.proofs.lemmas.List.{drop_all}
use Rattle.std.proofs.lemmas.Result.{err_from_is_err_and}
use Rattle.au_stream.specs.Reading.{Reading}
use Rattle.au_stream.specs.Giving.{Unread}
use Rattle.au_stream.specs.Taking.{seen}
use Rattle.au_stream.specs.Events.{Reads}
use Rattle.au_stream.specs.Views.{Enters}
use Rattle.au_stream.proofs.Held.{idle, idle_is, gave_found, some_left}
use Rattle.au_stream.proofs.Steps.{reads_pending, reads_no_copy, reads_next, reads_end, reads_refused, reads_untaken, falls_pending, falls_next}
use Rattle.au_stream.proofs.reader.AuReader.advance.Goals as goal

-- ---- an access unit of the element that was read before

pub returns-in_err-au-clause-finds : goal.returns-in_err-au-clause-finds
returns-in_err-au-clause-finds g c = λ got given h.
    let p = err_from_is_err_and c.from_residual.result c.from_residual.ensures.1 in
    rw (p.1, p.2) (reads_no_copy got given c.args.self.now _ _ c.in_err-au.field-0.0 h)

pub returns-then-self-len-clause-finds : goal.returns-then-self-len-clause-finds
returns-then-self-len-clause-finds g c = λ got given h.
    let i = c.self.inside in
    let r = c.args.self.now in
    let some : 0 < length r.pending = subst (λ (x : Reading). 0 < length x.pending) c.self.view_is (some_left i.slots i.given i.length i.frames (omega (arith, c.len.ensures, c.if-self-len.true))) in
    let shut : r.opens ≡ false = ap (λ (x : Reading). x.opens) (sym c.self.view_is) in
    let still : r.changed ≡ false = ap (λ (x : Reading). x.changed) (sym c.self.view_is) in
    reads_pending got given r _ _ _ h (gave_found r c.found.result some shut still (ap (λ (x : Found). x.head) c.found.ensures))

pub returns-then-self-len-clause-falls : goal.returns-then-self-len-clause-falls
returns-then-self-len-clause-falls g c =
    let i = c.self.inside in
    let r = c.args.self.now in
    let some : 0 < length r.pending = subst (λ (x : Reading). 0 < length x.pending) c.self.view_is (some_left i.slots i.given i.length i.frames (omega (arith, c.len.ensures, c.if-self-len.true))) in
    let shut : r.opens ≡ false = ap (λ (x : Reading). x.opens) (sym c.self.view_is) in
    let still : r.changed ≡ false = ap (λ (x : Reading). x.changed) (sym c.self.view_is) in
    falls_pending r _ _ (gave_found r c.found.result some shut still (ap (λ (x : Found). x.head) c.found.ensures))

-- ---- the first one of the next element

pub returns-in_err-length-clause-finds : goal.returns-in_err-length-clause-finds
returns-in_err-length-clause-finds g c = λ got given h.
    let i = c.self.inside in
    let left = drop i.given i.slots in
    let none : left ≡ [] = drop_all i.given i.slots (omega (arith, c.len.ensures, c.if-self-len.false)) in
    let r = idle i.frames i.in_force i.count i.failed in
    let is : r ≡ c.args.self.now = sym (idle_is left i.length i.frames i.in_force i.count i.failed none) ∙ c.self.view_is in
    let p = err_from_is_err_and c.from_residual-in_err-length.result c.from_residual-in_err-length.ensures.1 in
    rw (← is, p.1, p.2) (reads_refused got given r _ _ _ _ _ (rw (← is) at h) refl c.in_err-length.ensures.takes c.in_err-length.ensures.limit)

pub returns-in_default-clause-finds : goal.returns-in_default-clause-finds
returns-in_default-clause-finds g c = λ got given h.
    let i = c.self.inside in
    let left = drop i.given i.slots in
    let none : left ≡ [] = drop_all i.given i.slots (omega (arith, c.len.ensures, c.if-self-len.false)) in
    let r = idle i.frames i.in_force i.count i.failed in
    let is : r ≡ c.args.self.now = sym (idle_is left i.length i.frames i.in_force i.count i.failed none) ∙ c.self.view_is in
    let S = g.S.Source in
    let before = seen S.left S.faults c.args.source.now in
    let now = seen S.left S.faults c.next.new.source in
    let next = rw c.in_default.is at c.in_ok-length.ensures in
    let reads = reads_end got given r c.next.new.self before now (rw (← is) at h) refl next.takes next.limit in
    rw (← is) (subst (λ (x : Reading). Reads got given r x before now (Ok None)) (sym (idle_is left i.length c.next.new.self i.in_force i.count i.failed none)) reads)

pub returns-in_err-found-clause-finds : goal.returns-in_err-found-clause-finds
returns-in_err-found-clause-finds g c = λ got given h.
    let i = c.self.inside in
    let left = drop i.given i.slots in
    let none : left ≡ [] = drop_all i.given i.slots (omega (arith, c.len.ensures, c.if-self-len.false)) in
    let r = idle i.frames i.in_force i.count i.failed in
    let is : r ≡ c.args.self.now = sym (idle_is left i.length i.frames i.in_force i.count i.failed none) ∙ c.self.view_is in
    let next = rw c.in-Some.is at c.in_ok-length.ensures in
    let p = err_from_is_err_and c.from_residual-in_err-found.result c.from_residual-in_err-found.ensures.1 in
    let bad = subst (λ (x : Reading). Unread c.in-Some.length x c.in_err-found.field-0.0) (idle_is left i.length c.next.new.self i.in_force i.count i.failed none) c.in_err-found.ensures.enters in
    rw (← is, p.1, p.2) (reads_untaken got given r _ c.next.new.self _ _ c.in-Some.length c.in_err-found.field-0.0 (rw (← is) at h) refl next.takes next.limit bad)

pub returns-clause-finds : goal.returns-clause-finds
returns-clause-finds g c = λ got given h.
    let i = c.self.inside in
    let left = drop i.given i.slots in
    let none : left ≡ [] = drop_all i.given i.slots (omega (arith, c.len.ensures, c.if-self-len.false)) in
    let r = idle i.frames i.in_force i.count i.failed in
    let is : r ≡ c.args.self.now = sym (idle_is left i.length i.frames i.in_force i.count i.failed none) ∙ c.self.view_is in
    let next = rw c.in-Some.is at c.in_ok-length.ensures in
    let o = subst (λ (x : Reading). Enters c.in-Some.length c.args.copies x c.enter.new.self (Ok c.in_ok-found.found)) (idle_is left i.length c.next.new.self i.in_force i.count i.failed none) c.in_ok-found.ensures.enters in
    rw (← is) (reads_next got given r o.1.between _ c.next.new.self _ _ c.in-Some.length _ (rw (← is) at h) refl next.takes next.limit o.1.took o.1.gave)

pub returns-clause-falls : goal.returns-clause-falls
returns-clause-falls g c =
    let i = c.self.inside in
    let left = drop i.given i.slots in
    let none : left ≡ [] = drop_all i.given i.slots (omega (arith, c.len.ensures, c.if-self-len.false)) in
    let r = idle i.frames i.in_force i.count i.failed in
    let is : r ≡ c.args.self.now = sym (idle_is left i.length i.frames i.in_force i.count i.failed none) ∙ c.self.view_is in
    let next = rw c.in-Some.is at c.in_ok-length.ensures in
    let o = subst (λ (x : Reading). Enters c.in-Some.length c.args.copies x c.enter.new.self (Ok c.in_ok-found.found)) (idle_is left i.length c.next.new.self i.in_force i.count i.failed none) c.in_ok-found.ensures.enters in
    rw (← is) (falls_next r o.1.between _ c.next.new.self _ _ c.in-Some.length _ refl next.takes next.limit o.1.took o.1.gave)
