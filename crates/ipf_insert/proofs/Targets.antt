-- The rules of the targets, one after another.
use Rattle.std.proofs.Common.{◌≡◌, ℕ, zero, suc, ◌+◌, ◌<◌, ◌≤◌, Bool, true, false, List, [], ◌∷◌, ◌++◌, length, take, drop, get_or, Option, Some, None, sym, refl, ap, ◌∙◌, arith}
use Rattle.std.specs.List.{AllByRecursion}
use Rattle.std.specs.Option.{option_map}
use Rattle.std.proofs.lemmas.List.{get_or-take, length-take-le, take_more, drop_more}
use Rattle.latm.specs.declared.mux_element.MuxElement.{MuxElement}
use Rattle.stream_edit.specs.Steps.{IsRising}
use Rattle.stream_edit.specs.Targets.{misplaced}
use Rattle.stream_edit.proofs.Placed.{ArePlaced, placed}
use Rattle.ipf_insert.specs.declared.fault.InsertFault.{InsertFault}
use Rattle.ipf_insert.specs.declared.fault.InsertFault.TheVariants.{BadTarget}
use Rattle.ipf_insert.specs.declared.fault.InsertFault.TheVariants as faults
use Rattle.ipf_insert.specs.Inserting.{Settled}
use Rattle.ipf_insert.specs.Rules.{or_then, fault_if, places_rule, target_rule, targets_rule}
use Rattle.ipf_insert.specs.Steps.{IfRule}

-- ---- one rule, and then the others

pub passed : (a b : Option InsertFault) → or_then a b ≡ None → (a ≡ None) × (b ≡ None)
passed None b e = (refl, e)
passed (Some x) b e = absurd (let never : Some x ≡ None = e in cc)

pub unset : (b : Bool) (x : InsertFault) → fault_if b x ≡ None → b ≡ false
unset true x e = absurd (let never : Some x ≡ None = e in cc)
unset false x e = refl

-- what follows of a rule's refusal follows of another's
pub on_rule : (e : InsertFault) (P Q : Type 0) → (P → Q) → IfRule e P → IfRule e Q
on_rule (faults.ConfigChanges n) P Q f h = f h
on_rule (faults.Frame n at) P Q f h = f h
on_rule faults.NotDeclared P Q f h = f h
on_rule faults.ConfigTooLong P Q f h = f h
on_rule faults.BadCount P Q f h = f h
on_rule (faults.BadTarget place) P Q f h = f h
on_rule (faults.NotIndependent n) P Q f h = f h
on_rule (faults.AlreadyPresent n) P Q f h = f h
on_rule (faults.TooEarly n) P Q f h = f h
on_rule (faults.FirstDependent n) P Q f h = f h
on_rule (faults.PayloadTooLong n) P Q f h = f h
on_rule (faults.TooLong n) P Q f h = f h
on_rule (faults.Memory error) P Q f h = tt

-- ---- the list of targets

not_mapped : (o : Option ℕ) → option_map BadTarget o ≡ None → o ≡ None
not_mapped None e = refl
not_mapped (Some place) e = absurd (let never : Some (BadTarget place) ≡ None = e in cc)

pub list_passed : (frames : ℕ) (targets : List ℕ) → places_rule frames targets ≡ None → misplaced frames targets ≡ None
list_passed frames targets e = not_mapped (misplaced frames targets) e

pub well_listed : (frames : ℕ) (targets : List ℕ) → places_rule frames targets ≡ None → ArePlaced frames 0 targets
well_listed frames targets e = placed frames 0 0 targets (list_passed frames targets e)

pub rising_front : (targets : List ℕ) (n : ℕ) → n ≤ length targets → IsRising targets → IsRising (take n targets)
rising_front targets n le rising i j ij lt =
    let long : length (take n targets) ≡ n = length-take-le n targets le in
    let l : j < n = omega (arith, lt, long) in
    let p : get_or (take n targets) i 0 ≡ get_or targets i 0 = get_or-take n targets i 0 (omega (arith, ij, l)) in
    let q : get_or (take n targets) j 0 ≡ get_or targets j 0 = get_or-take n targets j 0 l in
    omega (arith, p, q, rising i j ij (omega (arith, l, le)))

pub all_more : (P : ℕ → Type 0) (xs : List ℕ) (x : ℕ) → AllByRecursion P xs → P x → AllByRecursion P (xs ++ x ∷ [])
all_more P [] x h p = (p, tt)
all_more P (y ∷ xs) x h p = (h.0, all_more P xs x h.1 p)

pub all_at : (P : ℕ → Type 0) (xs : List ℕ) (k : ℕ) → AllByRecursion P xs → k < length xs → P (get_or xs k 0)
all_at P [] k h lt = absurd (omega (arith, lt))
all_at P (x ∷ xs) zero h lt = h.0
all_at P (x ∷ xs) (suc k) h lt = all_at P xs k h.1 (omega (arith, lt))

-- ---- the rules of the targets, one target on

pub targets_on : (i : Settled) (es : List MuxElement) (targets : List ℕ) (k : ℕ) → k < length targets
    → targets_rule i es (take k targets) (drop k targets) ≡ or_then (target_rule i es (take (k + 1) targets) (get_or targets k 0)) (targets_rule i es (take (k + 1) targets) (drop (k + 1) targets))
targets_on i es targets k lt =
    ap (λ (ts : List ℕ). targets_rule i es (take k targets) ts) (drop_more targets k 0 lt)
    ∙ ap (λ (before : List ℕ). or_then (target_rule i es before (get_or targets k 0)) (targets_rule i es before (drop (k + 1) targets))) (sym (take_more targets k 0 lt))
