-- Frames that were found and not yet passed.
use Rattle.std.proofs.Common.{◌≡◌, ℕ, Bool, true, false, List, Some, None, Result, Ok, Err, Option, refl, sym, subst, ◌∙◌}
use Rattle.std.specs.Prelude.{IsTrue, IsErr, ◌↔◌}
use Rattle.au_stream.specs.declared.event.EventHead.{EventHead}
use Rattle.au_stream.specs.declared.fault.StreamFault.{StreamFault}
use Rattle.au_stream.specs.Frames.{Frame}
use Rattle.au_stream.specs.Reading.{Reading}
use Rattle.au_stream.specs.Taking.{Seen}
use Rattle.au_stream.specs.Events.{Reads}
use Rattle.au_stream.specs.Views.{Finds, IsSmallNext, after_next, next_event}
use Rattle.au_stream.proofs.Small.{small}
use Rattle.au_stream.proofs.Steps.{reads_marked}

not_true : (b : Bool) → (b ≡ true → ⊥) → b ≡ false
not_true true never = absurd (never refl)
not_true false never = refl

-- a call that was refused fails the reader
pub finds_marked : (got : List ℕ) (given : List Frame) (r mid : Reading) (failed : Bool) (before now : Seen) (result : Result (Option EventHead) StreamFault)
    → Finds got given r mid before now result → mid.failed ≡ false → (IsTrue failed ↔ IsErr result) → Finds got given r (record mid { failed = failed }) before now result
finds_marked got given r mid failed before now (Ok (Some head)) p going e =
    let goes_on : failed ≡ false = not_true failed (λ t. let never : false ≡ true = e.0 t in cc) in
    let f : mid.failed ≡ failed = going ∙ sym goes_on in
    subst (λ (b : Bool). Reads got given r (after_next (record mid { failed = b })) before now (Ok (Some (next_event (record mid { failed = b }) head)))) f p
finds_marked got given r mid failed before now (Ok None) p going e = reads_marked got given r mid failed before now (Ok None) p going e
finds_marked got given r mid failed before now (Err fault) p going e = reads_marked got given r mid failed before now (Err fault) p going e

-- an access unit that was found is no longer than its element
pub found_small : (got : List ℕ) (given : List Frame) (old new : Reading) (before now : Seen) (result : Result (Option EventHead) StreamFault) → Finds got given old new before now result → IsSmallNext new result
found_small got given old new before now (Ok (Some head)) p = small got given old (after_next new) before now (Ok (Some (next_event new head))) p
found_small got given old new before now (Ok None) p = tt
found_small got given old new before now (Err fault) p = tt
