-- What an insertion keeps and changes, as a relation of the elements before and behind.
use Rattle.std.specs.Prelude.{ℕ, Bool, List, Option, Some, None}
use Rattle.latm.specs.declared.stream.Stream.{Stream}
use Rattle.latm.specs.Stream.{frames_of}
use Rattle.stream_edit.specs.Relation.{IsEdited}
use Rattle.ipf_frame.specs.Slot.{IsTarget}
use Rattle.ipf_insert.specs.Inserting.{Settled, settled_of, units_before}

-- The access unit of frame t becomes one that carries the units before it.
abbrev pub BecomesTarget : Settled → ℕ → List ℕ → List ℕ → Type 0
BecomesTarget i t au new = IsTarget i.config i.fade (units_before i.count t i.aus) au new

abbrev pub AreInserted : Option Settled → List ℕ → Stream → Stream → Type 0
AreInserted None targets s new = ⊥
AreInserted (Some i) targets s new = IsEdited (BecomesTarget i) targets s new

-- The two streams agree in all but the slots of the targets, each of which carries so many frames before it, with this flag.
abbrev pub IsInserted : Stream → Stream → ℕ → Bool → List ℕ → Type 0
IsInserted s new count fade targets = AreInserted (settled_of (frames_of s) count fade) targets s new
