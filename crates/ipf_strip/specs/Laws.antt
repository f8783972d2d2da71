-- What holds of every stream whose prerolls no rule keeps from being taken out.
use Rattle.std.specs.Prelude.{◌≡◌, ℕ, Bool, true, List, Option, Some, None, slice_get}
use Rattle.std.specs.List.{Contains}
use Rattle.std.specs.List.Sorted.{IsStrictlyIncreasing}
use Rattle.usac_cfg.specs.declared.usac_config.UsacConfig.{UsacConfig}
use Rattle.latm.specs.declared.stream.Stream.{Stream}
use Rattle.latm.specs.Stream.{IsWellFormed, frames_of}
use Rattle.ipf_frame.specs.declared.stripping.Tail.{Tail}
use Rattle.ipf_frame.specs.declared.stripping.Tail.TheVariants.{Undo}
use Rattle.ipf_insert.specs.Inserting.{inserted}
use Rattle.ipf_insert.specs.Rules.{insert_fault}
use Rattle.stream_edit.specs.Laws.{KeepsFrames}
use Rattle.ipf_strip.specs.Rules.{immediate, strip_fault}
use Rattle.ipf_strip.specs.Stripping.{stripped, immediate_list}
use Rattle.ipf_strip.specs.Relation.{IsStrippedOf}

-- Nothing but the slots of the targets changes.
abbrev pub OnlyTargetsChange : Type 0
OnlyTargetsChange = (s : Stream) (tail : Tail) (targets : List ℕ) → IsWellFormed s → strip_fault s tail targets ≡ None → IsStrippedOf s (stripped s tail targets) tail targets

-- What is left is a well formed stream.
abbrev pub StaysWellFormed : Type 0
StaysWellFormed = (s : Stream) (tail : Tail) (targets : List ℕ) → IsWellFormed s → strip_fault s tail targets ≡ None → IsWellFormed (stripped s tail targets)

-- Each frame keeps its configuration and its unit.
abbrev pub UnitsStay : Type 0
UnitsStay = (s : Stream) (tail : Tail) (targets : List ℕ) → IsWellFormed s → strip_fault s tail targets ≡ None → KeepsFrames s (stripped s tail targets)

-- What an insertion made of a stream, without the prerolls of the same targets, is that stream again; and no rule keeps them from
-- being taken out.
pub record IsUndone (s : Stream) (count : ℕ) (fade : Bool) (targets : List ℕ) : Type 0 where
  pub passes : strip_fault (inserted s count fade targets) Undo targets ≡ None
  pub same : stripped (inserted s count fade targets) Undo targets ≡ s

abbrev pub UndoesInsertions : Type 0
UndoesInsertions = (s : Stream) (count : ℕ) (fade : Bool) (targets : List ℕ) → IsWellFormed s → insert_fault s count fade targets ≡ None → IsUndone s count fade targets

-- there is such a frame, and it is an immediate play-out frame
abbrev pub IsImmediateAt : Option (UsacConfig × List ℕ) → Type 0
IsImmediateAt None = ⊥
IsImmediateAt (Some f) = immediate f ≡ true

-- The list has exactly the numbers of the immediate play-out frames, in rising order.
pub record ListsImmediate : Type 0 where
  pub rise : (s : Stream) → IsStrictlyIncreasing (immediate_list s)
  pub all : (s : Stream) (t : ℕ) → IsImmediateAt (slice_get (frames_of s) t) → Contains (immediate_list s) t
  pub only : (s : Stream) (t : ℕ) → Contains (immediate_list s) t → IsImmediateAt (slice_get (frames_of s) t)
