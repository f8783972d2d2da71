-- What `strip` makes of what `insert` wrote.
use Rattle.std.specs.Prelude.{◌≡◌, ℕ, ◌<◌, ◌≤◌, Bool, List, length, All, None}
use Rattle.latm.specs.declared.stream.Stream.{Stream}
use Rattle.latm.specs.Stream.{IsWellFormed}
use Rattle.au_stream.specs.Script.{most_bytes}
use Rattle.au_stream.specs.Whole.{IsStream}
use Rattle.ipf_frame.specs.declared.stripping.Tail.{Tail}
use Rattle.ipf_frame.specs.declared.stripping.Tail.TheVariants.{Undo}
use Rattle.ipf_insert.specs.Inserting.{inserted}
use Rattle.ipf_insert.specs.Rules.{insert_fault}
use Rattle.ipf_strip.specs.Rules.{strip_fault}
use Rattle.ipf_strip.specs.Stripping.{stripped}
use Rattle.editing.specs.declared.strip.StripTargets.{StripTargets}
use Rattle.editing.specs.declared.strip.StripTargets.TheVariants.{Each}
use Rattle.editing.specs.declared.targets.Targets.{Targets}
use Rattle.editing.specs.Inserting.{targets_of_stream}
use Rattle.editing.specs.Stripping.{targets_to_strip, refusal_to_strip, stripped_bytes}

-- What is written of a stream that is not refused is that stream without the prerolls of its targets.
abbrev pub ReadsStripped : Type 0
ReadsStripped = (tail : Tail) (targets : StripTargets) (stream : Stream) → IsWellFormed stream → strip_fault stream tail (targets_to_strip targets stream) ≡ None → length (stripped_bytes tail targets stream) ≤ most_bytes
    → IsStream (stripped_bytes tail targets stream) (stripped stream tail (targets_to_strip targets stream))

-- The stream that an insertion of these targets made is not refused, and is written as these bytes.
pub record BecomesAgain (text : List ℕ) (targets : List ℕ) (new : Stream) : Type 0 where
  pub passes : refusal_to_strip Undo (Each targets) new ≡ None
  pub bytes : stripped_bytes Undo (Each targets) new ≡ text

-- From what `insert` made of a file, `strip` with the same targets writes the file again, byte for byte.
abbrev pub UndoesBytes : Type 0
UndoesBytes = (count : ℕ) (fade : Bool) (targets : Targets) (text : List ℕ) (stream : Stream) → All (λ byte. byte < 256) text → IsStream text stream → insert_fault stream count fade (targets_of_stream targets stream) ≡ None
    → BecomesAgain text (targets_of_stream targets stream) (inserted stream count fade (targets_of_stream targets stream))
