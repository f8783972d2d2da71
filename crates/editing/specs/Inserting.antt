-- What `insert` does with a stream: it refuses it by the first rule that applies, or writes it with the targets inserted.
use Rattle.std.specs.Prelude.{◌≡◌, ℕ, ◌≤◌, Bool, List, length, Some, None}
use Rattle.std.specs.declared.option.Option.{Option}
use Rattle.std.specs.Option.{option_and_then}
use Rattle.latm.specs.declared.stream.Stream.{Stream}
use Rattle.latm.specs.Stream.{IsWellFormed, frames_of}
use Rattle.tool_text.specs.declared.refusal.Refusal.{Refusal}
use Rattle.ipf_insert.specs.Inserting.{inserted}
use Rattle.ipf_insert.specs.Rules.{insert_fault}
use Rattle.au_stream.specs.Script.{most_bytes}
use Rattle.au_stream.specs.Whole.{IsStream}
use Rattle.commands.specs.Wholes.{WholeCommand}
use Rattle.editing.specs.declared.targets.Targets.{Targets}
use Rattle.editing.specs.TargetLists.{targets_in}
use Rattle.editing.specs.InsertRefusals.{refusal_of_insert}
use Rattle.editing.specs.Runs.{run_of}

-- the targets in a stream
abbrev pub targets_of_stream : Targets → Stream → List ℕ
targets_of_stream targets stream = targets_in targets (length (frames_of stream))

-- why it is refused, if it is
abbrev pub refusal_of_stream : ℕ → Bool → Targets → Stream → Option Refusal
refusal_of_stream count fade targets stream = option_and_then refusal_of_insert (insert_fault stream count fade (targets_of_stream targets stream))

-- the bytes of the stream with the targets inserted
abbrev pub inserted_bytes : ℕ → Bool → Targets → Stream → List ℕ
inserted_bytes count fade targets stream = run_of (inserted stream count fade (targets_of_stream targets stream)).elements

abbrev pub inserting : ℕ → Bool → Targets → WholeCommand
inserting count fade targets = record { Refuses = λ stream r. refusal_of_stream count fade targets stream ≡ Some r; Writes = λ stream text. text ≡ inserted_bytes count fade targets stream }

-- What is written of a stream that is not refused is that stream with the targets inserted, where it is no longer than what is read.
abbrev pub ReadsInserted : Type 0
ReadsInserted = (count : ℕ) (fade : Bool) (targets : Targets) (stream : Stream) → IsWellFormed stream → insert_fault stream count fade (targets_of_stream targets stream) ≡ None → length (inserted_bytes count fade targets stream) ≤ most_bytes
    → IsStream (inserted_bytes count fade targets stream) (inserted stream count fade (targets_of_stream targets stream))
