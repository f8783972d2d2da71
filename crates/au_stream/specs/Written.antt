-- What is written of elements as LOAS frames, and how it is read again.
use Rattle.std.specs.Prelude.{◌≡◌, ℕ, ◌<◌, true, List, [], ◌∷◌, ◌++◌, All, Result, Ok, Err, IfOk, IfErr}
use Rattle.std.specs.Prelude.{Some, None}
use Rattle.std.specs.declared.option.Option.{Option}
use Rattle.loas.specs.Framer.{Framer}
use Rattle.loas.specs.declared.framed.Framed.{Framed}
use Rattle.loas.specs.declared.fault.LoasFault.{LoasFault}
use Rattle.loas.specs.declared.fault.LoasFault.TheVariants.{SyncLost, Truncated, Memory}
use Rattle.latm.specs.declared.fault.MuxFault.{MuxFault}
use Rattle.latm.specs.declared.mux_config.MuxConfig.{MuxConfig}
use Rattle.latm.specs.declared.mux_element.MuxElement.{MuxElement}
use Rattle.latm.specs.Faults.{is_memory}
use Rattle.latm.specs.Written.{element_text, Frames}
use Rattle.au_stream.specs.Elements.{IsElement}

-- These bytes are what is written of the element as a LOAS frame.
pub record IsWritten (e : MuxElement) (frame : List ℕ) : Type 0 where
  pub bytes : All (λ byte. byte < 256) frame
  pub frames : Frames (element_text e) (Ok frame)

-- The text is what is written of these elements, a LOAS frame each, one behind another.
abbrev pub AreWritten : List MuxElement → List ℕ → Type 0
AreWritten [] text = text ≡ []
AreWritten (e ∷ es) text = (frame behind : List ℕ) × IsWritten e frame × (text ≡ frame ++ behind) × AreWritten es behind

-- The framer gave the bytes of the element, with its offset, and holds what stands behind its frame; or there was no memory, and
-- it holds what it held.
abbrev pub GivesElement : Option MuxConfig → MuxElement → List ℕ → Framer → Framer → Result (Option Framed) LoasFault → Type 0
GivesElement before e behind old new (Ok (Some frame)) = IsElement before e frame.element × (frame.at ≡ old.passed) × (new.held ≡ behind)
GivesElement before e behind old new (Ok None) = ⊥
GivesElement before e behind old new (Err (SyncLost byte)) = ⊥
GivesElement before e behind old new (Err (Truncated byte)) = ⊥
GivesElement before e behind old new (Err (Memory error)) = new ≡ old

-- The element was read, or there was no memory.
abbrev pub ReadsElement : MuxElement → Result MuxElement MuxFault → Type 0
ReadsElement e result = IfErr result (λ f. is_memory f ≡ true) × IfOk result (λ read. read ≡ e)
