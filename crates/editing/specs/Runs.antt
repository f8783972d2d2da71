-- What is written of elements, a LOAS frame each, one behind another (ISO/IEC 14496-3, AudioSyncStream).
use Rattle.std.specs.Prelude.{◌≡◌, ℕ, List, flat_map, Option, Result, Ok, Err}
use Rattle.std.specs.Io.KnownBytes.{append_known}
use Rattle.loas.specs.Framing.{framed}
use Rattle.latm.specs.Bytes.{bytes_of}
use Rattle.latm.specs.Written.{element_text}
use Rattle.latm.specs.declared.mux_element.MuxElement.{MuxElement}
use Rattle.latm.specs.declared.stream.Stream.{Stream}
use Rattle.latm.specs.Stream.{IsWellFormed}
use Rattle.au_stream.specs.Written.{AreWritten}
use Rattle.commands.specs.declared.frame_end.FrameEnd.{FrameEnd}
use Rattle.commands.specs.declared.frame_end.FrameEnd.TheVariants as ends
use Rattle.commands.specs.Handing.{WroteLess}

-- the bytes of the LOAS frame of an element
unfoldable pub frame_of : MuxElement → List ℕ
frame_of e = framed (bytes_of (element_text e))

-- those of elements
abbrev pub run_of : List MuxElement → List ℕ
run_of es = flat_map frame_of es

-- They are what is written of a well formed stream.
abbrev pub WritesRuns : Type 0
WritesRuns = (stream : Stream) → IsWellFormed stream → AreWritten stream.elements (run_of stream.elements)

-- All of the bytes were written; or a write failed within them, or there was no memory before their end.
abbrev pub WritesBytes : List ℕ → Option (List ℕ) → Option (List ℕ) → Result (Unit {0}) FrameEnd → Type 0
WritesBytes bytes old new (Ok _) = new ≡ append_known old bytes
WritesBytes bytes old new (Err (ends.Refused refusal)) = ⊥
WritesBytes bytes old new (Err ends.WriteFault) = WroteLess old new bytes
WritesBytes bytes old new (Err ends.CoreFault) = ⊥
WritesBytes bytes old new (Err (ends.Memory e)) = WroteLess old new bytes
