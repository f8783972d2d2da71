-- What `splice` refuses, and what it writes.
use Rattle.std.specs.Prelude.{◌≡◌, ◌⊎◌, ℕ, ◌++◌, List, [], ◌∷◌, Bool, true, false, nat_lt, ◌||◌, if◌then◌else◌, Option, Some, None, Result, Ok, Err}
use Rattle.std.specs.Io.KnownBytes.{append_known}
use Rattle.asc.specs.declared.asc_config.Asc.{Asc}
use Rattle.latm.specs.Written.{canonical_length}
use Rattle.latm.specs.declared.fault.WriteFault.{WriteFault}
use Rattle.latm.specs.declared.fault.WriteFault.TheVariants as writes
use Rattle.timeline.specs.Order.{order_result}
use Rattle.splicer.specs.declared.turn.Turn.{Turn}
use Rattle.splicer.specs.declared.turn.Turn.TheVariants.{Skip, Start, Join, Play, After}
use Rattle.splicer.specs.declared.fault.SpliceFault.{SpliceFault}
use Rattle.splicer.specs.Runs.{RunValue, new_run, fault, turn, behind}
use Rattle.core_iface.specs.Decoding.{Definitions}
use Rattle.tool_text.specs.declared.refusal.Reason.TheVariants as reasons
use Rattle.tool_text.specs.declared.refusal.Refusal.{Refusal}
use Rattle.tool_text.specs.declared.refusal.Within.TheVariants as inputs
use Rattle.tool_text.specs.Faults.{at_frame}
use Rattle.au_stream.specs.Canonical.{Handed, bytes_of_handed}
use Rattle.au_stream.specs.Frames.{Frame, config_of}
use Rattle.commands.specs.declared.frame_end.FrameEnd.{FrameEnd}
use Rattle.commands.specs.declared.frame_end.FrameEnd.TheVariants as ends
use Rattle.commands.specs.Calling.{Effect}
use Rattle.commands.specs.Commands.{Command, opens_silently, feeds_none, ClosesSilently}
use Rattle.commands.specs.Handing.{WroteLess}
use Rattle.commands.specs.OnInputs.{several, on_inputs}
use Rattle.playing.specs.Spliced.{coded}
use Rattle.joining.specs.declared.splice_task.Splice.{Splice}
use Rattle.joining.specs.Refusals.{refusal_of_splice}
use Rattle.joining.specs.Renditions.{PieceAt, asked_at, run_at, next_at, LacksPiece, RenditionStands}
use Rattle.joining.specs.Planning.{first_at, where_ordered}

-- ---- what is handed on

-- The access unit of a frame with that turn, where the frame is one of the piece. The AudioSpecificConfig in force is given where the piece begins.
abbrev pub handed_with : Turn → Asc → List ℕ → List Handed
handed_with Skip asc au = []
handed_with (Start units fade) asc au = record { asc = Some asc; au = au } ∷ []
handed_with (Join units fade) asc au = record { asc = Some asc; au = au } ∷ []
handed_with Play asc au = record { asc = None; au = au } ∷ []
handed_with After asc au = []

abbrev pub handed_of : RunValue → Frame → List Handed
handed_of v f = handed_with (turn v (coded f)) f.mux.asc f.au

-- The access units of the frames that are of the piece, in order.
abbrev pub handed_over : RunValue → List Frame → List Handed
handed_over v [] = []
handed_over v (f ∷ fs) = handed_of v f ++ handed_over (behind v (coded f)) fs

-- its canonical element would have more bytes than a LOAS frame holds
abbrev pub is_long : Handed → Bool
is_long h = nat_lt 8191 (canonical_length h.asc h.au)

abbrev pub some_long : List Handed → Bool
some_long [] = false
some_long (h ∷ hs) = is_long h || some_long hs

-- ---- why a frame is refused

-- Why no further frame is written.
pub data Halt : Type 0 where
  -- the frame breaks this rule
  Breaks : (fault : SpliceFault) → Halt
  -- the frame with that number is too long
  Long : (frame : ℕ) → Halt

abbrev pub refusal_of_halt : Halt → Option Refusal
refusal_of_halt (Breaks fault) = refusal_of_splice fault
refusal_of_halt (Long frame) = Some (at_frame frame reasons.TooLong)

-- the first rule that is broken, and behind all rules the length
abbrev pub halt_with : Option SpliceFault → Bool → ℕ → Option Halt
halt_with (Some e) long n = Some (Breaks e)
halt_with None long n = if long then Some (Long n) else None

-- Why a frame is refused, where so many units are needed.
abbrev pub halt : RunValue → ℕ → Frame → Option Halt
halt v need f = halt_with (fault v need (coded f)) (some_long (handed_of v f)) v.frames

-- The frame is refused behind those before it.
abbrev pub Halts : Definitions → PieceAt → List Frame → Frame → Refusal → Type 0
Halts d at before f r = (h : Halt) × (halt (run_at at before) (d.warm (config_of f)) f ≡ Some h) × (refusal_of_halt h ≡ Some r)

-- ---- the command

-- what is written for frames of a rendition
abbrev pub spliced_bytes : PieceAt → List Frame → List ℕ
spliced_bytes at frames = bytes_of_handed (handed_over (new_run (asked_at at)) frames)

-- `splice` checks each rendition, and writes the frames of its piece in the canonical mux. It uses of the core no more than its warm-up.
abbrev pub splicing : Definitions → PieceAt → Command
splicing d at = record {
  within = Some (inputs.Piece at.place);
  opening = opens_silently;
  Refuses = Halts d at;
  output = spliced_bytes at;
  RefusesEnd = LacksPiece at;
  Closes = λ frames. ClosesSilently frames;
  plays = false;
  units = feeds_none;
  Serves = λ before f. Unit {0};
}

-- `splice` on files, of which pieces are wanted at these positions
abbrev pub splices_files : Definitions → List ℕ → Effect
splices_files d positions = where_ordered (order_result positions) (on_inputs (several (splicing d) next_at false) (first_at positions))

-- ---- in the code

pub record SpliceStands (at : PieceAt) (frames : List Frame) (task : Splice) : Type 0 where
  pub rendition : RenditionStands at frames task.renditions

-- the end where the element of the frame with that number was not made
abbrev pub IsUnwritten : ℕ → WriteFault → FrameEnd → Type 0
IsUnwritten n writes.TooLong stop = stop ≡ ends.Refused (at_frame n reasons.TooLong)
IsUnwritten n (writes.Memory e) stop = stop ≡ ends.Memory e

-- What becomes of access units that are handed on, where the frame has that number.
abbrev pub HandsOver : ℕ → List Handed → Option (List ℕ) → Option (List ℕ) → Result (Unit {0}) FrameEnd → Type 0
HandsOver n hs w0 w1 (Ok x) = (some_long hs ≡ false) × (w1 ≡ append_known w0 (bytes_of_handed hs))
HandsOver n hs w0 w1 (Err (ends.Refused r)) = (some_long hs ≡ true) × (r ≡ at_frame n reasons.TooLong) × (w1 ≡ w0)
HandsOver n hs w0 w1 (Err ends.WriteFault) = (some_long hs ≡ false) × WroteLess w0 w1 (bytes_of_handed hs)
HandsOver n hs w0 w1 (Err ends.CoreFault) = ⊥
HandsOver n hs w0 w1 (Err (ends.Memory e)) = ((some_long hs ≡ false) × WroteLess w0 w1 (bytes_of_handed hs)) ⊎ (w1 ≡ w0)
