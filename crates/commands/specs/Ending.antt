-- What a command on one file writes, and how it ends, by the bytes of the file.
use Rattle.std.specs.Prelude.{◌≡◌, ℕ, ◌+◌, ◌<◌, ◌≤◌, ◌⊎◌, List, [], ◌∷◌, ◌++◌, length}
use Rattle.std.specs.declared.option.Option.{Option}
use Rattle.std.specs.Prelude.{Some, None}
use Rattle.std.specs.Io.KnownBytes.{append_known}
use Rattle.loas.specs.declared.fault.LoasFault.TheVariants as loas
use Rattle.tool_text.specs.declared.refusal.Refusal.{Refusal}
use Rattle.tool_text.specs.RefusalText.{refusal_text}
use Rattle.tool_text.specs.Faults.{refusal_of_loas, refusal_of_mux}
use Rattle.au_stream.specs.Ahead.{IsNearFrame}
use Rattle.au_stream.specs.Frames.{Frame}
use Rattle.au_stream.specs.Script.{Mark, End, SyncLost, BadElement, Truncated, TooLarge, HasFrames, IsScript, IsOpen}
use Rattle.commands.specs.declared.outcome.Outcome.{Outcome}
use Rattle.commands.specs.declared.outcome.Outcome.TheVariants as is
use Rattle.commands.specs.Commands.{Command, Takes, TakesAll, TakesEnd, Grows, work}
use Rattle.commands.specs.Handing.{WrotePart, WroteInto}

-- what was written on out, and how many units the core was fed, before the command and behind it
pub record Traces : Type 0 where
  pub written_before : Option (List ℕ)
  pub written_after : Option (List ℕ)
  pub fed_before : ℕ
  pub fed_after : ℕ

-- nothing was written, and no unit was fed
pub record IsIdle (t : Traces) : Type 0 where
  pub written : t.written_after ≡ t.written_before
  pub fed : t.fed_after ≡ t.fed_before

-- The whole output of these frames was written, and the units of their work were fed.
pub record WroteAll (c : Command) (frames : List Frame) (t : Traces) : Type 0 where
  pub written : t.written_after ≡ append_known t.written_before (c.output frames)
  pub fed : t.fed_after ≡ t.fed_before + work c frames

-- A front of their output was written, and the units of their work were fed.
pub record WroteFront (c : Command) (frames : List Frame) (t : Traces) : Type 0 where
  pub written : WrotePart t.written_before t.written_after (c.output frames)
  pub fed : t.fed_after ≡ t.fed_before + work c frames

-- The whole output of these frames was written, and what opens the one behind them.
pub record WroteOpened (c : Command) (frames : List Frame) (next : Frame) (t : Traces) : Type 0 where
  pub written : t.written_after ≡ append_known t.written_before (c.output frames ++ c.opening frames next)
  pub fed : t.fed_after ≡ t.fed_before + work c frames

-- The same was written; of the units of the frame behind them at least the last was not fed.
pub record WroteBefore (c : Command) (frames : List Frame) (failed : Frame) (t : Traces) : Type 0 where
  pub written : t.written_after ≡ append_known t.written_before (c.output frames ++ c.opening frames failed)
  pub fed : t.fed_before + work c frames ≤ t.fed_after
  pub less : t.fed_after < t.fed_before + work c (frames ++ failed ∷ [])

-- The whole output of all frames of a file was written, and what the command writes at the end of it.
pub record WroteClosed (c : Command) (frames : List Frame) (t : Traces) : Type 0 where
  pub takes : TakesEnd c frames
  pub closing : List ℕ
  pub closes : c.Closes frames closing
  pub written : t.written_after ≡ append_known t.written_before (c.output frames ++ closing)
  pub fed : t.fed_after ≡ t.fed_before + work c frames

-- The whole output of the frames was written, and a write failed within the rest.
pub record WroteClosedFront (c : Command) (frames : List Frame) (t : Traces) : Type 0 where
  pub takes : TakesEnd c frames
  pub closing : List ℕ
  pub closes : c.Closes frames closing
  pub written : WroteInto t.written_before t.written_after (c.output frames) closing
  pub fed : t.fed_after ≡ t.fed_before + work c frames

-- the refusal that a mark is, if it is one
abbrev pub refusal_of_mark : Mark → Option Refusal
refusal_of_mark End = None
refusal_of_mark (SyncLost byte) = refusal_of_loas (loas.SyncLost byte)
refusal_of_mark (BadElement frame fault) = refusal_of_mux frame fault
refusal_of_mark (Truncated byte) = refusal_of_loas (loas.Truncated byte)
refusal_of_mark TooLarge = None

-- The command takes these frames of the file, writes what opens the next one, and refuses it.
pub record RefusesFrame (c : Command) (text : List ℕ) (taken : List Frame) (r : Refusal) (t : Traces) : Type 0 where
  pub frame : Frame
  pub later : List Frame
  pub of_file : HasFrames text (taken ++ frame ∷ later)
  pub takes : TakesAll c [] taken
  pub refuses : c.Refuses taken frame r
  pub wrote : WroteOpened c taken frame t

-- The command takes all frames of the file, and its mark is a refusal.
pub record RefusesMark (c : Command) (text : List ℕ) (taken : List Frame) (r : Refusal) (t : Traces) : Type 0 where
  pub mark : Mark
  pub script : IsScript text taken mark
  pub takes : TakesAll c [] taken
  pub refuses : refusal_of_mark mark ≡ Some r
  pub wrote : WroteAll c taken t

-- The script of the bytes is these frames, all of which the command takes, and that mark.
pub record Passes (c : Command) (text : List ℕ) (frames : List Frame) (mark : Mark) : Type 0 where
  pub script : IsScript text frames mark
  pub takes : TakesAll c [] frames

-- The command takes all frames of the file, which ends behind them, and refuses them there.
pub record RefusesAtEnd (c : Command) (text : List ℕ) (taken : List Frame) (r : Refusal) (t : Traces) : Type 0 where
  pub passes : Passes c text taken End
  pub refuses : c.RefusesEnd taken r
  pub wrote : WroteAll c taken t

-- The file is refused behind these frames, for that reason.
abbrev pub IsRefused : Command → List ℕ → List Frame → Refusal → Traces → Type 0
IsRefused c text taken r t = RefusesFrame c text taken r t ⊎ (RefusesMark c text taken r t ⊎ RefusesAtEnd c text taken r t)

-- The command takes these frames, which are the first of the file.
pub record TakesFirst (c : Command) (text : List ℕ) (frames : List Frame) : Type 0 where
  pub later : List Frame
  pub of_file : HasFrames text (frames ++ later)
  pub takes : TakesAll c [] frames

-- A front of the command's output was written: of that of the first frames of the file, or of all of it.
abbrev pub WroteSome : Command → List ℕ → List Frame → Traces → Type 0
WroteSome c text frames t = (TakesFirst c text frames × WroteFront c frames t) ⊎ (Passes c text frames End × WroteClosedFront c frames t)

-- The command takes these frames of the file, and another one is behind them.
pub record Reaches (c : Command) (text : List ℕ) (frames : List Frame) (next : Frame) : Type 0 where
  pub later : List Frame
  pub of_file : HasFrames text (frames ++ next ∷ later)
  pub takes : TakesAll c [] frames

-- A write failed within the bytes of the next frame, which the command takes and whose units were fed.
pub record WroteWithin (c : Command) (frames : List Frame) (next : Frame) (t : Traces) : Type 0 where
  pub takes : Takes c frames next
  pub bytes : List ℕ
  pub grows : Grows c frames next bytes
  pub written : WroteInto t.written_before t.written_after (c.output frames) bytes
  pub fed : t.fed_after ≡ t.fed_before + work c (frames ++ next ∷ [])

-- A write failed within what opens the next frame.
pub record WroteOpening (c : Command) (frames : List Frame) (next : Frame) (t : Traces) : Type 0 where
  pub written : WroteInto t.written_before t.written_after (c.output frames) (c.opening frames next)
  pub fed : t.fed_after ≡ t.fed_before + work c frames

-- The whole output of these frames was written, and a write failed at the one behind them. Of the file fewer than 8192 bytes were taken
-- behind the element with that frame.
pub record StopsWriting (c : Command) (text taken : List ℕ) (frames : List Frame) (t : Traces) : Type 0 where
  pub next : Frame
  pub reaches : Reaches c text frames next
  pub wrote : WroteWithin c frames next t ⊎ WroteOpening c frames next t
  pub near : IsNearFrame taken (length frames)

-- The whole output of these frames was written, and a front of what opens the next one; of its units some may have been fed.
pub record WroteUpTo (c : Command) (text : List ℕ) (frames : List Frame) (t : Traces) : Type 0 where
  pub next : Frame
  pub reaches : Reaches c text frames next
  pub written : WrotePart t.written_before t.written_after (c.output frames ++ c.opening frames next)
  pub fed : t.fed_after ≤ t.fed_before + work c (frames ++ next ∷ [])

-- How the command ends on a file with these bytes, of which some were taken.
abbrev pub Ends : Command → List ℕ → List ℕ → Traces → Outcome → Type 0
Ends c text taken t is.Done = (frames : List Frame) × Passes c text frames End × WroteClosed c frames t
Ends c text taken t (is.Refused words) = (frames : List Frame) × (r : Refusal) × IsRefused c text frames r t × (words ≡ refusal_text c.within r)
-- the script of the bytes taken may go on
Ends c text taken t is.ReadFault = (frames : List Frame) × (mark : Mark) × Passes c taken frames mark × IsOpen mark × WroteAll c frames t
-- a write failed at a frame, or at the end of the file
Ends c text taken t is.WriteFault = (frames : List Frame) × (StopsWriting c text taken frames t ⊎ (Passes c text frames End × WroteClosedFront c frames t))
-- the core failed at the frame behind those that were written
Ends c text taken t is.CoreFault = (frames : List Frame) × (failed : Frame) × TakesFirst c text (frames ++ failed ∷ []) × WroteBefore c frames failed t
Ends c text taken t (is.Memory e) = (frames : List Frame) × (WroteSome c text frames t ⊎ WroteUpTo c text frames t)
Ends c text taken t is.TooLarge = (frames : List Frame) × Passes c text frames TooLarge × WroteAll c frames t

-- this is so of each frame of the file that the command takes
abbrev pub OfFile : Command → (List Frame → Frame → Type 0) → List ℕ → Type 0
OfFile c serves text = (before : List Frame) (f : Frame) → TakesFirst c text (before ++ f ∷ []) → serves before f
