-- What a command does with one frame.
use Rattle.std.specs.Prelude.{◌≡◌, ℕ, ◌+◌, ◌<◌, ◌≤◌, ◌⊎◌, List, Option, Result, Ok, Err}
use Rattle.std.specs.Io.KnownBytes.{append_known}
use Rattle.causes.specs.Counts.{Rose}
use Rattle.core_iface.specs.Answering.{Meaning}
use Rattle.core_iface.specs.declared.fault.CoreFault.{CoreFault}
use Rattle.core_iface.specs.declared.fault.CoreFault.TheVariants as cores
use Rattle.outside.specs.declared.fault.DeviceFault.{DeviceFault}
use Rattle.outside.specs.declared.fault.DeviceFault.TheVariants as devices
use Rattle.tool_text.specs.declared.refusal.Refusal.{Refusal}
use Rattle.au_stream.specs.Frames.{Frame}
use Rattle.commands.specs.declared.frame_end.FrameEnd.{FrameEnd}
use Rattle.commands.specs.declared.frame_end.FrameEnd.TheVariants as ends
use Rattle.commands.specs.Handing.{WrotePart, WroteLess}
use Rattle.commands.specs.Commands.{Command, Takes, Grows}

abbrev pub from_core : CoreFault → FrameEnd
from_core cores.Failed = ends.CoreFault
from_core (cores.Memory e) = ends.Memory e

abbrev pub from_device : DeviceFault → FrameEnd
from_device devices.Failed = ends.WriteFault
from_device (devices.Memory e) = ends.Memory e

-- The frame, behind those before it, was taken and handled: the output grew by the bytes that were written.
pub record DidFrame (c : Command) (before : List Frame) (f : Frame) (old new : Meaning) (written_old written_new : Option (List ℕ)) : Type 0 where
  pub takes : Takes c before f
  pub fed : new.fed ≡ old.fed + c.units before f
  pub bytes : List ℕ
  pub grows : Grows c before f bytes
  pub written : written_new ≡ append_known written_old bytes

-- It was taken, and a write failed within its bytes.
pub record DidLess (c : Command) (before : List Frame) (f : Frame) (old new : Meaning) (written_old written_new : Option (List ℕ)) : Type 0 where
  pub takes : Takes c before f
  pub fed : new.fed ≡ old.fed + c.units before f
  pub bytes : List ℕ
  pub grows : Grows c before f bytes
  pub written : WroteLess written_old written_new bytes

-- It was taken, and a part of its bytes was written.
pub record DidPart (c : Command) (before : List Frame) (f : Frame) (old new : Meaning) (written_old written_new : Option (List ℕ)) : Type 0 where
  pub takes : Takes c before f
  pub fed : new.fed ≡ old.fed + c.units before f
  pub bytes : List ℕ
  pub grows : Grows c before f bytes
  pub written : WrotePart written_old written_new bytes

-- A write failed within what opens the frame, and none of its units was fed.
pub record DidOpening (c : Command) (before : List Frame) (f : Frame) (old new : Meaning) (written_old written_new : Option (List ℕ)) : Type 0 where
  pub fed : new.fed ≡ old.fed
  pub written : WroteLess written_old written_new (c.opening before f)

-- A part of what opens the frame was written, and no more was fed than its units.
pub record DidSome (c : Command) (before : List Frame) (f : Frame) (old new : Meaning) (written_old written_new : Option (List ℕ)) : Type 0 where
  pub fed : new.fed ≤ old.fed + c.units before f
  pub written : WrotePart written_old written_new (c.opening before f)

-- The frame was opened and refused.
pub record DidRefuse (c : Command) (before : List Frame) (f : Frame) (refusal : Refusal) (old new : Meaning) (written_old written_new : Option (List ℕ)) : Type 0 where
  pub refuses : c.Refuses before f refusal
  pub fed : new.fed ≡ old.fed
  pub written : written_new ≡ append_known written_old (c.opening before f)

-- The core failed at a frame that was taken, before its last unit.
pub record FailedAt (c : Command) (before : List Frame) (f : Frame) (old new : Meaning) (written_old written_new : Option (List ℕ)) : Type 0 where
  pub takes : Takes c before f
  pub at_least : old.fed ≤ new.fed
  pub fewer : new.fed < old.fed + c.units before f
  pub written : written_new ≡ append_known written_old (c.opening before f)

-- What a call with that answer did, and what a refusal leaves.
abbrev pub Handles : Command → List Frame → Frame → Meaning → Meaning → Option (List ℕ) → Option (List ℕ) → Result (Unit {0}) FrameEnd → Type 0
Handles c before f old new written_old written_new (Ok _) = DidFrame c before f old new written_old written_new
Handles c before f old new written_old written_new (Err (ends.Refused refusal)) = DidRefuse c before f refusal old new written_old written_new
Handles c before f old new written_old written_new (Err ends.WriteFault) =
    DidLess c before f old new written_old written_new ⊎ DidOpening c before f old new written_old written_new
Handles c before f old new written_old written_new (Err ends.CoreFault) = FailedAt c before f old new written_old written_new
Handles c before f old new written_old written_new (Err (ends.Memory e)) =
    DidPart c before f old new written_old written_new ⊎ DidSome c before f old new written_old written_new

-- The count of out rose at a write fault, that of the core at a core fault, and every other count is as before.
abbrev pub CausedBy : ℕ → ℕ → ℕ → ℕ → Result (Unit {0}) FrameEnd → Type 0
CausedBy out_old out_new core_old core_new (Ok _) = (out_new ≡ out_old) × (core_new ≡ core_old)
CausedBy out_old out_new core_old core_new (Err (ends.Refused refusal)) = (out_new ≡ out_old) × (core_new ≡ core_old)
CausedBy out_old out_new core_old core_new (Err ends.WriteFault) = Rose out_old out_new × (core_new ≡ core_old)
CausedBy out_old out_new core_old core_new (Err ends.CoreFault) = (out_new ≡ out_old) × Rose core_old core_new
CausedBy out_old out_new core_old core_new (Err (ends.Memory e)) = (out_new ≡ out_old) × (core_new ≡ core_old)

-- Where all was read, nothing is refused, and what is to be written then was written.
pub record DidEnd (Refuses : Refusal → Type 0) (Writes : List ℕ → Type 0) (written_old written_new : Option (List ℕ)) : Type 0 where
  pub takes : (r : Refusal) → Refuses r → ⊥
  pub closing : List ℕ
  pub closes : Writes closing
  pub written : written_new ≡ append_known written_old closing

-- A write failed within that.
pub record DidEndPart (Refuses : Refusal → Type 0) (Writes : List ℕ → Type 0) (written_old written_new : Option (List ℕ)) : Type 0 where
  pub takes : (r : Refusal) → Refuses r → ⊥
  pub closing : List ℕ
  pub closes : Writes closing
  pub written : WroteLess written_old written_new closing

-- What a call did that refuses for these reasons, or writes such a text.
abbrev pub HandlesEnd : (Refusal → Type 0) → (List ℕ → Type 0) → Option (List ℕ) → Option (List ℕ) → Result (Unit {0}) FrameEnd → Type 0
HandlesEnd Refuses Writes written_old written_new (Ok _) = DidEnd Refuses Writes written_old written_new
HandlesEnd Refuses Writes written_old written_new (Err (ends.Refused refusal)) = Refuses refusal × (written_new ≡ written_old)
HandlesEnd Refuses Writes written_old written_new (Err ends.WriteFault) = DidEndPart Refuses Writes written_old written_new
HandlesEnd Refuses Writes written_old written_new (Err ends.CoreFault) = ⊥
HandlesEnd Refuses Writes written_old written_new (Err (ends.Memory e)) = DidEndPart Refuses Writes written_old written_new ⊎ (written_new ≡ written_old)
