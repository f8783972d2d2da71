-- Which refusal a rule of insertions is. Out of memory is none.
use Rattle.std.specs.Prelude.{◌≡◌, Option, Some, None}
use Rattle.tool_text.specs.declared.refusal.Place.TheVariants.{Whole}
use Rattle.tool_text.specs.declared.refusal.Reason.{Reason}
use Rattle.tool_text.specs.declared.refusal.Reason.TheVariants as reasons
use Rattle.tool_text.specs.declared.refusal.Refusal.{Refusal}
use Rattle.tool_text.specs.Faults.{at_bit, at_frame}
use Rattle.ipf_insert.specs.declared.fault.InsertFault.{InsertFault}
use Rattle.ipf_insert.specs.declared.fault.InsertFault.TheVariants as faults
use Rattle.commands.specs.declared.frame_end.FrameEnd.{FrameEnd}
use Rattle.commands.specs.declared.frame_end.FrameEnd.TheVariants as ends

-- a refusal of the stream as a whole
abbrev pub of_stream : Reason → Refusal
of_stream reason = record { place = Whole; reason = reason }

abbrev pub refusal_of_insert : InsertFault → Option Refusal
refusal_of_insert (faults.ConfigChanges frame) = Some (at_frame frame reasons.ConfigChanges)
refusal_of_insert (faults.Frame frame at) = Some (at_bit frame at reasons.FrameTooShort)
refusal_of_insert faults.NotDeclared = Some (of_stream reasons.NotDeclared)
refusal_of_insert faults.ConfigTooLong = Some (of_stream reasons.ConfigTooLong)
refusal_of_insert faults.BadCount = Some (of_stream reasons.BadCount)
refusal_of_insert (faults.BadTarget place) = Some (of_stream (reasons.BadTarget place))
refusal_of_insert (faults.NotIndependent frame) = Some (at_frame frame reasons.NotIndependent)
refusal_of_insert (faults.AlreadyPresent frame) = Some (at_frame frame reasons.AlreadyPresent)
refusal_of_insert (faults.TooEarly frame) = Some (at_frame frame reasons.TooEarly)
refusal_of_insert (faults.FirstDependent frame) = Some (at_frame frame reasons.FirstDependent)
refusal_of_insert (faults.PayloadTooLong frame) = Some (at_frame frame reasons.PayloadTooLong)
refusal_of_insert (faults.TooLong frame) = Some (at_frame frame reasons.TooLong)
refusal_of_insert (faults.Memory e) = None

-- the end of a command where that is the refusal, or where there is none
abbrev pub IsEndOf : Option Refusal → FrameEnd → Type 0
IsEndOf why (ends.Refused r) = why ≡ Some r
IsEndOf why ends.WriteFault = ⊥
IsEndOf why ends.CoreFault = ⊥
IsEndOf why (ends.Memory e) = why ≡ None
