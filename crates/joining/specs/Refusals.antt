-- Which refusal a rule of pieces is. Out of memory is none, and that an earlier frame was refused.
use Rattle.std.specs.Prelude.{◌≡◌, Option, Some, None}
use Rattle.tool_text.specs.declared.refusal.Place.TheVariants.{Whole}
use Rattle.tool_text.specs.declared.refusal.Reason.{Reason}
use Rattle.tool_text.specs.declared.refusal.Reason.TheVariants as reasons
use Rattle.tool_text.specs.declared.refusal.Refusal.{Refusal}
use Rattle.tool_text.specs.Faults.{at_bit, at_frame, refusal_of_carry}
use Rattle.timeline.specs.declared.fault.PlanFault.{PlanFault}
use Rattle.timeline.specs.declared.fault.PlanFault.TheVariants as plans
use Rattle.splicer.specs.declared.fault.SpliceFault.{SpliceFault}
use Rattle.splicer.specs.declared.fault.SpliceFault.TheVariants as splices
use Rattle.commands.specs.declared.frame_end.FrameEnd.{FrameEnd}
use Rattle.commands.specs.declared.frame_end.FrameEnd.TheVariants as ends

-- a refusal of the piece as a whole
abbrev pub of_piece : Reason → Refusal
of_piece reason = record { place = Whole; reason = reason }

-- the rules of positions
abbrev pub refusal_of_plan : PlanFault → Option Refusal
refusal_of_plan (plans.BadOrder piece) = Some (of_piece reasons.PositionsFall)
refusal_of_plan (plans.NoFrameAt piece position) = Some (of_piece (reasons.NoFrameAt position))
refusal_of_plan (plans.RateDiffers piece) = Some (of_piece reasons.RateDiffers)
refusal_of_plan (plans.ChannelsDiffer piece) = Some (of_piece reasons.ChannelsDiffer)
refusal_of_plan (plans.PastEnd piece) = Some (of_piece reasons.PastEnd)
refusal_of_plan (plans.Memory e) = None

-- the rules of a rendition, at its frames
abbrev pub refusal_of_splice : SpliceFault → Option Refusal
refusal_of_splice (splices.Plan fault) = refusal_of_plan fault
refusal_of_splice (splices.ConfigChanges frame) = Some (at_frame frame reasons.ConfigChanges)
refusal_of_splice (splices.Frame frame at) = Some (at_bit frame at reasons.FrameTooShort)
refusal_of_splice (splices.NotIndependent frame) = Some (at_frame frame reasons.NotIndependent)
refusal_of_splice (splices.Carry frame fault) = refusal_of_carry frame fault
refusal_of_splice (splices.SameConfig frame) = Some (at_frame frame reasons.SameConfig)
refusal_of_splice (splices.TooFew frame have need) = Some (at_frame frame (reasons.TooFew have need))
refusal_of_splice (splices.PrerollForeign frame k) = Some (at_frame frame (reasons.PrerollForeign k))
refusal_of_splice splices.Ended = None
refusal_of_splice (splices.Memory e) = None

-- the end of a command where that is the refusal, or where there is none
abbrev pub IsEndOf : Option Refusal → FrameEnd → Type 0
IsEndOf why (ends.Refused r) = why ≡ Some r
IsEndOf why ends.WriteFault = ⊥
IsEndOf why ends.CoreFault = ⊥
IsEndOf why (ends.Memory e) = why ≡ None
