-- How a command ends at a frame that its player does not play.
use Rattle.std.specs.Prelude.{◌≡◌, ℕ, true, false, Option, Some, None, Err}
use Rattle.switch_player.specs.declared.fault.PlayFault.{PlayFault}
use Rattle.switch_player.specs.declared.fault.PlayFault.TheVariants.{FrameFault, NotIndependent, RateChanged, ChannelsChanged, Carry, TooFew, CoreFault, Memory, Stopped}
use Rattle.switch_player.specs.Faults.{is_core_fault}
use Rattle.tool_text.specs.declared.refusal.Reason.TheVariants as reasons
use Rattle.tool_text.specs.declared.refusal.Refusal.{Refusal}
use Rattle.tool_text.specs.Faults.{at_bit, at_frame, refusal_of_carry}
use Rattle.commands.specs.declared.frame_end.FrameEnd.{FrameEnd}
use Rattle.commands.specs.declared.frame_end.FrameEnd.TheVariants as ends

-- the refusal that a rule of the player is, at the frame with that number; other answers are none
abbrev pub refusal_of_play : ℕ → PlayFault → Option Refusal
refusal_of_play frame (FrameFault at) = Some (at_bit frame at reasons.FrameTooShort)
refusal_of_play frame NotIndependent = Some (at_frame frame reasons.NotIndependent)
refusal_of_play frame RateChanged = Some (at_frame frame reasons.RateChanged)
refusal_of_play frame ChannelsChanged = Some (at_frame frame reasons.ChannelsChanged)
refusal_of_play frame (Carry fault) = refusal_of_carry frame fault
refusal_of_play frame (TooFew have need) = Some (at_frame frame (reasons.TooFew have need))
refusal_of_play frame CoreFault = None
refusal_of_play frame (Memory e) = None
refusal_of_play frame Stopped = None

-- The command ends so at the frame with that number, at which the player answers that fault.
abbrev pub IsEndOf : ℕ → PlayFault → FrameEnd → Type 0
IsEndOf number fault (ends.Refused r) = refusal_of_play number fault ≡ Some r
IsEndOf number fault ends.WriteFault = ⊥
IsEndOf number fault ends.CoreFault = is_core_fault (Err fault) ≡ true
IsEndOf number fault (ends.Memory e) = (refusal_of_play number fault ≡ None) × (is_core_fault (Err fault) ≡ false)
