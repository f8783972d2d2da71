-- Which refusal a rule of taking prerolls out is. Out of memory is none.
use Rattle.std.specs.Prelude.{Option, Some, None}
use Rattle.tool_text.specs.declared.refusal.Reason.TheVariants as reasons
use Rattle.tool_text.specs.declared.refusal.Refusal.{Refusal}
use Rattle.tool_text.specs.Faults.{at_bit, at_frame}
use Rattle.ipf_strip.specs.declared.fault.StripFault.{StripFault}
use Rattle.ipf_strip.specs.declared.fault.StripFault.TheVariants as faults
use Rattle.editing.specs.InsertRefusals.{of_stream}

abbrev pub refusal_of_strip : StripFault → Option Refusal
refusal_of_strip (faults.Frame frame at) = Some (at_bit frame at reasons.FrameTooShort)
refusal_of_strip (faults.BadTarget place) = Some (of_stream (reasons.BadTarget place))
refusal_of_strip (faults.NotImmediate frame) = Some (at_frame frame reasons.NotImmediate)
refusal_of_strip (faults.NotInserted frame) = Some (at_frame frame reasons.NotInserted)
refusal_of_strip (faults.Memory e) = None
