-- The refusal of a frame that cannot be read.
use Rattle.std.specs.Prelude.{ℕ}
use Rattle.usac_frame.specs.declared.fault.FrameFault.{FrameFault}
use Rattle.usac_frame.specs.declared.fault.FrameFault.TheVariants as frames
use Rattle.ipf_strip.specs.declared.fault.StripFault.{StripFault}
use Rattle.ipf_strip.specs.declared.fault.StripFault.TheVariants as faults

abbrev pub of_frame : ℕ → FrameFault → StripFault
of_frame n (frames.Short at) = faults.Frame n at
of_frame n (frames.Memory e) = faults.Memory e
