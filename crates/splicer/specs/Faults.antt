-- How the faults below become refusals of a frame.
use Rattle.std.specs.Prelude.{ℕ}
use Rattle.usac_frame.specs.declared.fault.FrameFault.{FrameFault}
use Rattle.usac_frame.specs.declared.fault.FrameFault.TheVariants as frames
use Rattle.preroll.specs.declared.fault.CarryFault.{CarryFault}
use Rattle.preroll.specs.declared.fault.CarryFault.TheVariants as carries
use Rattle.splicer.specs.declared.fault.SpliceFault.{SpliceFault}
use Rattle.splicer.specs.declared.fault.SpliceFault.TheVariants.{Frame, Carry, Memory}

-- out of memory stays what it is
abbrev pub of_frame : ℕ → FrameFault → SpliceFault
of_frame n (frames.Short at) = Frame n at
of_frame n (frames.Memory e) = Memory e

abbrev pub of_carry : ℕ → CarryFault → SpliceFault
of_carry n (carries.Memory e) = Memory e
of_carry n carries.NotImmediate = Carry n carries.NotImmediate
of_carry n carries.Split = Carry n carries.Split
of_carry n (carries.BadPreroll at) = Carry n (carries.BadPreroll at)
of_carry n carries.BadConfig = Carry n carries.BadConfig
of_carry n carries.ConfigDiffers = Carry n carries.ConfigDiffers
of_carry n (carries.BadUnit k at) = Carry n (carries.BadUnit k at)
of_carry n (carries.Nested k) = Carry n (carries.Nested k)
of_carry n carries.FirstDependent = Carry n carries.FirstDependent
