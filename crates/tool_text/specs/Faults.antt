-- Which refusal a fault is. Out of memory is none.
use Rattle.std.specs.Prelude.{ℕ, Option, Some, None}
use Rattle.loas.specs.declared.fault.LoasFault.{LoasFault}
use Rattle.loas.specs.declared.fault.LoasFault.TheVariants as streams
use Rattle.usac_cfg.specs.declared.faults.CfgFault.{CfgFault}
use Rattle.usac_cfg.specs.declared.faults.CfgFault.TheVariants as cfgs
use Rattle.asc.specs.declared.fault.AscFault.{AscFault}
use Rattle.asc.specs.declared.fault.AscFault.TheVariants as ascs
use Rattle.latm.specs.declared.fault.MuxFault.{MuxFault}
use Rattle.latm.specs.declared.fault.MuxFault.TheVariants as muxes
use Rattle.preroll.specs.declared.fault.CarryFault.{CarryFault}
use Rattle.preroll.specs.declared.fault.CarryFault.TheVariants as carries
use Rattle.tool_text.specs.declared.refusal.Place.TheVariants.{Byte, Frame as FrameAlone, FrameBit}
use Rattle.tool_text.specs.declared.refusal.Reason.{Reason}
use Rattle.tool_text.specs.declared.refusal.Reason.TheVariants as reasons
use Rattle.tool_text.specs.declared.refusal.Refusal.{Refusal}

abbrev pub at_byte : ℕ → Reason → Refusal
at_byte byte reason = record { place = Byte byte; reason = reason }

abbrev pub at_bit : ℕ → ℕ → Reason → Refusal
at_bit frame bit reason = record { place = FrameBit frame bit; reason = reason }

-- the faults of the framing, at their bytes
abbrev pub refusal_of_loas : LoasFault → Option Refusal
refusal_of_loas (streams.SyncLost byte) = Some (at_byte byte reasons.SyncLost)
refusal_of_loas (streams.Truncated byte) = Some (at_byte byte reasons.Truncated)
refusal_of_loas (streams.Memory e) = None

-- the faults of UsacConfig, at their bits of the element whose first access unit is this frame
abbrev pub refusal_of_cfg : ℕ → CfgFault → Option Refusal
refusal_of_cfg frame (cfgs.Short at) = Some (at_bit frame at reasons.ConfigTooShort)
refusal_of_cfg frame (cfgs.RateReserved at) = Some (at_bit frame at reasons.RateReserved)
refusal_of_cfg frame (cfgs.RateZero at) = Some (at_bit frame at reasons.RateZero)
refusal_of_cfg frame (cfgs.FrameReserved at) = Some (at_bit frame at reasons.FrameReserved)
refusal_of_cfg frame (cfgs.ChannelReserved at) = Some (at_bit frame at reasons.ChannelReserved)
refusal_of_cfg frame (cfgs.NoChannels at) = Some (at_bit frame at reasons.NoChannels)
refusal_of_cfg frame (cfgs.TooManyChannels at) = Some (at_bit frame at reasons.TooManyChannels)
refusal_of_cfg frame (cfgs.TooManyElements at) = Some (at_bit frame at reasons.TooManyElements)
refusal_of_cfg frame (cfgs.Memory e) = None

-- the faults of AudioSpecificConfig, and those of the UsacConfig in it
abbrev pub refusal_of_asc : ℕ → AscFault → Option Refusal
refusal_of_asc frame (ascs.Short at) = Some (at_bit frame at reasons.ConfigTooShort)
refusal_of_asc frame (ascs.NotUsac at kind) = Some (at_bit frame at (reasons.NotUsac kind))
refusal_of_asc frame (ascs.Cfg fault) = refusal_of_cfg frame fault
refusal_of_asc frame (ascs.TailTooLong at) = Some (at_bit frame at reasons.TailTooLong)
refusal_of_asc frame (ascs.Memory e) = None

-- the faults of AudioMuxElement and StreamMuxConfig, and those of the AudioSpecificConfig in it
abbrev pub refusal_of_mux : ℕ → MuxFault → Option Refusal
refusal_of_mux frame muxes.NoConfig = Some (at_bit frame 0 reasons.NoConfig)
refusal_of_mux frame (muxes.OutOfProfile at field) = Some (at_bit frame at (reasons.OutOfProfile field))
refusal_of_mux frame (muxes.Short at) = Some (at_bit frame at reasons.MuxTooShort)
refusal_of_mux frame (muxes.Asc fault) = refusal_of_asc frame fault
refusal_of_mux frame (muxes.Memory e) = None

abbrev pub at_frame : ℕ → Reason → Refusal
at_frame frame reason = record { place = FrameAlone frame; reason = reason }

-- the faults of the preroll of this frame (AudioPreRoll)
abbrev pub refusal_of_carry : ℕ → CarryFault → Option Refusal
refusal_of_carry frame carries.NotImmediate = Some (at_frame frame reasons.NotImmediate)
refusal_of_carry frame carries.Split = Some (at_frame frame reasons.Split)
refusal_of_carry frame (carries.BadPreroll at) = Some (at_frame frame (reasons.BadPreroll at))
refusal_of_carry frame carries.BadConfig = Some (at_frame frame reasons.BadConfig)
refusal_of_carry frame carries.ConfigDiffers = Some (at_frame frame reasons.ConfigDiffers)
refusal_of_carry frame (carries.BadUnit k at) = Some (at_frame frame (reasons.BadUnit k at))
refusal_of_carry frame (carries.Nested k) = Some (at_frame frame (reasons.Nested k))
refusal_of_carry frame carries.FirstDependent = Some (at_frame frame reasons.FirstDependent)
refusal_of_carry frame (carries.Memory e) = None
