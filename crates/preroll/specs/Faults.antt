-- How the faults below become a preroll's, and which are out of memory.
use Rattle.std.specs.Prelude.{ℕ, Bool, true, false}
use Rattle.bit_core.specs.declared.faults.Short.{Short}
use Rattle.bit_core.specs.declared.faults.ReadFault.{ReadFault}
use Rattle.bit_core.specs.declared.faults.ReadFault.TheVariants as reads
use Rattle.usac_cfg.specs.declared.faults.CfgFault.{CfgFault}
use Rattle.usac_cfg.specs.declared.faults.CfgFault.TheVariants as configs
use Rattle.usac_frame.specs.declared.fault.FrameFault.{FrameFault}
use Rattle.usac_frame.specs.declared.fault.FrameFault.TheVariants as frames
use Rattle.preroll.specs.declared.fault.PreFault.{PreFault}
use Rattle.preroll.specs.declared.fault.PreFault.TheVariants as faults
use Rattle.preroll.specs.declared.fault.CarryFault.{CarryFault}
use Rattle.preroll.specs.declared.fault.CarryFault.TheVariants.{NotImmediate, Split, BadPreroll, BadConfig, ConfigDiffers, BadUnit, Nested, FirstDependent, Memory}

abbrev pub from_short : Short → PreFault
from_short s = faults.Short s.at

-- out of memory stays what it is
abbrev pub from_read : ReadFault → PreFault
from_read (reads.Short s) = faults.Short s.at
from_read (reads.Memory e) = faults.Memory e

abbrev pub is_memory : PreFault → Bool
is_memory (faults.Short at) = false
is_memory (faults.Memory e) = true

abbrev pub from_preroll : PreFault → CarryFault
from_preroll (faults.Short at) = BadPreroll at
from_preroll (faults.Memory e) = Memory e

-- each fault of a configuration is one fault here
abbrev pub from_config : CfgFault → CarryFault
from_config (configs.Memory e) = Memory e
from_config (configs.Short at) = BadConfig
from_config (configs.RateReserved at) = BadConfig
from_config (configs.RateZero at) = BadConfig
from_config (configs.FrameReserved at) = BadConfig
from_config (configs.ChannelReserved at) = BadConfig
from_config (configs.NoChannels at) = BadConfig
from_config (configs.TooManyChannels at) = BadConfig
from_config (configs.TooManyElements at) = BadConfig

-- the fault of access unit k
abbrev pub of_unit : ℕ → FrameFault → CarryFault
of_unit k (frames.Short at) = BadUnit k at
of_unit k (frames.Memory e) = Memory e

-- carrying failed out of memory
abbrev pub is_carry_memory : CarryFault → Bool
is_carry_memory NotImmediate = false
is_carry_memory Split = false
is_carry_memory (BadPreroll at) = false
is_carry_memory BadConfig = false
is_carry_memory ConfigDiffers = false
is_carry_memory (BadUnit k at) = false
is_carry_memory (Nested k) = false
is_carry_memory FirstDependent = false
is_carry_memory (Memory e) = true
