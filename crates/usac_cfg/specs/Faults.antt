-- How the faults below become a configuration's, and which are out of memory.
use Rattle.std.specs.Prelude.{Bool, true, false}
use Rattle.bit_core.specs.declared.faults.Short.{Short}
use Rattle.bit_core.specs.declared.faults.ReadFault.{ReadFault}
use Rattle.bit_core.specs.declared.faults.ReadFault.TheVariants as reads
use Rattle.usac_cfg.specs.declared.faults.CfgFault.{CfgFault}
use Rattle.usac_cfg.specs.declared.faults.CfgFault.TheVariants as faults

abbrev pub from_short : Short → CfgFault
from_short s = faults.Short s.at

-- out of memory stays what it is
abbrev pub from_read : ReadFault → CfgFault
from_read (reads.Short s) = faults.Short s.at
from_read (reads.Memory e) = faults.Memory e

abbrev pub is_memory : CfgFault → Bool
is_memory (faults.Memory e) = true
is_memory (faults.Short at) = false
is_memory (faults.RateReserved at) = false
is_memory (faults.RateZero at) = false
is_memory (faults.FrameReserved at) = false
is_memory (faults.ChannelReserved at) = false
is_memory (faults.NoChannels at) = false
is_memory (faults.TooManyChannels at) = false
is_memory (faults.TooManyElements at) = false
