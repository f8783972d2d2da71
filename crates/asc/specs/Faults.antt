-- How the faults below become this layer's, and which are out of memory.
use Rattle.std.specs.Prelude.{Bool, true, false}
use Rattle.bit_core.specs.declared.faults.Short.{Short}
use Rattle.bit_core.specs.declared.faults.ReadFault.{ReadFault}
use Rattle.bit_core.specs.declared.faults.ReadFault.TheVariants as reads
use Rattle.usac_cfg.specs.declared.faults.CfgFault.{CfgFault}
use Rattle.usac_cfg.specs.declared.faults.CfgFault.TheVariants as cfgs
use Rattle.asc.specs.declared.fault.AscFault.{AscFault}
use Rattle.asc.specs.declared.fault.AscFault.TheVariants as faults

abbrev pub from_short : Short → AscFault
from_short s = faults.Short s.at

-- out of memory stays what it is
abbrev pub from_read : ReadFault → AscFault
from_read (reads.Short s) = faults.Short s.at
from_read (reads.Memory e) = faults.Memory e

abbrev pub from_cfg : CfgFault → AscFault
from_cfg (cfgs.Memory e) = faults.Memory e
from_cfg f = faults.Cfg f

abbrev pub is_memory : AscFault → Bool
is_memory (faults.Short at) = false
is_memory (faults.NotUsac at kind) = false
is_memory (faults.Cfg f) = false
is_memory (faults.TailTooLong at) = false
is_memory (faults.Memory e) = true
