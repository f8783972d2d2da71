-- How the faults below become this layer's, and which are out of memory.
use Rattle.std.specs.Prelude.{Bool, true, false}
use Rattle.bit_core.specs.declared.faults.Short.{Short}
use Rattle.bit_core.specs.declared.faults.ReadFault.{ReadFault}
use Rattle.bit_core.specs.declared.faults.ReadFault.TheVariants as reads
use Rattle.asc.specs.declared.fault.AscFault.{AscFault}
use Rattle.asc.specs.declared.fault.AscFault.TheVariants as ascs
use Rattle.latm.specs.declared.fault.MuxFault.{MuxFault}
use Rattle.latm.specs.declared.fault.MuxFault.TheVariants as faults

abbrev pub from_short : Short → MuxFault
from_short s = faults.Short s.at

-- out of memory stays what it is
abbrev pub from_read : ReadFault → MuxFault
from_read (reads.Short s) = faults.Short s.at
from_read (reads.Memory e) = faults.Memory e

abbrev pub from_asc : AscFault → MuxFault
from_asc (ascs.Memory e) = faults.Memory e
from_asc f = faults.Asc f

abbrev pub is_memory : MuxFault → Bool
is_memory faults.NoConfig = false
is_memory (faults.OutOfProfile at field) = false
is_memory (faults.Short at) = false
is_memory (faults.Asc f) = false
is_memory (faults.Memory e) = true
