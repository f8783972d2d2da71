-- How the faults below become a frame's, and which are out of memory.
use Rattle.std.specs.Prelude.{Bool, true, false}
use Rattle.bit_core.specs.declared.faults.Short.{Short}
use Rattle.bit_core.specs.declared.faults.ReadFault.{ReadFault}
use Rattle.bit_core.specs.declared.faults.ReadFault.TheVariants as reads
use Rattle.usac_frame.specs.declared.fault.FrameFault.{FrameFault}
use Rattle.usac_frame.specs.declared.fault.FrameFault.TheVariants as faults

abbrev pub from_short : Short → FrameFault
from_short s = faults.Short s.at

-- out of memory stays what it is
abbrev pub from_read : ReadFault → FrameFault
from_read (reads.Short s) = faults.Short s.at
from_read (reads.Memory e) = faults.Memory e

abbrev pub is_memory : FrameFault → Bool
is_memory (faults.Short at) = false
is_memory (faults.Memory e) = true
