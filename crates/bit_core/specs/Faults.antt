-- Which faults of a reader are out of memory.
use Rattle.std.specs.Prelude.{Bool, true, false}
use Rattle.bit_core.specs.declared.faults.ReadFault.{ReadFault}
use Rattle.bit_core.specs.declared.faults.ReadFault.TheVariants.{Short, Memory}

abbrev pub is_memory : ReadFault → Bool
is_memory (Short s) = false
is_memory (Memory e) = true
