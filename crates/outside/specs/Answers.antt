-- How a call of a device ended.
use Rattle.std.specs.Prelude.{Bool, true, false, IsTrue, Result, Ok, Err}
use Rattle.outside.specs.declared.fault.DeviceFault.{DeviceFault}
use Rattle.outside.specs.declared.fault.DeviceFault.TheVariants.{Failed, Memory}

-- whether the answer is `Failed`
abbrev pub has_failed : {T : Type 0} → Result T DeviceFault → Bool
has_failed (Ok x) = false
has_failed (Err Failed) = true
has_failed (Err (Memory want)) = false

-- the answer is `Failed`
abbrev pub IsFailed : {T : Type 0} → Result T DeviceFault → Type 0
IsFailed result = IsTrue (has_failed result)

-- the answer is out of memory
abbrev pub IsMemory : {T : Type 0} → Result T DeviceFault → Type 0
IsMemory (Ok x) = ⊥
IsMemory (Err Failed) = ⊥
IsMemory (Err (Memory want)) = Unit {0}
