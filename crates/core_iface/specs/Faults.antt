use Rattle.std.specs.Prelude.{Bool, true, false, Result, Ok, Err}
use Rattle.core_iface.specs.declared.fault.CoreFault.{CoreFault}
use Rattle.core_iface.specs.declared.fault.CoreFault.TheVariants.{Failed, Memory}

-- the answer is Failed
abbrev pub has_failed : {A : Type 0} → Result A CoreFault → Bool
has_failed (Ok x) = false
has_failed (Err Failed) = true
has_failed (Err (Memory e)) = false
