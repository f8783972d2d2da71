use Rattle.std.proofs.Common.{◌≡◌, ◌*◌, take}
use Rattle.core_iface.specs.Samples.{sample_bytes}
use Rattle.core_iface.proofs.samples.put_each.Given as goal

-- the bytes of the first samples
abbrev pub invariant-loop-i : goal.invariant-loop-i
invariant-loop-i l = take (2 * l.i) l.out ≡ sample_bytes (take l.i l.samples)
