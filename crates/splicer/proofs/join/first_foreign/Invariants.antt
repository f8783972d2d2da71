use Rattle.std.proofs.Common.{◌≡◌, ◌+◌, drop}
use Rattle.splicer.specs.Foreign.{first_different}
use Rattle.splicer.proofs.join.first_foreign.Given as goal

-- what is left of the two lists decides
abbrev pub invariant-loop-k : goal.invariant-loop-k
invariant-loop-k l = first_different l.k (drop l.k l.units) (drop (l.skipped + l.k) l.before) ≡ first_different 0 l.units (drop l.skipped l.before)
