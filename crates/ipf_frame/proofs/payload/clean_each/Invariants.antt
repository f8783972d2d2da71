use Rattle.std.proofs.Common.{◌≡◌, take}
use Rattle.std.specs.Prelude.{map}
use Rattle.ipf_frame.specs.Clean.{clean}
use Rattle.ipf_frame.proofs.payload.clean_each.Given as goal

abbrev pub invariant-loop-au : goal.invariant-loop-au
invariant-loop-au l = l.units ≡ map (clean l.config) (map (λ au. au.now) (take l.au-index l.aus))
