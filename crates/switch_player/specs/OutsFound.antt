-- Blocks over units that follow units.
use Rattle.std.proofs.Common.{◌≡◌, ℕ, suc, List, [], ◌∷◌, ◌++◌, length, refl, ap}
use Rattle.usac_cfg.specs.declared.usac_config.UsacConfig.{UsacConfig}
use Rattle.usac_frame.specs.Units.{UnitValue}
use Rattle.core_iface.specs.Decoding.{Definitions, out, after}

module _ (d : Definitions) (c : UsacConfig) where
  pub out-append : (s : List ℕ) (us vs : List UnitValue) → out d c s (us ++ vs) ≡ out d c s us ++ out d c (after d c s us) vs
  out-append s [] vs = refl
  out-append s (u ∷ us) vs = ap (λ bs. d.emit c s u ∷ bs) (out-append (d.next c s u) us vs)

  pub after-append : (s : List ℕ) (us vs : List UnitValue) → after d c s (us ++ vs) ≡ after d c (after d c s us) vs
  after-append s [] vs = refl
  after-append s (u ∷ us) vs = after-append (d.next c s u) us vs

  pub length-out : (s : List ℕ) (us : List UnitValue) → length (out d c s us) ≡ length us
  length-out s [] = refl
  length-out s (u ∷ us) = ap suc (length-out (d.next c s u) us)
