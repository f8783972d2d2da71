-- What the warm-up law says: behind enough units, of which the first is independent, a core has forgotten the state before them.
use Rattle.std.proofs.Common.{◌≡◌, ℕ, ◌≤◌, ◌<◌, List, [], ◌∷◌, ◌++◌, length, Some, refl, ap, sym, ◌∙◌, arith}
use Rattle.std.proofs.lemmas.List.{append_assoc, length-append}
use Rattle.usac_cfg.specs.declared.usac_config.UsacConfig.{UsacConfig}
use Rattle.usac_cfg.specs.UsacConfig.{IsWellFormed}
use Rattle.usac_frame.specs.Units.{UnitValue}
use Rattle.core_iface.specs.Decoding.{Definitions, out, after}
use Rattle.core_iface.specs.Laws.{WarmsUp, BeginsIndependent, last_block}
use Rattle.switch_player.specs.OutsFound.{after-append}

last_block-out : (d : Definitions) (c : UsacConfig) (s : List ℕ) (us : List UnitValue) (u : UnitValue) → last_block (out d c s (us ++ u ∷ [])) ≡ Some (d.emit c (after d c s us) u)
last_block-out d c s [] u = refl
last_block-out d c s (v ∷ []) u = refl
last_block-out d c s (v ∷ w ∷ us) u = last_block-out d c (d.next c s v) (w ∷ us) u

begins_shorter : (us vs : List UnitValue) (v : UnitValue) → BeginsIndependent (us ++ v ∷ vs) → BeginsIndependent (us ++ v ∷ [])
begins_shorter [] vs v b = b
begins_shorter (u ∷ us) vs v b = b

pub begins_longer : (us vs : List UnitValue) (v : UnitValue) → BeginsIndependent (us ++ v ∷ []) → BeginsIndependent (us ++ v ∷ vs)
begins_longer [] vs v b = b
begins_longer (u ∷ us) vs v b = b

module _ (d : Definitions) (warms : WarmsUp d) (c : UsacConfig) (fine : IsWellFormed c) (s t : List ℕ) (s_sound : d.sound c s) (t_sound : d.sound c t) where
  warm_block : (us : List UnitValue) (v : UnitValue) → BeginsIndependent (us ++ v ∷ []) → d.warm c ≤ length us → d.emit c (after d c s us) v ≡ d.emit c (after d c t us) v
  warm_block us v b w =
      let l : d.warm c < length (us ++ v ∷ []) = omega (arith, length-append us (v ∷ [])) in
      let e = warms.block c s t (us ++ v ∷ []) fine s_sound t_sound b l in
      let p = last_block-out d c s us v in
      let q = last_block-out d c t us v in
      cc

  -- the blocks that follow, one by one
  pub warm_out : (us vs : List UnitValue) → BeginsIndependent (us ++ vs) → d.warm c ≤ length us → out d c (after d c s us) vs ≡ out d c (after d c t us) vs
  warm_out us [] b w = refl
  warm_out us (v ∷ vs) b w =
      let first = warm_block us v (begins_shorter us vs v b) w in
      let l : d.warm c ≤ length (us ++ v ∷ []) = omega (arith, length-append us (v ∷ [])) in
      let rest = warm_out (us ++ v ∷ []) vs (rw (append_assoc us (v ∷ []) vs) b) l in
      let p : out d c (d.next c (after d c s us) v) vs ≡ out d c (d.next c (after d c t us) v) vs =
      ap (λ x. out d c x vs) (sym (after-append d c s us (v ∷ []))) ∙ (rest ∙ ap (λ x. out d c x vs) (after-append d c t us (v ∷ []))) in
      cc

  -- and what is drained behind them
  pub warm_drain : (us vs : List UnitValue) (v : UnitValue) → BeginsIndependent (us ++ v ∷ []) → d.warm c ≤ length us → d.drain c (after d c (after d c s us) (v ∷ vs)) ≡ d.drain c (after d c (after d c t us) (v ∷ vs))
  warm_drain us vs v b w =
      let l : d.warm c < length (us ++ v ∷ vs) = omega (arith, length-append us (v ∷ vs)) in
      ap (d.drain c) (sym (after-append d c s us (v ∷ vs)))
      ∙ (warms.rest c s t (us ++ v ∷ vs) fine s_sound t_sound (begins_longer us vs v b) l
      ∙ ap (d.drain c) (after-append d c t us (v ∷ vs)))
