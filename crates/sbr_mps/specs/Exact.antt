-- The settings are read exactly.
use Rattle.std.proofs.Common.{ℕ, ◌<◌, Bool, Option, Some, None, refl}
use Rattle.std.specs.Prelude.{◌==◌}
use Rattle.layout.specs.Layout.{FitsOption}
use Rattle.layout.specs.Exact.{IsExact}
use Rattle.layout.proofs.Layouts.{both-exact, shaped-exact, where_set-exact, same-exact}
use Rattle.bit_core.specs.Plain.{bits, bit}
use Rattle.bit_core.proofs.PlainFacts.{bits-exact, bit-exact}
use Rattle.sbr_mps.specs.declared.sbr.SbrConfig.{SbrConfig}
use Rattle.sbr_mps.specs.declared.sbr.SbrFreq.{SbrFreq}
use Rattle.sbr_mps.specs.declared.sbr.SbrLimit.{SbrLimit}
use Rattle.sbr_mps.specs.declared.mps.Mps212.{Mps212}
use Rattle.sbr_mps.specs.declared.mps.Residual.{Residual}
use Rattle.sbr_mps.specs.CoreConfig.{core_config}
use Rattle.sbr_mps.specs.SbrConfig as sbr
use Rattle.sbr_mps.specs.Mps212 as mps

pub core_config_exact : IsExact core_config
core_config_exact = shaped-exact _ _ _ (both-exact _ _ bit-exact (λ _. bit-exact)) (λ a h. refl) (λ b h. refl)

freq-exact : IsExact sbr.freq
freq-exact = shaped-exact _ _ _ (both-exact _ _ (bits-exact 2) (λ _. both-exact _ _ bit-exact (λ _. bits-exact 2))) (λ a h. refl) (λ b h. refl)

limit-exact : IsExact sbr.limit
limit-exact = shaped-exact _ _ _ (both-exact _ _ (bits-exact 2) (λ _. both-exact _ _ (bits-exact 2) (λ _. both-exact _ _ bit-exact (λ _. bit-exact)))) (λ a h. refl) (λ b h. refl)

sbr_fields-exact : IsExact sbr.fields
sbr_fields-exact = shaped-exact _ _ _ (
    both-exact _ _ bit-exact (λ _. both-exact _ _ bit-exact (λ _. both-exact _ _ bit-exact (λ _. both-exact _ _ (bits-exact 4) (λ _. both-exact _ _ (bits-exact 4) (λ _.
    both-exact _ _ bit-exact (λ has_freq. both-exact _ _ bit-exact (λ has_limit. both-exact _ _ (where_set-exact has_freq sbr.freq freq-exact) (λ _. where_set-exact has_limit sbr.limit limit-exact)))))))))
    (λ a h. let t = h.1.1.1.1.1.1.1 in rw (t.0.0, t.1.0) refl) (λ b h. refl)

freq_fits : (o : Option SbrFreq) → FitsOption sbr.IsFreqWellFormed o → FitsOption sbr.freq.Fits o
freq_fits None h = tt
freq_fits (Some v) h = ((h.scale, refl), ((tt, refl), (h.noise_bands, refl)))

freq_well : (o : Option SbrFreq) → FitsOption sbr.freq.Fits o → FitsOption sbr.IsFreqWellFormed o
freq_well None h = tt
freq_well (Some v) h = record { scale = h.0.0; noise_bands = h.1.1.0 }

limit_fits : (o : Option SbrLimit) → FitsOption sbr.IsLimitWellFormed o → FitsOption sbr.limit.Fits o
limit_fits None h = tt
limit_fits (Some v) h = ((h.bands, refl), ((h.gains, refl), ((tt, refl), (tt, refl))))

limit_well : (o : Option SbrLimit) → FitsOption sbr.limit.Fits o → FitsOption sbr.IsLimitWellFormed o
limit_well None h = tt
limit_well (Some v) h = record { bands = h.0.0; gains = h.1.0.0 }

sbr_fits : (v : SbrConfig) → sbr.IsWellFormed v → sbr.fields.Fits v
sbr_fits v w = ((tt, refl), ((tt, refl), ((tt, refl), ((w.start, refl), ((w.stop, refl), ((tt, refl), ((tt, refl), ((refl, freq_fits v.extra1 w.extra1), (refl, limit_fits v.extra2 w.extra2)))))))))

sbr_well : (v : SbrConfig) → sbr.fields.Fits v → sbr.IsWellFormed v
sbr_well v h =
    let t = h.1.1.1.1.1.1.1 in
    record { start = h.1.1.1.0.0; stop = h.1.1.1.1.0.0; extra1 = freq_well v.extra1 t.0.1; extra2 = limit_well v.extra2 t.1.1 }

pub sbr_config_exact : IsExact sbr.sbr_config
sbr_config_exact = same-exact sbr.fields sbr.sbr_config sbr_fields-exact (λ v w. (sbr_fits v w, refl)) (λ v h. (sbr_well v h, refl)) (λ r. refl) (λ at f t bad. bad) (λ at f t bad. bad)

residual-exact : IsExact mps.residual
residual-exact = shaped-exact _ _ _ (both-exact _ _ (bits-exact 5) (λ _. bit-exact)) (λ a h. refl) (λ b h. refl)

mps_fields-exact : (stereo : ℕ) → IsExact (mps.fields stereo)
mps_fields-exact stereo = shaped-exact _ _ _ (
    both-exact _ _ (bits-exact 3) (λ _. both-exact _ _ (bits-exact 3) (λ _. both-exact _ _ (bits-exact 2) (λ temp_shape. both-exact _ _ (bits-exact 2) (λ _. both-exact _ _ bit-exact (λ _. both-exact _ _ bit-exact (λ _. both-exact _ _ bit-exact (λ has_phase.
    both-exact _ _ (where_set-exact has_phase (bits 5) (bits-exact 5)) (λ _. both-exact _ _ (where_set-exact (mps.has_residual stereo) mps.residual residual-exact) (λ _. where_set-exact (temp_shape == 2) bit bit-exact))))))))))
    (λ a h. rw h.1.1.1.1.1.1.1.0.0 refl) (λ b h. refl)

phase_fits : (o : Option ℕ) → FitsOption (λ p. p < 32) o → FitsOption (bits 5).Fits o
phase_fits None h = tt
phase_fits (Some v) h = (h, refl)

phase_well : (o : Option ℕ) → FitsOption (bits 5).Fits o → FitsOption (λ p. p < 32) o
phase_well None h = tt
phase_well (Some v) h = h.0

residual_fits : (o : Option Residual) → FitsOption mps.IsResidualWellFormed o → FitsOption mps.residual.Fits o
residual_fits None h = tt
residual_fits (Some v) h = ((h.bands, refl), (tt, refl))

residual_well : (o : Option Residual) → FitsOption mps.residual.Fits o → FitsOption mps.IsResidualWellFormed o
residual_well None h = tt
residual_well (Some v) h = record { bands = h.0.0 }

quant_fits : (o : Option Bool) → FitsOption bit.Fits o
quant_fits None = tt
quant_fits (Some v) = (tt, refl)

mps_fits : (stereo : ℕ) (v : Mps212) → (mps.mps212 stereo).Fits v → (mps.fields stereo).Fits v
mps_fits stereo v h =
    let w = h.0 in (
      (w.freq_res, refl),
      ((w.fixed_gain, refl), ((w.temp_shape, refl), ((w.decorr, refl), ((tt, refl), ((tt, refl), ((tt, refl), ((refl, phase_fits v.ott_phase w.ott_phase), ((h.1, residual_fits v.residual w.residual), (w.env_quant, quant_fits v.env_quant))))))))),
    )

mps_well : (stereo : ℕ) (v : Mps212) → (mps.fields stereo).Fits v → (mps.mps212 stereo).Fits v
mps_well stereo v h =
    let t = h.1.1.1.1.1.1.1 in (
      record {
        freq_res = h.0.0;
        fixed_gain = h.1.0.0;
        temp_shape = h.1.1.0.0;
        decorr = h.1.1.1.0.0;
        ott_phase = phase_well v.ott_phase t.0.1;
        residual = residual_well v.residual t.1.0.1;
        env_quant = t.1.1.0;
      },
      t.1.0.0,
    )

pub mps212_exact : (stereo : ℕ) → IsExact (mps.mps212 stereo)
mps212_exact stereo = same-exact (mps.fields stereo) (mps.mps212 stereo) (mps_fields-exact stereo) (λ v w. (mps_fits stereo v w, refl)) (λ v h. (mps_well stereo v h, refl)) (λ r. refl) (λ at f t bad. bad) (λ at f t bad. bad)
