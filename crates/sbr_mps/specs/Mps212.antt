-- The settings of MPEG Surround 2-1-2 (ISO/IEC 23003-3, Mps212Config).
use Rattle.std.specs.Prelude.{◌≡◌, ℕ, ◌<◌, Bool, List, is_some, ◌==◌, ◌||◌}
use Rattle.layout.specs.Layout.{Layout, both, shaped, where_set, FitsOption}
use Rattle.bit_core.specs.declared.faults.Short.{Short}
use Rattle.bit_core.specs.Plain.{bits, bit}
use Rattle.sbr_mps.specs.declared.mps.Mps212.{Mps212}
use Rattle.sbr_mps.specs.declared.mps.Residual.{Residual}

pub record IsResidualWellFormed (v : Residual) : Type 0 where
  pub bands : v.bands < 32

-- Each number fits in its bits, and bsEnvQuantMode is there exactly where bsTempShapeConfig is 2.
pub record IsWellFormed (v : Mps212) : Type 0 where
  pub freq_res : v.freq_res < 8
  pub fixed_gain : v.fixed_gain < 8
  pub temp_shape : v.temp_shape < 4
  pub decorr : v.decorr < 4
  pub ott_phase : FitsOption (λ p. p < 32) v.ott_phase
  pub residual : FitsOption IsResidualWellFormed v.residual
  pub env_quant : is_some v.env_quant ≡ (v.temp_shape == 2)

-- whether the residual fields are there, by stereoConfigIndex
abbrev pub has_residual : ℕ → Bool
has_residual stereo = (stereo == 2) || (stereo == 3)

-- bsResidualBands, bsPseudoLr
abbrev pub residual : Layout Residual Short
residual = shaped (λ v. (v.bands, v.pseudo_lr)) (λ (bands, pseudo_lr). record { bands = bands; pseudo_lr = pseudo_lr }) (both (bits 5) (λ _. bit))

-- The fields behind a stereoConfigIndex: bsFreqRes, bsFixedGainDMX, bsTempShapeConfig, bsDecorrConfig, bsHighRateMode,
-- bsPhaseCoding, bsOttBandsPhasePresent, bsOttBandsPhase, the residual fields, bsEnvQuantMode
abbrev pub fields : ℕ → Layout Mps212 Short
fields stereo = shaped
    (λ v. (v.freq_res, (v.fixed_gain, (v.temp_shape, (v.decorr, (v.high_rate, (v.phase_coding, (is_some v.ott_phase, (v.ott_phase, (v.residual, v.env_quant))))))))))
    (λ (freq_res, (fixed_gain, (temp_shape, (decorr, (high_rate, (phase_coding, (_, (ott_phase, (residual, env_quant))))))))). record {
      freq_res = freq_res;
      fixed_gain = fixed_gain;
      temp_shape = temp_shape;
      decorr = decorr;
      high_rate = high_rate;
      phase_coding = phase_coding;
      ott_phase = ott_phase;
      residual = residual;
      env_quant = env_quant;
    })
    (both (bits 3) (λ _. both (bits 3) (λ _. both (bits 2) (λ temp_shape. both (bits 2) (λ _. both bit (λ _. both bit (λ _. both bit (λ has_phase.
    both (where_set has_phase (bits 5)) (λ _. both (where_set (has_residual stereo) residual) (λ _. where_set (temp_shape == 2) bit))))))))))

-- The spelling of settings. It tells by itself which parts are there, and is the same behind each index.
abbrev pub mps212_text : Mps212 → List Bool
mps212_text = let L = fields 0 in L.spelling

-- the well formed settings behind a stereoConfigIndex, in these fields
abbrev pub mps212 : ℕ → Layout Mps212 Short
mps212 stereo = record {
  Fits = λ v. IsWellFormed v × (is_some v.residual ≡ has_residual stereo);
  spelling = mps212_text;
  Faults = let L = fields stereo in L.Faults;
  read = let L = fields stereo in L.read;
}
