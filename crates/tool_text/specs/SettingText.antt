-- The lines of the settings of an element (ISO/IEC 23003-3, SbrConfig and Mps212Config).
use Rattle.std.specs.Prelude.{ℕ, List, Option, Some, None, codes, decimal}
use Rattle.sbr_mps.specs.declared.sbr.SbrConfig.{SbrConfig}
use Rattle.sbr_mps.specs.declared.sbr.SbrFreq.{SbrFreq}
use Rattle.sbr_mps.specs.declared.sbr.SbrLimit.{SbrLimit}
use Rattle.sbr_mps.specs.declared.mps.Mps212.{Mps212}
use Rattle.sbr_mps.specs.declared.mps.Residual.{Residual}
use Rattle.tool_text.specs.Parts.{◌&◌, dash, truth, number_or_dash, truth_or_dash}

-- dflt_freq_scale, dflt_alter_scale, dflt_noise_bands; one dash where they are absent
abbrev pub freq_text : Option SbrFreq → List ℕ
freq_text None = dash
freq_text (Some v) = decimal v.scale & codes "," & truth v.alter & codes "," & decimal v.noise_bands

-- dflt_limiter_bands, dflt_limiter_gains, dflt_interpol_freq, dflt_smoothing_mode; one dash where they are absent
abbrev pub limit_text : Option SbrLimit → List ℕ
limit_text None = dash
limit_text (Some v) = decimal v.bands & codes "," & decimal v.gains & codes "," & truth v.interpol & codes "," & truth v.smoothing

-- harmonicSBR, bs_interTes, bs_pvc
abbrev pub tools_text : SbrConfig → List ℕ
tools_text v = codes "harmonic=" & truth v.harmonic & codes " tes=" & truth v.inter_tes & codes " pvc=" & truth v.pvc

-- the tools, dflt_start_freq, dflt_stop_freq, and the parts that dflt_header_extra1 and dflt_header_extra2 announce
abbrev pub sbr_line : SbrConfig → List ℕ
sbr_line v = codes "sbr " & tools_text v & codes " start=" & decimal v.start & codes " stop=" & decimal v.stop
    & codes " extra1=" & freq_text v.extra1 & codes " extra2=" & limit_text v.extra2 & codes "\n"

-- bsResidualBands, bsPseudoLr; one dash where they are absent
abbrev pub residual_text : Option Residual → List ℕ
residual_text None = dash
residual_text (Some v) = decimal v.bands & codes "," & truth v.pseudo_lr

-- what is always there: bsFreqRes, bsFixedGainDMX, bsTempShapeConfig, bsDecorrConfig, bsHighRateMode, bsPhaseCoding
abbrev pub fixed_text : Mps212 → List ℕ
fixed_text v = codes "freq=" & decimal v.freq_res & codes " gain=" & decimal v.fixed_gain & codes " shape=" & decimal v.temp_shape
    & codes " decorr=" & decimal v.decorr & codes " high=" & truth v.high_rate & codes " phase=" & truth v.phase_coding

-- that, and what may be absent: bsOttBandsPhase, the residual, bsEnvQuantMode
abbrev pub mps_line : Mps212 → List ℕ
mps_line v = codes "mps " & fixed_text v & codes " ott=" & number_or_dash v.ott_phase
    & codes " residual=" & residual_text v.residual & codes " quant=" & truth_or_dash v.env_quant & codes "\n"
