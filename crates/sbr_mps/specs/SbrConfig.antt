-- The settings of spectral band replication (ISO/IEC 23003-3, SbrConfig).
use Rattle.std.specs.Prelude.{◌<◌, is_some}
use Rattle.layout.specs.Layout.{Layout, both, shaped, where_set, with_fits, FitsOption}
use Rattle.bit_core.specs.declared.faults.Short.{Short}
use Rattle.bit_core.specs.Plain.{bits, bit}
use Rattle.sbr_mps.specs.declared.sbr.SbrConfig.{SbrConfig}
use Rattle.sbr_mps.specs.declared.sbr.SbrFreq.{SbrFreq}
use Rattle.sbr_mps.specs.declared.sbr.SbrLimit.{SbrLimit}

-- each number fits in its bits
pub record IsFreqWellFormed (v : SbrFreq) : Type 0 where
  pub scale : v.scale < 4
  pub noise_bands : v.noise_bands < 4

pub record IsLimitWellFormed (v : SbrLimit) : Type 0 where
  pub bands : v.bands < 4
  pub gains : v.gains < 4

pub record IsWellFormed (v : SbrConfig) : Type 0 where
  pub start : v.start < 16
  pub stop : v.stop < 16
  pub extra1 : FitsOption IsFreqWellFormed v.extra1
  pub extra2 : FitsOption IsLimitWellFormed v.extra2

-- dflt_freq_scale, dflt_alter_scale, dflt_noise_bands
abbrev pub freq : Layout SbrFreq Short
freq = shaped
    (λ v. (v.scale, (v.alter, v.noise_bands)))
    (λ (scale, (alter, noise_bands)). record { scale = scale; alter = alter; noise_bands = noise_bands })
    (both (bits 2) (λ _. both bit (λ _. bits 2)))

-- dflt_limiter_bands, dflt_limiter_gains, dflt_interpol_freq, dflt_smoothing_mode
abbrev pub limit : Layout SbrLimit Short
limit = shaped
    (λ v. (v.bands, (v.gains, (v.interpol, v.smoothing))))
    (λ (bands, (gains, (interpol, smoothing))). record { bands = bands; gains = gains; interpol = interpol; smoothing = smoothing })
    (both (bits 2) (λ _. both (bits 2) (λ _. both bit (λ _. bit))))

-- harmonicSBR, bs_interTes, bs_pvc, dflt_start_freq, dflt_stop_freq, dflt_header_extra1, dflt_header_extra2, and the
-- parts that these two announce
abbrev pub fields : Layout SbrConfig Short
fields = shaped
    (λ v. (v.harmonic, (v.inter_tes, (v.pvc, (v.start, (v.stop, (is_some v.extra1, (is_some v.extra2, (v.extra1, v.extra2)))))))))
    (λ (harmonic, (inter_tes, (pvc, (start, (stop, (_, (_, (extra1, extra2)))))))). record {
      harmonic = harmonic;
      inter_tes = inter_tes;
      pvc = pvc;
      start = start;
      stop = stop;
      extra1 = extra1;
      extra2 = extra2;
    })
    (both bit (λ _. both bit (λ _. both bit (λ _. both (bits 4) (λ _. both (bits 4) (λ _. both bit (λ has_freq. both bit (λ has_limit.
    both (where_set has_freq freq) (λ _. where_set has_limit limit)))))))))

-- the well formed settings, in these fields
abbrev pub sbr_config : Layout SbrConfig Short
sbr_config = with_fits IsWellFormed fields
