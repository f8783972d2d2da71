-- The settings of a core (ISO/IEC 23003-3, UsacCoreConfig). Each of its values is well formed.
use Rattle.layout.specs.Layout.{Layout, both, shaped}
use Rattle.bit_core.specs.declared.faults.Short.{Short}
use Rattle.bit_core.specs.Plain.{bit}
use Rattle.sbr_mps.specs.declared.core_config.CoreConfig.{CoreConfig}

-- tw_mdct, noiseFilling
abbrev pub core_config : Layout CoreConfig Short
core_config = shaped (λ v. (v.tw_mdct, v.noise_filling)) (λ (tw_mdct, noise_filling). record { tw_mdct = tw_mdct; noise_filling = noise_filling })
    (both bit (λ _. bit))
