-- How a configuration is spelled, field by field (ISO/IEC 23003-3, UsacConfig).
use Rattle.std.specs.Prelude.{ℕ, ◌+◌, ◌-◌, Bool, true, false, List, [], length, Option, Some, None, nat_lt, ◌==◌, if◌then◌else◌}
use Rattle.layout.specs.Layout.{Layout, both, shaped, with_fits, checked, known}
use Rattle.layout.specs.Times.{times}
use Rattle.bit_core.specs.Plain.{number}
use Rattle.esc_value.specs.Escaped.{escaped_value}
use Rattle.usac_cfg.specs.declared.usac_config.UsacConfig.{UsacConfig}
use Rattle.usac_cfg.specs.declared.element_config.ElementConfig.{ElementConfig}
use Rattle.usac_cfg.specs.declared.faults.CfgFault.{CfgFault}
use Rattle.usac_cfg.specs.declared.faults.CfgFault.TheVariants as faults
use Rattle.usac_cfg.specs.Faults.{from_short}
use Rattle.usac_cfg.specs.ElementConfig.{element}
use Rattle.usac_cfg.specs.ConfigExtension.{extensions}
use Rattle.usac_cfg.specs.UsacConfig.{IsWellFormed, is_rate, is_frame, is_channels, has_sbr}

-- which values are refused, and why
abbrev pub rate_refused : ℕ → Option (ℕ → CfgFault)
rate_refused n = if is_rate n then None else Some (λ at. faults.RateReserved at)

abbrev pub zero_refused : ℕ → Option (ℕ → CfgFault)
zero_refused n = if n == 0 then Some (λ at. faults.RateZero at) else None

abbrev pub frame_refused : ℕ → Option (ℕ → CfgFault)
frame_refused n = if is_frame n then None else Some (λ at. faults.FrameReserved at)

abbrev pub channel_refused : ℕ → Option (ℕ → CfgFault)
channel_refused n = if is_channels n then None else Some (λ at. faults.ChannelReserved at)

abbrev pub count_refused : ℕ → Option (ℕ → CfgFault)
count_refused n = if n == 0 then Some (λ at. faults.NoChannels at) else if nat_lt 64 n then Some (λ at. faults.TooManyChannels at) else None

-- one less than the number of elements
abbrev pub elements_refused : ℕ → Option (ℕ → CfgFault)
elements_refused n = if nat_lt 63 n then Some (λ at. faults.TooManyElements at) else None

-- usacSamplingFrequencyIndex
abbrev pub rate : Layout ℕ CfgFault
rate = checked rate_refused (number from_short 5)

-- usacSamplingFrequency, where the index says so; else 0 and no bits
abbrev pub explicit : Bool → Layout ℕ CfgFault
explicit true = checked zero_refused (number from_short 24)
explicit false = known 0

-- coreSbrFrameLengthIndex
abbrev pub frame : Layout ℕ CfgFault
frame = checked frame_refused (number from_short 3)

-- channelConfigurationIndex
abbrev pub channel : Layout ℕ CfgFault
channel = checked channel_refused (number from_short 5)

-- UsacChannelConfig, where the index says so: numOutChannels, and bsOutputChannelPos for each; else none
abbrev pub positions : Bool → Layout (List ℕ) CfgFault
positions true = shaped (λ ps. (length ps, ps)) (λ x. x.1) (both (checked count_refused (escaped_value from_short 5 8 16)) (λ n. times n (number from_short 5)))
positions false = known []

-- UsacDecoderConfig: numElements, less one, and each element
abbrev pub elements : Bool → Layout (List ElementConfig) CfgFault
elements sbr = shaped (λ es. (length es - 1, es)) (λ x. x.1) (both (checked elements_refused (escaped_value from_short 4 8 16)) (λ n. times (n + 1) (element sbr)))

abbrev pub fields : Layout UsacConfig CfgFault
fields = shaped
    (λ v. (v.rate_index, (v.rate_explicit, (v.frame_index, (v.channel_index, (v.positions, (v.elements, v.extensions)))))))
    (λ (rate_index, (rate_explicit, (frame_index, (channel_index, (positions, (elements, extensions)))))). record {
      rate_index = rate_index;
      rate_explicit = rate_explicit;
      frame_index = frame_index;
      channel_index = channel_index;
      positions = positions;
      elements = elements;
      extensions = extensions;
    })
    (both rate (λ index. both (explicit (index == 31)) (λ _. both frame (λ frame_index. both channel (λ channel_index.
    both (positions (channel_index == 0)) (λ _. both (elements (has_sbr frame_index)) (λ _. extensions)))))))

-- The well formed configurations, in these fields.
abbrev pub usac_config : Layout UsacConfig CfgFault
usac_config = with_fits IsWellFormed fields
