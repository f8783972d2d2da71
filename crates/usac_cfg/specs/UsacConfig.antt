-- A configuration (ISO/IEC 23003-3, UsacConfig), and what its fields stand for.
use Rattle.std.specs.Prelude.{◌≡◌, ℕ, ◌+◌, ◌*◌, ◌^◌, ◌<◌, ◌≤◌, Bool, true, false, List, [], ◌∷◌, Option, Some, None, length, slice_get, nat_lt, is_some, unwrap_or, ◌==◌, ◌||◌, if◌then◌else◌}
use Rattle.std.specs.Option.{option_map_or, option_or}
use Rattle.std.specs.List.{AllByRecursion}
use Rattle.tables.specs.Tables.{rates, frames, channels as channel_table, at_index}
use Rattle.tables.specs.declared.frame.FrameShape.{FrameShape}
use Rattle.usac_cfg.specs.declared.usac_config.UsacConfig.{UsacConfig}
use Rattle.usac_cfg.specs.declared.config_extension.ConfigExt.{ConfigExt}
use Rattle.usac_cfg.specs.declared.element_config.ElementConfig.{ElementConfig}
use Rattle.usac_cfg.specs.declared.element_config.ElementConfig.TheVariants.{Single, Pair, Lfe, Ext}
use Rattle.usac_cfg.specs.ConfigExtension.{IsWellFormed as IsExtensionWellFormed}
use Rattle.usac_cfg.specs.ElementConfig.{IsWellFormed as IsElementWellFormed}

-- usacSamplingFrequencyIndex names a frequency, or says that one follows.
abbrev pub is_rate : ℕ → Bool
is_rate index = is_some (at_index rates index) || index == 31

-- coreSbrFrameLengthIndex is not reserved.
abbrev pub is_frame : ℕ → Bool
is_frame index = is_some (at_index frames index)

-- channelConfigurationIndex names a number of channels, or says that UsacChannelConfig follows.
abbrev pub is_channels : ℕ → Bool
is_channels index = is_some (at_index channel_table index) || index == 0

-- the lengths of a frame and sbrRatioIndex, by coreSbrFrameLengthIndex
abbrev pub shape_at : ℕ → FrameShape
shape_at index = unwrap_or (at_index frames index) (record { core = 0; ratio = 0; output = 0 })

-- whether a configuration with this coreSbrFrameLengthIndex has SBR: sbrRatioIndex is not 0
abbrev pub has_sbr : ℕ → Bool
has_sbr index = nat_lt 0 (shape_at index).ratio

-- usacSamplingFrequency: from 1 to 2^24 - 1 where it is there, and 0 elsewhere
abbrev pub IsExplicit : Bool → ℕ → Type 0
IsExplicit true rate = (1 ≤ rate) × (rate < 2 ^ 24)
IsExplicit false rate = rate ≡ 0

-- bsOutputChannelPos: from 1 to 64 positions of 5 bits where they are there, and none elsewhere
abbrev pub ArePositions : Bool → List ℕ → Type 0
ArePositions true positions = (1 ≤ length positions) × (length positions ≤ 64) × AllByRecursion (λ p. p < 32) positions
ArePositions false positions = positions ≡ []

-- No index is reserved, and what depends on one alone is there exactly where it says so.
pub record HasIndices (c : UsacConfig) : Type 0 where
  pub rate : is_rate c.rate_index ≡ true
  pub explicit : IsExplicit (c.rate_index == 31) c.rate_explicit
  pub frame : is_frame c.frame_index ≡ true
  pub channel : is_channels c.channel_index ≡ true
  pub positions : ArePositions (c.channel_index == 0) c.positions

-- There are from 1 to 64 elements and at most 274 extensions, and all of them are well formed.
pub record HasLists (c : UsacConfig) : Type 0 where
  pub some : 1 ≤ length c.elements
  pub few : length c.elements ≤ 64
  pub elements : AllByRecursion (IsElementWellFormed (has_sbr c.frame_index)) c.elements
  pub few_extensions : length c.extensions ≤ 274
  pub extensions : AllByRecursion IsExtensionWellFormed c.extensions

-- Every field fits its bits, no index is reserved, and what depends on an index is there exactly where it says so.
pub record IsWellFormed (c : UsacConfig) : Type 0 where
  pub indices : HasIndices c
  pub lists : HasLists c

-- the rate of the decoder's output, in Hz
abbrev pub rate : UsacConfig → ℕ
rate c = if c.rate_index == 31 then c.rate_explicit else unwrap_or (at_index rates c.rate_index) 0

-- sbrRatioIndex: 0 without SBR, 1 for 4:1, 2 for 8:3, 3 for 2:1
abbrev pub ratio : UsacConfig → ℕ
ratio c = (shape_at c.frame_index).ratio

-- the samples of a frame and a channel at the decoder's output
abbrev pub frame_length : UsacConfig → ℕ
frame_length c = (shape_at c.frame_index).output

-- the number of output channels
abbrev pub channels : UsacConfig → ℕ
channels c = if c.channel_index == 0 then length c.positions else unwrap_or (at_index channel_table c.channel_index) 0

-- a number of two bytes
abbrev pub of_two_bytes : List ℕ → Option ℕ
of_two_bytes [] = None
of_two_bytes (high ∷ []) = None
of_two_bytes (high ∷ (low ∷ [])) = Some (256 * high + low)
of_two_bytes (high ∷ (low ∷ (more ∷ bytes))) = None

-- the identifier that an extension has: its type is 7 (ID_CONFIG_EXT_STREAM_ID), and it has two bytes
abbrev pub id_of : ConfigExt → Option ℕ
id_of v = if v.kind == 7 then of_two_bytes v.bytes else None

-- the first one that an extension has
abbrev pub first_id : List ConfigExt → Option ℕ
first_id [] = None
first_id (v ∷ vs) = option_or (id_of v) (first_id vs)

-- the identifier of the stream
abbrev pub stream_id : UsacConfig → Option ℕ
stream_id c = first_id c.extensions

-- an extension element of type 3 (ID_EXT_ELE_AUDIOPREROLL)
abbrev pub is_preroll : ElementConfig → Bool
is_preroll (Single core s) = false
is_preroll (Pair core s n m) = false
is_preroll Lfe = false
is_preroll (Ext e) = e.kind == 3

-- whether element 0 is a preroll
abbrev pub declares_preroll : UsacConfig → Bool
declares_preroll c = option_map_or is_preroll (slice_get c.elements 0) false

-- how many extension elements stand before the first other element
abbrev pub leading_of : List ElementConfig → ℕ
leading_of [] = 0
leading_of (Single core s ∷ es) = 0
leading_of (Pair core s n m ∷ es) = 0
leading_of (Lfe ∷ es) = 0
leading_of (Ext e ∷ es) = 1 + leading_of es

abbrev pub leading : UsacConfig → ℕ
leading c = leading_of c.elements
