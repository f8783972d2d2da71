-- The tables of ISO/IEC 23003-3 that a UsacConfig points into, each from its index 0 on. An index that is reserved, or that
-- stands for something else, is None; and so is each one behind the end.
use Rattle.std.specs.Prelude.{ℕ, List, [], ◌∷◌, Some, None, get_or}
use Rattle.std.specs.declared.option.Option.{Option}
use Rattle.tables.specs.declared.frame.FrameShape.{FrameShape}

-- what stands in a table at an index
abbrev pub at_index : {A : Type 0} → List (Option A) → ℕ → Option A
at_index table index = get_or table index None

-- usacSamplingFrequencyIndex: the sampling frequency of the decoder's output, in Hz; 13, 14 and 28 to 30 are reserved, and 31
-- says that a frequency follows
abbrev pub rates : List (Option ℕ)
rates =
    Some 96000 ∷ Some 88200 ∷ Some 64000 ∷ Some 48000 ∷ Some 44100 ∷ Some 32000 ∷ Some 24000 ∷
    Some 22050 ∷ Some 16000 ∷ Some 12000 ∷ Some 11025 ∷ Some 8000 ∷ Some 7350 ∷
    None ∷ None ∷
    Some 57600 ∷ Some 51200 ∷ Some 40000 ∷ Some 38400 ∷ Some 34150 ∷ Some 28800 ∷
    Some 25600 ∷ Some 20000 ∷ Some 19200 ∷ Some 17075 ∷ Some 14400 ∷ Some 12800 ∷ Some 9600 ∷ []

-- coreSbrFrameLengthIndex: the samples of a frame and a channel in the core and in the output, and sbrRatioIndex; 5 to 7 are
-- reserved
abbrev pub frames : List (Option FrameShape)
frames =
    Some (record { core = 768; ratio = 0; output = 768 }) ∷
    Some (record { core = 1024; ratio = 0; output = 1024 }) ∷
    Some (record { core = 768; ratio = 2; output = 2048 }) ∷
    Some (record { core = 1024; ratio = 3; output = 2048 }) ∷
    Some (record { core = 1024; ratio = 1; output = 4096 }) ∷ []

-- channelConfigurationIndex: the number of output channels; 0 says that UsacChannelConfig follows, and 14 to 31 are refused
abbrev pub channels : List (Option ℕ)
channels =
    None ∷
    Some 1 ∷ Some 2 ∷ Some 3 ∷ Some 4 ∷ Some 5 ∷ Some 6 ∷ Some 8 ∷
    Some 2 ∷ Some 3 ∷ Some 4 ∷ Some 7 ∷ Some 8 ∷ Some 24 ∷ []
