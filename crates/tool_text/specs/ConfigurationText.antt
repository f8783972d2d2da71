-- The lines of a configuration, each with its line feed.
use Rattle.std.specs.Prelude.{ℕ, ◌+◌, List, [], ◌∷◌, ◌++◌, Option, Some, None, length, codes, decimal, ◌==◌, if◌then◌else◌}
use Rattle.usac_cfg.specs.declared.usac_config.UsacConfig.{UsacConfig}
use Rattle.usac_cfg.specs.declared.config_extension.ConfigExt.{ConfigExt}
use Rattle.usac_cfg.specs.UsacConfig.{rate, frame_length, channels, stream_id}
use Rattle.asc.specs.declared.asc_config.Asc.{Asc}
use Rattle.tool_text.specs.Parts.{◌&◌, number_or_dash, hex_or_dash, joined}
use Rattle.tool_text.specs.ElementText.{elements_from}

-- samplingFrequency, where samplingFrequencyIndex says that it is there
abbrev pub explicit_of : Asc → Option ℕ
explicit_of v = if v.index == 15 then Some v.explicit_rate else None

-- AudioSpecificConfig (ISO/IEC 14496-3): samplingFrequencyIndex, samplingFrequency, channelConfiguration, the number of tail bits
abbrev pub asc_line : Asc → List ℕ
asc_line v = codes "asc index=" & decimal v.index & codes " rate=" & number_or_dash (explicit_of v)
    & codes " channels=" & decimal v.channels & codes " tail=" & decimal (length v.tail) & codes "\n"

-- the rate of the output, the length of its frames, and its channels
abbrev pub output_text : UsacConfig → List ℕ
output_text c = codes "rate=" & decimal (rate c) & codes " frame=" & decimal (frame_length c) & codes " channels=" & decimal (channels c)

-- UsacConfig (ISO/IEC 23003-3): its output, how many elements and extensions it has, and the identifier of the stream
abbrev pub usac_line : UsacConfig → List ℕ
usac_line c = codes "usac " & output_text c & codes " elements=" & decimal (length c.elements)
    & codes " extensions=" & decimal (length c.extensions) & codes " id=" & number_or_dash (stream_id c) & codes "\n"

-- bsOutputChannelPos of each channel
abbrev pub positions_line : List ℕ → List ℕ
positions_line ps = codes "positions " & joined ps & codes "\n"

-- that line where channelConfigurationIndex is 0
abbrev pub positions_lines : UsacConfig → List (List ℕ)
positions_lines c = if c.channel_index == 0 then positions_line c.positions ∷ [] else []

-- usacConfigExtType, and the bytes
abbrev pub extension_line : ℕ → ConfigExt → List ℕ
extension_line i v = codes "extension " & decimal i & codes " type=" & decimal v.kind & codes " bytes=" & hex_or_dash v.bytes & codes "\n"

-- the lines of extensions, the first of which has the number i
abbrev pub extensions_from : ℕ → List ConfigExt → List (List ℕ)
extensions_from i [] = []
extensions_from i (v ∷ vs) = extension_line i v ∷ extensions_from (i + 1) vs

-- the lines of a UsacConfig, in their order
abbrev pub usac_lines : UsacConfig → List (List ℕ)
usac_lines c = usac_line c ∷ (positions_lines c ++ (elements_from 0 c.elements ++ extensions_from 0 c.extensions))

-- all lines, in their order
abbrev pub lines_of : Asc → List (List ℕ)
lines_of v = asc_line v ∷ usac_lines v.usac
