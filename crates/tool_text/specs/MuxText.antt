-- The line of a StreamMuxConfig (ISO/IEC 14496-3), and the lines of its configuration behind it.
use Rattle.std.specs.Prelude.{ℕ, ◌+◌, List, [], ◌∷◌, Option, Some, None, codes, decimal}
use Rattle.latm.specs.declared.mux_config.MuxConfig.{MuxConfig}
use Rattle.latm.specs.declared.other_length.OtherLength.{OtherLength}
use Rattle.latm.specs.declared.other_length.OtherLength.TheVariants.{Pairs, Value}
use Rattle.tool_text.specs.Parts.{◌&◌, dash, number_or_dash, hex_or_dash}
use Rattle.tool_text.specs.ConfigurationText.{lines_of}

-- otherDataLenBits, where otherDataPresent says that it is there
abbrev pub other_of : Option OtherLength → Option ℕ
other_of None = None
other_of (Some (Pairs count bits)) = Some bits
other_of (Some (Value v)) = Some v.value

-- crcCheckSum in two hex digits, where crcCheckPresent says that it is there
abbrev pub crc_text : Option ℕ → List ℕ
crc_text None = dash
crc_text (Some c) = hex_or_dash (c ∷ [])

-- audioMuxVersion, the number of slots, which is one more than numSubFrames, latmBufferFullness, the number of bits of other
-- data, and the sum
abbrev pub mux_line : MuxConfig → List ℕ
mux_line m = codes "mux version=" & decimal m.version & codes " subframes=" & decimal (m.sub_frames + 1)
    & codes " fullness=" & decimal m.fullness & codes " other=" & number_or_dash (other_of m.other)
    & codes " crc=" & crc_text m.crc & codes "\n"

-- that line, and behind it all lines of the configuration
abbrev pub lines_of_mux : MuxConfig → List (List ℕ)
lines_of_mux m = mux_line m ∷ lines_of m.asc
