-- The lines of the elements of a configuration (ISO/IEC 23003-3, UsacDecoderConfig), which are counted from 0.
use Rattle.std.specs.Prelude.{ℕ, ◌+◌, List, [], ◌∷◌, ◌++◌, Option, Some, None, codes, decimal, ◌==◌, if◌then◌else◌}
use Rattle.sbr_mps.specs.declared.sbr.SbrConfig.{SbrConfig}
use Rattle.sbr_mps.specs.declared.mps.Mps212.{Mps212}
use Rattle.sbr_mps.specs.declared.core_config.CoreConfig.{CoreConfig}
use Rattle.usac_cfg.specs.declared.element_config.ElementConfig.{ElementConfig}
use Rattle.usac_cfg.specs.declared.element_config.ElementConfig.TheVariants.{Single, Pair, Lfe, Ext}
use Rattle.usac_cfg.specs.declared.extension_element.ExtConfig.{ExtConfig}
use Rattle.tool_text.specs.Parts.{◌&◌, truth, number_or_dash, hex_or_dash}
use Rattle.tool_text.specs.SettingText.{sbr_line, mps_line}

-- tw_mdct, noiseFilling
abbrev pub core_text : CoreConfig → List ℕ
core_text v = codes "tw=" & truth v.tw_mdct & codes " nf=" & truth v.noise_filling

-- usacExtElementDefaultLength, where one is coded: it is never 0
abbrev pub default_of : ExtConfig → Option ℕ
default_of v = if v.default_length == 0 then None else Some v.default_length

abbrev pub ext_text : ExtConfig → List ℕ
ext_text v = codes "type=" & decimal v.kind & codes " default=" & number_or_dash (default_of v)
    & codes " frag=" & truth v.frag & codes " config=" & hex_or_dash v.bytes

-- what the line of an element says behind its number, by the kind of element
abbrev pub element_text : ElementConfig → List ℕ
element_text (Single core s) = codes "single " & core_text core
element_text (Pair core s n m) = codes "pair " & core_text core & codes " stereo=" & decimal n
element_text Lfe = codes "lfe"
element_text (Ext e) = codes "ext " & ext_text e

abbrev pub element_line : ℕ → ElementConfig → List ℕ
element_line i e = codes "element " & decimal i & codes " " & element_text e & codes "\n"

-- the SBR settings that an element has
abbrev pub sbr_of : ElementConfig → Option SbrConfig
sbr_of (Single core s) = s
sbr_of (Pair core s n m) = s
sbr_of Lfe = None
sbr_of (Ext e) = None

-- the MPEG Surround settings that an element has
abbrev pub mps_of : ElementConfig → Option Mps212
mps_of (Single core s) = None
mps_of (Pair core s n m) = m
mps_of Lfe = None
mps_of (Ext e) = None

-- a line where there is something that it is of
abbrev pub line_where : {A : Type 0} → (A → List ℕ) → Option A → List (List ℕ)
line_where line None = []
line_where line (Some v) = line v ∷ []

-- the line of an element, and directly behind it those of its settings
abbrev pub lines_of_element : ℕ → ElementConfig → List (List ℕ)
lines_of_element i e = element_line i e ∷ (line_where sbr_line (sbr_of e) ++ line_where mps_line (mps_of e))

-- the lines of elements, the first of which has the number i
abbrev pub elements_from : ℕ → List ElementConfig → List (List ℕ)
elements_from i [] = []
elements_from i (e ∷ es) = lines_of_element i e ++ elements_from (i + 1) es
