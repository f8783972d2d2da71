-- The configuration of an element (ISO/IEC 23003-3, UsacDecoderConfig and the element configurations that it names).
use Rattle.std.specs.Prelude.{◌≡◌, ℕ, zero, suc, ◌<◌, Bool, true, false, Option, Some, None, is_some, nat_lt}
use Rattle.layout.specs.Layout.{Layout, both, with_fits, wrapped, known, where_set, FitsOption}
use Rattle.layout.specs.Tagged.{tagged, as_variant}
use Rattle.bit_core.specs.declared.faults.Short.{Short}
use Rattle.bit_core.specs.Plain.{bits, number}
use Rattle.sbr_mps.specs.declared.core_config.CoreConfig.{CoreConfig}
use Rattle.sbr_mps.specs.declared.sbr.SbrConfig.{SbrConfig}
use Rattle.sbr_mps.specs.declared.mps.Mps212.{Mps212}
use Rattle.sbr_mps.specs.CoreConfig.{core_config}
use Rattle.sbr_mps.specs.SbrConfig as sbr
use Rattle.sbr_mps.specs.Mps212 as mps
use Rattle.usac_cfg.specs.declared.element_config.ElementConfig.{ElementConfig}
use Rattle.usac_cfg.specs.declared.element_config.ElementConfig.TheVariants.{Single, Pair, Lfe, Ext}
use Rattle.usac_cfg.specs.declared.extension_element.ExtConfig.{ExtConfig}
use Rattle.usac_cfg.specs.declared.faults.CfgFault.{CfgFault}
use Rattle.usac_cfg.specs.Faults.{from_short}
use Rattle.usac_cfg.specs.ExtensionElement.{extension_element, IsWellFormed as IsExtWellFormed}

-- SBR is there exactly where the configuration has it, and is well formed.
abbrev pub HasSbr : Bool → Option SbrConfig → Type 0
HasSbr has_sbr s = (is_some s ≡ has_sbr) × FitsOption sbr.IsWellFormed s

-- The stereo index fits in its bits, and is 0 where there is no SBR.
abbrev pub IsStereo : Bool → ℕ → Type 0
IsStereo true n = n < 4
IsStereo false n = n ≡ 0

-- MPEG Surround is there exactly where the stereo index is not 0, and is well formed, with a residual exactly where the
-- index is 2 or 3.
abbrev pub HasMps : ℕ → Option Mps212 → Type 0
HasMps n m = (is_some m ≡ nat_lt 0 n) × FitsOption (λ v. mps.IsWellFormed v × (is_some v.residual ≡ mps.has_residual n)) m

-- Well formed in a configuration that has SBR or not.
abbrev pub IsWellFormed : Bool → ElementConfig → Type 0
IsWellFormed has_sbr (Single core s) = HasSbr has_sbr s
IsWellFormed has_sbr (Pair core s n m) = HasSbr has_sbr s × IsStereo has_sbr n × HasMps n m
IsWellFormed has_sbr Lfe = Unit {0}
IsWellFormed has_sbr (Ext e) = IsExtWellFormed e

-- stereoConfigIndex: two bits where there is SBR; else 0 and no bits
abbrev pub stereo : Bool → Layout ℕ Short
stereo true = bits 2
stereo false = known 0

-- usacElementType
abbrev pub kind_of : ElementConfig → ℕ
kind_of (Single core s) = 0
kind_of (Pair core s n m) = 1
kind_of Lfe = 2
kind_of (Ext e) = 3

-- what an element of one kind holds
abbrev pub single_of : ElementConfig → Option (CoreConfig × Option SbrConfig)
single_of (Single core s) = Some (core, s)
single_of (Pair core s n m) = None
single_of Lfe = None
single_of (Ext e) = None

abbrev pub pair_of : ElementConfig → Option (CoreConfig × (Option SbrConfig × (ℕ × Option Mps212)))
pair_of (Single core s) = None
pair_of (Pair core s n m) = Some (core, (s, (n, m)))
pair_of Lfe = None
pair_of (Ext e) = None

abbrev pub ext_of : ElementConfig → Option ExtConfig
ext_of (Single core s) = None
ext_of (Pair core s n m) = None
ext_of Lfe = None
ext_of (Ext e) = Some e

-- UsacSingleChannelElementConfig
abbrev pub single : Bool → Layout ElementConfig Short
single has_sbr = as_variant (λ (core, s). Single core s) single_of (both core_config (λ _. where_set has_sbr sbr.sbr_config))

-- UsacChannelPairElementConfig
abbrev pub pair : Bool → Layout ElementConfig Short
pair has_sbr = as_variant (λ (core, (s, (n, m))). Pair core s n m) pair_of
    (both core_config (λ _. both (where_set has_sbr sbr.sbr_config) (λ _. both (stereo has_sbr) (λ n. where_set (nat_lt 0 n) (mps.mps212 n)))))

-- what stands behind a type
abbrev pub body : Bool → ℕ → Layout ElementConfig CfgFault
body has_sbr zero = wrapped from_short (single has_sbr)
body has_sbr (suc zero) = wrapped from_short (pair has_sbr)
-- UsacLfeElementConfig
body has_sbr (suc (suc zero)) = known Lfe
-- UsacExtElementConfig
body has_sbr (suc (suc (suc n))) = as_variant (λ e. Ext e) ext_of extension_element

-- usacElementType, and what stands behind it
abbrev pub fields : Bool → Layout ElementConfig CfgFault
fields has_sbr = tagged kind_of (number from_short 2) (body has_sbr)

-- the well formed ones, in these fields
abbrev pub element : Bool → Layout ElementConfig CfgFault
element has_sbr = with_fits (IsWellFormed has_sbr) (fields has_sbr)
