-- A frame, field by field (ISO/IEC 23003-3, UsacFrame).
use Rattle.std.specs.Prelude.{Bool, List, [], ◌∷◌}
use Rattle.layout.specs.Layout.{Layout, both, fitted}
use Rattle.layout.specs.Each.{FitEach, each_text, each}
use Rattle.layout.specs.ToEnd.{rest}
use Rattle.usac_cfg.specs.declared.element_config.ElementConfig.{ElementConfig}
use Rattle.usac_cfg.specs.declared.element_config.ElementConfig.TheVariants.{Single, Pair, Lfe, Ext}
use Rattle.usac_cfg.specs.declared.extension_element.ExtConfig.{ExtConfig}
use Rattle.usac_cfg.specs.declared.usac_config.UsacConfig.{UsacConfig}
use Rattle.usac_frame.specs.declared.fault.FrameFault.{FrameFault}
use Rattle.usac_frame.specs.declared.frame.Frame.{Frame}
use Rattle.usac_frame.specs.declared.part.ExtPart.{ExtPart}
use Rattle.bit_core.specs.Plain.{flag}
use Rattle.usac_frame.specs.Faults.{from_short}
use Rattle.usac_frame.specs.Part.{IsPart, part, part_text}

-- the extension elements before the first other element
abbrev pub leading : List ElementConfig → List ExtConfig
leading [] = []
leading (Single core s ∷ es) = []
leading (Pair core s n m ∷ es) = []
leading (Lfe ∷ es) = []
leading (Ext e ∷ es) = e ∷ leading es

abbrev pub leading_exts : UsacConfig → List ExtConfig
leading_exts c = leading c.elements

-- one part for each of these, which fits it
abbrev pub FitParts : List ExtConfig → List ExtPart → Type 0
FitParts = FitEach IsPart

abbrev pub parts_text : List ExtConfig → List ExtPart → List Bool
parts_text = each_text part_text

abbrev pub parts : List ExtConfig → Layout (List ExtPart) FrameFault
parts exts = each part exts

-- A frame fits a configuration where it has one part for each leading extension element, which fits it.
abbrev pub FitsConfig : UsacConfig → Frame → Type 0
FitsConfig c f = FitParts (leading_exts c) f.leading

-- usacIndependencyFlag, the parts, and all bits to the end
abbrev pub frame : UsacConfig → Layout Frame FrameFault
frame c = fitted (FitsConfig c)
    (λ f. (f.independent, (f.leading, f.rest)))
    (λ (independent, (leading, rest)). record { independent = independent; leading = leading; rest = rest })
    (both (flag from_short) (λ _. both (parts (leading_exts c)) (λ _. rest)))

-- The spelling of a frame. An access unit is the frame whose spelling its bits are.
abbrev pub frame_text : UsacConfig → Frame → List Bool
frame_text c = let L = frame c in L.spelling

-- the first fault of an access unit, of which all bits are to be a frame
abbrev pub FrameFaults : UsacConfig → FrameFault → List Bool → Type 0
FrameFaults c e bits = let L = frame c in L.Faults 0 e bits
