-- The line of a frame (ISO/IEC 23003-3, UsacFrame).
use Rattle.std.specs.Prelude.{ℕ, List, [], ◌∷◌, ◌++◌, length, codes, decimal}
use Rattle.std.specs.List.{flat_map}
use Rattle.usac_frame.specs.declared.frame.Frame.{Frame}
use Rattle.usac_frame.specs.declared.part.ExtPart.{ExtPart}
use Rattle.usac_frame.specs.declared.part.ExtPart.TheVariants.{Absent, Present}
use Rattle.tool_text.specs.Parts.{◌&◌, dash, truth}

-- how many bytes the payload has, where usacExtElementPresent says that it is there
abbrev pub length_or_dash : ExtPart → List ℕ
length_or_dash Absent = dash
length_or_dash (Present form start stop payload) = decimal (length payload)

-- a comma before each part
abbrev pub lengths_behind_commas : List ExtPart → List ℕ
lengths_behind_commas parts = flat_map (λ part. codes "," ++ length_or_dash part) parts

-- the leading parts with a comma between two of them, or the word for no part
abbrev pub leading_text : List ExtPart → List ℕ
leading_text [] = codes "none"
leading_text (part ∷ parts) = length_or_dash part ++ lengths_behind_commas parts

-- the number of the frame, usacIndependencyFlag, how many bytes the access unit has, and the leading parts
abbrev pub frame_line : ℕ → ℕ → Frame → List ℕ
frame_line number bytes f = codes "frame " & decimal number & codes " independent=" & truth f.independent
    & codes " bytes=" & decimal bytes & codes " leading=" & leading_text f.leading & codes "\n"
