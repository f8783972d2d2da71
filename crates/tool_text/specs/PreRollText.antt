-- The lines of a preroll (ISO/IEC 23003-3, AudioPreRoll).
use Rattle.std.specs.Prelude.{ℕ, ◌+◌, List, [], ◌∷◌, length, codes, decimal}
use Rattle.preroll.specs.declared.preroll.PreRoll.{PreRoll}
use Rattle.tool_text.specs.Parts.{◌&◌, truth, hex_or_dash}

-- a payload that is none: the first bit of the field at fault
abbrev pub bad_line : ℕ → List ℕ
bad_line bit = codes "preroll bad bit=" & decimal bit & codes "\n"

-- the number of bytes of the configuration, applyCrossfade, the reserved bit, the number of access units, and that of the bits
-- behind them
abbrev pub preroll_line : PreRoll → List ℕ
preroll_line p = codes "preroll config=" & decimal (length p.config) & codes " fade=" & truth p.fade & codes " reserved=" & truth p.reserved
    & codes " units=" & decimal (length p.units) & codes " tail=" & decimal (length p.tail) & codes "\n"

-- access unit k
abbrev pub unit_line : ℕ → List ℕ → List ℕ
unit_line k unit = codes "unit " & decimal k & codes " " & hex_or_dash unit & codes "\n"

-- the lines of access units, the first of which has the number k
abbrev pub units_from : ℕ → List (List ℕ) → List (List ℕ)
units_from k [] = []
units_from k (u ∷ us) = unit_line k u ∷ units_from (k + 1) us

-- all lines, in their order
abbrev pub lines_of_preroll : PreRoll → List (List ℕ)
lines_of_preroll p = preroll_line p ∷ units_from 0 p.units
