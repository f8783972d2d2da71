-- The line of a piece of a plan.
use Rattle.std.specs.Prelude.{ℕ, Bool, List, codes, decimal}
use Rattle.tool_text.specs.Parts.{◌&◌, truth}

-- the number of the piece; the number of its first frame, and of the frame behind its last; how many access units the preroll of
-- its first frame carries; applyCrossfade
abbrev pub piece_line : ℕ → ℕ → ℕ → ℕ → Bool → List ℕ
piece_line piece from to units fade = codes "piece " & decimal piece & codes " frames " & decimal from & codes " to " & decimal to
    & codes " carried " & decimal units & codes " fade " & truth fade & codes "\n"
