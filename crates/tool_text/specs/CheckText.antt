-- The line of a stream that was checked.
use Rattle.std.specs.Prelude.{ℕ, List, codes, decimal}
use Rattle.tool_text.specs.Parts.{◌&◌}

-- how many frames there are, how many runs of one UsacConfig, and how many of the frames are independent, and immediate
abbrev pub check_line : ℕ → ℕ → ℕ → ℕ → List ℕ
check_line frames configurations independent immediate = codes "frames " & decimal frames & codes ", configurations " & decimal configurations
    & codes ", independent " & decimal independent & codes ", immediate " & decimal immediate & codes "\n"
