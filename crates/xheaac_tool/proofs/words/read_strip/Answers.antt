use Rattle.std.proofs.Common.{◌≡◌, ℕ, ◌<◌, List, [], ◌∷◌, None, length, arith, refl, sym}
use Rattle.std.specs.Prelude.{String}
use Rattle.std.specs.Global.{Global}
use Rattle.xheaac_tool.specs.Words.{strip_of, texts}
use Rattle.xheaac_tool.proofs.words.read_strip.Goals as goal
use Rattle.xheaac_tool.proofs.words.read_strip.Goals.{in_default-via-then-words-lt3, in_default-via-else-words-lt3+else-words-lt4}

few : (words : List (String Global)) → length words < 3 → None ≡ strip_of (texts words)
few [] h = refl
few (a ∷ []) h = refl
few (a ∷ b ∷ []) h = refl
few (a ∷ b ∷ c ∷ more) h = absurd (omega (arith, h))

many : (words : List (String Global)) → 3 < length words → None ≡ strip_of (texts words)
many [] h = absurd (omega (arith, h))
many (a ∷ []) h = absurd (omega (arith, h))
many (a ∷ b ∷ []) h = absurd (omega (arith, h))
many (a ∷ b ∷ c ∷ []) h = absurd (omega (arith, h))
many (a ∷ b ∷ c ∷ d ∷ more) h = refl

pub returns-in_default : goal.returns-in_default
returns-in_default c =
    elim c.in_default.branch [
      | in_default-via-then-words-lt3 w ↦ few c.args.words.now (grind arith)
      | in_default-via-else-words-lt3+else-words-lt4 w ↦ many c.args.words.now (grind arith)
    ]
