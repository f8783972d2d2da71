-- Whether two configurations are equal, as a test that definitions can ask. It compares their spellings.
use Rattle.std.specs.Prelude.{◌≡◌, ◌↔◌, Bool, true, false, List, [], ◌∷◌, not, ◌&&◌, IsTrue}
use Rattle.usac_cfg.specs.declared.usac_config.UsacConfig.{UsacConfig}
use Rattle.usac_cfg.specs.UsacConfig.{IsWellFormed}
use Rattle.usac_cfg.specs.Spelling.{usac_config}

abbrev pub same_bit : Bool → Bool → Bool
same_bit true b = b
same_bit false b = not b

-- the texts are equal
abbrev pub same_bits : List Bool → List Bool → Bool
same_bits [] [] = true
same_bits [] (y ∷ ys) = false
same_bits (x ∷ xs) [] = false
same_bits (x ∷ xs) (y ∷ ys) = same_bit x y && same_bits xs ys

-- The two have one spelling: well formed configurations are equal then.
unfoldable pub same : UsacConfig → UsacConfig → Bool
same a b = same_bits (usac_config.spelling a) (usac_config.spelling b)

-- It is a test of equality of well formed configurations. What is the same as one of two that are the same is the same as the
-- other, well formed or not.
pub record IsSameWhereEqual : Type 0 where
  pub itself : (a : UsacConfig) → same a a ≡ true
  pub equal : (a b : UsacConfig) → IsWellFormed a → IsWellFormed b → IsTrue (same a b) ↔ (a ≡ b)
  pub replaced : (a b c : UsacConfig) → same a b ≡ true → same a c ≡ same b c
