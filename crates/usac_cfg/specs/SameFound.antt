-- The test of equal configurations says whether they are equal.
use Rattle.std.proofs.Common.{◌≡◌, ◌≢◌, Bool, true, false, List, [], ◌∷◌, ◌++◌, refl, ap, sym, ◌∙◌, ◌⊎◌, inl, inr}
use Rattle.std.specs.Prelude.{◌&&◌, ◌↔◌, IsTrue}
use Rattle.layout.proofs.Layouts.{prefix_free}
use Rattle.usac_cfg.specs.declared.usac_config.UsacConfig.{UsacConfig}
use Rattle.usac_cfg.specs.UsacConfig.{IsWellFormed}
use Rattle.usac_cfg.specs.Spelling.{usac_config}
use Rattle.usac_cfg.specs.UsacExact.{usac_config_exact}
use Rattle.usac_cfg.specs.Same.{same_bit, same_bits, same, IsSameWhereEqual}

bit_itself : (b : Bool) → same_bit b b ≡ true
bit_itself true = refl
bit_itself false = refl

bit_true : (a b : Bool) → same_bit a b ≡ true → a ≡ b
bit_true true true e = refl
bit_true true false e = absurd cc
bit_true false true e = absurd cc
bit_true false false e = refl

both : (a b : Bool) → (a && b) ≡ true → (a ≡ true) × (b ≡ true)
both true true e = (refl, refl)
both true false e = (refl, e)
both false b e = absurd (let never : false ≡ true = e in cc)

bits_itself : (t : List Bool) → same_bits t t ≡ true
bits_itself [] = refl
bits_itself (b ∷ t) = rw (bit_itself b) (bits_itself t)

bits_true : (s t : List Bool) → same_bits s t ≡ true → s ≡ t
bits_true [] [] e = refl
bits_true [] (y ∷ ys) e = absurd (let never : false ≡ true = e in cc)
bits_true (x ∷ xs) [] e = absurd (let never : false ≡ true = e in cc)
bits_true (x ∷ xs) (y ∷ ys) e =
    let p = both (same_bit x y) (same_bits xs ys) e in
    ap (λ (b : Bool). b ∷ xs) (bit_true x y p.0) ∙ ap (λ (t : List Bool). y ∷ t) (bits_true xs ys p.1)

pub same_itself : (a : UsacConfig) → same a a ≡ true
unfolding same
same_itself a = bits_itself (usac_config.spelling a)

pub same_true : (a b : UsacConfig) → IsWellFormed a → IsWellFormed b → same a b ≡ true → a ≡ b
unfolding same
same_true a b v w e =
    (prefix_free usac_config usac_config_exact a b [] [] v w (ap (λ (t : List Bool). t ++ []) (bits_true (usac_config.spelling a) (usac_config.spelling b) e))).0

pub same_equal : (a b : UsacConfig) → a ≡ b → same a b ≡ true
same_equal a b e = ap (λ (x : UsacConfig). same x b) e ∙ same_itself b

one_of : (b : Bool) → (b ≡ true) ⊎ (b ≡ false)
one_of true = inl refl
one_of false = inr refl

pub same_false : (a b : UsacConfig) → IsWellFormed a → IsWellFormed b → a ≢ b → same a b ≡ false
same_false a b v w ne = elim (one_of (same a b)) [ inl e ↦ absurd (ne (same_true a b v w e)) | inr e ↦ e ]

pub same_differ : (a b : UsacConfig) → same a b ≡ false → a ≢ b
same_differ a b e q = let never : same a b ≡ true = same_equal a b q in absurd cc

pub same_replaced : (a b c : UsacConfig) → same a b ≡ true → same a c ≡ same b c
unfolding same
same_replaced a b c e = ap (λ (t : List Bool). same_bits t (usac_config.spelling c)) (bits_true (usac_config.spelling a) (usac_config.spelling b) e)

-- what a call of the comparison answers is what the test says
pub same_told : (b : Bool) (c d : UsacConfig) → IsWellFormed c → IsWellFormed d → IsTrue b ↔ (c ≡ d) → b ≡ same c d
same_told true c d v w h = sym (same_equal c d (h.0 refl))
same_told false c d v w h = sym (same_false c d v w (λ e. absurd (let never : false ≡ true = h.1 e in cc)))

pub same_where_equal : IsSameWhereEqual
same_where_equal = record {
  itself = same_itself;
  equal = λ a b v w. (same_true a b v w, same_equal a b);
  replaced = same_replaced;
}
