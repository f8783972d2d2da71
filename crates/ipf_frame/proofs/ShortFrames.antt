-- A frame without the last bits of its rest.
use Rattle.std.proofs.Common.{◌≡◌, ℕ, zero, suc, ◌+◌, ◌-◌, ◌%◌, ◌≤◌, Bool, true, false, List, [], ◌∷◌, ◌++◌, length, take, drop, replicate, refl, sym, ap, ◌∙◌, append_assoc, arith}
use Rattle.std.specs.Prelude.{not, ◌&&◌, nat_lt}
use Rattle.std.specs.List.{list_all}
use Rattle.std.proofs.lemmas.Bool.Decides.{nat_tests}
use Rattle.std.proofs.lemmas.List.{length-replicate, length-append, length-drop, take-append-drop}
use Rattle.std.proofs.Math.Seq.{take-append_seam, drop-append_seam}
use Rattle.layout.specs.Text.{pad}
use Rattle.usac_cfg.specs.declared.usac_config.UsacConfig.{UsacConfig}
use Rattle.usac_frame.specs.declared.frame.Frame.{Frame}
use Rattle.usac_frame.specs.Frame.{parts_text, leading_exts, frame_text}
use Rattle.ipf_frame.specs.Stripping.{shortened, ends_in_zeros}
use Rattle.ipf_frame.proofs.LastZeros.{enough}

-- ---- texts

pub pad_none : (t : List Bool) → length t % 8 ≡ 0 → pad t ≡ t
pad_none t whole =
    let none : (8 - length t % 8) % 8 ≡ 0 = omega (arith, whole) in
    ap (λ (n : ℕ). t ++ replicate n false) none ∙ nothing t
  where
    nothing : (x : List Bool) → x ++ [] ≡ x
    nothing [] = refl
    nothing (b ∷ x) = ap (λ (y : List Bool). b ∷ y) (nothing x)

pub same_front : (x y u v : List Bool) → x ++ u ≡ y ++ v → length x ≡ length y → (x ≡ y) × (u ≡ v)
same_front x y u v e long = (
  sym (take-append_seam x u) ∙ (ap (λ (t : List Bool). take (length x) t) e ∙ (ap (λ (n : ℕ). take n (y ++ v)) long ∙ take-append_seam y v)),
  sym (drop-append_seam x u) ∙ (ap (λ (t : List Bool). drop (length x) t) e ∙ (ap (λ (n : ℕ). drop n (y ++ v)) long ∙ drop-append_seam y v)),
)

zeros_are : (z : List Bool) → list_all not z ≡ true → z ≡ replicate (length z) false
zeros_are [] e = refl
zeros_are (true ∷ z) e = absurd (let never : false ≡ true = e in cc)
zeros_are (false ∷ z) e = ap (λ (t : List Bool). false ∷ t) (zeros_are z e)

all_zeros : (n : ℕ) → list_all not (replicate n false) ≡ true
all_zeros zero = refl
all_zeros (suc n) = all_zeros n

last_long : (n : ℕ) (bits : List Bool) → n ≤ length bits → length (drop (length bits - n) bits) ≡ n
last_long n bits le = omega (arith, le, length-drop (length bits - n) bits)

-- so many zeros stand at the end
pub zeros_end : (n : ℕ) (bits : List Bool) → ends_in_zeros n bits ≡ true → (n ≤ length bits) × (drop (length bits - n) bits ≡ replicate n false)
zeros_end n bits h = by_test (nat_lt (length bits) n) refl h
  where
    there : nat_lt (length bits) n ≡ false → n ≤ length bits
    there e = grind (arith, nat_tests)

    by_test : (x : Bool) → nat_lt (length bits) n ≡ x → (not x && list_all not (drop (length bits - n) bits)) ≡ true → (n ≤ length bits) × (drop (length bits - n) bits ≡ replicate n false)
    by_test true e h = absurd (let never : false ≡ true = h in cc)
    by_test false e h = (there e, zeros_are (drop (length bits - n) bits) h ∙ ap (λ (k : ℕ). replicate k false) (last_long n bits (there e)))

-- a text with zeros behind it
module _ (t : List Bool) (n : ℕ) where
  pub zeros_long : length (t ++ replicate n false) ≡ length t + n
  zeros_long = length-append t (replicate n false) ∙ ap (λ (k : ℕ). length t + k) (length-replicate n false)

  left : length (t ++ replicate n false) - n ≡ length t
  left = omega (arith, zeros_long)

  pub zeros_cut : take (length (t ++ replicate n false) - n) (t ++ replicate n false) ≡ t
  zeros_cut = ap (λ (k : ℕ). take k (t ++ replicate n false)) left ∙ take-append_seam t (replicate n false)

  pub zeros_found : ends_in_zeros n (t ++ replicate n false) ≡ true
  zeros_found =
      enough n (t ++ replicate n false) true (omega (arith, zeros_long))
      (ap (λ (k : ℕ). list_all not (drop k (t ++ replicate n false))) left ∙ (ap (λ (z : List Bool). list_all not z) (drop-append_seam t (replicate n false)) ∙ all_zeros n))

-- ---- frames

module _ (c : UsacConfig) (n : ℕ) (f : Frame) where
  -- its text is the shorter one's, and the last bits
  pub short_text : frame_text c f ≡ frame_text c (shortened n f) ++ drop (length f.rest - n) f.rest
  short_text =
      let k = length f.rest - n in
      let parts = parts_text (leading_exts c) f.leading in
      ap (λ (r : List Bool). f.independent ∷ (parts ++ r)) (sym (take-append-drop k f.rest)) ∙ ap (λ (t : List Bool). f.independent ∷ t) (sym (append_assoc parts (take k f.rest) (drop k f.rest)))

  pub short_long : n ≤ length f.rest → length (frame_text c f) ≡ length (frame_text c (shortened n f)) + n
  short_long le = ap (λ (t : List Bool). length t) short_text ∙ length-append (frame_text c (shortened n f)) (drop (length f.rest - n) f.rest) ∙ ap (λ (k : ℕ). length (frame_text c (shortened n f)) + k) (last_long n f.rest le)

  pub short_few : length (frame_text c (shortened n f)) ≤ length (frame_text c f)
  short_few = omega (arith, ap (λ (t : List Bool). length t) short_text, length-append (frame_text c (shortened n f)) (drop (length f.rest - n) f.rest))
