-- The bytes of frames, and of an access unit as it is carried.
use Rattle.std.proofs.Common.{◌≡◌, ℕ, ◌+◌, ◌-◌, ◌*◌, ◌%◌, ◌<◌, ◌≤◌, Bool, true, false, List, [], ◌∷◌, ◌++◌, length, replicate, Option, Some, All, refl, sym, ap, subst, ◌∙◌, arith}
use Rattle.std.specs.Prelude.{◌==◌, if◌then◌else◌}
use Rattle.std.specs.List.{AllByRecursion}
use Rattle.std.proofs.lemmas.List.{length-replicate, length-append}
use Rattle.std.proofs.lemmas.List.Elements.{recursion_from_All}
use Rattle.layout.specs.Text.{bits_of, pad}
use Rattle.layout.proofs.TextLemmas.{length-bits_of}
use Rattle.usac_cfg.specs.declared.usac_config.UsacConfig.{UsacConfig}
use Rattle.usac_cfg.specs.declared.extension_element.ExtConfig.{ExtConfig}
use Rattle.usac_frame.specs.declared.frame.Frame.{Frame}
use Rattle.usac_frame.specs.declared.part.ExtPart.{ExtPart}
use Rattle.usac_frame.specs.declared.part.ExtPart.TheVariants.{Absent, Present}
use Rattle.usac_frame.specs.AccessUnit.{IsFrame}
use Rattle.usac_frame.specs.Frame.{parts_text, leading_exts, frame_text}
use Rattle.usac_frame.specs.FrameFound.{frame_of_is}
use Rattle.usac_frame.specs.Part.{part_text}
use Rattle.usac_frame.specs.Units.{payload_length}
use Rattle.preroll.specs.PreRoll.{HasBytes}
use Rattle.latm.specs.Bytes.{bytes_of}
use Rattle.latm.proofs.ByteTexts.{length-bytes_of, bits_of-bytes_of, bytes_of-small, bytes_back}
use Rattle.ipf_frame.specs.Frames.{first_part, with_first, frame_bytes}
use Rattle.ipf_frame.specs.Clean.{clean_where, clean, IsCleanText, IsClean}
use Rattle.ipf_frame.specs.Laws.{CleanIsMade}

-- ---- bytes of padded texts

length-pad : (t : List Bool) → length (pad t) ≡ length t + (8 - length t % 8) % 8
length-pad t = length-append t (replicate ((8 - length t % 8) % 8) false) ∙ ap (λ (k : ℕ). length t + k) (length-replicate ((8 - length t % 8) % 8) false)

pub pad_whole : (t : List Bool) → length (pad t) % 8 ≡ 0
pad_whole t = omega (arith, length-pad t)

pub pad_bits : (t : List Bool) → bits_of (bytes_of (pad t)) ≡ pad t
pad_bits t = bits_of-bytes_of (pad t) (pad_whole t)

pub pad_small : (t : List Bool) → AllByRecursion (λ byte. byte < 256) (bytes_of (pad t))
pad_small t = recursion_from_All (λ byte. byte < 256) (bytes_of (pad t)) (bytes_of-small (pad t) (pad_whole t))

-- a text no longer than that of some bytes makes no more bytes
pub pad_short : (t : List Bool) (n : ℕ) → length t ≤ 8 * n → length (bytes_of (pad t)) ≤ n
pad_short t n le = omega (arith, length-bytes_of (pad t), length-pad t)

-- bytes of their type that spell a padded text are its bytes
pub pad_back : (bytes slice : List ℕ) (t : List Bool) → slice ≡ bytes → All (λ byte. byte < 256) slice → bits_of bytes ≡ pad t → bytes ≡ bytes_of (pad t)
pad_back bytes slice t same small spelled = bytes_back bytes (pad t) (subst (λ (xs : List ℕ). All (λ byte. byte < 256) xs) same small) spelled

pub frame_back : (c : UsacConfig) (f : Frame) (bytes slice : List ℕ) → slice ≡ bytes → All (λ byte. byte < 256) slice → bits_of bytes ≡ pad (frame_text c f) → bytes ≡ frame_bytes c f
unfolding frame_bytes
frame_back c f bytes slice same small spelled = pad_back bytes slice (frame_text c f) same small spelled

pub frame_bits : (c : UsacConfig) (f : Frame) → bits_of (frame_bytes c f) ≡ pad (frame_text c f)
unfolding frame_bytes
frame_bits c f = pad_bits (frame_text c f)

-- ---- an absent part is the shortest

absent_short : (e : ExtConfig) (q : ExtPart) → length (part_text e Absent) ≤ length (part_text e q)
absent_short e Absent = omega arith
absent_short e (Present form start stop payload) = omega arith

joined_short : (x y z : List Bool) → length x ≤ length y → length (x ++ z) ≤ length (y ++ z)
joined_short x y z le = omega (arith, le, length-append x z, length-append y z)

parts_short : (exts : List ExtConfig) (ps : List ExtPart) → length (parts_text exts (first_part Absent ps)) ≤ length (parts_text exts ps)
parts_short [] [] = omega arith
parts_short [] (q ∷ ps) = omega arith
parts_short (e ∷ exts) [] = omega arith
parts_short (e ∷ exts) (q ∷ ps) = joined_short (part_text e Absent) (part_text e q) (parts_text exts ps) (absent_short e q)

pub bare_short : (c : UsacConfig) (f : Frame) → length (frame_text c (with_first Absent f)) ≤ length (frame_text c f)
bare_short c f =
    let le = joined_short (parts_text (leading_exts c) (first_part Absent f.leading)) (parts_text (leading_exts c) f.leading) f.rest (parts_short (leading_exts c) f.leading) in
    more f.independent _ _ le
  where
    more : (b : Bool) (x y : List Bool) → length x ≤ length y → length (b ∷ x) ≤ length (b ∷ y)
    more b x y le = omega (arith, le)

-- ---- an access unit as it is carried

module _ (c : UsacConfig) (au : List ℕ) (f : Frame) (is : IsFrame c au f) where
  clean_of : clean c au ≡ clean_where c au (Some f)
  unfolding clean
  clean_of = ap (λ (o : Option Frame). clean_where c au o) (frame_of_is.found c au f is)

  pub clean_same : payload_length c f == 0 ≡ true → clean c au ≡ au
  clean_same e = clean_of ∙ ap (λ (b : Bool). if b then au else frame_bytes c (with_first Absent f)) e

  pub clean_bare : payload_length c f == 0 ≡ false → clean c au ≡ frame_bytes c (with_first Absent f)
  clean_bare e = clean_of ∙ ap (λ (b : Bool). if b then au else frame_bytes c (with_first Absent f)) e

  clean_text : (b : Bool) → (payload_length c f == 0) ≡ b → IsCleanText b c f au (clean c au)
  clean_text true e = clean_same e
  clean_text false e = ap (λ (xs : List ℕ). bits_of xs) (clean_bare e) ∙ frame_bits c (with_first Absent f)

  pub clean_made : IsClean c au (clean c au)
  clean_made = record { frame = f; is = is; text = clean_text (payload_length c f == 0) refl }

  clean_few : length (frame_bytes c (with_first Absent f)) ≤ length au
  unfolding frame_bytes
  clean_few =
      let long : length (frame_text c f) ≡ 8 * length au = ap (λ (x : List Bool). length x) (sym is.spelled) ∙ length-bits_of au in
      pad_short (frame_text c (with_first Absent f)) (length au) (omega (arith, long, bare_short c f))

  clean_small : AllByRecursion (λ byte. byte < 256) (frame_bytes c (with_first Absent f))
  unfolding frame_bytes
  clean_small = pad_small (frame_text c (with_first Absent f))

  -- it has no more bytes than the access unit
  pub clean_bytes : (most : ℕ) → length au ≤ most → AllByRecursion (λ byte. byte < 256) au → HasBytes most (clean c au)
  clean_bytes most le small = by_test (payload_length c f == 0) refl
    where
      by_test : (b : Bool) → (payload_length c f == 0) ≡ b → HasBytes most (clean c au)
      by_test true e = subst (λ (xs : List ℕ). HasBytes most xs) (sym (clean_same e)) (le, small)
      by_test false e = subst (λ (xs : List ℕ). HasBytes most xs) (sym (clean_bare e)) (omega (arith, le, clean_few), clean_small)

pub clean_is_made : CleanIsMade
clean_is_made c au f is = clean_made c au f is
