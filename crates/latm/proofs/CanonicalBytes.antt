-- The bytes of the canonical element.
use Rattle.std.proofs.Common.{◌≡◌, ℕ, ◌+◌, ◌-◌, ◌%◌, ◌<◌, ◌≤◌, Bool, false, List, length, replicate, get_or, Option, Ok, Err, All, refl, ap, ◌∙◌, arith}
use Rattle.std.proofs.Common.{Fits, w8}
use Rattle.std.proofs.lemmas.List.{length-append, length-replicate, get_or_default}
use Rattle.layout.specs.Text.{bits_of, pad}
use Rattle.asc.specs.declared.asc_config.Asc.{Asc}
use Rattle.loas.specs.Framing.{framed}
use Rattle.latm.specs.declared.fault.WriteFault.{WriteFault}
use Rattle.latm.specs.Bytes.{bytes_of}
use Rattle.latm.specs.Written.{is_memory, element_text, canonical_element, canonical_text, canonical_length, canonical_bytes, IsCanonical, WritesCanonical}
use Rattle.latm.proofs.ByteTexts.{length-bytes_of, bits_of-bytes_of, bytes_back}

length-pad : (text : List Bool) → length (pad text) % 8 ≡ 0
length-pad text =
    let n = (8 - length text % 8) % 8 in
    let whole : length (pad text) ≡ length text + n = length-append text (replicate n false) ∙ ap (λ (k : ℕ). length text + k) (length-replicate n false) in
    omega (arith, whole)

whole_text : (v : Option Asc) (au : List ℕ) → length (canonical_text v au) % 8 ≡ 0
whole_text v au = length-pad (element_text (canonical_element v au))

-- what the type of bytes says of them
pub bytes_by : (xs : List ℕ) → ((i : ℕ) → Fits w8 (get_or xs i 0)) → All (λ byte. byte < 256) xs
bytes_by xs fits i d lt = let e = get_or_default xs i d 0 lt in let h = (fits i).fits in rw e h

-- the bytes of a text and their frame
text_framed : (text : List Bool) (body slice frame : List ℕ) → slice ≡ body → bits_of body ≡ text → length text ≤ 65528 → All (λ byte. byte < 256) slice → frame ≡ framed slice
    → (frame ≡ framed (bytes_of text)) × (length (bytes_of text) ≤ 8191)
text_framed text body slice frame is spelled le small made =
    let same : slice ≡ bytes_of text = bytes_back slice text small (ap (λ (xs : List ℕ). bits_of xs) is ∙ spelled) in
    (made ∙ ap (λ (xs : List ℕ). framed xs) same, omega (arith, le, length-bytes_of text))

pub canonical_by : (v : Option Asc) (au body slice frame : List ℕ) → slice ≡ body → bits_of body ≡ canonical_text v au → length (canonical_text v au) ≤ 65528 → All (λ byte. byte < 256) slice → frame ≡ framed slice
    → WritesCanonical v au (Ok frame)
unfolding canonical_length canonical_bytes
canonical_by v au body slice frame is spelled le small made = record { ok = text_framed (canonical_text v au) body slice frame is spelled le small made; err = tt }

text_over : (text : List Bool) → length text % 8 ≡ 0 → 65528 < length text → 8191 < length (bytes_of text)
text_over text whole over = omega (arith, whole, over, length-bytes_of text)

canonical_over : (v : Option Asc) (au : List ℕ) → 65528 < length (canonical_text v au) → 8191 < canonical_length v au
unfolding canonical_length
canonical_over v au over = text_over (canonical_text v au) (whole_text v au) over

pub canonical_refused : (v : Option Asc) (au : List ℕ) (f : WriteFault) → (is_memory f ≡ false → 65528 < length (canonical_text v au)) → WritesCanonical v au (Err f)
canonical_refused v au f over = record { ok = tt; err = λ e. canonical_over v au (over e) }

pub canonical_body : (v : Option Asc) (au : List ℕ) → IsCanonical v au (canonical_bytes v au)
unfolding canonical_length canonical_bytes
canonical_body v au = record {
  body = bytes_of (canonical_text v au);
  count = refl;
  is = refl;
  spelled = bits_of-bytes_of (canonical_text v au) (whole_text v au);
}
