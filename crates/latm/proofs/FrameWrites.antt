-- Frames, and the canonical mux.
use Rattle.std.proofs.Common.{◌≡◌, ℕ, ◌/◌, ◌≤◌, Bool, List, ◌++◌, length, Option, Some, None, Ok, refl, ap, ◌∙◌, arith}
use Rattle.layout.specs.Text.{bits_of}
use Rattle.layout.specs.Layout.{FitsOption}
use Rattle.layout.proofs.TextLemmas.{length-bits_of, bits_of-append}
use Rattle.asc.specs.declared.asc_config.Asc.{Asc}
use Rattle.asc.specs.Asc.{IsWellFormed as IsAscWellFormed}
use Rattle.loas.specs.Framing.{header}
use Rattle.latm.specs.MuxConfig.{IsWellFormed}
use Rattle.latm.specs.Written.{Frames, config_of}

pub short_body : (text : List Bool) (body slice : List ℕ) → slice ≡ body → bits_of body ≡ text → length text ≤ 65528 → length slice ≤ 8191
short_body text body slice is spelled le = omega (arith, le, ap (λ (t : List Bool). length t) spelled, length-bits_of body, ap (λ (xs : List ℕ). length xs) is)

pub frames_by : (text : List Bool) (body slice frame : List ℕ) → slice ≡ body → bits_of body ≡ text → length text ≤ 65528 → frame ≡ header (length slice) ++ slice → Frames text (Ok frame)
frames_by text body slice frame is spelled le framed =
    let n : length slice ≡ length text / 8 = omega (arith, ap (λ (t : List Bool). length t) spelled, length-bits_of body, ap (λ (xs : List ℕ). length xs) is) in
    record {
      ok = (
        ap (λ (xs : List ℕ). bits_of xs) framed ∙ bits_of-append (header (length slice)) slice ∙ ap (λ (k : ℕ). bits_of (header k) ++ bits_of slice) n
            ∙ ap (λ (t : List Bool). bits_of (header (length text / 8)) ++ t) (ap (λ (xs : List ℕ). bits_of xs) is ∙ spelled),
        le,
      );
      err = tt;
    }

pub canonical_well : (o : Option Asc) → FitsOption IsAscWellFormed o → FitsOption IsWellFormed (config_of o)
canonical_well None h = tt
canonical_well (Some v) h = record {
  version = omega arith;
  tara = refl;
  fullness_of_tara = tt;
  sub_frames = omega arith;
  asc_length = refl;
  counted = refl;
  asc = record { index = h.index; explicit = h.explicit; channels = h.channels; usac = h.usac; tail = omega arith };
  fullness = omega arith;
  other = tt;
  crc = tt;
}
