-- A frame that is written with another part 0: what it is read as, and its unit.
use Rattle.std.proofs.Common.{◌≡◌, ℕ, ◌-◌, ◌%◌, Bool, false, List, [], ◌∷◌, ◌++◌, length, drop, replicate, Option, refl, sym, ap, subst, ◌∙◌, append_assoc}
use Rattle.std.specs.Prelude.{true, if◌then◌else◌}
use Rattle.layout.specs.Text.{bits_of, pad}
use Rattle.layout.proofs.Layouts.{some_is}
use Rattle.bit_core.specs.Trim.{trimmed}
use Rattle.bit_core.proofs.TypeLemmas.{trimmed-zeros}
use Rattle.usac_cfg.specs.declared.usac_config.UsacConfig.{UsacConfig}
use Rattle.usac_cfg.specs.declared.extension_element.ExtConfig.{ExtConfig}
use Rattle.usac_cfg.specs.UsacConfig.{declares_preroll}
use Rattle.usac_frame.specs.declared.frame.Frame.{Frame}
use Rattle.usac_frame.specs.declared.part.ExtPart.{ExtPart}
use Rattle.usac_frame.specs.AccessUnit.{IsFrame, unit_where, unit_in}
use Rattle.usac_frame.specs.Frame.{FitParts, FitsConfig, parts_text, leading_exts, frame_text}
use Rattle.usac_frame.specs.FrameFound.{frame_of_is}
use Rattle.usac_frame.specs.Laws.{with_zeros}
use Rattle.usac_frame.specs.Part.{IsPart}
use Rattle.usac_frame.specs.Units.{UnitValue, preroll_parts, core_text, unit_of}
use Rattle.ipf_frame.specs.Frames.{first_part, with_first}

pub parts_fit : (exts : List ExtConfig) (ps : List ExtPart) (p : ExtPart) → ((e : ExtConfig) → IsPart e p) → FitParts exts ps → FitParts exts (first_part p ps)
parts_fit [] [] p h fits = tt
parts_fit [] (q ∷ ps) p h fits = absurd fits
parts_fit (e ∷ exts) [] p h fits = absurd fits
parts_fit (e ∷ exts) (q ∷ ps) p h fits = (h e, fits.1)

-- the changed frame of the code fits
pub written_fits : (c : UsacConfig) (f g : Frame) (p : ExtPart) → ((e : ExtConfig) → IsPart e p) → FitsConfig c f → g ≡ with_first p f → FitsConfig c g
written_fits c f g p h fits e = subst (λ (x : Frame). FitsConfig c x) (sym e) (parts_fit (leading_exts c) f.leading p h fits)

drop_first : (p : ExtPart) (ps : List ExtPart) → drop 1 (first_part p ps) ≡ drop 1 ps
drop_first p [] = refl
drop_first p (q ∷ ps) = refl

-- the bits behind the preroll element are the same
pub core_kept : (c : UsacConfig) (f : Frame) (p : ExtPart) → declares_preroll c ≡ true → core_text c (with_first p f) ≡ core_text c f
core_kept c f p e =
    let n : preroll_parts c ≡ 1 = ap (λ (b : Bool). if b then 1 else 0) e in
    ap (λ (k : ℕ). parts_text (drop (preroll_parts c) (leading_exts c)) (drop k (first_part p f.leading)) ++ f.rest) n
    ∙ (ap (λ (ps : List ExtPart). parts_text (drop (preroll_parts c) (leading_exts c)) ps ++ f.rest) (drop_first p f.leading)
    ∙ ap (λ (k : ℕ). parts_text (drop (preroll_parts c) (leading_exts c)) (drop k f.leading) ++ f.rest) (sym n))

pub zeros_behind : (c : UsacConfig) (f : Frame) (n : ℕ) → frame_text c f ++ replicate n false ≡ frame_text c (with_zeros f n)
zeros_behind c f n = ap (λ (t : List Bool). f.independent ∷ t) (append_assoc (parts_text (leading_exts c) f.leading) f.rest (replicate n false))

pub unit_behind : (c : UsacConfig) (f : Frame) (n : ℕ) → unit_of c (with_zeros f n) ≡ unit_of c f
unit_behind c f n =
    let parts = parts_text (drop (preroll_parts c) (leading_exts c)) (drop (preroll_parts c) f.leading) in
    ap (λ (t : List Bool). let u : UnitValue = record { independent = f.independent; bits = t } in u) (ap trimmed (sym (append_assoc parts f.rest (replicate n false))) ∙ trimmed-zeros (parts ++ f.rest) n)

-- what bytes are that were written of a frame with another part 0: this frame with some zeros behind it
pub record IsWritten (c : UsacConfig) (f : Frame) (p : ExtPart) (bytes : List ℕ) : Type 0 where
  pub zeros : ℕ
  pub is : IsFrame c bytes (with_zeros (with_first p f) zeros)
  pub unit : unit_in c bytes ≡ unit_of c f

pub written : (c : UsacConfig) (f : Frame) (p : ExtPart) (bytes : List ℕ) → declares_preroll c ≡ true → FitsConfig c f → ((e : ExtConfig) → IsPart e p) → bits_of bytes ≡ pad (frame_text c (with_first p f)) → IsWritten c f p bytes
written c f p bytes declared fits part text =
    let g = with_first p f in
    let n = (8 - length (frame_text c g) % 8) % 8 in
    let is : IsFrame c bytes (with_zeros g n) = record { fits = parts_fit (leading_exts c) f.leading p part fits; spelled = text ∙ zeros_behind c g n } in
    record {
      zeros = n;
      is = is;
      unit = ap (λ (o : Option Frame). unit_where c o) (frame_of_is.found c bytes (with_zeros g n) is)
          ∙ (unit_behind c g n ∙ ap (λ (t : List Bool). let u : UnitValue = record { independent = f.independent; bits = trimmed t } in u) (core_kept c f p declared));
    }

pub unit_is : (c : UsacConfig) (au : List ℕ) (f : Frame) → IsFrame c au f → unit_in c au ≡ unit_of c f
unit_is c au f is = ap (λ (o : Option Frame). unit_where c o) (frame_of_is.found c au f is)

-- an access unit is one frame
pub one_frame : (c : UsacConfig) (au : List ℕ) (f g : Frame) → IsFrame c au f → IsFrame c au g → f ≡ g
one_frame c au f g a b = some_is f g (sym (frame_of_is.found c au f a) ∙ frame_of_is.found c au g b)
