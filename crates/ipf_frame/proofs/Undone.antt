-- A target that is taken out again is the access unit that it was.
use Rattle.std.proofs.Common.{◌≡◌, ℕ, ◌-◌, ◌*◌, ◌%◌, ◌<◌, Bool, false, List, [], ◌∷◌, ◌++◌, length, take, replicate, Some, refl, sym, ap, ◌∙◌, arith}
use Rattle.std.specs.Prelude.{slice_get}
use Rattle.std.proofs.lemmas.List.{length-replicate, length-append}
use Rattle.std.proofs.Math.Seq.{take-append_seam}
use Rattle.layout.proofs.Layouts.{some_is}
use Rattle.layout.proofs.TextLemmas.{length-bits_of}
use Rattle.usac_frame.specs.declared.frame.Frame.{Frame}
use Rattle.usac_frame.specs.declared.part.ExtPart.{ExtPart}
use Rattle.usac_frame.specs.declared.part.ExtPart.TheVariants.{Absent}
use Rattle.usac_frame.specs.AccessUnit.{IsFrame}
use Rattle.usac_frame.specs.Frame.{leading_exts, frame_text}
use Rattle.usac_frame.specs.Laws.{with_zeros}
use Rattle.ipf_frame.specs.Frames.{first_part, with_first, new_part}
use Rattle.ipf_frame.specs.Laws.{Undoes}
use Rattle.ipf_frame.proofs.WrittenFrames.{parts_fit, zeros_behind, one_frame}
use Rattle.ipf_frame.proofs.NewParts.{new_fits}

pub absent_again : (p : ExtPart) (ps : List ExtPart) → slice_get ps 0 ≡ Some Absent → first_part Absent (first_part p ps) ≡ ps
absent_again p [] e = refl
absent_again p (q ∷ ps) e = ap (λ (x : ExtPart). x ∷ ps) (sym (some_is q Absent e))

cut_zeros : (t z : List Bool) (n : ℕ) → length t ≡ 8 * n → length z < 8 → take (length (t ++ z) - length (t ++ z) % 8) (t ++ z) ≡ t
cut_zeros t z n whole few =
    let long = length-append t z in
    let left : length (t ++ z) - length (t ++ z) % 8 ≡ length t = omega (arith, long, whole, few) in
    ap (λ (k : ℕ). take k (t ++ z)) left ∙ take-append_seam t z

few_zeros : (n : ℕ) → n < 8 → length (replicate n false) < 8
few_zeros n lt = simp length-replicate lt

pub undoes : Undoes
undoes c fade aus au new g declared t is =
    let f = t.frame in
    let p = new_part t.payload in
    let n = (8 - length (frame_text c (with_first p f)) % 8) % 8 in
    let made : IsFrame c new (with_zeros (with_first p f) n) = record { fits = parts_fit (leading_exts c) f.leading p (new_fits t.payload t.few t.bytes) t.is.fits; spelled = t.text ∙ zeros_behind c (with_first p f) n } in
    let same : g ≡ with_zeros (with_first p f) n = one_frame c new g (with_zeros (with_first p f) n) is made in
    let back : with_first Absent (with_zeros (with_first p f) n) ≡ with_zeros f n = ap (λ (ps : List ExtPart). let x : Frame = record { independent = f.independent; leading = ps; rest = f.rest ++ replicate n false } in x) (absent_again p f.leading t.absent) in
    let text : frame_text c (with_first Absent g) ≡ frame_text c f ++ replicate n false = ap (λ (x : Frame). frame_text c (with_first Absent x)) same ∙ (ap (frame_text c) back ∙ sym (zeros_behind c f n)) in
    let whole : length (frame_text c f) ≡ 8 * length au = ap (λ (x : List Bool). length x) (sym t.is.spelled) ∙ length-bits_of au in
    let lt : n < 8 = omega arith in
    ap (λ (x : List Bool). take (length x - length x % 8) x) text ∙ (cut_zeros (frame_text c f) (replicate n false) (length au) whole (few_zeros n lt) ∙ sym t.is.spelled)
