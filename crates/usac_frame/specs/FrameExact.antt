-- A frame is read exactly, and what follows from it.
use Rattle.std.proofs.Common.{◌≡◌, ℕ, zero, suc, ◌-◌, ◌%◌, Bool, false, List, [], ◌∷◌, ◌++◌, length, take, drop, replicate, refl, sym, ap, ◌∙◌, append_assoc, arith}
use Rattle.std.specs.Prelude.{◌≤◌, slice_get}
use Rattle.std.specs.List.{AllByRecursion}
use Rattle.std.specs.Option.{option_map_or}
use Rattle.layout.specs.Each.{FitEach}
use Rattle.layout.specs.Exact.{IsExact, IsExactToEnd}
use Rattle.layout.proofs.EachExact.{each-exact}
use Rattle.layout.proofs.ToEnd.{both-to_end, fitted-to_end, rest-to_end}
use Rattle.layout.proofs.Whole.{spells_once, decided_whole}
use Rattle.usac_cfg.specs.declared.element_config.ElementConfig.{ElementConfig}
use Rattle.usac_cfg.specs.declared.element_config.ElementConfig.TheVariants.{Single, Pair, Lfe, Ext}
use Rattle.usac_cfg.specs.declared.extension_element.ExtConfig.{ExtConfig}
use Rattle.usac_cfg.specs.declared.usac_config.UsacConfig.{UsacConfig}
use Rattle.usac_cfg.specs.ElementConfig.{IsWellFormed as IsElementWellFormed}
use Rattle.usac_cfg.specs.UsacConfig.{has_sbr, leading_of}
use Rattle.usac_frame.specs.declared.frame.Frame.{Frame}
use Rattle.usac_frame.specs.declared.part.ExtPart.{ExtPart}
use Rattle.usac_frame.specs.declared.part.ExtPart.TheVariants.{Absent, Present}
use Rattle.usac_frame.specs.declared.part.LengthForm.{LengthForm}
use Rattle.usac_frame.specs.declared.part.LengthForm.TheVariants.{Default, Byte, Long}
use Rattle.usac_frame.specs.Part.{HasLength, IsPart, part, part_text}
use Rattle.usac_frame.specs.Frame.{FitsConfig, leading, leading_exts, parts_text, parts, frame, frame_text}
use Rattle.usac_frame.specs.Units.{preroll_parts, payload_of}
use Rattle.usac_frame.specs.Laws.{IsSpelledOnce, IsDecided, with_zeros, IsReadBack, HasPartOfEach, IsSplitAtPreroll, HasSmallPayload}
use Rattle.std.specs.Prelude.{ℕ}
use Rattle.bit_core.proofs.PlainFacts.{flag-exact}
use Rattle.usac_frame.specs.Faults.{from_short}
use Rattle.usac_frame.specs.PartExact.{part_exact}

parts-exact : (exts : List ExtConfig) → IsExact (parts exts)
parts-exact exts = each-exact part part_exact exts

pub frame_exact : (c : UsacConfig) → IsExactToEnd (frame c)
frame_exact c = fitted-to_end (FitsConfig c) _ _ _ (both-to_end _ _ (flag-exact from_short) (λ _. both-to_end _ _ (parts-exact (leading_exts c)) (λ _. rest-to_end))) (λ a h. refl) (λ a h. h.1.0) (λ f fits. (((tt, refl), (fits, tt)), refl))

-- ---- laws

pub spelled_once : IsSpelledOnce
spelled_once c = spells_once (frame c) (frame_exact c)

pub decided : IsDecided
decided c = decided_whole (frame c) (frame_exact c)

zeros_behind : (c : UsacConfig) (f : Frame) (n : ℕ) → frame_text c f ++ replicate n false ≡ frame_text c (with_zeros f n)
zeros_behind c f n = ap (λ (t : List Bool). f.independent ∷ t) (append_assoc (parts_text (leading_exts c) f.leading) f.rest (replicate n false))

pub read_back : IsReadBack
read_back c f bytes result fits written reads =
    let n = (8 - length (frame_text c f) % 8) % 8 in
    let both = reads.only (with_zeros f n) fits (written ∙ zeros_behind c f n) in
    (n, omega arith, both.0, both.1)

pub as_many : {X A : Type 0} (P : X → A → Type 0) (xs : List X) (vs : List A) → FitEach P xs vs → length vs ≡ length xs
as_many P [] [] h = refl
as_many P [] (v ∷ vs) h = absurd h
as_many P (x ∷ xs) [] h = absurd h
as_many P (x ∷ xs) (v ∷ vs) h = ap suc (as_many P xs vs h.1)

counted : (es : List ElementConfig) → length (leading es) ≡ leading_of es
counted [] = refl
counted (Single core s ∷ es) = refl
counted (Pair core s n m ∷ es) = refl
counted (Lfe ∷ es) = refl
counted (Ext e ∷ es) = omega (arith, counted es)

pub part_of_each : HasPartOfEach
part_of_each c f fits = as_many IsPart (leading_exts c) f.leading fits ∙ counted c.elements

pub no_parts : (exts : List ExtConfig) → parts_text exts [] ≡ []
no_parts [] = refl
no_parts (x ∷ exts) = refl

pub text_split : (k : ℕ) (exts : List ExtConfig) (ps : List ExtPart) → parts_text exts ps ≡ parts_text (take k exts) (take k ps) ++ parts_text (drop k exts) (drop k ps)
text_split zero exts ps = refl
text_split (suc k) [] ps = refl
text_split (suc k) (x ∷ exts) [] = sym (no_parts (drop k exts))
text_split (suc k) (x ∷ exts) (p ∷ ps) = ap (λ (t : List Bool). part_text x p ++ t) (text_split k exts ps) ∙ sym (append_assoc (part_text x p) (parts_text (take k exts) (take k ps)) (parts_text (drop k exts) (drop k ps)))

pub split_at_preroll : IsSplitAtPreroll
split_at_preroll c f fits =
    let k = preroll_parts c in
    let exts = leading_exts c in
    ap (λ (t : List Bool). f.independent ∷ (t ++ f.rest)) (text_split k exts f.leading) ∙ ap (λ (t : List Bool). f.independent ∷ t) (append_assoc (parts_text (take k exts) (take k f.leading)) (parts_text (drop k exts) (drop k f.leading)) f.rest)

-- ---- the length of a payload

length_small : (default : ℕ) (form : LengthForm) (n : ℕ) → default ≤ 65791 → HasLength default form n → n ≤ 65791
length_small default Default n le h = omega (arith, h)
length_small default Byte n le h = omega (arith, h)
length_small default Long n le h = omega (arith, h.1)

part_small : (e : ExtConfig) (p : ExtPart) → e.default_length ≤ 65791 → IsPart e p → length (payload_of p) ≤ 65791
part_small e Absent le h = omega arith
part_small e (Present form start stop payload) le h = length_small e.default_length form (length payload) le h.size

parts_small : (b : Bool) (es : List ElementConfig) (ps : List ExtPart) → AllByRecursion (IsElementWellFormed b) es → FitEach IsPart (leading es) ps → length (option_map_or payload_of (slice_get ps 0) []) ≤ 65791
parts_small b es [] w h = omega arith
parts_small b [] (p ∷ ps) w h = absurd h
parts_small b (Single core s ∷ es) (p ∷ ps) w h = absurd h
parts_small b (Pair core s n m ∷ es) (p ∷ ps) w h = absurd h
parts_small b (Lfe ∷ es) (p ∷ ps) w h = absurd h
parts_small b (Ext e ∷ es) (p ∷ ps) w h = part_small e p w.0.default_length h.0

pub payload_small : HasSmallPayload
payload_small c f w fits = parts_small (has_sbr c.frame_index) c.elements f.leading w.lists.elements fits
