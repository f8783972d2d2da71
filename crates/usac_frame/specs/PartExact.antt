-- A part is read exactly.
use Rattle.std.proofs.Common.{◌≡◌, ℕ, ◌+◌, ◌-◌, ◌<◌, ◌≤◌, Bool, true, false, List, length, Option, Some, None, refl, sym, ap, subst, ◌∙◌, arith, inl, inr}
use Rattle.std.specs.Prelude.{not, ◌==◌}
use Rattle.std.proofs.lemmas.Bool.{cases_eq, ne_eqb, eqb-true}
use Rattle.layout.specs.Exact.{IsExact}
use Rattle.layout.proofs.Layouts.{both-exact, fitted-exact, where_set-exact, known-exact}
use Rattle.layout.proofs.Every.{all_so}
use Rattle.bit_core.proofs.PlainFacts.{number-exact, flag-exact, run_of_bytes-exact}
use Rattle.usac_cfg.specs.declared.extension_element.ExtConfig.{ExtConfig}
use Rattle.usac_frame.specs.declared.part.LengthForm.{LengthForm}
use Rattle.usac_frame.specs.declared.part.LengthForm.TheVariants.{Default, Byte, Long}
use Rattle.usac_frame.specs.declared.part.ExtPart.{ExtPart}
use Rattle.usac_frame.specs.declared.part.ExtPart.TheVariants.{Absent, Present}
use Rattle.usac_frame.specs.Faults.{from_short, from_read}
use Rattle.usac_frame.specs.Part.{HasLength, coded_length, coded, decoded, part_length, has_marks, AreMarks, marks, part_fields, fields_of, part_of, IsPart, part}

-- ---- the length

coded_length-exact : IsExact coded_length
coded_length-exact = both-exact _ _ (flag-exact from_short) (λ default. where_set-exact (not default) _ (both-exact _ _ (number-exact from_short 8) (λ byte. where_set-exact (byte == 255) _ (number-exact from_short 16))))

abbrev of_flag : Option (ℕ × Option ℕ) → Bool → Bool × Option (ℕ × Option ℕ)
of_flag o b = (b, o)

abbrev of_two : ℕ → ℕ → Bool × Option (ℕ × Option ℕ)
of_two byte more = (false, Some (byte, Some more))

abbrev of_length : LengthForm → ℕ → LengthForm × ℕ
of_length form n = (form, n)

turned : (a b : Bool) → a ≡ not b → b ≡ not a
turned a true e = ap not (sym e)
turned a false e = ap not (sym e)

coded_back : (default : ℕ) (d : Bool) (o : Option (ℕ × Option ℕ)) → coded_length.Fits (d, o) → coded (decoded default (d, o)) ≡ (d, o)
coded_back default d None fits = ap (of_flag None) (sym (turned false d fits.1.0))
coded_back default d (Some (byte, None)) fits = ap (of_flag (Some (byte, None))) (sym (turned true d fits.1.0))
coded_back default d (Some (byte, Some more)) fits =
    let is : byte ≡ 255 = eqb-true byte 255 (sym fits.1.1.1.0) in
    let less : byte + more - 2 - 253 ≡ more = omega arith in
    ap (of_two 255) less ∙ ap (λ (n : ℕ). of_two n more) (sym is) ∙ ap (of_flag (Some (byte, Some more))) (sym (turned true d fits.1.0))

not_255 : (byte : ℕ) → byte < 256 → false ≡ (byte == 255) → byte ≤ 254
not_255 byte lt e =
    elim (cases_eq byte 255) [
      | inl same ↦ absurd (let yes : (byte == 255) ≡ true = rw same refl in cc)
      | inr other ↦ omega (arith, other)
    ]

decoded_fits : (default : ℕ) (d : Bool) (o : Option (ℕ × Option ℕ)) → coded_length.Fits (d, o) → (let x = decoded default (d, o) in HasLength default x.0 x.1)
decoded_fits default d None fits = refl
decoded_fits default d (Some (byte, None)) fits = not_255 byte (let lt : byte < 256 = fits.1.1.0.0 in lt) fits.1.1.1.0
decoded_fits default d (Some (byte, Some more)) fits =
    let is : byte ≡ 255 = eqb-true byte 255 (sym fits.1.1.1.0) in
    let lt : more < 65536 = fits.1.1.1.1.0 in
    (omega arith, omega arith)

coded_fits : (default : ℕ) (form : LengthForm) (n : ℕ) → HasLength default form n → coded_length.Fits (coded (form, n)) × (decoded default (coded (form, n)) ≡ (form, n))
coded_fits default Default n h = (((tt, refl), (refl, tt)), ap (of_length Default) (sym h))
coded_fits default Byte n h =
    let other : n ≡ 255 → ⊥ = λ e. absurd (omega arith) in
    (((tt, refl), (refl, ((omega arith, refl), (sym (ne_eqb n 255 other), tt)))), refl)
coded_fits default Long n h =
    let same : 255 + (n - 253) - 2 ≡ n = omega arith in
    (((tt, refl), (refl, ((omega arith, refl), (refl, (omega arith, refl))))), ap (of_length Long) same)

part_length-exact : (default : ℕ) → IsExact (part_length default)
part_length-exact default = fitted-exact _ coded (decoded default) coded_length coded_length-exact (λ a fits. coded_back default a.0 a.1 fits) (λ a fits. decoded_fits default a.0 a.1 fits) (λ x h. coded_fits default x.0 x.1 h)

-- ---- start and stop

marks-exact : (b : Bool) → IsExact (marks b)
marks-exact true = both-exact _ _ (flag-exact from_short) (λ _. flag-exact from_short)
marks-exact false = known-exact (true, true)

abbrev two : Bool → Bool → Bool × Bool
two s t = (s, t)

marks_fit : (b s t : Bool) → AreMarks b s t → (marks b).Fits (s, t)
marks_fit true s t h = ((tt, refl), (tt, refl))
marks_fit false s t h = ap (λ (x : Bool). two x t) h.0 ∙ ap (λ (x : Bool). two true x) h.1

marks_are : (b s t : Bool) → (marks b).Fits (s, t) → AreMarks b s t
marks_are true s t fits = tt
marks_are false s t fits = (ap (λ (x : Bool × Bool). x.0) fits, ap (λ (x : Bool × Bool). x.1) fits)

-- ---- the part

part_fields-exact : (e : ExtConfig) → IsExact (part_fields e)
part_fields-exact e = both-exact _ _ (flag-exact from_short) (λ there. where_set-exact there _ (both-exact _ _ (part_length-exact e.default_length) (λ l. both-exact _ _ (marks-exact (has_marks e l.1)) (λ _. run_of_bytes-exact from_read l.1))))

abbrev Body : Type 0
Body = (LengthForm × ℕ) × ((Bool × Bool) × List ℕ)

abbrev of_present : Option Body → Bool → Bool × Option Body
of_present o b = (b, o)

abbrev of_body : LengthForm → Bool → Bool → List ℕ → ℕ → Bool × Option Body
of_body form start stop payload n = (true, Some ((form, n), ((start, stop), payload)))

fields_back : (e : ExtConfig) (there : Bool) (o : Option Body) → (part_fields e).Fits (there, o) → fields_of (part_of (there, o)) ≡ (there, o)
fields_back e there None fits = ap (of_present None) fits.1.0
fields_back e there (Some ((form, n), ((start, stop), payload))) fits = ap (of_body form start stop payload) fits.1.1.1.1.0 ∙ ap (of_present (Some ((form, n), ((start, stop), payload)))) fits.1.0

part_good : (e : ExtConfig) (there : Bool) (o : Option Body) → (part_fields e).Fits (there, o) → IsPart e (part_of (there, o))
part_good e there None fits = tt
part_good e there (Some ((form, n), ((start, stop), payload))) fits =
    let many : n ≡ length payload = sym fits.1.1.1.1.0 in
    record {
      size = subst (λ (k : ℕ). HasLength e.default_length form k) many fits.1.1.0;
      marks = subst (λ (k : ℕ). AreMarks (has_marks e k) start stop) many (marks_are (has_marks e n) start stop fits.1.1.1.0);
      bytes = all_so _ _ (λ b h. h.0) payload fits.1.1.1.1.1;
    }

part_fits : (e : ExtConfig) (p : ExtPart) → IsPart e p → (part_fields e).Fits (fields_of p) × (part_of (fields_of p) ≡ p)
part_fits e Absent h = (((tt, refl), (refl, tt)), refl)
part_fits e (Present form start stop payload) h =
    (((tt, refl), (refl, (h.size, (marks_fit (has_marks e (length payload)) start stop h.marks, (refl, all_so _ _ (λ b lt. (lt, refl)) payload h.bytes))))), refl)

pub part_exact : (e : ExtConfig) → IsExact (part e)
part_exact e = fitted-exact (IsPart e) fields_of part_of (part_fields e) (part_fields-exact e) (λ a fits. fields_back e a.0 a.1 fits) (λ a fits. part_good e a.0 a.1 fits) (λ p h. part_fits e p h)
