-- An AudioSpecificConfig is read exactly.
use Rattle.std.proofs.Common.{◌≡◌, ℕ, ◌+◌, ◌<◌, ◌≤◌, Bool, true, false, List, [], length, Option, Some, None, refl, sym, ap, ◌∙◌, arith}
use Rattle.std.specs.Prelude.{◌==◌, if◌then◌else◌}
use Rattle.std.proofs.lemmas.Bool.{eqb-true}
use Rattle.layout.specs.Layout.{wrapped, whole, checked}
use Rattle.layout.specs.Exact.{IsExact, IsExactToEnd}
use Rattle.layout.proofs.Layouts.{both-exact, shaped-exact, wrapped-exact, checked-exact, whole-exact, where_set-exact, known-exact, behind-exact, same-exact, both-open, where_set-open, field-open}
use Rattle.layout.proofs.ToEnd.{both-to_end, shaped-to_end, same-to_end, tail-to_end}
use Rattle.layout.specs.Fields.{number_field}
use Rattle.bit_core.specs.Plain.{short_at}
use Rattle.bit_core.proofs.PlainFacts.{bits-exact, number-exact}
use Rattle.usac_cfg.specs.UsacExact.{usac_config_exact}
use Rattle.asc.specs.declared.asc_config.Asc.{Asc}
use Rattle.asc.specs.declared.fault.AscFault.{AscFault}
use Rattle.asc.specs.declared.fault.AscFault.TheVariants as faults
use Rattle.asc.specs.Faults.{from_short, from_cfg}
use Rattle.asc.specs.Asc.{IsWellFormed, IsExplicit, type_fields, not_usac, object_type, explicit, head, head_of, too_long, plain_fields, counted_fields, asc, asc_counted}

type_fields-exact : IsExact type_fields
type_fields-exact = both-exact _ _ (bits-exact 5) (λ n. where_set-exact (n == 31) _ (bits-exact 6))

whole_type-exact : IsExact (wrapped from_short (whole short_at type_fields))
whole_type-exact = wrapped-exact from_short _ (whole-exact short_at type_fields type_fields-exact (both-open _ _ (field-open short_at (number_field 5) 0 (omega arith)) (λ n. where_set-open (n == 31) _ (field-open short_at (number_field 6) 0 (omega arith)))))

abbrev pair : ℕ → Option ℕ → ℕ × Option ℕ
pair n o = (n, o)

stopped : {A : Type 0} (b : Bool) (x : A) → (if b then None else Some x) ≡ None → b ≡ true
stopped true x e = refl
stopped false x e = absurd cc

-- object type 42 is spelled by the escape
one_type : (n : ℕ) (o : Option ℕ) → type_fields.Fits (n, o) → not_usac (n, o) ≡ None → pair 31 (Some 10) ≡ pair n o
one_type n None fits e =
    let reason : ℕ → AscFault = λ at. faults.NotUsac at n in
    let is = eqb-true n 42 (stopped (n == 42) reason e) in
    let lt : n < 32 = fits.0.0 in
    absurd (omega arith)
one_type n (Some m) fits e =
    let reason : ℕ → AscFault = λ at. faults.NotUsac at (32 + m) in
    let is = eqb-true (32 + m) 42 (stopped (32 + m == 42) reason e) in
    let m-is : m ≡ 10 = omega arith in
    let n-is = eqb-true n 31 (sym fits.1.0) in
    ap (λ (k : ℕ). pair k (Some 10)) (sym n-is) ∙ ap (λ (k : ℕ). pair n (Some k)) (sym m-is)

object_type-exact : IsExact object_type
object_type-exact = shaped-exact {A = ℕ × Option ℕ} {B = Unit {0}} (λ _. pair 31 (Some 10)) (λ _. tt) (checked not_usac (wrapped from_short (whole short_at type_fields))) (checked-exact not_usac _ whole_type-exact) (λ a h. one_type a.0 a.1 h.0 h.1) (λ b h. refl)

explicit-exact : (b : Bool) → IsExact (explicit b)
explicit-exact true = number-exact from_short 24
explicit-exact false = known-exact 0

pub head-exact : IsExact head
head-exact = behind-exact _ _ object_type-exact (shaped-exact _ _ _ (both-exact _ _ (number-exact from_short 4) (λ index. both-exact _ _ (explicit-exact (index == 15)) (λ _. both-exact _ _ (number-exact from_short 4) (λ _. wrapped-exact from_cfg _ usac_config_exact)))) (λ a h. refl) (λ b h. refl))

plain-exact : IsExact plain_fields
plain-exact = shaped-exact _ _ _ (both-exact _ _ head-exact (λ _. known-exact [])) (λ a h. refl) (λ b h. refl)

counted-exact : IsExactToEnd counted_fields
counted-exact = shaped-to_end _ _ _ (both-to_end _ _ head-exact (λ _. tail-to_end too_long 7)) (λ a h. refl) (λ b h. refl)

explicit_fits : (b : Bool) (n : ℕ) → IsExplicit b n → (explicit b).Fits n
explicit_fits true n h = (h, refl)
explicit_fits false n h = h

explicit_well : (b : Bool) (n : ℕ) → (explicit b).Fits n → IsExplicit b n
explicit_well true n h = h.0
explicit_well false n h = h

head_fits : (v : Asc) → IsWellFormed v → head.Fits (head_of v)
head_fits v w = (((((omega arith, refl), (refl, (omega arith, refl)))), refl), ((w.index, refl), (explicit_fits (v.index == 15) v.explicit_rate w.explicit, ((w.channels, refl), w.usac))))

well : (v : Asc) → head.Fits (head_of v) → length v.tail ≤ 7 → IsWellFormed v
well v h le = record { index = h.1.0.0; explicit = explicit_well (v.index == 15) v.explicit_rate h.1.1.0; channels = h.1.1.1.0.0; usac = h.1.1.1.1; tail = le }

pub asc_exact : IsExact asc
asc_exact = same-exact plain_fields asc plain-exact (λ v w. ((head_fits v w.0, w.1), refl)) (λ v h. ((well v h.0 (omega (arith, ap (λ (t : List Bool). length t) h.1)), h.1), refl)) (λ r. refl) (λ at f t bad. bad) (λ at f t bad. bad)

pub asc_counted_exact : IsExactToEnd asc_counted
asc_counted_exact = same-to_end counted_fields asc_counted counted-exact (λ v w. ((head_fits v w, w.tail), refl)) (λ v h. (well v h.0 h.1, refl)) (λ r. refl) (λ at f t bad. bad) (λ at f t bad. bad)
