-- What the reader's calls give, as fields.
use Rattle.std.proofs.Common.{◌≡◌, ℕ, ◌+◌, ◌*◌, ◌^◌, ◌<◌, ◌≤◌, Bool, eqb, List, [], ◌∷◌, ◌++◌, length, get_or, suc, take, drop, Result, Ok, Err, refl, sym, ap, ◌∙◌, arith}
use Rattle.std.specs.Prelude.{IfOk, IfErr, OnOk, OnErr, IsErr, ◌↔◌}
use Rattle.std.specs.List.{flat_map, AllByRecursion}
use Rattle.layout.specs.Text.{num, is_odd, bits_of}
use Rattle.layout.specs.Reader.{Reader, left, moved}
use Rattle.layout.specs.Layout.{Layout, wrapped, error_mapped}
use Rattle.layout.specs.Fields.{number_field, flag_field, run_field, none_refused, parsed}
use Rattle.layout.specs.Times.{times}
use Rattle.layout.specs.Reading.{Gives, GivesUnless}
use Rattle.layout.specs.Exact.{IsExact}
use Rattle.layout.proofs.TextLemmas.{length-num, length-bits_of, left_parts}
use Rattle.layout.proofs.Layouts.{field-exact, number-field, flag-field, run-field, number_none, times-exact, times-open, whole-exact, wrapped-exact, field-open, whole_short, run_none}
use Rattle.bit_core.specs.declared.faults.ReadFault.{ReadFault}
use Rattle.bit_core.specs.declared.faults.ReadFault.TheVariants as reads
use Rattle.bit_core.specs.declared.faults.Short.{Short}
use Rattle.bit_core.specs.Plain.{bits, bit, octets, bit_run, short_at, number, flag, run_of_bytes}

pub bits-exact : (n : ℕ) → IsExact (bits n)
bits-exact n = field-exact short_at none_refused (number_field n) (number-field n)

pub bit-exact : IsExact bit
bit-exact = field-exact short_at none_refused flag_field flag-field

pub bit_run-exact : (n : ℕ) → IsExact (bit_run n)
bit_run-exact n = field-exact short_at none_refused (run_field n) (run-field n)

pub octets-exact : (n : ℕ) → IsExact (octets n)
octets-exact n = whole-exact short_at (times n (bits 8)) (times-exact n (bits 8) (bits-exact 8)) (times-open n (bits 8) (field-open short_at (number_field 8) 0 (omega arith)))

pub number-exact : {F : Type 0} (wrap : Short → F) (n : ℕ) → IsExact (number wrap n)
number-exact wrap n = wrapped-exact wrap _ (bits-exact n)

pub flag-exact : {F : Type 0} (wrap : Short → F) → IsExact (flag wrap)
flag-exact wrap = wrapped-exact wrap _ bit-exact

pub run_of_bytes-exact : {F : Type 0} (wrap : ReadFault → F) (n : ℕ) → IsExact (run_of_bytes wrap n)
run_of_bytes-exact wrap n = wrapped-exact wrap _ (wrapped-exact (λ s. reads.Short s) _ (octets-exact n))

pub number_gives : (n : ℕ) (old new : Reader) (r : Result ℕ Short) → IfOk r (λ v. v < 2 ^ n) → IfOk r (λ v. left old ≡ num n v ++ left new) → OnOk r (new ≡ moved old n)
    → (IsErr r ↔ (length (left old) < n)) → IfErr r (λ e. e.at ≡ old.at) → OnErr r (new ≡ old) → Gives (bits n) old new r
number_gives n old new (Ok v) below spelled ok short fault err =
    let L = bits-exact n in
    (L.again old v (left new) (below, refl) spelled ∙ ap (λ (s : Reader). Ok (v, s)) (ap (λ (k : ℕ). moved old k) (length-num n v) ∙ sym ok), (ap (λ (q : Reader). q.text) ok, omega (arith, ap (λ (q : Reader). q.at) ok)))
number_gives n old new (Err e) below spelled ok short fault err =
    let e-is : short_at old.at ≡ e = ap (λ (k : ℕ). short_at k) (sym fault) in
    (ap (parsed short_at none_refused old) (number_none n (left old) (short.0 refl)) ∙ ap (λ (d : Short). Err d) e-is, (ap (λ (q : Reader). q.text) err, omega (arith, ap (λ (q : Reader). q.at) err)))

pub flag_gives : (old new : Reader) (v : ℕ) → Gives (bits 1) old new (Ok v) → Gives bit old new (Ok (eqb v 1))
unfolding num
flag_gives old new v e =
    let t = (bits-exact 1).takes old new v e.0 in
    let odd : is_odd v ≡ eqb v 1 = ap (λ (m : ℕ). eqb m 1) (let lt : v < 2 = t.0.0 in omega arith) in
    (bit-exact.again old (eqb v 1) (left new) (tt, refl) (t.1 ∙ ap (λ (b : Bool). b ∷ left new) odd) ∙ ap (λ (s : Reader). Ok (eqb v 1, s)) (sym t.2), e.1)

bytes_fit : (xs : List ℕ) → ((i : ℕ) → get_or xs i 0 < 256) → AllByRecursion (bits 8).Fits xs
bytes_fit [] h = tt
bytes_fit (x ∷ xs) h = ((h 0, refl), bytes_fit xs (λ i. h (suc i)))

octets_spelled : (xs : List ℕ) → flat_map (num 8) xs ≡ bits_of xs
unfolding bits_of
octets_spelled xs = refl

-- n bytes that were taken
pub octets_give : (n : ℕ) (old new : Reader) (xs : List ℕ) → length xs ≡ n → ((i : ℕ) → get_or xs i 0 < 256) → left old ≡ bits_of xs ++ left new → new ≡ moved old (8 * n) → Gives (octets n) old new (Ok xs)
octets_give n old new xs many below spelled ok =
    let size : length (flat_map (num 8) xs) ≡ 8 * n = ap (λ (t : List Bool). length t) (octets_spelled xs) ∙ length-bits_of xs ∙ ap (λ (k : ℕ). 8 * k) many in
    let text : left old ≡ flat_map (num 8) xs ++ left new = spelled ∙ ap (λ (t : List Bool). t ++ left new) (sym (octets_spelled xs)) in (
      (octets-exact n).again old xs (left new) (many, bytes_fit xs below) text ∙ ap (λ (s : Reader). Ok (xs, s)) (ap (λ (k : ℕ). moved old k) size ∙ sym ok),
      (ap (λ (q : Reader). q.text) ok, omega (arith, ap (λ (q : Reader). q.at) ok)),
    )

octets_long : (n : ℕ) (xs : List ℕ) → (times n (bits 8)).Fits xs → length (flat_map (num 8) xs) ≡ 8 * n
octets_long n xs fits = ap (λ (t : List Bool). length t) (octets_spelled xs) ∙ length-bits_of xs ∙ ap (λ (k : ℕ). 8 * k) fits.0

-- too few bits for n bytes
pub octets_short : (n : ℕ) (old : Reader) → length (left old) < 8 * n → (octets n).read old ≡ Err (short_at old.at)
octets_short n old lt = whole_short short_at (times n (bits 8)) (times-exact n (bits 8) (bits-exact 8)) old (λ xs fits. omega (arith, lt, octets_long n xs fits))

-- n bits that were taken
pub run_gives : (n : ℕ) (old new : Reader) (t : List Bool) → length t ≡ n → left old ≡ t ++ left new → new ≡ moved old n → Gives (bit_run n) old new (Ok t)
run_gives n old new t many spelled ok = (
  (bit_run-exact n).again old t (left new) (many, refl) spelled ∙ ap (λ (s : Reader). Ok (t, s)) (ap (λ (k : ℕ). moved old k) many ∙ sym ok),
  (ap (λ (q : Reader). q.text) ok, omega (arith, ap (λ (q : Reader). q.at) ok)),
)

pub run_short : (n : ℕ) (old : Reader) → length (left old) < n → (bit_run n).read old ≡ Err (short_at old.at)
run_short n old lt = ap (parsed short_at none_refused old) (run_none n (left old) lt)

-- the same with the fault of a read that also needs memory
pub gives_wrapped : {A F G : Type 0} (free : G → Bool) (wrap : F → G) (L : Layout A F) (old new : Reader) (v : A) → Gives L old new (Ok v) → GivesUnless free (wrapped wrap L) old new (Ok v)
gives_wrapped {A} {F} {G} free wrap L old new v e = (ap (error_mapped wrap) e.0, e.1)

pub short_wrapped : {A F G : Type 0} (free : G → Bool) (wrap : F → G) (L : Layout A F) (old : Reader) (f : F) → L.read old ≡ Err f → GivesUnless free (wrapped wrap L) old old (Err (wrap f))
short_wrapped free wrap L old f e = (λ _. ap (error_mapped wrap) e, (refl, omega arith))

-- n bits at a place within a part of a text
pub part_behind : (text : List Bool) (at n e : ℕ) (taken : List Bool) → at + n ≤ e → taken ≡ take n (drop at text) → drop at (take e text) ≡ taken ++ drop (at + n) (take e text)
part_behind text at n e taken le same = left_parts text at n e le ∙ ap (λ (t : List Bool). t ++ drop (at + n) (take e text)) (sym same)
