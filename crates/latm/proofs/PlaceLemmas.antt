-- Slots that are found where they stand.
use Rattle.std.proofs.Common.{◌≡◌, ℕ, zero, suc, ◌+◌, ◌*◌, ◌<◌, ◌≤◌, Bool, true, false, List, [], ◌∷◌, ◌++◌, length, get_or, take, drop, Option, Some, None, Bor, Result, Ok, Err, refl, sym, ap, subst, ◌∙◌, inl, inr, arith}
use Rattle.std.specs.Prelude.{IfErr, OnOk, OnErr, IsErr, IsErrAnd, ◌↔◌, is_some}
use Rattle.std.specs.Result.{is_err}
use Rattle.std.specs.Option.{option_copied}
use Rattle.std.proofs.lemmas.Bool.{cases_lt}
use Rattle.std.proofs.lemmas.List.{length-take-le, length-drop, take-append-drop, take-take, drop-drop, drop-take}
use Rattle.std.proofs.Math.Seq.{take-add}
use Rattle.layout.specs.Text.{num, value_after, bits_of}
use Rattle.layout.specs.Reader.{Reader, left, moved}
use Rattle.layout.specs.Layout.{wrapped, error_mapped}
use Rattle.layout.specs.Reading.{Gives, GivesUnless, IsOnwards}
use Rattle.layout.specs.Times.{times}
use Rattle.layout.proofs.Layouts.{number_of, ok_is}
use Rattle.layout.proofs.TextLemmas.{length-bits_of}
use Rattle.layout.proofs.Whole.{reads_text}
use Rattle.bit_core.specs.declared.faults.Short.{Short}
use Rattle.bit_core.specs.declared.faults.ReadFault.{ReadFault}
use Rattle.bit_core.specs.declared.faults.ReadFault.TheVariants as reads
use Rattle.bit_core.specs.Faults.{is_memory as is_free}
use Rattle.bit_core.specs.Plain.{octets, bit_run}
use Rattle.bit_core.proofs.PlainFacts.{octets_give, octets_short, run_gives, run_short}
use Rattle.latm.specs.declared.fault.MuxFault.{MuxFault}
use Rattle.latm.specs.declared.mux_config.MuxConfig.{MuxConfig}
use Rattle.latm.specs.declared.mux_element.MuxElement.{MuxElement}
use Rattle.latm.specs.declared.places.Places.{Places}
use Rattle.latm.specs.declared.slot_place.SlotPlace.{SlotPlace}
use Rattle.latm.specs.Faults.{is_memory, from_short}
use Rattle.latm.specs.MuxElement.{then_in_force, slot_count, other_bits, opening, slot_of_bytes, other_data, body, element}
use Rattle.latm.specs.MuxElementExact.{element_exact}
use Rattle.latm.specs.Places.{bytes_in, slot_at, slots_at, IsWithin, AreWithin, ReadsPlaces, passed_bytes, FindsBody, FindsElement}

-- ---- the bytes that bits spell

pub length-bytes_in : (n : ℕ) (bits : List Bool) → length (bytes_in n bits) ≡ n
unfolding bytes_in
length-bytes_in zero bits = refl
length-bytes_in (suc n) bits = ap suc (length-bytes_in n (drop 8 bits))

front_byte : (n : ℕ) (bits : List Bool) → 8 * suc n ≤ length bits → (value_after 0 (take 8 bits) < 256) × (num 8 (value_after 0 (take 8 bits)) ≡ take 8 bits)
front_byte n bits le = number_of 8 (take 8 bits) (length-take-le 8 bits (omega arith))

others_there : (n : ℕ) (bits : List Bool) → 8 * suc n ≤ length bits → 8 * n ≤ length (drop 8 bits)
others_there n bits le = omega (arith, length-drop 8 bits)

bytes_in-small : (n : ℕ) (bits : List Bool) (i : ℕ) → 8 * n ≤ length bits → get_or (bytes_in n bits) i 0 < 256
unfolding bytes_in
bytes_in-small zero bits i le = omega arith
bytes_in-small (suc n) bits zero le = (front_byte n bits le).0
bytes_in-small (suc n) bits (suc i) le = bytes_in-small n (drop 8 bits) i (others_there n bits le)

pub bits_of-bytes_in : (n : ℕ) (bits : List Bool) → 8 * n ≤ length bits → bits_of (bytes_in n bits) ≡ take (8 * n) bits
unfolding bytes_in bits_of
bits_of-bytes_in zero bits le = refl
bits_of-bytes_in (suc n) bits le =
    let first = (front_byte n bits le).1 in
    let others = bits_of-bytes_in n (drop 8 bits) (others_there n bits le) in
    let many : 8 + 8 * n ≡ 8 * suc n = omega arith in
    let v = value_after 0 (take 8 bits) in
    ap (λ (t : List Bool). t ++ bits_of (bytes_in n (drop 8 bits))) first
    ∙ ap (λ (t : List Bool). take 8 bits ++ t) others
    ∙ sym (take-add 8 (8 * n) bits)
    ∙ ap (λ (k : ℕ). take k bits) many

left_behind : (old new : Reader) (n : ℕ) → new ≡ moved old n → drop n (left old) ≡ left new
left_behind old new n ok = drop-drop n old.at old.text ∙ ap (λ (r : Reader). left r) (sym ok)

onwards : (old new : Reader) (n : ℕ) → new ≡ moved old n → IsOnwards old new
onwards old new n ok = (ap (λ (r : Reader). r.text) ok, omega (arith, ap (λ (r : Reader). r.at) ok))

-- bytes that were passed
pub bytes_passed : (n : ℕ) (old new : Reader) → 8 * n ≤ length (left old) → new ≡ moved old (8 * n) → Gives (octets n) old new (Ok (bytes_in n (left old)))
bytes_passed n old new le ok =
    let xs = bytes_in n (left old) in
    let text : left old ≡ bits_of xs ++ left new =
    sym (take-append-drop (8 * n) (left old))
    ∙ ap (λ (t : List Bool). t ++ drop (8 * n) (left old)) (sym (bits_of-bytes_in n (left old) le))
    ∙ ap (λ (t : List Bool). bits_of xs ++ t) (left_behind old new (8 * n) ok) in
    octets_give n old new xs (length-bytes_in n (left old)) (λ i. bytes_in-small n (left old) i le) text ok

short_is : (at : ℕ) (e : Short) → e.at ≡ at → record { at = at } ≡ e
short_is at e same = ap (λ (k : ℕ). let s : Short = record { at = k } in s) (sym same)

never_err : {F : Type 0} (r : Result (Unit {0}) F) (u : Unit {0}) → r ≡ Ok u → IsErr r → ⊥
never_err r u is bad = let no : is_err r ≡ false = ap is_err is in let yes : is_err r ≡ true = bad in absurd (let never : false ≡ true = sym no ∙ yes in cc)

pub enough : {F : Type 0} (r : Result (Unit {0}) F) (u : Unit {0}) (k n : ℕ) → r ≡ Ok u → (IsErr r ↔ (k < n)) → n ≤ k
enough r u k n is short =
    elim (cases_lt k n) [
      | inl lt ↦ absurd (never_err r u is (short.1 lt))
      | inr le ↦ le
    ]

pub passes_bytes : (n k : ℕ) (old new : Reader) (r : Result (Unit {0}) Short) → k ≡ 8 * n → OnOk r (new ≡ moved old k) → (IsErr r ↔ (length (left old) < k)) → IfErr r (λ e. e.at ≡ old.at) → OnErr r (new ≡ old) → Gives (octets n) old new (passed_bytes n old r)
passes_bytes n k old new (Ok u) is ok short fault err =
    let r : Result (Unit {0}) Short = Ok u in
    let le = enough r u (length (left old)) k refl short in
    bytes_passed n old new (omega (arith, le, is)) (ok ∙ ap (λ (m : ℕ). moved old m) is)
passes_bytes n k old new (Err e) is ok short fault err =
    (octets_short n old (let lt = short.0 refl in omega (arith, lt, is)) ∙ ap (λ (s : Short). Err s) (short_is old.at e fault), (ap (λ (q : Reader). q.text) err, omega (arith, ap (λ (q : Reader). q.at) err)))

pub had_bytes : (n k : ℕ) (old : Reader) (r : Result (Unit {0}) Short) → k ≡ 8 * n → (IsErr r ↔ (length (left old) < k)) → OnOk r (8 * n ≤ length (left old))
had_bytes n k old (Ok u) is short =
    let r : Result (Unit {0}) Short = Ok u in
    let le = enough r u (length (left old)) k refl short in
    omega (arith, le, is)
had_bytes n k old (Err e) is short = tt

bits_passed : (n : ℕ) (old new : Reader) → n ≤ length (left old) → new ≡ moved old n → Gives (bit_run n) old new (Ok (take n (left old)))
bits_passed n old new le ok =
    let text : left old ≡ take n (left old) ++ left new = sym (take-append-drop n (left old)) ∙ ap (λ (t : List Bool). take n (left old) ++ t) (left_behind old new n ok) in
    run_gives n old new (take n (left old)) (length-take-le n (left old) le) text ok

-- other data that was passed
pub passes_bits : (n k : ℕ) (old new : Reader) → k ≡ n → k ≤ length (left old) → new ≡ moved old k → GivesUnless is_memory (other_data n) old new (Ok (take n (left old)))
passes_bits n k old new is le ok =
    let gives = bits_passed n old new (omega (arith, le, is)) (ok ∙ ap (λ (m : ℕ). moved old m) is) in
    (rw gives.0 refl, gives.1)

pub lacks_bits : (n k : ℕ) (old new : Reader) (e : Short) (f : MuxFault) → k ≡ n → length (left old) < k → e.at ≡ old.at → new ≡ old → f ≡ from_short e → GivesUnless is_memory (other_data n) old new (Err f)
lacks_bits n k old new e f is lt at same wrap =
    let gives : (bit_run n).read old ≡ Err e = run_short n old (omega (arith, lt, is)) ∙ ap (λ (s : Short). Err s) (short_is old.at e at) in
    (λ _. rw (gives, wrap) refl, (ap (λ (q : Reader). q.text) same, omega (arith, ap (λ (q : Reader). q.at) same)))

-- ---- slots

-- the slot whose bytes were passed stands within the text
pub slot_within : (old mid : Reader) (n from : ℕ) → mid.text ≡ old.text → from ≡ mid.at → mid.at ≤ length mid.text → 8 * n ≤ length (left mid) → from + 8 * n ≤ length old.text
slot_within old mid n from same is before le = omega (arith, before, le, is, ap (λ (t : List Bool). length t) same, length-drop mid.at mid.text)

-- a slot of the text that the reader is in
pub slot_gives : (old new : Reader) (text : List Bool) (p : SlotPlace) → old.text ≡ text → slot_of_bytes.read old ≡ Ok (slot_at old.text p, new) → slot_of_bytes.read old ≡ Ok (slot_at text p, new)
slot_gives old new text p same gives = gives ∙ ap (λ (t : List Bool). let q : Result (List ℕ × Reader) MuxFault = Ok (slot_at t p, new) in q) same

pub push_within : (bits : ℕ) (places : List SlotPlace) (p : SlotPlace) → AreWithin bits places → IsWithin bits p → AreWithin bits (places ++ p ∷ [])
push_within bits [] p each one = (one, tt)
push_within bits (q ∷ places) p each one = (each.0, push_within bits places p each.1 one)

-- ---- an element

pub body_found : (m : Option MuxConfig) (old mid new : Reader) (places : List SlotPlace) (count bits : ℕ) → count ≡ slot_count m → bits ≡ other_bits m → GivesUnless is_memory (times count slot_of_bytes) old mid (Ok (slots_at old.text places))
    → GivesUnless is_memory (other_data bits) mid new (Ok (take bits (left mid))) → AreWithin (length old.text) places → FindsBody m old new (Ok places)
body_found m old mid new places count bits c b slots other within =
    let one : (times (slot_count m) slot_of_bytes).read old ≡ Ok (slots_at old.text places, mid) = rw (sym c) slots.0 in
    let two : (other_data (other_bits m)).read mid ≡ Ok (take bits (left mid), new) = rw (sym b) other.0 in
    (take bits (left mid), rw (one, two) refl, (other.1.0 ∙ slots.1.0, omega (arith, other.1.1, slots.1.1)), within)

pub body_lacks_slots : (m : Option MuxConfig) (old new : Reader) (f : MuxFault) (count : ℕ) → count ≡ slot_count m → GivesUnless is_memory (times count slot_of_bytes) old new (Err f) → FindsBody m old new (Err f)
body_lacks_slots m old new f count c slots =
    (λ free. let one : (times (slot_count m) slot_of_bytes).read old ≡ Err f = rw (sym c) (slots.0 free) in rw one refl, slots.1)

pub body_lacks_other : (m : Option MuxConfig) (old mid new : Reader) (places : List SlotPlace) (f : MuxFault) (count bits : ℕ) → count ≡ slot_count m → bits ≡ other_bits m → GivesUnless is_memory (times count slot_of_bytes) old mid (Ok (slots_at old.text places))
    → GivesUnless is_memory (other_data bits) mid new (Err f) → FindsBody m old new (Err f)
body_lacks_other m old mid new places f count bits c b slots other =
    let one : (times (slot_count m) slot_of_bytes).read old ≡ Ok (slots_at old.text places, mid) = rw (sym c) slots.0 in
    (λ free. let two : (other_data (other_bits m)).read mid ≡ Err f = rw (sym b) (other.0 free) in rw (one, two) refl, (other.1.0 ∙ slots.1.0, omega (arith, other.1.1, slots.1.1)))

pub copied_some : {T : Type 0} (o : Option (Bor T)) → is_some (option_copied o) ≡ is_some o
copied_some None = refl
copied_some (Some r) = refl

pub element_found : (before : Option MuxConfig) (old mid new : Reader) (config : Option MuxConfig) (slots : List SlotPlace) → GivesUnless is_memory (opening (is_some before)) old mid (Ok config)
    → FindsBody (then_in_force before config) mid new (Ok slots) → FindsElement before old new (Ok (record { config = config; slots = slots }))
element_found before old mid new config slots opened found =
    let text : mid.text ≡ old.text = opened.1.0 in
    let last : Reader = moved new (length (left new)) in
    let read : (body (then_in_force before config)).read mid ≡ Ok ((slots_at old.text slots, (found.0, left new)), last) =
    found.1 ∙ ap (λ (t : List Bool). let q : Result ((List (List ℕ) × (List Bool × List Bool)) × Reader) MuxFault = Ok ((slots_at t slots, (found.0, left new)), last) in q) text in
    (found.0, rw (opened.0, read) refl, (found.2.0 ∙ text, omega (arith, found.2.1, opened.1.1)), subst (λ (t : List Bool). AreWithin (length t) slots) text found.3)

pub element_unopened : (before : Option MuxConfig) (old new : Reader) (f : MuxFault) → GivesUnless is_memory (opening (is_some before)) old new (Err f) → FindsElement before old new (Err f)
element_unopened before old new f opened = (λ free. rw (opened.0 free) refl, opened.1)

pub element_lacks_body : (before : Option MuxConfig) (old mid new : Reader) (config : Option MuxConfig) (f : MuxFault) → GivesUnless is_memory (opening (is_some before)) old mid (Ok config)
    → FindsBody (then_in_force before config) mid new (Err f) → FindsElement before old new (Err f)
element_lacks_body before old mid new config f opened found = (λ free. rw (opened.0, found.0 free) refl, (found.1.0 ∙ opened.1.0, omega (arith, found.1.1, opened.1.1)))

-- ---- bytes

abbrev start : List ℕ → Reader
start bytes = record { text = bits_of bytes; at = 0 }

pub places_read : (before : Option MuxConfig) (bytes : List ℕ) (new : Reader) (r : Result Places MuxFault) → FindsElement before (start bytes) new r → ReadsPlaces before bytes r
places_read before bytes new (Ok p) found =
    let L = element before in
    let last : Reader = moved new (length (left new)) in
    let v : MuxElement = record { config = p.config; slots = slots_at (bits_of bytes) p.slots; other = found.0; tail = left new } in
    let gives : GivesUnless is_memory L (start bytes) last (Ok v) = (found.1, (found.2.0, omega arith)) in
    let read = reads_text is_memory L (element_exact before) (bits_of bytes) last (Ok v) gives in
    record {
      whole = v;
      fits = read.found.0;
      spelled = read.found.1;
      config = refl;
      slots = refl;
      within = subst (λ (k : ℕ). AreWithin k p.slots) (length-bits_of bytes) found.3;
    }
places_read before bytes new (Err f) found =
    let read = reads_text is_memory (element before) (element_exact before) (bits_of bytes) new (Err f) found in
    read.fault

pub places_first : (before : Option MuxConfig) (bytes : List ℕ) (new : Reader) (r : Result Places MuxFault) → FindsElement before (start bytes) new r
    → (f : MuxFault) → (let L = element before in L.Faults 0 f (bits_of bytes)) → IsErrAnd r (λ g. is_memory g ≡ false → g ≡ f)
places_first before bytes new (Ok p) found f bad =
    let L = element before in
    let last : Reader = moved new (length (left new)) in
    let v : MuxElement = record { config = p.config; slots = slots_at (bits_of bytes) p.slots; other = found.0; tail = left new } in
    let gives : GivesUnless is_memory L (start bytes) last (Ok v) = (found.1, (found.2.0, omega arith)) in
    (reads_text is_memory L (element_exact before) (bits_of bytes) last (Ok v) gives).first f bad
places_first before bytes new (Err g) found f bad = (reads_text is_memory (element before) (element_exact before) (bits_of bytes) new (Err g) found).first f bad

-- ---- a slot that is copied

bytes_in-take : (n : ℕ) (bits : List Bool) → bytes_in n (take (8 * n) bits) ≡ bytes_in n bits
unfolding bytes_in
bytes_in-take zero bits = refl
bytes_in-take (suc n) bits =
    let many : 8 * suc n ≡ 8 + 8 * n = omega arith in
    let front : take 8 (take (8 * suc n) bits) ≡ take 8 bits = ap (λ (k : ℕ). take 8 (take k bits)) many ∙ take-take 8 (8 + 8 * n) bits (omega arith) in
    let behind : drop 8 (take (8 * suc n) bits) ≡ take (8 * n) (drop 8 bits) = ap (λ (k : ℕ). drop 8 (take k bits)) many ∙ drop-take 8 (8 * n) bits in
    ap (λ (t : List Bool). value_after 0 t ∷ bytes_in n (drop 8 (take (8 * suc n) bits))) front
    ∙ ap (λ (t : List Bool). value_after 0 (take 8 bits) ∷ bytes_in n t) behind
    ∙ ap (λ (xs : List ℕ). value_after 0 (take 8 bits) ∷ xs) (bytes_in-take n (drop 8 bits))

-- a reader of the bytes of a slot
abbrev pub around : List Bool → ℕ → ℕ → Reader
around bits from n = record { text = take (from + 8 * n) bits; at = from }

around-left : (bits : List Bool) (from n : ℕ) → left (around bits from n) ≡ take (8 * n) (drop from bits)
around-left bits from n = drop-take from (8 * n) bits

around_read : (bits : List Bool) (from n : ℕ) → from + 8 * n ≤ length bits → (octets n).read (around bits from n) ≡ Ok (bytes_in n (drop from bits), moved (around bits from n) (8 * n))
around_read bits from n le =
    let r = around bits from n in
    let long : 8 * n ≤ length (left r) = omega (arith, le, ap (λ (t : List Bool). length t) (around-left bits from n), length-take-le (8 * n) (drop from bits) (omega (arith, le, length-drop from bits))) in
    let same : bytes_in n (left r) ≡ bytes_in n (drop from bits) = ap (λ (t : List Bool). bytes_in n t) (around-left bits from n) ∙ bytes_in-take n (drop from bits) in
    (bytes_passed n r (moved r (8 * n)) long refl).0 ∙ ap (λ (xs : List ℕ). let q : Result (List ℕ × Reader) Short = Ok (xs, moved r (8 * n)) in q) same

wrapped_read : (bits : List Bool) (from n : ℕ) → from + 8 * n ≤ length bits → (wrapped (λ s. reads.Short s) (octets n)).read (around bits from n) ≡ Ok (bytes_in n (drop from bits), moved (around bits from n) (8 * n))
wrapped_read bits from n le = ap (λ (q : Result (List ℕ × Reader) Short). error_mapped (λ s. reads.Short s) q) (around_read bits from n le)

pub slot_taken : (bits : List Bool) (from n : ℕ) (old new : Reader) (slot : List ℕ) → from + 8 * n ≤ length bits → old ≡ around bits from n → GivesUnless is_free (wrapped (λ s. reads.Short s) (octets n)) old new (Ok slot) → slot ≡ bytes_in n (drop from bits)
slot_taken bits from n old new slot le is gives =
    let read : (wrapped (λ s. reads.Short s) (octets n)).read (around bits from n) ≡ Ok (slot, new) = ap (wrapped (λ s. reads.Short s) (octets n)).read (sym is) ∙ gives.0 in
    ap (λ (x : List ℕ × Reader). x.0) (ok_is {F = ReadFault} (slot, new) (bytes_in n (drop from bits), moved (around bits from n) (8 * n)) (sym read ∙ wrapped_read bits from n le))

pub slot_never_short : (bits : List Bool) (from n : ℕ) (old new : Reader) (s : Short) → from + 8 * n ≤ length bits → old ≡ around bits from n → GivesUnless is_free (wrapped (λ s. reads.Short s) (octets n)) old new (Err (reads.Short s)) → ⊥
slot_never_short bits from n old new s le is gives =
    let read : (wrapped (λ s. reads.Short s) (octets n)).read (around bits from n) ≡ Err (reads.Short s) = ap (wrapped (λ s. reads.Short s) (octets n)).read (sym is) ∙ gives.0 refl in
    let found = wrapped_read bits from n le in
    cc
