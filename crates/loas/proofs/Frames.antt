-- The code's cut of a text is the cut by frames.
use Rattle.std.proofs.Common.{◌≡◌, ℕ, suc, ◌+◌, ◌-◌, ◌*◌, ◌/◌, ◌%◌, ◌<◌, ◌≤◌, List, [], ◌∷◌, ◌++◌, length, take, drop, refl, sym, ◌∙◌, ap, arith, length-append, inl, inr, replicate, All}
use Rattle.std.proofs.lemmas.Bool.Decides.{nat_tests}
use Rattle.std.proofs.lemmas.Grind.{common_steps}
use Rattle.std.proofs.lemmas.Bool.{cases_lt, lt-ltb, le-ltb}
use Rattle.std.proofs.Math.Seq.{take-append_seam, drop-append_seam}
use Rattle.std.proofs.lemmas.List.{take-append-drop, length-take-le, length-drop, length-replicate}
use Rattle.loas.specs.Framing.{framed, IsFrameBody, BeginsWithFrame, IsPartial, IsLost, HasWrongSync}
use Rattle.std.specs.Prelude.{◌⊎◌}
use Rattle.loas.specs.Cut.{Cut, Whole, Partial, Lost, cut_of, cut_body}
use Rattle.loas.specs.Front.{Shows, Stands}
use Rattle.loas.specs.declared.framing.Front.{Front}
use Rattle.loas.specs.declared.framing.Front.TheVariants as front

-- a header of three bytes that can stand before a body
record IsHeader (first second third : ℕ) : Type 0 where
  sync : first ≡ 86
  tail : 224 ≤ second
  high : second < 256
  low : third < 256

cut-header : (first second low : ℕ) (bytes : List ℕ) → IsHeader first second low
    → cut_of (first ∷ second ∷ low ∷ bytes) ≡ cut_body ((second - 224) * 256 + low) bytes
cut-header first second low bytes h = grind (arith, nat_tests)

header_of : (first second low : ℕ) (bytes : List ℕ) → (cut_of (first ∷ second ∷ low ∷ bytes) ≡ Lost → ⊥) → IsHeader first second low
header_of first second low bytes h = record {
  sync = grind (arith, nat_tests);
  tail = grind (arith, nat_tests);
  high = grind (arith, nat_tests);
  low = grind (arith, nat_tests);
}

cut_body-append : (body rest : List ℕ) → cut_body (length body) (body ++ rest) ≡ Whole body rest
cut_body-append body rest = grind (arith, nat_tests, common_steps, take-append_seam body rest, drop-append_seam body rest)

whole_body : (n : ℕ) (bytes body rest : List ℕ) → cut_body n bytes ≡ Whole body rest → (bytes ≡ body ++ rest) × (length body ≡ n)
whole_body n bytes body rest e =
    elim (cases_lt (length bytes) n) [
      | inl short ↦ let w : Partial ≡ Whole body rest = rw (lt-ltb _ _ short) at e in cc
      | inr long ↦
          let w : Whole (take n bytes) (drop n bytes) ≡ Whole body rest = rw (le-ltb _ _ long) at e in
          let front_is : take n bytes ≡ body = cc in
          let rest_is : drop n bytes ≡ rest = cc in
          (sym (take-append-drop n bytes) ∙ cc, ap length (sym front_is) ∙ length-take-le n bytes long)
    ]

-- a frame at the front of a text is the cut
pub cut-framed : (body rest : List ℕ) → IsFrameBody body → cut_of (framed body ++ rest) ≡ Whole body rest
cut-framed body rest fits =
    let h : IsHeader 86 (224 + length body / 256) (length body % 256) = record { sync = refl; tail = omega arith; high = omega arith; low = omega arith } in
    let n : (224 + length body / 256 - 224) * 256 + length body % 256 ≡ length body = omega arith in
    cut-header _ _ _ (body ++ rest) h ∙ ap (λ k. cut_body k (body ++ rest)) n ∙ cut_body-append body rest

-- the cut is a frame at the front of a text
pub whole_framed : (text body rest : List ℕ) → cut_of text ≡ Whole body rest → (text ≡ framed body ++ rest) × IsFrameBody body
whole_framed [] body rest e = cc
whole_framed (first ∷ []) body rest e = grind (arith, nat_tests)
whole_framed (first ∷ second ∷ []) body rest e = grind (arith, nat_tests)
whole_framed (first ∷ second ∷ low ∷ bytes) body rest e =
    let h : IsHeader first second low = header_of first second low bytes (λ lost. let w : Whole body rest ≡ Lost = sym e ∙ lost in cc) in
    let w : cut_body ((second - 224) * 256 + low) bytes ≡ Whole body rest = sym (cut-header first second low bytes h) ∙ e in
    let b = whole_body _ bytes body rest w in
    let first_is : first ≡ 86 = h.sync in
    let second_is : second ≡ 224 + length body / 256 = omega (arith, b.1, h.tail, h.high, h.low) in
    let low_is : low ≡ length body % 256 = omega (arith, b.1, h.tail, h.high, h.low) in
    (cc, omega (arith, b.1, h.tail, h.high, h.low))

partial_body : (n : ℕ) (bytes : List ℕ) → cut_body n bytes ≡ Partial → length bytes < n
partial_body n bytes e = grind (arith, nat_tests)

pub partial_is : (text : List ℕ) → cut_of text ≡ Partial → IsPartial text
partial_is [] e = record { body = []; more = 86 ∷ 224 ∷ 0 ∷ []; fits = omega arith; proper = omega arith; spelled = refl }
partial_is (first ∷ []) e =
    let first_is : first ≡ 86 = grind (arith, nat_tests) in
    record { body = []; more = 224 ∷ 0 ∷ []; fits = omega arith; proper = omega arith; spelled = rw first_is refl }
partial_is (first ∷ second ∷ []) e =
    let first_is : first ≡ 86 = grind (arith, nat_tests) in
    let tail : 224 ≤ second = grind (arith, nat_tests) in
    let high : second < 256 = grind (arith, nat_tests) in
    let body : List ℕ = replicate ((second - 224) * 256) 0 in
    let long : length body ≡ (second - 224) * 256 = length-replicate _ 0 in
    let second_is : second ≡ 224 + length body / 256 = omega (arith, long) in
    let low_is : 0 ≡ length body % 256 = omega (arith, long) in
    record { body = body; more = 0 ∷ body; fits = omega (arith, long); proper = omega arith; spelled = cc }
partial_is (first ∷ second ∷ low ∷ bytes) e =
    let h : IsHeader first second low = header_of first second low bytes (λ lost. let w : Partial ≡ Lost = sym e ∙ lost in cc) in
    let n : ℕ = (second - 224) * 256 + low in
    let w : cut_body n bytes ≡ Partial = sym (cut-header first second low bytes h) ∙ e in
    let short : length bytes < n = partial_body n bytes w in
    let more : List ℕ = replicate (n - length bytes) 0 in
    let more_long : length more ≡ n - length bytes = length-replicate _ 0 in
    let long : length (bytes ++ more) ≡ n = simp length-append (omega (arith, more_long, short)) in
    let first_is : first ≡ 86 = h.sync in
    let second_is : second ≡ 224 + length (bytes ++ more) / 256 = omega (arith, long, h.tail, h.high, h.low) in
    let low_is : low ≡ length (bytes ++ more) % 256 = omega (arith, long, h.tail, h.high, h.low) in
    record { body = bytes ++ more; more = more; fits = omega (arith, long, h.high, h.low); proper = omega (arith, more_long, short); spelled = cc }

pub cut-partial : (text : List ℕ) → IsPartial text → cut_of text ≡ Partial
cut-partial [] p = refl
cut-partial (first ∷ []) p = let e : first ≡ 86 = cc p.spelled in rw e refl
cut-partial (first ∷ second ∷ []) p =
    let first_is : first ≡ 86 = cc p.spelled in
    let second_is : second ≡ 224 + length p.body / 256 = cc p.spelled in
    let fits = p.fits in
    grind (arith, nat_tests)
cut-partial (first ∷ second ∷ low ∷ bytes) p =
    let first_is : first ≡ 86 = cc p.spelled in
    let second_is : second ≡ 224 + length p.body / 256 = cc p.spelled in
    let low_is : low ≡ length p.body % 256 = cc p.spelled in
    let body_is : bytes ++ p.more ≡ p.body = cc p.spelled in
    let fits = p.fits in
    let h : IsHeader first second low = record { sync = first_is; tail = omega arith; high = omega arith; low = omega arith } in
    let n : (second - 224) * 256 + low ≡ length p.body = omega arith in
    let short : length bytes < length p.body = omega (arith, p.proper, simp length-append at (ap length body_is)) in
    cut-header first second low bytes h ∙ ap (λ k. cut_body k bytes) n ∙ rw (lt-ltb _ _ short) refl

-- a wrong syncword is the loss of the stream
pub cut-lost : (text : List ℕ) → HasWrongSync text → cut_of text ≡ Lost
cut-lost [] h = absurd h
cut-lost (first ∷ []) h = grind (arith, nat_tests)
cut-lost (first ∷ second ∷ text) h =
    elim h [
      | inl sync ↦ grind (arith, nat_tests)
      | inr tail ↦ elim (cases_lt second 224) [
        | inl low ↦ grind (arith, nat_tests)
        | inr high ↦ let over : 256 ≤ second = omega arith in grind (arith, nat_tests)
      ]
    ]

pub lost_is : (text : List ℕ) → HasWrongSync text → IsLost text
lost_is text wrong = record {
  no_frame = λ body rest fits e. let w : Lost ≡ Whole body rest = sym (cut-lost text wrong) ∙ ap cut_of e ∙ cut-framed body rest fits in cc;
  no_part = λ p. let w : Lost ≡ Partial = sym (cut-lost text wrong) ∙ cut-partial text p in cc;
}

-- of bytes the loss is a wrong syncword
pub wrong_is : (text : List ℕ) → All (λ byte. byte < 256) text → cut_of text ≡ Lost → HasWrongSync text
wrong_is [] bytes e = cc
wrong_is (first ∷ []) bytes e = λ same. let w : Partial ≡ Lost = rw same at e in cc
wrong_is (first ∷ second ∷ []) bytes e = elim (cases_lt second 224) [
  | inl low ↦ inr (omega arith)
  | inr high ↦ inl (λ same. let small : second < 256 = bytes 1 0 (omega arith) in let w : Partial ≡ Lost = grind (arith, nat_tests) in cc)
]
wrong_is (first ∷ second ∷ third ∷ text) bytes e = elim (cases_lt second 224) [
  | inl low ↦ inr (omega arith)
  | inr high ↦ inl (λ same.
      let h : IsHeader first second third = record { sync = same; tail = high; high = bytes 1 0 (omega arith); low = bytes 2 0 (omega arith) } in
      let w : cut_body ((second - 224) * 256 + third) text ≡ Lost = sym (cut-header first second third text h) ∙ e in
      grind (arith, nat_tests))
]

-- A text begins with at most one frame.
pub same_frame : (a x b y : List ℕ) → IsFrameBody a → IsFrameBody b → framed a ++ x ≡ framed b ++ y → (a ≡ b) × (x ≡ y)
same_frame a x b y fits_a fits_b e =
    let w : Whole a x ≡ Whole b y = sym (cut-framed a x fits_a) ∙ ap cut_of e ∙ cut-framed b y fits_b in
    (cc, cc)

pub stands : (text : List ℕ) (c : Front) → Shows text c → Stands text c
stands text (front.Frame n) s =
    let whole = whole_framed text _ _ s.0 in
    let long : n ≤ length (drop 3 text) = simp length-drop (omega (arith, s.1)) in
    record { fits = omega (arith, whole.1, length-take-le n (drop 3 text) long); long = s.1; spelled = whole.0 }
stands text front.Part s = partial_is text s
stands text front.Lost s = s

drop-header : (body rest : List ℕ) → drop (3 + length body) (framed body ++ rest) ≡ rest
drop-header body rest = rw three_more (drop-append_seam body rest)
  where
    three_more : 3 + length body ≡ suc (suc (suc (length body)))
    three_more = omega arith

begins_with : (text body rest : List ℕ) → cut_of text ≡ Whole body rest → BeginsWithFrame (length body) text
begins_with text body rest e =
    let w = whole_framed text body rest e in
    let body_is : take (length body) (drop 3 text) ≡ body = ap (λ (t : List ℕ). take (length body) (drop 3 t)) w.0 ∙ take-append_seam body rest in
    let rest_is : drop (3 + length body) text ≡ rest = ap (λ (t : List ℕ). drop (3 + length body) t) w.0 ∙ drop-header body rest in
    record {
      fits = w.1;
      long = omega (arith, ap (λ (t : List ℕ). length t) w.0, length-append (framed body) rest);
      spelled = w.0 ∙ ap (λ (t : List ℕ). framed t ++ rest) (sym body_is) ∙ ap (λ (t : List ℕ). framed (take (length body) (drop 3 text)) ++ t) (sym rest_is);
    }

-- what stands at the front of some bytes
pub some_front : (text : List ℕ) → All (λ byte. byte < 256) text → ((n : ℕ) × BeginsWithFrame n text) ⊎ (IsPartial text ⊎ HasWrongSync text)
some_front text bytes = of_cut (cut_of text) refl
  where
    of_cut : (c : Cut) → cut_of text ≡ c → ((n : ℕ) × BeginsWithFrame n text) ⊎ (IsPartial text ⊎ HasWrongSync text)
    of_cut (Whole body rest) e = inl (length body, begins_with text body rest e)
    of_cut Partial e = inr (inl (partial_is text e))
    of_cut Lost e = inr (inr (wrong_is text bytes e))

pub wrong_of_lost : (text : List ℕ) → All (λ byte. byte < 256) text → IsLost text → HasWrongSync text
wrong_of_lost text bytes lost = elim (some_front text bytes) [
  | inl begins ↦ absurd (lost.no_frame _ _ (omega (arith, begins.1.fits, length-take-le begins.0 (drop 3 text) (omega (arith, begins.1.long, length-drop 3 text)))) begins.1.spelled)
  | inr other ↦ elim other [
    | inl part ↦ absurd (lost.no_part part)
    | inr wrong ↦ wrong
  ]
]
