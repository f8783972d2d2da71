-- How many bytes are held behind the elements that were read.
use Rattle.std.proofs.Common.{◌≡◌, ℕ, ◌+◌, ◌<◌, ◌≤◌, List, ◌++◌, length, take, drop, sym, ap, subst, ◌∙◌, append_assoc, arith, inl, inr}
use Rattle.std.proofs.lemmas.Bool.{cases_lt}
use Rattle.std.proofs.lemmas.List.{length-append, length-drop, take_at, take-append-le, take-append-drop}
use Rattle.loas.specs.Framing.{framed, BeginsWithFrame, IsPartial}
use Rattle.loas.proofs.Given.{begins-fits, begins-length, frame-not_partial}
use Rattle.au_stream.specs.Taking.{IsNeeded}

-- less than a frame is shorter than the frame that it begins
partial_short : (part more : List ℕ) (n : ℕ) → BeginsWithFrame n (part ++ more) → IsPartial part → length part < 3 + n
partial_short part more n b partial =
    elim (cases_lt (length part) (3 + n)) [
      | inl below ↦ below
      | inr above ↦
          let body = take n (drop 3 (part ++ more)) in
          let long : length (framed body) ≡ 3 + n = omega (arith, begins-length n (part ++ more) b) in
          let inside : 3 + n ≤ length part = omega (arith, above) in
          let front : take (3 + n) part ≡ framed body =
          sym (take-append-le (3 + n) part more inside) ∙ ap (λ (t : List ℕ). take (3 + n) t) b.spelled ∙ take_at (framed body) (drop (3 + n) (part ++ more)) (3 + n) long in
          let whole : part ≡ framed body ++ drop (3 + n) part = sym (take-append-drop (3 + n) part) ∙ ap (λ (t : List ℕ). t ++ drop (3 + n) part) front in
          absurd (frame-not_partial part body (drop (3 + n) part) (begins-fits n (part ++ more) b) whole partial)
    ]

-- what stands behind the frame that a call has found
pub ahead_next : (held got : List ℕ) (n : ℕ) → IsNeeded held got → length held < 8192 → BeginsWithFrame n (held ++ got) → length (drop (3 + n) (held ++ got)) < 8192
ahead_next held got n (inl none) few b = omega (arith, few, length-drop (3 + n) (held ++ got), length-append held got, ap (λ (t : List ℕ). length t) none)
ahead_next held got n (inr piece) few b =
    let all : held ++ got ≡ (held ++ piece.0) ++ piece.1 = ap (λ (t : List ℕ). held ++ t) piece.2 ∙ sym (append_assoc held piece.0 piece.1) in
    let short : length (held ++ piece.0) < 3 + n = partial_short (held ++ piece.0) piece.1 n (subst (λ (t : List ℕ). BeginsWithFrame n t) all b) piece.3 in
    omega (arith, short, piece.4, length-drop (3 + n) (held ++ got), ap (λ (t : List ℕ). length t) all, length-append (held ++ piece.0) piece.1)
