-- Lists of frames that texts begin with.
use Rattle.std.proofs.Common.{◌≡◌, ℕ, zero, suc, ◌<◌, ◌≤◌, List, [], ◌∷◌, ◌++◌, length, flat_map, refl, sym, ap, subst, ◌∙◌, append_assoc, arith, inl, inr}
use Rattle.std.specs.Prelude.{◌⊎◌}
use Rattle.std.proofs.lemmas.Grind.{flat_map-append}
use Rattle.std.proofs.lemmas.List.{length-append, append-nil}
use Rattle.std.proofs.lemmas.List.Elements.{All-nil, All-cons, All-head, All-tail, All-append}
use Rattle.loas.specs.Framing.{framed, IsFrameBody, IsPartial, HasWrongSync, Splits, IsLongest}
use Rattle.loas.specs.Cut.{Cut, Whole, Partial, Lost, cut_of}
use Rattle.loas.proofs.Frames.{same_frame, cut-framed, cut-partial, cut-lost, whole_framed, partial_is}

pub splits-none : (text : List ℕ) → Splits text [] text
splits-none text = record { each = All-nil IsFrameBody; whole = refl }

-- one frame in front
pub splits-cons : (text body behind : List ℕ) (bodies : List (List ℕ)) (rest : List ℕ) → IsFrameBody body → text ≡ framed body ++ behind → Splits behind bodies rest → Splits text (body ∷ bodies) rest
splits-cons text body behind bodies rest fits e s = record {
  each = All-cons IsFrameBody body bodies fits s.each;
  whole = e ∙ ap (λ (t : List ℕ). framed body ++ t) s.whole ∙ sym (append_assoc (framed body) (flat_map framed bodies) rest);
}

-- what stands behind the first frame
splits_behind : (text body : List ℕ) (bodies : List (List ℕ)) (rest : List ℕ) → Splits text (body ∷ bodies) rest
    → IsFrameBody body × (text ≡ framed body ++ (flat_map framed bodies ++ rest)) × Splits (flat_map framed bodies ++ rest) bodies rest
splits_behind text body bodies rest s =
    (All-head IsFrameBody body bodies s.each, s.whole ∙ append_assoc (framed body) (flat_map framed bodies) rest, record { each = All-tail IsFrameBody body bodies s.each; whole = refl })

-- frames of the rest
pub splits-append : (text : List ℕ) (bodies : List (List ℕ)) (rest : List ℕ) (others : List (List ℕ)) (remains : List ℕ) → Splits text bodies rest → Splits rest others remains → Splits text (bodies ++ others) remains
splits-append text bodies rest others remains s r = record {
  each = All-append IsFrameBody bodies others s.each r.each;
  whole = s.whole ∙ ap (λ (t : List ℕ). flat_map framed bodies ++ t) r.whole
      ∙ sym (append_assoc (flat_map framed bodies) (flat_map framed others) remains)
      ∙ ap (λ (t : List ℕ). t ++ remains) (sym (flat_map-append framed bodies others));
}

-- what stands behind the text stands behind the rest
pub splits-more : (text : List ℕ) (bodies : List (List ℕ)) (rest more : List ℕ) → Splits text bodies rest → Splits (text ++ more) bodies (rest ++ more)
splits-more text bodies rest more s = record {
  each = s.each;
  whole = ap (λ (t : List ℕ). t ++ more) s.whole ∙ append_assoc (flat_map framed bodies) rest more;
}

-- Of two lists of frames that a text begins with one begins with the other.
compared : (text : List ℕ) (some others : List (List ℕ)) (rest remains : List ℕ) → Splits text some rest → Splits text others remains
    → ((more : List (List ℕ)) × (others ≡ some ++ more) × Splits rest more remains) ⊎ ((body : List ℕ) × (more : List (List ℕ)) × (some ≡ others ++ body ∷ more))
compared text [] others rest remains a b = inl (others, refl, subst (λ (t : List ℕ). Splits t others remains) a.whole b)
compared text (body ∷ some) [] rest remains a b = inr (body, some, refl)
compared text (body ∷ some) (other ∷ others) rest remains a b =
    let one = splits_behind text body some rest a in
    let two = splits_behind text other others remains b in
    let same = same_frame body (flat_map framed some ++ rest) other (flat_map framed others ++ remains) one.0 two.0 (sym one.1 ∙ two.1) in
    elim (compared (flat_map framed some ++ rest) some others rest remains one.2 (subst (λ (t : List ℕ). Splits t others remains) (sym same.1) two.2)) [
      | inl h ↦ inl (h.0, ap (λ (b : List ℕ). b ∷ others) (sym same.0) ∙ ap (λ (bs : List (List ℕ)). body ∷ bs) h.1, h.2)
      | inr h ↦ inr (h.0, h.1, ap (λ (bs : List (List ℕ)). body ∷ bs) h.2 ∙ ap (λ (b : List ℕ). b ∷ (others ++ h.0 ∷ h.1)) same.0)
    ]

-- no frame stands at the front
abbrev pub HasNoFrame : List ℕ → Type 0
HasNoFrame rest = (body behind : List ℕ) → IsFrameBody body → rest ≡ framed body ++ behind → ⊥

-- Frames behind which no further one stands are the most.
pub stuck_longest : (text : List ℕ) (bodies : List (List ℕ)) (rest : List ℕ) → Splits text bodies rest → HasNoFrame rest → IsLongest text bodies rest
stuck_longest text bodies rest s none = record {
  splits = s;
  longest = λ others remains d.
      elim (compared text bodies others rest remains s d) [
        | inl h ↦ no_more h.0 remains h.2 others h.1
        | inr h ↦ omega (arith, ap (λ (bs : List (List ℕ)). length bs) h.2, length-append others (h.0 ∷ h.1))
      ];
}
  where
    no_more : (more : List (List ℕ)) (remains : List ℕ) → Splits rest more remains → (others : List (List ℕ)) → others ≡ bodies ++ more → length others ≤ length bodies
    no_more [] remains h others e = omega (arith, ap (λ (bs : List (List ℕ)). length bs) (e ∙ append-nil bodies))
    no_more (body ∷ more) remains h others e = let w = splits_behind rest body more remains h in absurd (none body _ w.0 w.1)

-- Frames that a text begins with are the first of the most.
pub first_of_longest : (text : List ℕ) (bodies : List (List ℕ)) (rest : List ℕ) (most : List (List ℕ)) (remains : List ℕ) → Splits text bodies rest → IsLongest text most remains
    → (later : List (List ℕ)) × (most ≡ bodies ++ later) × Splits rest later remains
first_of_longest text bodies rest most remains s l =
    elim (compared text bodies most rest remains s l.splits) [
      | inl h ↦ h
      | inr h ↦ absurd (let le = l.longest bodies rest s in omega (arith, le, ap (λ (bs : List (List ℕ)). length bs) h.2, length-append most (h.0 ∷ h.1)))
    ]

-- The most frames that a text begins with are one list, and what remains is one text.
pub one_longest : (text : List ℕ) (a b : List (List ℕ)) (x y : List ℕ) → IsLongest text a x → IsLongest text b y → (a ≡ b) × (x ≡ y)
one_longest text a b x y l m =
    let h = first_of_longest text a x b y l.splits m in
    none h.0 h.1 h.2
  where
    none : (more : List (List ℕ)) → b ≡ a ++ more → Splits x more y → (a ≡ b) × (x ≡ y)
    none [] e s = (sym (e ∙ append-nil a), s.whole)
    none (body ∷ more) e s = absurd (let le = l.longest b y m.splits in omega (arith, le, ap (λ (bs : List (List ℕ)). length bs) e, length-append a (body ∷ more)))

-- ---- where no frame stands

pub partial_stuck : (rest : List ℕ) → IsPartial rest → HasNoFrame rest
partial_stuck rest p body behind fits e =
    let w : Partial ≡ Whole body behind = sym (cut-partial rest p) ∙ ap cut_of e ∙ cut-framed body behind fits in cc

pub wrong_stuck : (rest : List ℕ) → HasWrongSync rest → HasNoFrame rest
wrong_stuck rest wrong body behind fits e =
    let w : Lost ≡ Whole body behind = sym (cut-lost rest wrong) ∙ ap cut_of e ∙ cut-framed body behind fits in cc

lost_stuck : (rest : List ℕ) → cut_of rest ≡ Lost → HasNoFrame rest
lost_stuck rest lost body behind fits e =
    let w : Lost ≡ Whole body behind = sym lost ∙ ap cut_of e ∙ cut-framed body behind fits in cc

-- ---- there are most frames of any text

-- the frames of a text, and behind them none
record Found (text : List ℕ) : Type 0 where
  bodies : List (List ℕ)
  rest : List ℕ
  splits : Splits text bodies rest
  none : HasNoFrame rest

found_none : (text : List ℕ) → HasNoFrame text → Found text
found_none text none = record { bodies = []; rest = text; splits = splits-none text; none = none }

found_behind : (text body behind : List ℕ) → IsFrameBody body → text ≡ framed body ++ behind → Found behind → Found text
found_behind text body behind fits e f = record {
  bodies = body ∷ f.bodies;
  rest = f.rest;
  splits = splits-cons text body behind f.bodies f.rest fits e f.splits;
  none = f.none;
}

-- where shorter texts have them
found_at : (text : List ℕ) → ((behind : List ℕ) → length behind < length text → Found behind) → (c : Cut) → cut_of text ≡ c → Found text
found_at text shorter (Whole body behind) e =
    let w = whole_framed text body behind e in
    found_behind text body behind w.1 w.0 (shorter behind (omega (arith, ap (λ (t : List ℕ). length t) w.0, length-append (framed body) behind)))
found_at text shorter Partial e = found_none text (partial_stuck text (partial_is text e))
found_at text shorter Lost e = found_none text (lost_stuck text e)

found_within : (n : ℕ) (text : List ℕ) → length text ≤ n → Found text
found_within zero [] le = found_none [] (partial_stuck [] (partial_is [] refl))
found_within zero (first ∷ text) le = absurd (omega arith)
found_within (suc n) text le = found_at text (λ behind short. found_within n behind (omega arith)) (cut_of text) refl

pub exists_longest : (text : List ℕ) → (bodies : List (List ℕ)) × (rest : List ℕ) × IsLongest text bodies rest
exists_longest text =
    let f = found_within (length text) text (omega arith) in
    (f.bodies, f.rest, stuck_longest text f.bodies f.rest f.splits f.none)
