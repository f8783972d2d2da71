-- What a framer answers by what it holds is what it answers by all bytes that were pushed.
use Rattle.std.proofs.Common.{◌≡◌, ℕ, ◌+◌, ◌<◌, ◌≤◌, List, [], ◌∷◌, ◌++◌, length, take, drop, flat_map, refl, sym, ap, subst, ◌∙◌, append_assoc, append-nil, arith, inl, inr, Result, Ok, Err, Some, None}
use Rattle.std.specs.Prelude.{◌↔◌, Bool, true, false, IsTrue}
use Rattle.std.specs.declared.option.Option.{Option}
use Rattle.std.proofs.lemmas.Grind.{flat_map-append}
use Rattle.std.proofs.lemmas.List.{length-append, length-drop, length-take-le}
use Rattle.loas.specs.Framing.{framed, IsFrameBody, BeginsWithFrame, IsPartial, HasWrongSync, Splits, IsLongest}
use Rattle.loas.specs.Cut.{Partial, Lost}
use Rattle.loas.specs.Framer.{Framer, grown, past_frame}
use Rattle.loas.specs.Giving.{HasGiven, given_by, Gives, Ends, Takes, EndsBy}
use Rattle.loas.specs.declared.framed.Framed.{Framed}
use Rattle.loas.specs.declared.fault.LoasFault.{LoasFault}
use Rattle.loas.specs.declared.fault.LoasFault.TheVariants.{SyncLost, Truncated, Memory}
use Rattle.loas.proofs.Frames.{cut-partial, cut-lost}
use Rattle.loas.proofs.Splitting.{splits-none, splits-cons, splits-append, splits-more, stuck_longest, first_of_longest, one_longest, partial_stuck, wrong_stuck}

-- how many bytes stand behind the header of the frame that begins the text
pub begins-length : (n : ℕ) (text : List ℕ) → BeginsWithFrame n text → length (take n (drop 3 text)) ≡ n
begins-length n text b = length-take-le n (drop 3 text) (omega (arith, b.long, length-drop 3 text))

pub begins-fits : (n : ℕ) (text : List ℕ) → BeginsWithFrame n text → IsFrameBody (take n (drop 3 text))
begins-fits n text b = omega (arith, b.fits, begins-length n text b)

begins-splits : (n : ℕ) (text : List ℕ) → BeginsWithFrame n text → Splits text (take n (drop 3 text) ∷ []) (drop (3 + n) text)
begins-splits n text b = splits-cons text _ (drop (3 + n) text) [] (drop (3 + n) text) (begins-fits n text b) b.spelled (splits-none (drop (3 + n) text))

-- one body more
pub length-one_more : (given : List (List ℕ)) (body : List ℕ) → length (flat_map framed (given ++ body ∷ [])) ≡ length (flat_map framed given) + (3 + length body)
length-one_more given body =
    let e = ap (λ (t : List ℕ). length t) (flat_map-append framed given (body ∷ [])) in
    let l = length-append (flat_map framed given) (flat_map framed (body ∷ [])) in
    let n = length-append (framed body) [] in
    omega (arith, e, l, n)

pub given-none : HasGiven [] [] (record { passed = 0; held = [] })
given-none = record { splits = splits-none []; passed = refl }

pub given-more : (text : List ℕ) (given : List (List ℕ)) (framer : Framer) (piece : List ℕ) → HasGiven text given framer → HasGiven (text ++ piece) given (grown framer piece)
given-more text given framer piece h = record { splits = splits-more text given framer.held piece h.splits; passed = h.passed }

-- a frame is given, and what is held is what stands behind it
pub given-frame : (text : List ℕ) (given : List (List ℕ)) (old new : Framer) (body : List ℕ) → HasGiven text given old → IsFrameBody body → old.held ≡ framed body ++ new.held → new.passed ≡ old.passed + (3 + length body)
    → HasGiven text (given ++ body ∷ []) new
given-frame text given old new body h fits split passed = record {
  splits = splits-append text given old.held (body ∷ []) new.held h.splits (splits-cons old.held body new.held [] new.held fits split (splits-none new.held));
  passed = passed ∙ ap (λ (k : ℕ). k + (3 + length body)) h.passed ∙ sym (length-one_more given body);
}

pub given-past : (text : List ℕ) (given : List (List ℕ)) (n : ℕ) (framer : Framer) → HasGiven text given framer → BeginsWithFrame n framer.held
    → HasGiven text (given ++ take n (drop 3 framer.held) ∷ []) (past_frame n framer)
given-past text given n framer h b =
    given-frame text given framer (past_frame n framer) (take n (drop 3 framer.held)) h (begins-fits n framer.held b) b.spelled
    (ap (λ (k : ℕ). framer.passed + (3 + k)) (sym (begins-length n framer.held b)))

pub takes-frame : (n : ℕ) (framer : Framer) (frame : Framed) → BeginsWithFrame n framer.held → frame.at ≡ framer.passed → frame.element ≡ take n (drop 3 framer.held)
    → Takes framer (past_frame n framer) (Ok (Some frame))
takes-frame n framer frame b at e =
    let long = begins-length n framer.held b in (
      at,
      subst IsFrameBody (sym e) (begins-fits n framer.held b),
      b.spelled ∙ ap (λ (t : List ℕ). framed t ++ drop (3 + n) framer.held) (sym e),
      ap (λ (k : ℕ). framer.passed + (3 + k)) (sym (ap (λ (t : List ℕ). length t) e ∙ long)),
    )

pub given-takes : (text : List ℕ) (given : List (List ℕ)) (old new : Framer) (result : Result (Option Framed) LoasFault) → Takes old new result → HasGiven text given old → HasGiven text (given ++ given_by result) new
given-takes text given old new (Ok (Some frame)) t h = given-frame text given old new frame.element h t.1 t.2 t.3
given-takes text given old new (Ok None) t h = rw (append-nil given, t.0) h
given-takes text given old new (Err (SyncLost byte)) t h = rw (append-nil given, t.0) h
given-takes text given old new (Err (Truncated byte)) t h = absurd t
given-takes text given old new (Err (Memory error)) t h = rw (append-nil given, t.0) h

-- where no frame is held, all were given
all_given : (text : List ℕ) (given bodies : List (List ℕ)) (rest : List ℕ) (framer : Framer) → HasGiven text given framer → IsLongest text bodies rest → ((body behind : List ℕ) → IsFrameBody body → framer.held ≡ framed body ++ behind → ⊥)
    → (given ≡ bodies) × (framer.held ≡ rest)
all_given text given bodies rest framer h l none = one_longest text given bodies framer.held rest (stuck_longest text given framer.held h.splits none) l

-- where a frame is held, one is due
pub one_due : (text : List ℕ) (given bodies : List (List ℕ)) (rest : List ℕ) (framer : Framer) (n : ℕ) → HasGiven text given framer → IsLongest text bodies rest → BeginsWithFrame n framer.held → length given < length bodies
one_due text given bodies rest framer n h l b =
    let le = l.longest (given ++ take n (drop 3 framer.held) ∷ []) (drop (3 + n) framer.held) (splits-append text given framer.held _ (drop (3 + n) framer.held) h.splits (begins-splits n framer.held b)) in
    omega (arith, le, length-append given (take n (drop 3 framer.held) ∷ []))

pub gives : (text : List ℕ) (given bodies : List (List ℕ)) (rest : List ℕ) (old new : Framer) (result : Result (Option Framed) LoasFault) → Takes old new result → HasGiven text given old → IsLongest text bodies rest → Gives given bodies rest result
gives text given bodies rest old new (Ok (Some frame)) t h l =
    let f = first_of_longest text (given ++ frame.element ∷ []) new.held bodies rest (given-frame text given old new frame.element h t.1 t.2 t.3).splits l in
    (t.0 ∙ h.passed, f.0, f.1 ∙ append_assoc given (frame.element ∷ []) f.0)
gives text given bodies rest old new (Ok None) t h l =
    let all = all_given text given bodies rest old h l (partial_stuck old.held t.1) in
    (all.0, subst IsPartial all.1 t.1)
gives text given bodies rest old new (Err (SyncLost byte)) t h l =
    let all = all_given text given bodies rest old h l (wrong_stuck old.held t.1) in
    (all.0, subst (λ (r : List ℕ). HasWrongSync r) all.1 t.1, t.2 ∙ h.passed ∙ ap (λ (bs : List (List ℕ)). length (flat_map framed bs)) all.0)
gives text given bodies rest old new (Err (Truncated byte)) t h l = absurd t
gives text given bodies rest old new (Err (Memory error)) t h l = one_due text given bodies rest old t.1 h l t.2

partial-nil : (text : List ℕ) → text ≡ [] → (body behind : List ℕ) → IsFrameBody body → text ≡ framed body ++ behind → ⊥
partial-nil text e body behind fits f = let w : [] ≡ framed body ++ behind = sym e ∙ f in cc

pub ends : (text : List ℕ) (given bodies : List (List ℕ)) (rest : List ℕ) (framer : Framer) (result : Result (Unit {0}) LoasFault) → EndsBy framer result → HasGiven text given framer → IsLongest text bodies rest → Ends given bodies rest result
ends text given bodies rest framer (Ok done) t h l = elim t [
  | inl none ↦ let all = all_given text given bodies rest framer h l (partial-nil framer.held none) in inr (all.0, sym all.1 ∙ none)
  | inr frame ↦ inl (one_due text given bodies rest framer frame.0 h l frame.1)
]
ends text given bodies rest framer (Err (SyncLost byte)) t h l =
    let all = all_given text given bodies rest framer h l (wrong_stuck framer.held t.0) in
    (all.0, subst (λ (r : List ℕ). HasWrongSync r) all.1 t.0, t.1 ∙ h.passed ∙ ap (λ (bs : List (List ℕ)). length (flat_map framed bs)) all.0)
ends text given bodies rest framer (Err (Truncated byte)) t h l =
    let all = all_given text given bodies rest framer h l (partial_stuck framer.held t.0) in
    (all.0, subst IsPartial all.1 t.0, subst (λ (r : List ℕ). 0 < length r) all.1 t.1, t.2 ∙ h.passed ∙ ap (λ (bs : List (List ℕ)). length (flat_map framed bs)) all.0)
ends text given bodies rest framer (Err (Memory error)) t h l = absurd t

-- ---- the three fronts exclude each other

pub frame-not_partial : (text body behind : List ℕ) → IsFrameBody body → text ≡ framed body ++ behind → IsPartial text → ⊥
frame-not_partial text body behind fits e p = partial_stuck text p body behind fits e

pub frame-not_wrong : (text body behind : List ℕ) → IsFrameBody body → text ≡ framed body ++ behind → HasWrongSync text → ⊥
frame-not_wrong text body behind fits e wrong = wrong_stuck text wrong body behind fits e

pub partial-not_wrong : (text : List ℕ) → IsPartial text → HasWrongSync text → ⊥
partial-not_wrong text p wrong = let w : Partial ≡ Lost = sym (cut-partial text p) ∙ cut-lost text wrong in cc

pub begins-not_partial : (text : List ℕ) (n : ℕ) → BeginsWithFrame n text → IsPartial text → ⊥
begins-not_partial text n b p = frame-not_partial text _ _ (begins-fits n text b) b.spelled p

pub begins-not_wrong : (text : List ℕ) (n : ℕ) → BeginsWithFrame n text → HasWrongSync text → ⊥
begins-not_wrong text n b wrong = frame-not_wrong text _ _ (begins-fits n text b) b.spelled wrong

pub takes-none : (old new : Framer) (result : Result (Option Framed) LoasFault) → Takes old new result → (result ≡ Ok None) ↔ IsPartial old.held
takes-none old new (Ok (Some frame)) t = ((λ e. absurd (cc e)), (λ p. absurd (frame-not_partial old.held frame.element new.held t.1 t.2 p)))
takes-none old new (Ok None) t = ((λ e. t.1), (λ p. refl))
takes-none old new (Err (SyncLost byte)) t = ((λ e. absurd (cc e)), (λ p. absurd (partial-not_wrong old.held p t.1)))
takes-none old new (Err (Truncated byte)) t = absurd t
takes-none old new (Err (Memory error)) t = ((λ e. absurd (cc e)), (λ p. absurd (begins-not_partial old.held t.1 t.2 p)))

pub takes-lost : (old new : Framer) (result : Result (Option Framed) LoasFault) → Takes old new result → (result ≡ Err (SyncLost old.passed)) ↔ HasWrongSync old.held
takes-lost old new (Ok (Some frame)) t = ((λ e. absurd (cc e)), (λ wrong. absurd (frame-not_wrong old.held frame.element new.held t.1 t.2 wrong)))
takes-lost old new (Ok None) t = ((λ e. absurd (cc e)), (λ wrong. absurd (partial-not_wrong old.held t.1 wrong)))
takes-lost old new (Err (SyncLost byte)) t = ((λ e. t.1), (λ wrong. ap (λ (b : ℕ). Err (SyncLost b)) t.2))
takes-lost old new (Err (Truncated byte)) t = absurd t
takes-lost old new (Err (Memory error)) t = ((λ e. absurd (cc e)), (λ wrong. absurd (begins-not_wrong old.held t.1 t.2 wrong)))

pub ends-lost : (framer : Framer) (result : Result (Unit {0}) LoasFault) → EndsBy framer result → (result ≡ Err (SyncLost framer.passed)) ↔ HasWrongSync framer.held
ends-lost framer (Ok done) t = (
  (λ e. absurd (cc e)),
  (λ wrong. elim t [
    | inl none ↦ absurd (subst (λ (r : List ℕ). HasWrongSync r) none wrong)
    | inr frame ↦ absurd (begins-not_wrong framer.held frame.0 frame.1 wrong)
  ]),
)
ends-lost framer (Err (SyncLost byte)) t = ((λ e. t.0), (λ wrong. ap (λ (b : ℕ). Err (SyncLost b)) t.1))
ends-lost framer (Err (Truncated byte)) t = ((λ e. absurd (cc e)), (λ wrong. absurd (partial-not_wrong framer.held t.0 wrong)))
ends-lost framer (Err (Memory error)) t = absurd t

pub ends-truncated : (framer : Framer) (result : Result (Unit {0}) LoasFault) → EndsBy framer result → (result ≡ Err (Truncated framer.passed)) ↔ (IsPartial framer.held × (0 < length framer.held))
ends-truncated framer (Ok done) t = (
  (λ e. absurd (cc e)),
  (λ p. elim t [
    | inl none ↦ absurd (omega (arith, p.1, ap (λ (r : List ℕ). length r) none))
    | inr frame ↦ absurd (begins-not_partial framer.held frame.0 frame.1 p.0)
  ]),
)
ends-truncated framer (Err (SyncLost byte)) t = ((λ e. absurd (cc e)), (λ p. absurd (partial-not_wrong framer.held p.0 t.0)))
ends-truncated framer (Err (Truncated byte)) t = ((λ e. (t.0, t.1)), (λ p. ap (λ (b : ℕ). Err (Truncated b)) t.2))
ends-truncated framer (Err (Memory error)) t = absurd t

-- less than a frame has at most 8193 bytes
pub partial_few : (text : List ℕ) → IsPartial text → length text ≤ 8193
partial_few text p = omega (arith, p.fits, p.proper, ap (λ (t : List ℕ). length t) p.spelled, length-append text p.more)

pub wrong-more : (text more : List ℕ) → HasWrongSync text → HasWrongSync (text ++ more)
wrong-more [] more wrong = absurd wrong
wrong-more (first ∷ []) [] wrong = wrong
wrong-more (first ∷ []) (second ∷ more) wrong = inl wrong
wrong-more (first ∷ second ∷ text) more wrong = wrong

pub some_bytes : (empty : Bool) (text : List ℕ) → (IsTrue empty ↔ text ≡ []) → empty ≡ false → 0 < length text
some_bytes empty [] is not_empty = absurd (let e : empty ≡ true = is.1 refl in cc (e, not_empty))
some_bytes empty (first ∷ text) is not_empty = omega arith
