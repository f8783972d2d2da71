-- A stream that is read in pieces.
use Rattle.std.proofs.Common.{◌≡◌, ℕ, get_or, ◌+◌, ◌<◌, List, [], ◌∷◌, ◌++◌, length, take, flat_map, refl, sym, ap, subst, ◌∙◌, append_assoc, append-nil, arith, inl, inr, Result, Ok, Err, Some, None}
use Rattle.std.specs.Prelude.{◌⊎◌}
use Rattle.std.specs.declared.option.Option.{Option}
use Rattle.std.proofs.lemmas.Grind.{flat_map-append}
use Rattle.std.proofs.lemmas.List.{length-append, take_more}
use Rattle.std.proofs.lemmas.List.Elements.{All-nil, All-cons}
use Rattle.loas.specs.Framing.{framed, IsFrameBody, BeginsWithFrame, HasWrongSync, Splits, IsLongest}
use Rattle.loas.specs.Framer.{Framer, grown}
use Rattle.loas.specs.Giving.{HasGiven, Takes, EndsBy}
use Rattle.loas.specs.Pieces.{joined, frames_at, IsEnd, IsRead, IsStuck, TakesAll}
use Rattle.loas.specs.declared.framed.Framed.{Framed}
use Rattle.loas.specs.declared.fault.LoasFault.{LoasFault}
use Rattle.loas.specs.declared.fault.LoasFault.TheVariants.{SyncLost, Truncated, Memory}
use Rattle.loas.specs.declared.pieces.StreamFrames.{StreamFrames}
use Rattle.loas.proofs.Given.{given-more, partial-not_wrong, length-one_more, begins-fits}
use Rattle.loas.proofs.Splitting.{splits-append, stuck_longest, one_longest, partial_stuck, wrong_stuck, HasNoFrame}

pub frames_at-append : (at : ℕ) (xs ys : List (List ℕ)) → frames_at at (xs ++ ys) ≡ frames_at at xs ++ frames_at (at + length (flat_map framed xs)) ys
frames_at-append at [] ys = ap (λ (k : ℕ). frames_at k ys) (omega arith)
frames_at-append at (x ∷ xs) ys =
    let l = length-append (framed x) (flat_map framed xs) in
    let e : (at + (3 + length x)) + length (flat_map framed xs) ≡ at + length (flat_map framed (x ∷ xs)) = omega (arith, l) in
    ap (λ (fs : List Framed). record { at = at; element = x } ∷ fs) (frames_at-append (at + (3 + length x)) xs ys ∙ ap (λ (k : ℕ). frames_at (at + (3 + length x)) xs ++ frames_at k ys) e)

-- ---- one reading

same_end : (at : ℕ) (rest : List ℕ) (a b : Option LoasFault) → IsEnd at rest a → IsEnd at rest b → a ≡ b
same_end at rest None None p q = refl
same_end at rest None (Some (SyncLost byte)) p q = absurd (subst (λ (r : List ℕ). HasWrongSync r) p q.0)
same_end at rest None (Some (Truncated byte)) p q = absurd (omega (arith, q.1, ap (λ (r : List ℕ). length r) p))
same_end at rest None (Some (Memory error)) p q = absurd q
same_end at rest (Some (SyncLost byte)) None p q = absurd (subst (λ (r : List ℕ). HasWrongSync r) q p.0)
same_end at rest (Some (SyncLost byte)) (Some (SyncLost other)) p q = ap (λ (b : ℕ). Some (SyncLost b)) (p.1 ∙ sym q.1)
same_end at rest (Some (SyncLost byte)) (Some (Truncated other)) p q = absurd (partial-not_wrong rest q.0 p.0)
same_end at rest (Some (SyncLost byte)) (Some (Memory error)) p q = absurd q
same_end at rest (Some (Truncated byte)) None p q = absurd (omega (arith, p.1, ap (λ (r : List ℕ). length r) q))
same_end at rest (Some (Truncated byte)) (Some (SyncLost other)) p q = absurd (partial-not_wrong rest p.0 q.0)
same_end at rest (Some (Truncated byte)) (Some (Truncated other)) p q = ap (λ (b : ℕ). Some (Truncated b)) (p.2 ∙ sym q.2)
same_end at rest (Some (Truncated byte)) (Some (Memory error)) p q = absurd q
same_end at rest (Some (Memory error)) b p q = absurd p

pub one_reading : (text : List ℕ) (one other : StreamFrames) → IsRead text one → IsRead text other → (one.frames.items ≡ other.frames.items) × (one.fault ≡ other.fault)
one_reading text one other p q =
    let same = one_longest text p.bodies q.bodies p.rest q.rest p.longest q.longest in
    let end : IsEnd (length (flat_map framed p.bodies)) p.rest other.fault =
    subst (λ (bs : List (List ℕ)). IsEnd (length (flat_map framed bs)) p.rest other.fault) (sym same.0)
    (subst (λ (r : List ℕ). IsEnd (length (flat_map framed q.bodies)) r other.fault) (sym same.1) q.end) in
    (p.frames ∙ ap (frames_at 0) same.0 ∙ sym q.frames, same_end _ p.rest one.fault other.fault p.end end)

-- ---- taking all frames that are held

-- frames that were taken off, behind those that were had
pub record SoFar (old new : Framer) (had has : List Framed) : Type 0 where
  pub bodies : List (List ℕ)
  pub splits : Splits old.held bodies new.held
  pub passed : new.passed ≡ old.passed + length (flat_map framed bodies)
  pub frames : has ≡ had ++ frames_at old.passed bodies

pub so_far-none : (framer : Framer) (had : List Framed) → SoFar framer framer had had
so_far-none framer had = record {
  bodies = [];
  splits = record { each = All-nil IsFrameBody; whole = refl };
  passed = omega arith;
  frames = sym (append-nil had);
}

pub so_far-more : (old mid new : Framer) (had has : List Framed) (frame : Framed) → SoFar old mid had has → Takes mid new (Ok (Some frame)) → SoFar old new had (has ++ frame ∷ [])
so_far-more old mid new had has frame s t =
    let frame_is : frame ∷ [] ≡ frames_at (old.passed + length (flat_map framed s.bodies)) (frame.element ∷ []) = ap (λ (k : ℕ). record { at = k; element = frame.element } ∷ []) (t.0 ∙ s.passed) in
    record {
      bodies = s.bodies ++ frame.element ∷ [];
      splits = splits-append old.held s.bodies mid.held (frame.element ∷ []) new.held s.splits
          (record { each = All-cons IsFrameBody frame.element [] t.1 (All-nil IsFrameBody); whole = t.2 ∙ ap (λ (t : List ℕ). t ++ new.held) (sym (append-nil (framed frame.element))) });
      passed = omega (arith, t.3, s.passed, length-one_more s.bodies frame.element);
      frames = ap (λ (fs : List Framed). fs ++ frame ∷ []) s.frames
          ∙ append_assoc had (frames_at old.passed s.bodies) (frame ∷ [])
          ∙ ap (λ (fs : List Framed). had ++ (frames_at old.passed s.bodies ++ fs)) frame_is
          ∙ ap (λ (fs : List Framed). had ++ fs) (sym (frames_at-append old.passed s.bodies (frame.element ∷ [])));
    }

pub takes_all : (old new : Framer) (had has : List Framed) → SoFar old new had has → IsStuck new.held → TakesAll old new had has
takes_all old new had has s stuck = record {
  bodies = s.bodies;
  splits = s.splits;
  passed = s.passed;
  frames = s.frames;
  stuck = stuck;
}

-- ---- piece after piece

-- All frames of the text were taken.
pub record IsReadSoFar (text : List ℕ) (framer : Framer) (frames : List Framed) : Type 0 where
  pub given : List (List ℕ)
  pub has_given : HasGiven text given framer
  pub frames_are : frames ≡ frames_at 0 given
  pub stuck : IsStuck framer.held

pub read-none : IsReadSoFar [] (record { passed = 0; held = [] }) []
read-none = record {
  given = [];
  has_given = record { splits = record { each = All-nil IsFrameBody; whole = refl }; passed = refl };
  frames_are = refl;
  stuck = inl (record { body = []; more = 86 ∷ 224 ∷ 0 ∷ []; fits = omega arith; proper = omega arith; spelled = refl });
}

pub read-more : (text : List ℕ) (old new : Framer) (piece : List ℕ) (had has : List Framed) → IsReadSoFar text old had → TakesAll (grown old piece) new had has → IsReadSoFar (text ++ piece) new has
read-more text old new piece had has r t =
    let more = given-more text r.given old piece r.has_given in
    record {
      given = r.given ++ t.bodies;
      has_given = record {
        splits = splits-append (text ++ piece) r.given (old.held ++ piece) t.bodies new.held more.splits t.splits;
        passed = omega (arith, t.passed, more.passed, ap (λ (x : List ℕ). length x) (flat_map-append framed r.given t.bodies), length-append (flat_map framed r.given) (flat_map framed t.bodies));
      };
      frames_are = t.frames ∙ ap (λ (fs : List Framed). fs ++ frames_at old.passed t.bodies) r.frames_are
          ∙ ap (λ (k : ℕ). frames_at 0 r.given ++ frames_at k t.bodies) r.has_given.passed
          ∙ ap (λ (k : ℕ). frames_at 0 r.given ++ frames_at k t.bodies) (omega arith)
          ∙ sym (frames_at-append 0 r.given t.bodies);
      stuck = t.stuck;
    }

-- how many bytes were pushed in all
pub read-pushed : (text : List ℕ) (framer : Framer) (frames : List Framed) → IsReadSoFar text framer frames → framer.passed + length framer.held ≡ length text
read-pushed text framer frames r =
    let h = r.has_given in
    omega (arith, h.passed, ap (λ (t : List ℕ). length t) h.splits.whole, length-append (flat_map framed r.given) framer.held)

stuck_none : (held : List ℕ) → IsStuck held → HasNoFrame held
stuck_none held stuck = elim stuck [
  | inl part ↦ partial_stuck held part
  | inr wrong ↦ wrong_stuck held wrong
]

pub read_longest : (text : List ℕ) (framer : Framer) (frames : List Framed) (r : IsReadSoFar text framer frames) → IsLongest text r.given framer.held
read_longest text framer frames r = stuck_longest text r.given framer.held r.has_given.splits (stuck_none framer.held r.stuck)

no_begin : (held : List ℕ) → IsStuck held → (held ≡ []) ⊎ ((n : ℕ) × BeginsWithFrame n held) → held ≡ []
no_begin held stuck e = elim e [
  | inl none ↦ none
  | inr begins ↦ absurd (stuck_none held stuck _ _ (begins-fits begins.0 held begins.1) begins.1.spelled)
]

-- the fault of a result, if any
abbrev pub IsFaultOf : Result (Unit {0}) LoasFault → Option LoasFault → Type 0
IsFaultOf (Ok done) None = Unit {0}
IsFaultOf (Ok done) (Some fault) = ⊥
IsFaultOf (Err fault) None = ⊥
IsFaultOf (Err fault) (Some other) = other ≡ fault

is_end : (text : List ℕ) (framer : Framer) (frames : List Framed) (r : IsReadSoFar text framer frames) (result : Result (Unit {0}) LoasFault) (fault : Option LoasFault) → EndsBy framer result → IsFaultOf result fault
    → IsEnd (length (flat_map framed r.given)) framer.held fault
is_end text framer frames r (Ok done) None e same = no_begin framer.held r.stuck e
is_end text framer frames r (Ok done) (Some fault) e same = absurd same
is_end text framer frames r (Err fault) None e same = absurd same
is_end text framer frames r (Err (SyncLost byte)) (Some fault) e same = rw same (e.0, e.1 ∙ r.has_given.passed)
is_end text framer frames r (Err (Truncated byte)) (Some fault) e same = rw same (e.0, e.1, e.2 ∙ r.has_given.passed)
is_end text framer frames r (Err (Memory error)) (Some fault) e same = absurd e

-- the whole text, once its end is answered
pub is_read : (text : List ℕ) (framer : Framer) (found : StreamFrames) (result : Result (Unit {0}) LoasFault) → IsReadSoFar text framer found.frames.items → EndsBy framer result → IsFaultOf result found.fault → IsRead text found
is_read text framer found result r e same = record {
  bodies = r.given;
  rest = framer.held;
  longest = read_longest text framer found.frames.items r;
  frames = r.frames_are;
  end = is_end text framer found.frames.items r result found.fault e same;
}

-- one piece more
pub joined-more : (pieces : List (List ℕ)) (i : ℕ) (piece other : List ℕ) → i < length pieces → piece ≡ get_or pieces i other → joined (take (i + 1) pieces) ≡ joined (take i pieces) ++ piece
joined-more pieces i piece other h e =
    ap joined (take_more pieces i other h)
    ∙ flat_map-append (λ (x : List ℕ). x) (take i pieces) (get_or pieces i other ∷ [])
    ∙ ap (λ (x : List ℕ). joined (take i pieces) ++ x) (append-nil (get_or pieces i other) ∙ sym e)
