-- The next rendition, and the first.
use Rattle.std.proofs.Common.{◌≡◌, ℕ, zero, suc, ◌+◌, ◌<◌, Bool, true, false, List, [], ◌∷◌, ◌++◌, length, map, drop, Option, None, Result, Ok, Err, refl, sym, ap, subst, ◌∙◌, arith}
use Rattle.std.specs.Prelude.{nat_lt, IsOk, if◌then◌else◌}
use Rattle.std.specs.List.Sorted.{IsStrictlyIncreasing}
use Rattle.std.proofs.lemmas.Bool.{ltb-true}
use Rattle.std.proofs.lemmas.Grind.{flat_map-append}
use Rattle.std.proofs.lemmas.List.{append-nil, map-append}
use Rattle.std.proofs.lemmas.List.Elements.{All-head, All-tail, All-nil, All-push}
use Rattle.layout.specs.Layout.{FitsOption}
use Rattle.usac_cfg.specs.declared.usac_config.UsacConfig.{UsacConfig}
use Rattle.usac_cfg.specs.UsacConfig.{IsWellFormed}
use Rattle.timeline.specs.declared.piece.Piece.{Piece}
use Rattle.timeline.specs.Plan.{first_position}
use Rattle.plans.specs.Coded.{Coded}
use Rattle.plans.specs.Parts.{Part, part_frames, spliced}
use Rattle.plans.specs.WholeStream.{stream_config}
use Rattle.splicer.specs.declared.asked.Asked.{Asked}
use Rattle.splicer.specs.Pieces.{asked, Rises, GivesPiece, part_of}
use Rattle.splicer.specs.Runs.{new_run, end}
use Rattle.splicer.specs.SoFar.{AsksNext}
use Rattle.splicer.proofs.Given.{gives_frames}
use Rattle.splicer.proofs.GoingOn.{runs_on}
use Rattle.splicer.proofs.Later.{AreWell}
use Rattle.splicer.proofs.Plans.{AllWell, rises_next, rises_later, well_config}
use Rattle.core_iface.specs.Answering.{Running}
use Rattle.core_iface.specs.Decoding.{Definitions}
use Rattle.switch_player.specs.PlayerValue.{PlayerValue}
use Rattle.au_stream.specs.Frames.{Frame}
use Rattle.commands.specs.declared.frame_end.FrameEnd.{FrameEnd}
use Rattle.playing.specs.Spliced.{coded}
use Rattle.playing.specs.Standing.{PlayerStands}
use Rattle.joining.specs.Renditions.{asked_at, run_at, next_place, GivesEnd, RenditionStands}
use Rattle.joining.specs.Renditions.{next_at as next_piece}
use Rattle.joining.specs.Planning.{first_at}
use Rattle.joining.proofs.Told.{asked_is}
use Rattle.switching.specs.declared.switch_task.Switch.{Switch}
use Rattle.switching.specs.Switching.{SwitchAt, given_at, given_so_far, begins_at, next_at}
use Rattle.switching.specs.Standing.{ArePlanned, SwitchStands}
use Rattle.switching.proofs.GivenFrames.{coded_given}

-- ---- positions

-- there is another piece
further : (place : ℕ) (positions : List ℕ) → place < next_place place positions → (next_place place positions ≡ place + 1) × (place + 1 < length positions)
further place positions lt = by_test (nat_lt (place + 1) (length positions)) refl lt
  where
    by_test : (b : Bool) → nat_lt (place + 1) (length positions) ≡ b → place < (if b then place + 1 else place) → ((if b then place + 1 else place) ≡ place + 1) × (place + 1 < length positions)
    by_test true e lt = (refl, ltb-true (place + 1) (length positions) e)
    by_test false e lt = absurd (omega (arith, lt))

some_left : (n : ℕ) (xs : List ℕ) → n < length xs → (x : ℕ) × (ys : List ℕ) × (drop n xs ≡ x ∷ ys)
some_left n [] lt = absurd (omega (arith, lt))
some_left zero (x ∷ xs) lt = (x, xs, refl)
some_left (suc n) (x ∷ xs) lt = some_left n xs (omega (arith, lt))

-- what is asked behind parts: a piece that is not empty, of the number of the parts
pub asks_fine : (warm : UsacConfig → ℕ) (k : ℕ) (before : Option UsacConfig) (positions : List ℕ) (ps : List Part) (a : Asked) → FitsOption IsWellFormed before → IsStrictlyIncreasing positions → AllWell ps → AsksNext warm k before positions ps a
    → FitsOption IsWellFormed a.before × Rises a.position a.until × (a.piece ≡ k + length ps)
asks_fine warm k before [] ps a b r all h = absurd h
asks_fine warm k before (x ∷ xs) [] a b r all h =
    let P : Asked → Type 0 = λ y. FitsOption IsWellFormed y.before × Rises y.position y.until × (y.piece ≡ k + length (let none : List Part = [] in none)) in
    let n : k ≡ k + length (let none : List Part = [] in none) = omega arith in
    subst P (sym h) (b, rises_next x xs r, n)
asks_fine warm k before (x ∷ xs) (p ∷ ps) a b r all h =
    let Well : Part → Type 0 = λ q. AreWell q.stream in
    let more = asks_fine warm (k + 1) (stream_config p.stream) xs ps a (well_config p.stream (All-head Well p ps all)) (rises_later x xs r) (All-tail Well p ps all) h.1 in
    let long : length (p ∷ ps) ≡ length ps + 1 = omega arith in
    (more.0, more.1, omega (arith, more.2, long))

-- ---- the next rendition

module _ (warm : UsacConfig → ℕ) (at : SwitchAt) (frames : List Frame) (p : Piece) (h : ArePlanned warm at frames) (ends : end (run_at at.piece frames) ≡ Ok p) where
  abbrev stream : List Coded
  stream = map coded frames

  gives : GivesPiece warm (asked_at at.piece) stream p
  gives = record { passes = h.passes; ends = ends }

  -- what was given of all pieces is what the parts splice
  all_given : FitsOption IsWellFormed (asked_at at.piece).before → Rises (asked_at at.piece).position (asked_at at.piece).until → map coded (given_so_far at frames) ≡ spliced (h.parts ++ part_of stream p ∷ [])
  all_given before rises =
      let frames_are = gives_frames warm (asked_at at.piece) stream p before rises h.well gives in
      map-append coded at.earlier (given_at at frames)
      ∙ (ap (λ (xs : List Coded). xs ++ map coded (given_at at frames)) h.earlier
      ∙ (ap (λ (xs : List Coded). spliced h.parts ++ xs) (coded_given (new_run (asked_at at.piece)) frames ∙ (frames_are ∙ sym (append-nil (part_frames (part_of stream p)))))
      ∙ sym (flat_map-append part_frames h.parts (part_of stream p ∷ []))))

  pub planned_next : at.piece.place < next_place at.piece.place at.piece.positions → ArePlanned warm (next_at at frames) []
  planned_next lt =
      let a = asked_at at.piece in
      let positions = at.piece.positions in
      let there = further at.piece.place positions lt in
      let left = some_left (at.piece.place + 1) positions there.1 in
      let x = left.0 in
      let xs = left.1 in
      let fine = asks_fine warm 0 None positions h.parts a tt h.rise h.fine h.asks in
      let long : length h.parts ≡ at.piece.place = omega (arith, fine.2) in
      let more : drop (length h.parts + 1) positions ≡ x ∷ xs = ap (λ (n : ℕ). drop (n + 1) positions) long ∙ left.2 in
      let next = next_piece at.piece frames in
      let comes : drop next.place positions ≡ x ∷ xs = ap (λ (n : ℕ). drop n positions) there.0 ∙ left.2 in
      let number : next.place ≡ length h.parts + 1 = there.0 ∙ ap (λ (n : ℕ). n + 1) (sym long) in
      let is : asked_at next ≡ asked (length h.parts + 1) x (first_position xs) (stream_config stream) = asked_is next x xs comes ∙ ap (λ (n : ℕ). asked n x (first_position xs) (stream_config stream)) number in
      let parts = h.parts ++ part_of stream p ∷ [] in
      record {
        rise = h.rise;
        parts = parts;
        fine = All-push (λ (q : Part). AreWell q.stream) h.parts (part_of stream p) h.fine h.well;
        asks = subst (AsksNext warm 0 None positions parts) (sym is) (runs_on.next warm positions h.parts a stream p x xs h.asks gives more);
        earlier = all_given fine.0 fine.1;
        well = All-nil (λ (f : Coded). IsWellFormed f.config);
        passes = refl;
      }

  -- the parts that are known there
  pub parts_next : (lt : at.piece.place < next_place at.piece.place at.piece.positions) → (planned_next lt).parts ≡ h.parts ++ part_of stream p ∷ []
  unfolding planned_next
  parts_next lt = refl

has_piece : (d : Definitions) (at : SwitchAt) (frames : List Frame) (task : Switch) (ready : Option Running) → SwitchStands d at frames task ready → (piece : Result Piece FrameEnd) → GivesEnd piece task.renditions.run → IsOk piece → (p : Piece) × (end (run_at at.piece frames) ≡ Ok p)
has_piece d at frames task ready st (Ok p) is ok = (p, sym (ap end st.rendition.run) ∙ is)
has_piece d at frames task ready st (Err e) is ok = absurd (let x : false ≡ true = ok in cc)

-- the check goes on soundly where this rendition has its piece, and another one is wanted
pub follows_next : (d : Definitions) (at : SwitchAt) (frames : List Frame) (task : Switch) (ready : Option Running) → SwitchStands d at frames task ready → (piece : Result Piece FrameEnd) → GivesEnd piece task.renditions.run
    → task.follows ≡ true → IsOk piece → at.piece.place < next_place at.piece.place at.piece.positions → ArePlanned d.warm (next_at at frames) []
follows_next d at frames task ready st piece is follows ok lt =
    let p = has_piece d at frames task ready st piece is ok in
    planned_next d.warm at frames p.0 (st.planned follows) p.1 lt

pub less_there : (m n x y : ℕ) → m ≡ x → n ≡ y → m < n → x < y
less_there m n x y e h lt = subst (λ (k : ℕ). k < y) e (subst (λ (k : ℕ). m < k) h lt)

pub player_next : (d : Definitions) (at : SwitchAt) (frames : List Frame) (p : PlayerValue) (ready : Option Running) → PlayerStands d (given_so_far at frames) p ready → PlayerStands d (given_so_far (next_at at frames) []) p ready
player_next d at frames p ready st = subst (λ (xs : List Frame). PlayerStands d xs p ready) (sym (append-nil (given_so_far at frames))) st

-- ---- the first rendition

pub planned_first : (warm : UsacConfig → ℕ) (positions : List ℕ) → 0 < length positions → IsStrictlyIncreasing positions → ArePlanned warm (begins_at positions) []
planned_first warm [] some rise = absurd (omega (arith, some))
planned_first warm (x ∷ xs) some rise = record {
  rise = rise;
  parts = [];
  fine = All-nil (λ (q : Part). AreWell q.stream);
  asks = refl;
  earlier = refl;
  well = All-nil (λ (f : Coded). IsWellFormed f.config);
  passes = refl;
}

-- no part is known there
pub parts_first : (warm : UsacConfig → ℕ) (positions : List ℕ) (some : 0 < length positions) (rise : IsStrictlyIncreasing positions) → (planned_first warm positions some rise).parts ≡ []
unfolding planned_first
parts_first warm [] some rise = absurd (omega (arith, some))
parts_first warm (x ∷ xs) some rise = refl

pub stands_first : (d : Definitions) (positions : List ℕ) (task : Switch) (ready : Option Running) → 0 < length positions → IsStrictlyIncreasing positions → RenditionStands (first_at positions) [] task.renditions → task.frames.player ≡ record { last = None; stopped = false }
    → SwitchStands d (begins_at positions) [] task ready
stands_first d positions task ready some rise rendition player = record {
  rendition = rendition;
  player = subst (λ (x : PlayerValue). PlayerStands d [] x ready) (sym player) (record { last = refl; going = refl; in_step = tt; behind = refl });
  planned = λ follows. planned_first d.warm positions some rise;
}
