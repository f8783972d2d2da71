-- What a run hands over of the frames of a rendition is the part that it gives, in order.
use Rattle.std.proofs.Common.{◌≡◌, ℕ, zero, suc, ◌+◌, ◌-◌, ◌/◌, ◌<◌, ◌≤◌, Bool, List, [], ◌∷◌, ◌++◌, length, map, take, drop, Option, Some, None, true, false, refl, sym, ap, subst, ◌∙◌, arith}
use Rattle.std.specs.Prelude.{◌==◌, ◌&&◌, nat_lt, is_none, if◌then◌else◌, All}
use Rattle.std.proofs.lemmas.Bool.{ltb-true, ltb-false}
use Rattle.std.proofs.lemmas.List.{length-map}
use Rattle.std.proofs.lemmas.List.Elements.{All-head, All-tail}
use Rattle.std.proofs.Math.Nat.{mul-div_cancel}
use Rattle.usac_cfg.specs.declared.usac_config.UsacConfig.{UsacConfig}
use Rattle.usac_cfg.specs.UsacConfig.{IsWellFormed, frame_length}
use Rattle.usac_frame.specs.Units.{UnitValue}
use Rattle.preroll.specs.Carrying.{units_in, fades_in, carried_in}
use Rattle.plans.specs.Coded.{Coded}
use Rattle.plans.specs.Parts.{Part}
use Rattle.splicer.specs.declared.asked.Asked.{Asked}
use Rattle.splicer.specs.declared.turn.Turn.{Turn}
use Rattle.splicer.specs.declared.turn.Turn.TheVariants.{Skip, Start, Join, Play, After}
use Rattle.splicer.specs.Rules.{from_of}
use Rattle.splicer.specs.Turns.{frame_until, to_of, is_before, beginning, turn_at, number_of}
use Rattle.splicer.specs.Runs.{RunValue, new_run, turn, behind}
use Rattle.splicer.specs.Pieces.{EndsAt, IsSoundPiece}
use Rattle.splicer.proofs.Refusals.{some_length}
use Rattle.splicer.proofs.Given.{IsBound}
use Rattle.au_stream.specs.Canonical.{Handed}
use Rattle.au_stream.specs.Frames.{Frame, config_of}
use Rattle.playing.specs.Spliced.{coded}
use Rattle.joining.specs.Events.{FileScript, coded_of}
use Rattle.joining.specs.Splicing.{handed_with, handed_over}
use Rattle.joining.specs.PieceFrames.{handed_later, handed_in_order, part_handed}
use Rattle.joining.proofs.HandedFrames.{StandsBy, IsCounted, turn_stands}

-- ---- on which side of the end a frame stands, by its turn

abbrev EndsBy : ℕ → Option ℕ → Turn → Type 0
EndsBy n to Skip = Unit {0}
EndsBy n to (Start units fade) = Unit {0}
EndsBy n to (Join units fade) = Unit {0}
EndsBy n to Play = is_before n to ≡ true
EndsBy n to After = is_before n to ≡ false

module _ (from : ℕ) (to : Option ℕ) (is_first : Bool) (n : ℕ) (units : List UnitValue) (fade : Bool) where
  begins_by : (b : Bool) → EndsBy n to (beginning b (length units) fade)
  begins_by true = tt
  begins_by false = tt

  later_by : (b : Bool) → is_before n to ≡ b → EndsBy n to (if b then Play else After)
  later_by true e = e
  later_by false e = e

  same_by : (b : Bool) → EndsBy n to (if b then beginning ((from == 0) && is_first) (length units) fade else (if is_before n to then Play else After))
  same_by true = begins_by ((from == 0) && is_first)
  same_by false = later_by (is_before n to) refl

  less_by : (b : Bool) → EndsBy n to (if b then Skip else (if n == from then beginning ((from == 0) && is_first) (length units) fade else (if is_before n to then Play else After)))
  less_by true = tt
  less_by false = same_by (n == from)

  ends_by : EndsBy n to (turn_at from to is_first n units fade)
  ends_by = less_by (nat_lt n from)

turn_ends : (v : RunValue) (f : Frame) → IsCounted v → EndsBy v.frames (to_of v.asked (config_of f)) (turn v (coded f))
turn_ends v f counted =
    let carried = carried_in (config_of f) f.au in
    subst (λ (n : ℕ). EndsBy n (to_of v.asked (config_of f)) (turn v (coded f))) counted
    (ends_by (from_of v.asked (config_of f)) (to_of v.asked (config_of f)) (is_none (let a = v.asked in a.before)) (number_of v.first v.frames) (units_in carried) (fades_in carried))

-- by where the frames end that the piece has
before_top : (to : Option ℕ) (top n m : ℕ) → is_before n to ≡ true → n < m → IsBound to top m → n < top
before_top None top n m e lt i = omega (arith, lt, i)
before_top (Some t) top n m e lt i = omega (arith, ltb-true n t e, i)

behind_top : (to : Option ℕ) (top n m : ℕ) → is_before n to ≡ false → IsBound to top m → top ≤ n
behind_top None top n m e i = absurd cc
behind_top (Some t) top n m e i = omega (arith, ltb-false n t e, i)

-- ---- the frames of a rendition

none_left : (k m : ℕ) → take k (drop m (let xs : List Frame = [] in xs)) ≡ []
none_left zero zero = refl
none_left (suc k) zero = refl
none_left zero (suc m) = refl
none_left (suc k) (suc m) = refl

no_more : (k : ℕ) → take k (let xs : List Frame = [] in xs) ≡ []
no_more zero = refl
no_more (suc k) = refl

module _ (c : UsacConfig) (top : ℕ) where
  abbrev AreOf : List Frame → Type 0
  AreOf fs = All (λ g. g.config ≡ c) (map coded fs)

  -- the run stands in front of these frames
  abbrev StandsBefore : RunValue → List Frame → Type 0
  StandsBefore v fs = IsBound (to_of v.asked c) top (v.frames + length fs)

  next_stands : (v : RunValue) (f : Frame) (fs : List Frame) → StandsBefore v (f ∷ fs) → StandsBefore (behind v (coded f)) fs
  next_stands v f fs i = let e : v.frames + length (f ∷ fs) ≡ v.frames + 1 + length fs = omega arith in subst (IsBound (to_of v.asked c) top) e i

  -- the next frame, where the piece has begun, and those behind it
  one_later : (v : RunValue) (f : Frame) (fs : List Frame) → from_of v.asked c < v.frames → StandsBefore v (f ∷ fs)
      → handed_over (behind v (coded f)) fs ≡ map handed_later (take (top - (v.frames + 1)) fs)
      → (t : Turn) → StandsBy v.frames (from_of v.asked c) t → EndsBy v.frames (to_of v.asked c) t
      → handed_with t f.mux.asc f.au ++ handed_over (behind v (coded f)) fs ≡ map handed_later (take (top - v.frames) (f ∷ fs))
  one_later v f fs low i more Skip n e = absurd (omega (arith, low, n))
  one_later v f fs low i more (Start units fade) n e = absurd (omega (arith, low, n))
  one_later v f fs low i more (Join units fade) n e = absurd (omega (arith, low, n))
  one_later v f fs low i more Play n e =
      let lt = before_top (to_of v.asked c) top v.frames (v.frames + length (f ∷ fs)) e (omega arith) i in
      let on : top - v.frames ≡ suc (top - (v.frames + 1)) = omega (arith, lt) in
      ap (λ (hs : List Handed). handed_later f ∷ hs) more ∙ ap (λ (k : ℕ). map handed_later (take k (f ∷ fs))) (sym on)
  one_later v f fs low i more After n e =
      let le = behind_top (to_of v.asked c) top v.frames (v.frames + length (f ∷ fs)) e i in
      let here : top - v.frames ≡ 0 = omega (arith, le) in
      let next : top - (v.frames + 1) ≡ 0 = omega (arith, le) in
      more ∙ (ap (λ (k : ℕ). map handed_later (take k fs)) next ∙ ap (λ (k : ℕ). map handed_later (take k (f ∷ fs))) (sym here))

  over_later : (v : RunValue) (fs : List Frame) → AreOf fs → IsCounted v → from_of v.asked c < v.frames → StandsBefore v fs → handed_over v fs ≡ map handed_later (take (top - v.frames) fs)
  over_later v [] same counted low i = ap (λ (xs : List Frame). map handed_later xs) (sym (no_more (top - v.frames)))
  over_later v (f ∷ fs) same counted low i =
      let mine : config_of f ≡ c = All-head (λ (g : Coded). g.config ≡ c) (coded f) (map coded fs) same in
      let others = All-tail (λ (g : Coded). g.config ≡ c) (coded f) (map coded fs) same in
      one_later v f fs low i (over_later (behind v (coded f)) fs others refl (omega (arith, low)) (next_stands v f fs i)) (turn v (coded f))
      (subst (λ (x : UsacConfig). StandsBy v.frames (from_of v.asked x) (turn v (coded f))) mine (turn_stands v f counted))
      (subst (λ (x : UsacConfig). EndsBy v.frames (to_of v.asked x) (turn v (coded f))) mine (turn_ends v f counted))

  -- the first frame of the piece, and those behind it
  begins_here : (v : RunValue) (f : Frame) (fs : List Frame) → from_of v.asked c < top → v.frames ≡ from_of v.asked c → handed_over (behind v (coded f)) fs ≡ map handed_later (take (top - (v.frames + 1)) fs)
      → (let h : Handed = record { asc = Some f.mux.asc; au = f.au } in h) ∷ handed_over (behind v (coded f)) fs ≡ handed_in_order (take (top - from_of v.asked c) (drop (from_of v.asked c - v.frames) (f ∷ fs)))
  begins_here v f fs low is more =
      let h : Handed = record { asc = Some f.mux.asc; au = f.au } in
      let here : from_of v.asked c - v.frames ≡ 0 = omega (arith, is) in
      let on : top - from_of v.asked c ≡ suc (top - (v.frames + 1)) = omega (arith, is, low) in
      ap (λ (hs : List Handed). h ∷ hs) more
      ∙ (ap (λ (k : ℕ). handed_in_order (take k (f ∷ fs))) (sym on) ∙ ap (λ (k : ℕ). handed_in_order (take (top - from_of v.asked c) (drop k (f ∷ fs)))) (sym here))

  -- the next frame, where the piece has not begun, and those behind it
  one_first : (v : RunValue) (f : Frame) (fs : List Frame) → v.frames ≤ from_of v.asked c → from_of v.asked c < top
      → (v.frames + 1 ≤ from_of v.asked c → handed_over (behind v (coded f)) fs ≡ handed_in_order (take (top - from_of v.asked c) (drop (from_of v.asked c - (v.frames + 1)) fs)))
      → (from_of v.asked c < v.frames + 1 → handed_over (behind v (coded f)) fs ≡ map handed_later (take (top - (v.frames + 1)) fs))
      → (t : Turn) → StandsBy v.frames (from_of v.asked c) t
      → handed_with t f.mux.asc f.au ++ handed_over (behind v (coded f)) fs ≡ handed_in_order (take (top - from_of v.asked c) (drop (from_of v.asked c - v.frames) (f ∷ fs)))
  one_first v f fs le low before later Skip n =
      let on : from_of v.asked c - v.frames ≡ suc (from_of v.asked c - (v.frames + 1)) = omega (arith, n) in
      before (omega (arith, n)) ∙ ap (λ (k : ℕ). handed_in_order (take (top - from_of v.asked c) (drop k (f ∷ fs)))) (sym on)
  one_first v f fs le low before later (Start units fade) n = begins_here v f fs low n (later (omega (arith, n)))
  one_first v f fs le low before later (Join units fade) n = begins_here v f fs low n (later (omega (arith, n)))
  one_first v f fs le low before later Play n = absurd (omega (arith, le, n))
  one_first v f fs le low before later After n = absurd (omega (arith, le, n))

  over_first : (v : RunValue) (fs : List Frame) → AreOf fs → IsCounted v → v.frames ≤ from_of v.asked c → from_of v.asked c < top → StandsBefore v fs
      → handed_over v fs ≡ handed_in_order (take (top - from_of v.asked c) (drop (from_of v.asked c - v.frames) fs))
  over_first v [] same counted le low i = ap handed_in_order (sym (none_left (top - from_of v.asked c) (from_of v.asked c - v.frames)))
  over_first v (f ∷ fs) same counted le low i =
      let mine : config_of f ≡ c = All-head (λ (g : Coded). g.config ≡ c) (coded f) (map coded fs) same in
      let others = All-tail (λ (g : Coded). g.config ≡ c) (coded f) (map coded fs) same in
      let next = next_stands v f fs i in
      one_first v f fs le low
      (λ on. over_first (behind v (coded f)) fs others refl on low next)
      (λ on. over_later (behind v (coded f)) fs others refl on next)
      (turn v (coded f))
      (subst (λ (x : UsacConfig). StandsBy v.frames (from_of v.asked x) (turn v (coded f))) mine (turn_stands v f counted))

-- ---- a sound piece

-- where its frames end
top_is : (f : Coded) (rest : List Coded) (from to : ℕ) (u : Option ℕ) → 0 < frame_length f.config → EndsAt u (record { stream = f ∷ rest; from = from; to = to }) → IsBound (frame_until u (frame_length f.config)) to (length (f ∷ rest))
top_is f rest from to None some e = omega (arith, e)
top_is f rest from to (Some u) some e = ap (λ (x : ℕ). x / frame_length f.config) (sym e) ∙ mul-div_cancel to some

module _ (warm : UsacConfig → ℕ) (a : Asked) (s : FileScript) where
  -- what a run hands over is the part
  pub over_part : (p : Part) → p.stream ≡ coded_of s → All (λ g. IsWellFormed g.config) p.stream → IsSoundPiece warm a p.stream (record { from = p.from; to = p.to }) → handed_over (new_run a) s.frames ≡ part_handed s p
  over_part p stream well one = by_stream p.stream stream well one
    where
      by_stream : (fs : List Coded) → fs ≡ coded_of s → All (λ g. IsWellFormed g.config) fs → IsSoundPiece warm a fs (record { from = p.from; to = p.to }) → handed_over (new_run a) s.frames ≡ part_handed s p
      by_stream [] is well one = absurd one.part.stream
      by_stream (f ∷ rest) is well one =
          let c = f.config in
          let some = some_length c (All-head (λ (g : Coded). IsWellFormed g.config) f rest well) in
          let from_is : from_of a c ≡ p.from = ap (λ (x : ℕ). x / frame_length c) (sym one.timed.begins) ∙ mul-div_cancel p.from some in
          let low : p.from < p.to = one.part.some in
          let same : All (λ (g : Coded). g.config ≡ c) (coded_of s) = subst (λ (fs : List Coded). All (λ (g : Coded). g.config ≡ c) fs) is one.part.stream.0 in
          let many : length (f ∷ rest) ≡ length s.frames = ap (λ (fs : List Coded). length fs) is ∙ length-map s.frames coded in
          let long : length (f ∷ rest) ≡ 0 + length s.frames = omega (arith, many) in
          let none_before : p.from - 0 ≡ p.from = omega arith in
          over_first c p.to (new_run a) s.frames same refl (omega arith) (omega (arith, from_is, low)) (subst (IsBound (to_of a c) p.to) long (top_is f rest p.from p.to a.until some one.timed.ends))
          ∙ (ap (λ (k : ℕ). handed_in_order (take (p.to - k) (drop (k - 0) s.frames))) from_is ∙ ap (λ (k : ℕ). handed_in_order (take (p.to - p.from) (drop k s.frames))) none_before)
