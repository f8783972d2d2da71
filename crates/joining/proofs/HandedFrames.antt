-- The frames that the access units of a rendition carry in the canonical mux are those that its check gives.
use Rattle.std.proofs.Common.{◌≡◌, ℕ, ◌+◌, ◌<◌, Bool, List, [], ◌∷◌, ◌++◌, length, map, Option, true, false, refl, sym, ap, subst, ◌∙◌, arith}
use Rattle.std.specs.Prelude.{◌==◌, ◌&&◌, nat_lt, is_none, if◌then◌else◌, All}
use Rattle.std.proofs.lemmas.Bool.{ltb-true, ltb-false, eqb-true, eqb-false}
use Rattle.std.proofs.lemmas.List.Elements.{All-head, All-tail}
use Rattle.asc.specs.declared.asc_config.Asc.{Asc}
use Rattle.usac_cfg.specs.declared.usac_config.UsacConfig.{UsacConfig}
use Rattle.usac_frame.specs.Units.{UnitValue}
use Rattle.preroll.specs.Carrying.{units_in, fades_in, carried_in}
use Rattle.plans.specs.Coded.{Coded}
use Rattle.splicer.specs.declared.turn.Turn.{Turn}
use Rattle.splicer.specs.declared.turn.Turn.TheVariants.{Skip, Start, Join, Play, After}
use Rattle.splicer.specs.Rules.{from_of}
use Rattle.splicer.specs.Turns.{to_of, is_before, beginning, turn_at, number_of}
use Rattle.splicer.specs.Runs.{RunValue, turn, behind}
use Rattle.splicer.specs.Pieces.{is_given, given_if, given}
use Rattle.au_stream.specs.Canonical.{frames_of_handed}
use Rattle.au_stream.specs.Frames.{Frame, config_of}
use Rattle.playing.specs.Spliced.{coded}
use Rattle.joining.specs.Splicing.{handed_with, handed_over}

-- ---- where a frame stands, by its turn

abbrev pub StandsBy : ℕ → ℕ → Turn → Type 0
StandsBy n from Skip = n < from
StandsBy n from (Start units fade) = n ≡ from
StandsBy n from (Join units fade) = n ≡ from
StandsBy n from Play = from < n
StandsBy n from After = from < n

module _ (from : ℕ) (to : Option ℕ) (is_first : Bool) (n : ℕ) (units : List UnitValue) (fade : Bool) where
  begins_by : (b : Bool) → n ≡ from → StandsBy n from (beginning b (length units) fade)
  begins_by true e = e
  begins_by false e = e

  later_by : (b : Bool) → from < n → StandsBy n from (if b then Play else After)
  later_by true lt = lt
  later_by false lt = lt

  same_by : (b : Bool) → (n == from) ≡ b → (nat_lt n from ≡ false) → StandsBy n from (if b then beginning ((from == 0) && is_first) (length units) fade else (if is_before n to then Play else After))
  same_by true e not = begins_by ((from == 0) && is_first) (eqb-true n from e)
  same_by false e not = later_by (is_before n to) (omega (arith, eqb-false n from e, ltb-false n from not))

  less_by : (b : Bool) → nat_lt n from ≡ b → StandsBy n from (if b then Skip else (if n == from then beginning ((from == 0) && is_first) (length units) fade else (if is_before n to then Play else After)))
  less_by true e = ltb-true n from e
  less_by false e = same_by (n == from) refl e

  stands_by : StandsBy n from (turn_at from to is_first n units fade)
  stands_by = less_by (nat_lt n from) refl

-- ---- the frames of a rendition

-- the number of its next frame is counted
abbrev pub IsCounted : RunValue → Type 0
IsCounted v = number_of v.first v.frames ≡ v.frames

pub turn_stands : (v : RunValue) (f : Frame) → IsCounted v → StandsBy v.frames (from_of v.asked (config_of f)) (turn v (coded f))
turn_stands v f counted =
    let carried = carried_in (config_of f) f.au in
    let from = from_of v.asked (config_of f) in
    subst (λ (n : ℕ). StandsBy n from (turn v (coded f))) counted
    (stands_by from (to_of v.asked (config_of f)) (is_none (let a = v.asked in a.before)) (number_of v.first v.frames) (units_in carried) (fades_in carried))

module _ (c : UsacConfig) where
  -- where the piece has begun, the AudioSpecificConfig that was given last has the configuration of the rendition
  abbrev pub IsInForce : RunValue → Asc → Type 0
  IsInForce v asc = from_of v.asked c < v.frames → asc.usac ≡ c

  coded_same : (asc : Asc) (f : Frame) → asc.usac ≡ config_of f → record { config = asc.usac; au = f.au } ≡ coded f
  coded_same asc f e = ap (λ (x : UsacConfig). let k : Coded = record { config = x; au = f.au } in k) e

  -- one frame, and those behind it
  one_given : (v : RunValue) (before : Asc) (f : Frame) (fs : List Frame) → config_of f ≡ c → IsInForce v before
      → ((asc : Asc) → (from_of v.asked c < v.frames + 1 → asc.usac ≡ c) → map coded (frames_of_handed asc (handed_over (behind v (coded f)) fs)) ≡ given (behind v (coded f)) (map coded fs))
      → (t : Turn) → StandsBy v.frames (from_of v.asked c) t
      → map coded (frames_of_handed before (handed_with t f.mux.asc f.au ++ handed_over (behind v (coded f)) fs)) ≡ given_if (is_given t) (coded f) (given (behind v (coded f)) (map coded fs))
  one_given v before f fs mine force more Skip n = more before (λ lt. absurd (omega (arith, n, lt)))
  one_given v before f fs mine force more (Start units fade) n = ap (λ (xs : List Coded). coded f ∷ xs) (more f.mux.asc (λ lt. mine))
  one_given v before f fs mine force more (Join units fade) n = ap (λ (xs : List Coded). coded f ∷ xs) (more f.mux.asc (λ lt. mine))
  one_given v before f fs mine force more Play n =
      ap (λ (x : Coded). x ∷ map coded (frames_of_handed before (handed_over (behind v (coded f)) fs))) (coded_same before f (force n ∙ sym mine))
      ∙ ap (λ (xs : List Coded). coded f ∷ xs) (more before (λ lt. force n))
  one_given v before f fs mine force more After n = more before (λ lt. force n)

  pub frames_given : (v : RunValue) (before : Asc) (fs : List Frame) → All (λ g. g.config ≡ c) (map coded fs) → IsCounted v → IsInForce v before → map coded (frames_of_handed before (handed_over v fs)) ≡ given v (map coded fs)
  frames_given v before [] same counted force = refl
  frames_given v before (f ∷ fs) same counted force =
      let mine : config_of f ≡ c = All-head (λ (g : Coded). g.config ≡ c) (coded f) (map coded fs) same in
      let others = All-tail (λ (g : Coded). g.config ≡ c) (coded f) (map coded fs) same in
      one_given v before f fs mine force (λ asc h. frames_given (behind v (coded f)) asc fs others refl h) (turn v (coded f))
      (subst (λ (x : UsacConfig). StandsBy v.frames (from_of v.asked x) (turn v (coded f))) mine (turn_stands v f counted))
