-- What is true of plans: each is exactly the one that the positions say.
use Rattle.std.specs.Prelude.{◌≡◌, ◌↔◌, ℕ, ◌-◌, ◌*◌, ◌<◌, ◌≤◌, List, [], ◌∷◌, length, take, Option, Some, None, Ok, Err, slice_index}
use Rattle.std.specs.List.Sorted.{IsStrictlyIncreasing}
use Rattle.timeline.specs.declared.shape.Shape.{Shape}
use Rattle.timeline.specs.declared.piece.Piece.{Piece}
use Rattle.timeline.specs.declared.fault.PlanFault.TheVariants.{BadOrder}
use Rattle.timeline.specs.Order.{order_result}
use Rattle.timeline.specs.Plan.{first_position, plan_result}

-- ---- positions

-- Position k is the first one that is not larger than the one before it.
pub record IsFirstFall (positions : List ℕ) (k : ℕ) : Type 0 where
  pub some : 0 < k
  pub within : k < length positions
  pub falls : slice_index positions k ≤ slice_index positions (k - 1)
  pub before : IsStrictlyIncreasing (take k positions)

-- Positions are accepted exactly where they rise, and the fault is that of the first one that does not.
pub record JudgesOrder : Type 0 where
  pub rises : (positions : List ℕ) → (order_result positions ≡ Ok tt) ↔ IsStrictlyIncreasing positions
  pub falls : (positions : List ℕ) (k : ℕ) → order_result positions ≡ Err (BadOrder k) → IsFirstFall positions k

-- ---- pieces

-- A piece ends at the next position, or with its stream.
abbrev pub EndsAt : Shape → Option ℕ → Piece → Type 0
EndsAt s None p = p.to ≡ s.frames
EndsAt s (Some until) p = p.to * s.frame_length ≡ until

-- A piece of a stream lies on the timeline: its first frame stands at its position, it ends where the next one begins, and the
-- stream has all its frames.
pub record IsTimed (s : Shape) (at : ℕ) (until : Option ℕ) (p : Piece) : Type 0 where
  pub begins : p.from * s.frame_length ≡ at
  pub ends : EndsAt s until p
  pub some : p.from < s.frames
  pub within : p.to ≤ s.frames

-- Rate and number of channels are those of the stream before, where there is one.
abbrev pub GoesOn : Option Shape → Shape → Type 0
GoesOn None s = Unit {0}
GoesOn (Some b) s = (b.rate ≡ s.rate) × (b.channels ≡ s.channels)

-- The pieces of streams lie on the timeline, each behind the one before it.
abbrev pub AreTimed : Option Shape → List Shape → List ℕ → List Piece → Type 0
AreTimed before [] [] [] = Unit {0}
AreTimed before [] [] (p ∷ ps) = ⊥
AreTimed before [] (at ∷ ats) ps = ⊥
AreTimed before (s ∷ ss) [] ps = ⊥
AreTimed before (s ∷ ss) (at ∷ ats) [] = ⊥
AreTimed before (s ∷ ss) (at ∷ ats) (p ∷ ps) = GoesOn before s × IsTimed s at (first_position ats) p × AreTimed (Some s) ss ats ps

-- Pieces are planned exactly where the positions rise and the pieces lie so on the timeline.
abbrev pub PlansTimed : Type 0
PlansTimed = (shapes : List Shape) (positions : List ℕ) (pieces : List Piece) → length shapes ≡ length positions
    → (plan_result shapes positions ≡ Ok pieces) ↔ (IsStrictlyIncreasing positions × AreTimed None shapes positions pieces)
