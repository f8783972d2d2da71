-- Runs over streams, one after another, give the parts of a sound plan, and of no other.
use Rattle.std.proofs.Common.{ℕ, ◌+◌, List, [], ◌∷◌, Some, None, arith}
use Rattle.std.specs.Prelude.{All}
use Rattle.std.specs.List.Sorted.{IsStrictlyIncreasing}
use Rattle.std.proofs.lemmas.List.Elements.{All-head, All-tail}
use Rattle.layout.specs.Layout.{FitsOption}
use Rattle.usac_cfg.specs.declared.usac_config.UsacConfig.{UsacConfig}
use Rattle.usac_cfg.specs.UsacConfig.{IsWellFormed}
use Rattle.timeline.specs.declared.piece.Piece.{Piece}
use Rattle.timeline.specs.Plan.{first_position}
use Rattle.timeline.proofs.Timed.{rises_first, rises_rest}
use Rattle.plans.specs.Coded.{Coded}
use Rattle.plans.specs.WholeStream.{IsWholeStream, stream_config}
use Rattle.plans.specs.Parts.{Part, IsPart}
use Rattle.plans.specs.SoundPlan.{AreJoined, IsSoundPlan}
use Rattle.splicer.specs.Pieces.{IsSoundPiece, Rises, asked, GiveParts, AreTimedBy}
use Rattle.splicer.specs.Laws.{GiveSoundPlans}
use Rattle.splicer.proofs.Later.{AreWell}
use Rattle.splicer.proofs.Pieces.{gives_sound_pieces}

-- the next position is larger
pub rises_next : (at : ℕ) (ats : List ℕ) → IsStrictlyIncreasing (at ∷ ats) → Rises at (first_position ats)
rises_next at [] r = tt
rises_next at (next ∷ ats) r = rises_first at next ats r

pub rises_later : (at : ℕ) (ats : List ℕ) → IsStrictlyIncreasing (at ∷ ats) → IsStrictlyIncreasing ats
rises_later at [] r = λ i k. absurd (omega (arith, k))
rises_later at (next ∷ ats) r = rises_rest at next ats r

pub well_config : (fs : List Coded) → AreWell fs → FitsOption IsWellFormed (stream_config fs)
well_config [] w = tt
well_config (f ∷ fs) w = All-head (λ g. IsWellFormed g.config) f fs w

abbrev pub AllWell : List Part → Type 0
AllWell ps = All (λ p. AreWell p.stream) ps

module _ (warm : UsacConfig → ℕ) where
  joined_parts : (k : ℕ) (fs : List Coded) (ats : List ℕ) (ps : List Part) → IsWholeStream fs → AreWell fs → IsStrictlyIncreasing ats → AllWell ps
      → GiveParts warm k (stream_config fs) ats ps → AreJoined warm (stream_config fs) ps × AreTimedBy ats ps
  joined_parts k fs [] [] s w r all g = (tt, tt)
  joined_parts k fs [] (p ∷ ps) s w r all g = absurd g
  joined_parts k fs (at ∷ ats) [] s w r all g = absurd g
  joined_parts k [] (at ∷ ats) (p ∷ ps) s w r all g = absurd s
  joined_parts k (f ∷ fs) (at ∷ ats) (p ∷ ps) s w r all g =
      let well = All-head (λ (q : Part). AreWell q.stream) p ps all in
      let a = asked k at (first_position ats) (Some f.config) in
      let one = (gives_sound_pieces warm a p.stream (record { from = p.from; to = p.to }) (well_config (f ∷ fs) w) (rises_next at ats r) well).0 g.0 in
      let more = joined_parts (k + 1) p.stream ats ps one.part.stream well (rises_later at ats r) (All-tail (λ (q : Part). AreWell q.stream) p ps all) g.1 in
      ((one.part, one.sound.0, one.sound.1, more.0), (one.timed.begins, one.timed.ends, more.1))

  parts_joined : (k : ℕ) (fs : List Coded) (ats : List ℕ) (ps : List Part) → IsWholeStream fs → AreWell fs → IsStrictlyIncreasing ats → AllWell ps
      → AreJoined warm (stream_config fs) ps → AreTimedBy ats ps → GiveParts warm k (stream_config fs) ats ps
  parts_joined k fs [] [] s w r all j t = tt
  parts_joined k fs [] (p ∷ ps) s w r all j t = absurd t
  parts_joined k fs (at ∷ ats) [] s w r all j t = absurd t
  parts_joined k [] (at ∷ ats) (p ∷ ps) s w r all j t = absurd s
  parts_joined k (f ∷ fs) (at ∷ ats) (p ∷ ps) s w r all j t =
      let well = All-head (λ (q : Part). AreWell q.stream) p ps all in
      let a = asked k at (first_position ats) (Some f.config) in
      let piece : Piece = record { from = p.from; to = p.to } in
      let sound : IsSoundPiece warm a p.stream piece = record { part = j.0; timed = record { begins = t.0; ends = t.1 }; sound = (j.1, j.2) } in (
        (gives_sound_pieces warm a p.stream piece (well_config (f ∷ fs) w) (rises_next at ats r) well).1 sound,
        parts_joined (k + 1) p.stream ats ps (let whole : IsPart p = j.0 in whole.stream) well (rises_later at ats r) (All-tail (λ (q : Part). AreWell q.stream) p ps all) j.3 t.2,
      )

  planned : (ats : List ℕ) (ps : List Part) → IsStrictlyIncreasing ats → AllWell ps → GiveParts warm 0 None ats ps → IsSoundPlan warm ps × AreTimedBy ats ps
  planned [] [] r all g = (tt, tt)
  planned [] (p ∷ ps) r all g = absurd g
  planned (at ∷ ats) [] r all g = absurd g
  planned (at ∷ ats) (p ∷ ps) r all g =
      let well = All-head (λ (q : Part). AreWell q.stream) p ps all in
      let one = (gives_sound_pieces warm (asked 0 at (first_position ats) None) p.stream (record { from = p.from; to = p.to }) tt (rises_next at ats r) well).0 g.0 in
      let more = joined_parts 1 p.stream ats ps one.part.stream well (rises_later at ats r) (All-tail (λ (q : Part). AreWell q.stream) p ps all) g.1 in
      ((one.part, one.sound, more.0), (one.timed.begins, one.timed.ends, more.1))

  plan_given : (ats : List ℕ) (ps : List Part) → IsStrictlyIncreasing ats → AllWell ps → IsSoundPlan warm ps → AreTimedBy ats ps → GiveParts warm 0 None ats ps
  plan_given [] [] r all s t = tt
  plan_given [] (p ∷ ps) r all s t = absurd t
  plan_given (at ∷ ats) [] r all s t = absurd t
  plan_given (at ∷ ats) (p ∷ ps) r all s t =
      let well = All-head (λ (q : Part). AreWell q.stream) p ps all in
      let a = asked 0 at (first_position ats) None in
      let piece : Piece = record { from = p.from; to = p.to } in
      let sound : IsSoundPiece warm a p.stream piece = record { part = s.0; timed = record { begins = t.0; ends = t.1 }; sound = s.1 } in (
        (gives_sound_pieces warm a p.stream piece tt (rises_next at ats r) well).1 sound,
        parts_joined 1 p.stream ats ps (let whole : IsPart p = s.0 in whole.stream) well (rises_later at ats r) (All-tail (λ (q : Part). AreWell q.stream) p ps all) s.2 t.2,
      )

pub give_sound_plans : GiveSoundPlans
give_sound_plans warm ats ps r all = (planned warm ats ps r all, (λ h. plan_given warm ats ps r all h.0 h.1))
