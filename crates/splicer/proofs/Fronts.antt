-- Some frames of a rendition, from the first one on, that break no rule: as many as there are, they are a sound piece.
use Rattle.std.proofs.Common.{◌≡◌, ℕ, zero, suc, ◌+◌, ◌/◌, ◌%◌, ◌≤◌, ◌<◌, List, [], ◌∷◌, ◌++◌, length, take, drop, Option, Some, None, Ok, refl, ap, sym, subst, ◌∙◌, arith}
use Rattle.std.proofs.lemmas.List.{take-take, length-take-le}
use Rattle.std.proofs.lemmas.List.Elements.{All-cons, All-head, All-tail, All-take}
use Rattle.std.proofs.Math.Nat.{mul-div_cancel, lt_of_mul-lt-mul_right}
use Rattle.layout.specs.Layout.{FitsOption}
use Rattle.usac_cfg.specs.declared.usac_config.UsacConfig.{UsacConfig}
use Rattle.usac_cfg.specs.UsacConfig.{IsWellFormed, frame_length}
use Rattle.usac_frame.specs.Units.{UnitValue}
use Rattle.preroll.specs.Carrying.{units_in, carried_in}
use Rattle.timeline.specs.declared.piece.Piece.{Piece}
use Rattle.timeline.proofs.Timed.{times}
use Rattle.plans.specs.Coded.{Coded}
use Rattle.plans.specs.WholeStream.{IsWholeStream, stream_config}
use Rattle.plans.specs.Parts.{Part, IsPart, part_frames}
use Rattle.splicer.specs.declared.asked.Asked.{Asked}
use Rattle.splicer.specs.Foreign.{last_n}
use Rattle.splicer.specs.Rules.{level_rule, opening_rule, from_of, first_fault}
use Rattle.splicer.specs.Turns.{frame_until}
use Rattle.splicer.specs.Runs.{RunValue, new_run, fault, behind, run_over, end, piece_of}
use Rattle.splicer.specs.Pieces.{fault_over, GivesPiece, GoesOnFrom, part_of, IsSoundPiece, Rises, asked, given}
use Rattle.splicer.specs.SoFar.{part_up_to, cut_part}
use Rattle.splicer.proofs.Refusals.{some_length}
use Rattle.splicer.proofs.Bounds.{StandsAt, bounds_pass, passes_bounds, facts_piece}
use Rattle.splicer.proofs.Joining.{or_first, or_second, or_both}
use Rattle.splicer.proofs.Later.{unit_at, AreOf, AreWell, later, walk_fine, later_parts, end_later}
use Rattle.splicer.proofs.Pieces.{gives_sound_pieces}
use Rattle.splicer.proofs.Given.{IsBound, given_first, part_ends}

-- the same is asked, and no piece follows
abbrev pub open_end : Asked → Asked
open_end a = asked a.piece a.position None a.before

-- the units behind frame 0
abbrev head_units : Coded → List UnitValue
head_units f = units_in (carried_in f.config f.au) ++ unit_at f ∷ []

-- the first frames of a stream have its configuration
config_cut : (n : ℕ) (fs : List Coded) → 0 < n → stream_config (take n fs) ≡ stream_config fs
config_cut zero fs h = absurd (omega (arith, h))
config_cut (suc n) [] h = refl
config_cut (suc n) (f ∷ fs) h = refl

-- a part whose stream ends with it has the same frames
pub frames_cut : (p : Part) → part_frames (cut_part p) ≡ part_frames p
frames_cut p = part_ends p.from p.to (take p.to p.stream) ∙ (ap (drop p.from) (take-take p.to p.to p.stream (omega arith)) ∙ sym (part_ends p.from p.to p.stream))

module _ (warm : UsacConfig → ℕ) where
  -- ---- the rules

  -- of fewer frames
  fewer_pass : (v : RunValue) (n : ℕ) (fs : List Coded) → fault_over warm v fs ≡ None → fault_over warm v (take n fs) ≡ None
  fewer_pass v zero fs e = refl
  fewer_pass v (suc n) [] e = refl
  fewer_pass v (suc n) (f ∷ fs) e =
      let x = fault v (warm f.config) f in
      or_both x _ (or_first x _ e) (fewer_pass (behind v f) n fs (or_second x _ e))

  -- no rule of a later frame is about the end of the piece
  later_open : (a : Asked) (c : UsacConfig) (n : ℕ) (kept : List UnitValue) (fs : List Coded) → fault_over warm (later a c n kept) fs ≡ None → fault_over warm (later (open_end a) c n kept) fs ≡ None
  later_open a c n kept [] e = refl
  later_open a c n kept (f ∷ fs) e =
      let x = fault (later a c n kept) (warm f.config) f in
      or_both x _ (or_first x _ e) (later_open a c (n + 1) (last_n 18 (kept ++ unit_at f ∷ [])) fs (or_second x _ e))

  module _ (a : Asked) (f : Coded) (rest : List Coded) (e : fault_over warm (new_run a) (f ∷ rest) ≡ None) where
    rest_passes : fault_over warm (later a f.config 1 (last_n 18 (head_units f))) rest ≡ None
    rest_passes = or_second (first_fault a (warm f.config) f) _ e

    opening : opening_rule a f.config ≡ None
    opening = or_first (opening_rule a f.config) _ (or_first (first_fault a (warm f.config) f) _ e)

    stands : (a.position % frame_length f.config ≡ 0) × StandsAt (frame_length f.config) a.until
    stands = bounds_pass a.piece (frame_length f.config) a.position a.until (or_second (level_rule a.piece a.before f.config) _ opening)

    open_passes : fault_over warm (new_run (open_end a)) (f ∷ rest) ≡ None
    open_passes =
        let level = or_first (level_rule a.piece a.before f.config) _ opening in
        let others = or_second (opening_rule a f.config) _ (or_first (first_fault a (warm f.config) f) _ e) in
        or_both _ _
        (or_both _ _ (or_both _ _ level (passes_bounds a.piece (frame_length f.config) a.position None stands.0 tt)) others)
        (later_open a f.config 1 (last_n 18 (head_units f)) rest rest_passes)

    -- ---- what is given

    module _ (well : AreWell (f ∷ rest)) where
      some : 0 < frame_length f.config
      some = some_length f.config (All-head (λ g. IsWellFormed g.config) f rest well)

      of_one : AreOf f.config (f ∷ rest)
      of_one =
          let wf = All-head (λ g. IsWellFormed g.config) f rest well in
          let fine = walk_fine warm a f.config wf 1 (head_units f) rest (All-tail (λ g. IsWellFormed g.config) f rest well) rest_passes in
          All-cons (λ g. g.config ≡ f.config) f rest refl (later_parts warm a f.config wf 1 (head_units f) rest fine).0

      -- where the frames end that the piece may have
      bound : (u : Option ℕ) → Rises a.position u → StandsAt (frame_length f.config) u
          → (top : ℕ) × (from_of a f.config < top) × IsBound (frame_until u (frame_length f.config)) top (length (f ∷ rest))
      bound None r s = (from_of a f.config + 1 + length (f ∷ rest), omega arith, omega arith)
      bound (Some u) r s =
          let x = times u (frame_length f.config) some s in
          let y = times a.position (frame_length f.config) some stands.0 in
          (u / frame_length f.config, lt_of_mul-lt-mul_right (frame_length f.config) {m = from_of a f.config} {n = u / frame_length f.config} (omega (arith, x, y, r)), refl)

      pub given_there : Rises a.position a.until → (top : ℕ) × (from_of a f.config < top) × (given (new_run a) (f ∷ rest) ≡ drop (from_of a f.config) (take top (f ∷ rest)))
      given_there r = let b = bound a.until r stands.1 in (b.0, b.1, given_first a f rest b.0 b.1 of_one b.2)

  -- ---- a sound piece

  -- a part that goes on soundly behind a stream of that configuration, or may begin a plan
  abbrev pub IsSoundBehind : Option UsacConfig → Part → Type 0
  IsSoundBehind before p = IsPart p × GoesOnFrom warm before p

  -- all frames, from the first one of the piece on
  all_sound : (a : Asked) (f : Coded) (rest : List Coded) → fault_over warm (new_run a) (f ∷ rest) ≡ None → AreWell (f ∷ rest) → FitsOption IsWellFormed a.before → from_of a f.config < length (f ∷ rest)
      → IsSoundPiece warm (open_end a) (f ∷ rest) (record { from = from_of a f.config; to = length (f ∷ rest) })
  all_sound a f rest e well before low =
      let b = open_end a in
      let p : Piece = record { from = from_of a f.config; to = length (f ∷ rest) } in
      let long : 1 + length rest ≡ length (f ∷ rest) = omega arith in
      let ends : end (run_over (new_run b) (f ∷ rest)) ≡ Ok p = end_later b f.config 1 (last_n 18 (head_units f)) rest ∙ (ap (piece_of b (Some f.config)) long ∙ facts_piece b f.config (length (f ∷ rest)) low (omega arith)) in
      (gives_sound_pieces warm b (f ∷ rest) p before tt well).0 (record { passes = open_passes a f rest e; ends = ends })

  -- and the same up to some frame
  pub front_sound : (a : Asked) (f : Coded) (rest : List Coded) → fault_over warm (new_run a) (f ∷ rest) ≡ None → AreWell (f ∷ rest) → FitsOption IsWellFormed a.before
      → (from to : ℕ) → from ≡ from_of a f.config → from < to → to ≤ length (f ∷ rest) → IsSoundBehind a.before (part_up_to (f ∷ rest) from to)
  front_sound a f rest e well before from zero is low high = absurd (omega (arith, low))
  front_sound a f rest e well before from (suc m) is low high =
      let some = length-take-le m rest (omega (arith, high)) in
      let long : length (f ∷ take m rest) ≡ suc m = omega (arith, some) in
      let s = all_sound a f (take m rest) (fewer_pass (new_run a) (suc m) (f ∷ rest) e) (All-take (λ g. IsWellFormed g.config) (suc m) (f ∷ rest) well) before (omega (arith, is, low, long)) in
      let P : ℕ → ℕ → Type 0 = λ x y. IsSoundBehind a.before (record { stream = f ∷ take m rest; from = x; to = y }) in
      subst (λ x. P x (suc m)) (sym is) (subst (λ y. P (from_of a f.config) y) long (s.part, s.sound))

  -- ---- the piece of a whole rendition

  -- a part that is given, and whose stream ends with it
  pub record IsCutSoundly (before : Option UsacConfig) (fs : List Coded) (p : Piece) : Type 0 where
    pub sound : IsSoundBehind before (cut_part (part_of fs p))
    pub config : stream_config (take p.to fs) ≡ stream_config fs
    pub whole : IsWholeStream fs

  pub cut_sound : (a : Asked) (fs : List Coded) (p : Piece) → AreWell fs → FitsOption IsWellFormed a.before → Rises a.position a.until → GivesPiece warm a fs p → IsCutSoundly a.before fs p
  cut_sound a fs p well before r g = by_frames fs well g ((gives_sound_pieces warm a fs p before r well).0 g)
    where
      by_frames : (fs : List Coded) → AreWell fs → GivesPiece warm a fs p → IsSoundPiece warm a fs p → IsCutSoundly a.before fs p
      by_frames [] well g s = absurd s.part.stream
      by_frames (f ∷ rest) well g s =
          let some = some_length f.config (All-head (λ g. IsWellFormed g.config) f rest well) in
          let is : from_of a f.config ≡ p.from = ap (λ (x : ℕ). x / frame_length f.config) (sym s.timed.begins) ∙ mul-div_cancel p.from some in
          let low : p.from < p.to = s.part.some in
          record {
            sound = front_sound a f rest g.passes well before p.from p.to (sym is) low s.part.within;
            config = config_cut p.to (f ∷ rest) (omega (arith, low));
            whole = s.part.stream;
          }
