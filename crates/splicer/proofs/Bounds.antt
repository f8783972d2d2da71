-- The rules of the configuration, and the end of a run.
use Rattle.std.proofs.Common.{◌≡◌, ℕ, ◌/◌, ◌%◌, ◌≤◌, ◌<◌, Bool, true, false, Option, Some, None, Result, Ok, Err, refl, ap, sym, ◌∙◌, arith}
use Rattle.std.specs.Prelude.{◌==◌, nat_lt, if◌then◌else◌}
use Rattle.std.proofs.lemmas.Bool.{eqb-true, eq-eqb}
use Rattle.std.proofs.lemmas.Bool.{ltb-true, ltb-false, lt-ltb, le-ltb}
use Rattle.usac_cfg.specs.declared.usac_config.UsacConfig.{UsacConfig}
use Rattle.usac_cfg.specs.UsacConfig.{rate, channels, frame_length}
use Rattle.timeline.specs.declared.piece.Piece.{Piece}
use Rattle.timeline.specs.declared.fault.PlanFault.TheVariants as plans
use Rattle.timeline.specs.Bounds.{bounds_until, bounds_result}
use Rattle.splicer.specs.declared.asked.Asked.{Asked}
use Rattle.splicer.specs.declared.fault.SpliceFault.{SpliceFault}
use Rattle.splicer.specs.declared.fault.SpliceFault.TheVariants.{Plan}
use Rattle.splicer.specs.Rules.{fault_if_not, level_rule, bounds_rule, from_of}
use Rattle.splicer.specs.Turns.{frame_until, to_of}
use Rattle.splicer.specs.Runs.{past_end, piece_to, piece_of}
use Rattle.splicer.proofs.Joining.{or_first, or_second, or_both, some_not_none}

pub passed : (b : Bool) (e : SpliceFault) → fault_if_not b e ≡ None → b ≡ true
passed true e h = refl
passed false e h = absurd (some_not_none _ h)

pub passes : (b : Bool) (e : SpliceFault) → b ≡ true → fault_if_not b e ≡ None
passes true e h = refl
passes false e h = absurd (let never : true ≡ false = sym h in cc)

-- ---- the rules of the configuration

pub level_passes : (piece : ℕ) (b c : UsacConfig) → level_rule piece (Some b) c ≡ None → (rate b ≡ rate c) × (channels b ≡ channels c)
level_passes piece b c e =
    let x = passed (rate b == rate c) _ (or_first (fault_if_not (rate b == rate c) (Plan (plans.RateDiffers piece))) _ e) in
    let y = passed (channels b == channels c) _ (or_second (fault_if_not (rate b == rate c) (Plan (plans.RateDiffers piece))) _ e) in
    (eqb-true (rate b) (rate c) x, eqb-true (channels b) (channels c) y)

pub passes_level : (piece : ℕ) (b c : UsacConfig) → rate b ≡ rate c → channels b ≡ channels c → level_rule piece (Some b) c ≡ None
passes_level piece b c e h = or_both _ _ (passes (rate b == rate c) (Plan (plans.RateDiffers piece)) (eq-eqb (rate b) (rate c) e)) (passes (channels b == channels c) (Plan (plans.ChannelsDiffer piece)) (eq-eqb (channels b) (channels c) h))

-- a frame stands at a position, where there is one
abbrev pub StandsAt : ℕ → Option ℕ → Type 0
StandsAt len None = Unit {0}
StandsAt len (Some u) = u % len ≡ 0

until_passes : (piece len from : ℕ) (u : Option ℕ) → bounds_rule (bounds_until piece len from u) ≡ None → StandsAt len u
until_passes piece len from None e = tt
until_passes piece len from (Some u) e = by_test (u % len == 0) refl e
  where
    by_test : (t : Bool) → (u % len == 0) ≡ t → bounds_rule (if t then Ok (record { from = from; to = Some (u / len) }) else Err (plans.NoFrameAt piece u)) ≡ None → u % len ≡ 0
    by_test true q h = eqb-true (u % len) 0 q
    by_test false q h = absurd (some_not_none _ h)

pub bounds_pass : (piece len at : ℕ) (u : Option ℕ) → bounds_rule (bounds_result piece len at u) ≡ None → (at % len ≡ 0) × StandsAt len u
bounds_pass piece len at u e = by_test (at % len == 0) refl e
  where
    by_test : (t : Bool) → (at % len == 0) ≡ t → bounds_rule (if t then bounds_until piece len (at / len) u else Err (plans.NoFrameAt piece at)) ≡ None → (at % len ≡ 0) × StandsAt len u
    by_test true q h = (eqb-true (at % len) 0 q, until_passes piece len (at / len) u h)
    by_test false q h = absurd (some_not_none _ h)

passes_until : (piece len from : ℕ) (u : Option ℕ) → StandsAt len u → bounds_rule (bounds_until piece len from u) ≡ None
passes_until piece len from None h = refl
passes_until piece len from (Some u) h =
    ap (λ (t : Bool). bounds_rule (if t then Ok (record { from = from; to = Some (u / len) }) else Err (plans.NoFrameAt piece u))) (eq-eqb (u % len) 0 h)

pub passes_bounds : (piece len at : ℕ) (u : Option ℕ) → at % len ≡ 0 → StandsAt len u → bounds_rule (bounds_result piece len at u) ≡ None
passes_bounds piece len at u e h =
    ap (λ (t : Bool). bounds_rule (if t then bounds_until piece len (at / len) u else Err (plans.NoFrameAt piece at))) (eq-eqb (at % len) 0 e) ∙ passes_until piece len (at / len) u h

-- ---- the end

-- where a piece ends, in a stream of n frames
abbrev pub to_in : Option ℕ → ℕ → ℕ → ℕ
to_in None len n = n
to_in (Some u) len n = u / len

abbrev pub here_in : Asked → UsacConfig → ℕ → Piece
here_in a c n = record { from = from_of a c; to = to_in a.until (frame_length c) n }

pub err_ok : {X E : Type 0} (e : E) (x : X) → (let r : Result X E = Err e in r) ≡ Ok x → ⊥
err_ok e x h = cc

pub piece_facts : (a : Asked) (c : UsacConfig) (n : ℕ) (p : Piece) → piece_of a (Some c) n ≡ Ok p → (from_of a c < n) × (to_in a.until (frame_length c) n ≤ n)
piece_facts a c n p e = by_from (nat_lt (from_of a c) n) refl e
  where
    not_past : (u : Option ℕ) → piece_to a (from_of a c) (frame_until u (frame_length c)) n ≡ Ok p → to_in u (frame_length c) n ≤ n
    not_past None h = omega arith
    not_past (Some u) h = by_to (nat_lt n (u / frame_length c)) refl h
      where
        by_to : (t : Bool) → nat_lt n (u / frame_length c) ≡ t → (if t then past_end a else Ok (record { from = from_of a c; to = u / frame_length c })) ≡ Ok p → u / frame_length c ≤ n
        by_to true q h = absurd (err_ok _ p h)
        by_to false q h = ltb-false n (u / frame_length c) q

    by_from : (t : Bool) → nat_lt (from_of a c) n ≡ t → (if t then piece_to a (from_of a c) (to_of a c) n else past_end a) ≡ Ok p → (from_of a c < n) × (to_in a.until (frame_length c) n ≤ n)
    by_from true q h = (ltb-true (from_of a c) n q, not_past a.until h)
    by_from false q h = absurd (err_ok _ p h)

pub facts_piece : (a : Asked) (c : UsacConfig) (n : ℕ) → from_of a c < n → to_in a.until (frame_length c) n ≤ n → piece_of a (Some c) n ≡ Ok (here_in a c n)
facts_piece a c n low high =
    ap (λ (t : Bool). if t then piece_to a (from_of a c) (to_of a c) n else past_end a) (lt-ltb (from_of a c) n low) ∙ not_past a.until high
  where
    not_past : (u : Option ℕ) → to_in u (frame_length c) n ≤ n → piece_to a (from_of a c) (frame_until u (frame_length c)) n ≡ Ok (record { from = from_of a c; to = to_in u (frame_length c) n })
    not_past None h = refl
    not_past (Some u) h = ap (λ (t : Bool). if t then past_end a else Ok (record { from = from_of a c; to = u / frame_length c })) (le-ltb n (u / frame_length c) h)

pub ok_is : (p q : Piece) → (let r : Result Piece SpliceFault = Ok p in r) ≡ Ok q → p ≡ q
ok_is p q e = cc
