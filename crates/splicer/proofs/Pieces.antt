-- A run gives a piece of a rendition exactly where it is a sound piece of a whole stream.
use Rattle.std.proofs.Common.{◌≡◌, ◌≢◌, ℕ, zero, suc, ◌+◌, ◌*◌, ◌/◌, ◌%◌, ◌≤◌, ◌<◌, Bool, true, false, List, [], ◌∷◌, ◌++◌, length, take, Option, Some, None, Result, Ok, refl, ap, sym, subst, ◌∙◌, arith, ◌⊎◌, inl, inr}
use Rattle.std.specs.Prelude.{◌==◌, ◌&&◌, is_some, if◌then◌else◌, slice_get}
use Rattle.std.proofs.lemmas.List.{append_assoc, append-nil}
use Rattle.std.proofs.lemmas.Bool.{eqb-true, eq-eqb}
use Rattle.std.proofs.Math.Nat.{mul-mod_left, lt_of_mul-lt-mul_right}
use Rattle.std.proofs.Math.Nat.{mul-div_cancel}
use Rattle.std.proofs.lemmas.List.Elements.{All-cons, All-head, All-tail}
use Rattle.layout.specs.Layout.{FitsOption}
use Rattle.usac_cfg.specs.declared.usac_config.UsacConfig.{UsacConfig}
use Rattle.usac_cfg.specs.UsacConfig.{IsWellFormed, frame_length}
use Rattle.usac_cfg.specs.Same.{same}
use Rattle.usac_cfg.specs.SameFound.{same_false, same_differ}
use Rattle.usac_frame.specs.Units.{UnitValue}
use Rattle.preroll.specs.declared.fault.CarryFault.{CarryFault}
use Rattle.preroll.specs.Carrying.{Carried, units_in, short_at, carried_in}
use Rattle.timeline.specs.declared.piece.Piece.{Piece}
use Rattle.timeline.proofs.Timed.{times}
use Rattle.plans.specs.Coded.{Coded}
use Rattle.plans.specs.WholeStream.{IsWholeStream}
use Rattle.plans.specs.Parts.{Part}
use Rattle.plans.specs.SoundPlan.{BeginsWarm}
use Rattle.splicer.specs.declared.asked.Asked.{Asked}
use Rattle.splicer.specs.declared.fault.SpliceFault.{SpliceFault}
use Rattle.splicer.specs.Foreign.{last_n}
use Rattle.splicer.specs.Rules.{level_rule, opening_rule, short_rule, start_rule, join_rule, from_of, first_fault}
use Rattle.splicer.specs.Runs.{new_run, run_over, piece_of, end}
use Rattle.splicer.specs.Pieces.{fault_over, GivesPiece, EndsAt, GoesOnFrom, part_of, IsSoundPiece, Rises}
use Rattle.splicer.specs.Laws.{GivesSoundPieces}
use Rattle.splicer.proofs.Refusals.{some_length}
use Rattle.splicer.proofs.Bounds.{level_passes, passes_level, StandsAt, bounds_pass, passes_bounds, to_in, here_in, err_ok, piece_facts, facts_piece, ok_is}
use Rattle.splicer.proofs.Coding.{all_at, get_some, units_until, carries_units, units_carried, all_coded, all_read, start_opens, opens_start}
use Rattle.splicer.proofs.Joining.{is_before, rule_joins, joins_rule, or_first, or_second, or_both, some_not_none}
use Rattle.splicer.proofs.Later.{unit_at, own_units, AreOf, AreRead, AreWell, MayJoin, JoinedIn, walk_fine, fine_walk, later_parts, later_whole, end_later}

zero_or : (k : ℕ) → (k ≡ 0) ⊎ (k ≢ 0)
zero_or zero = inl refl
zero_or (suc k) = inr (λ e. absurd (omega (arith, e)))

-- ---- one rendition

module _ (warm : UsacConfig → ℕ) (a : Asked) (f : Coded) (rest : List Coded) (well : AreWell (f ∷ rest)) (before_well : FitsOption IsWellFormed a.before) where
  wf : IsWellFormed f.config
  wf = All-head (λ g. IsWellFormed g.config) f rest well

  well_rest : AreWell rest
  well_rest = All-tail (λ g. IsWellFormed g.config) f rest well

  some_frame : 0 < frame_length f.config
  some_frame = some_length f.config wf

  abbrev carried_first : Result Carried CarryFault
  carried_first = carried_in f.config f.au

  abbrev first_units : List UnitValue
  first_units = units_in carried_first ++ unit_at f ∷ []

  -- the rule of a join at frame 0, by whether the piece begins there and what is before
  abbrev zero_rule : Bool → Option UsacConfig → Option SpliceFault
  zero_rule t b = if t && is_some b then join_rule b 0 (warm f.config) (units_in carried_first) f.config carried_first else None

  -- what it is that no frame is refused
  record Passed : Type 0 where
    short : short_at f.config f.au ≡ None
    reads : AreRead rest
    opening : opening_rule a f.config ≡ None
    starting : start_rule f ≡ None
    zero : zero_rule (from_of a f.config == 0) a.before ≡ None
    one : AreOf f.config rest
    joined : JoinedIn warm a f.config wf 1 first_units rest

  no_short : (n : ℕ) (o : Option ℕ) → short_rule n o ≡ None → o ≡ None
  no_short n None e = refl
  no_short n (Some at) e = absurd (some_not_none _ e)

  passed_file : fault_over warm (new_run a) (f ∷ rest) ≡ None → Passed
  passed_file e =
      let first = or_first (first_fault a (warm f.config) f) _ e in
      let more = or_second (first_fault a (warm f.config) f) _ e in
      let after_opening = or_second (opening_rule a f.config) _ first in
      let after_short = or_second (short_rule 0 (short_at f.config f.au)) _ after_opening in
      let parts = later_parts warm a f.config wf 1 first_units rest (walk_fine warm a f.config wf 1 first_units rest well_rest more) in
      record {
        short = no_short 0 (short_at f.config f.au) (or_first (short_rule 0 (short_at f.config f.au)) _ after_opening);
        reads = parts.2;
        opening = or_first (opening_rule a f.config) _ first;
        starting = or_first (start_rule f) _ after_short;
        zero = or_second (start_rule f) _ after_short;
        one = parts.0;
        joined = parts.1;
      }

  file_passed : Passed → fault_over warm (new_run a) (f ∷ rest) ≡ None
  file_passed p =
      or_both _ _
      (or_both _ _ p.opening (or_both _ _ (ap (short_rule 0) p.short) (or_both _ _ p.starting p.zero)))
      (fine_walk warm a f.config wf 1 first_units rest well_rest (later_whole warm a f.config wf 1 first_units rest p.one p.joined p.reads))

  abbrev long : ℕ
  long = length (f ∷ rest)

  ends_with : end (run_over (new_run a) (f ∷ rest)) ≡ piece_of a (Some f.config) long
  ends_with = let e : 1 + length rest ≡ long = omega arith in end_later a f.config 1 (last_n 18 first_units) rest ∙ ap (piece_of a (Some f.config)) e

  -- ---- what passes is a sound piece
  module _ (p : Passed) (rises : Rises a.position a.until) (low : from_of a f.config < long) (high : to_in a.until (frame_length f.config) long ≤ long) where
    abbrev from : ℕ
    from = from_of a f.config

    here_at : (k : ℕ) → k ≡ from → (x : Coded) → slice_get (f ∷ rest) k ≡ Some x → (k ≡ 0 → MayJoin warm a.before (units_in carried_first) f)
        → MayJoin warm a.before (units_in carried_first ++ own_units (take k (f ∷ rest))) x
    here_at zero q x e z =
        let s : Some f ≡ Some x = e in
        let is : f ≡ x = cc in
        let P : Coded → Type 0 = MayJoin warm a.before (units_in carried_first ++ []) in
        let Q : List UnitValue → Type 0 = λ us. MayJoin warm a.before us f in
        subst P is (subst Q (sym (append-nil (units_in carried_first))) (z refl))
    here_at (suc m) q x e z =
        let Q : List UnitValue → Type 0 = λ us. MayJoin warm a.before us x in
        subst Q (append_assoc (units_in carried_first) (unit_at f ∷ []) (own_units (take m rest))) (p.joined m x (omega (arith, q)) e)

    are_well : (x : Coded) → slice_get (f ∷ rest) from ≡ Some x → IsWellFormed x.config
    are_well x e = all_at (λ g. IsWellFormed g.config) (f ∷ rest) from x e well

    read_all : AreRead (f ∷ rest)
    read_all = All-cons (λ g. short_at g.config g.au ≡ None) f rest p.short p.reads

    begins_warm : (b : Option UsacConfig) (to : ℕ) (x : Coded) → slice_get (f ∷ rest) from ≡ Some x → MayJoin warm b (units_in carried_first ++ own_units (take from (f ∷ rest))) x → BeginsWarm warm (record { stream = f ∷ rest; from = from; to = to })
    begins_warm b to x e j = record {
      frame = x;
      carried = j.units;
      first = e;
      carries = carries_units x j.units (are_well x e) (all_at (λ g. short_at g.config g.au ≡ None) (f ∷ rest) from x e read_all) j.carries;
      enough = j.enough;
      faithful = (j.front, units_until f rest from ∙ j.own);
    }

    zero_joined : (b : UsacConfig) → a.before ≡ Some b → from ≡ 0 → MayJoin warm a.before (units_in carried_first) f
    zero_joined b eb z =
        let t : (from == 0) ≡ true = eq-eqb from 0 z in
        let e : zero_rule true (Some b) ≡ None = ap (zero_rule true) (sym eb) ∙ (ap (λ (x : Bool). zero_rule x a.before) (sym t) ∙ p.zero) in
        let P : Option UsacConfig → Type 0 = λ x. MayJoin warm x (units_in carried_first) f in
        subst P (sym eb) (rule_joins (Some b) 0 (warm f.config) (units_in carried_first) f.config carried_first e)

    whole_stream : IsWholeStream (f ∷ rest)
    whole_stream = (All-cons (λ g. g.config ≡ f.config) f rest refl p.one, all_coded (f ∷ rest) well read_all, start_opens f wf p.short p.starting)

    stands : (a.position % frame_length f.config ≡ 0) × StandsAt (frame_length f.config) a.until
    stands = bounds_pass a.piece (frame_length f.config) a.position a.until (or_second (level_rule a.piece a.before f.config) _ p.opening)

    begins_here : from * frame_length f.config ≡ a.position
    begins_here = times a.position (frame_length f.config) some_frame stands.0

    ends_here : (u : Option ℕ) → StandsAt (frame_length f.config) u → EndsAt u (record { stream = f ∷ rest; from = from; to = to_in u (frame_length f.config) long })
    ends_here None e = refl
    ends_here (Some u) e = times u (frame_length f.config) some_frame e

    longer : (u : Option ℕ) → Rises a.position u → StandsAt (frame_length f.config) u → from < to_in u (frame_length f.config) long
    longer None h e = low
    longer (Some u) h e =
        let x = times u (frame_length f.config) some_frame e in
        let y = begins_here in
        lt_of_mul-lt-mul_right (frame_length f.config) {m = from} {n = u / frame_length f.config} (omega (arith, x, y, h))

    sound_here : (b : Option UsacConfig) → a.before ≡ b → GoesOnFrom warm b (part_of (f ∷ rest) (here_in a f.config long))
    sound_here None eb =
        let x = get_some (f ∷ rest) from low in
        elim (zero_or from) [ inl z ↦ inl z | inr n ↦ inr (begins_warm a.before _ x.0 x.1 (here_at from refl x.0 x.1 (λ z. absurd (n z)))) ]
    sound_here (Some b) eb =
        let x = get_some (f ∷ rest) from low in
        let j = here_at from refl x.0 x.1 (zero_joined b eb) in
        let one : x.0.config ≡ f.config = all_at (λ g. g.config ≡ f.config) (f ∷ rest) from x.0 x.1 whole_stream.0 in
        let o : same b x.0.config ≡ false = ap (λ (y : Option UsacConfig). is_before y x.0.config) (sym eb) ∙ j.other in
        let e : level_rule a.piece (Some b) f.config ≡ None = ap (λ (y : Option UsacConfig). level_rule a.piece y f.config) (sym eb) ∙ or_first (level_rule a.piece a.before f.config) _ p.opening in
        let q = level_passes a.piece b f.config e in
        (record { other = λ r. same_differ b x.0.config o (r ∙ sym one); rate = q.0; channels = q.1 }, begins_warm a.before _ x.0 x.1 j)

    sound_piece : IsSoundPiece warm a (f ∷ rest) (here_in a f.config long)
    sound_piece = record {
      part = record { stream = whole_stream; some = longer a.until rises stands.1; within = high };
      timed = record { begins = begins_here; ends = ends_here a.until stands.1 };
      sound = sound_here a.before refl;
    }

  given_sound : (p : Piece) → Rises a.position a.until → GivesPiece warm a (f ∷ rest) p → IsSoundPiece warm a (f ∷ rest) p
  given_sound p rises g =
      let e : piece_of a (Some f.config) long ≡ Ok p = sym ends_with ∙ g.ends in
      let facts = piece_facts a f.config long p e in
      let is : here_in a f.config long ≡ p = ok_is (here_in a f.config long) p (sym (facts_piece a f.config long facts.0 facts.1) ∙ e) in
      subst (IsSoundPiece warm a (f ∷ rest)) is (sound_piece (passed_file g.passes) rises facts.0 facts.1)

  -- ---- a sound piece passes
  module _ (q : Piece) (s : IsSoundPiece warm a (f ∷ rest) q) where
    abbrev part : Part
    part = part_of (f ∷ rest) q

    from_is : from_of a f.config ≡ q.from
    from_is = ap (λ (x : ℕ). x / frame_length f.config) (sym s.timed.begins) ∙ mul-div_cancel q.from some_frame

    of_one : AreOf f.config (f ∷ rest)
    of_one = s.part.stream.0

    level_there : (b : Option UsacConfig) → GoesOnFrom warm b part → level_rule a.piece b f.config ≡ None
    level_there None j = refl
    level_there (Some b) j = passes_level a.piece b f.config j.0.rate j.0.channels

    stands_there : (u : Option ℕ) → EndsAt u part → StandsAt (frame_length f.config) u
    stands_there None e = tt
    stands_there (Some u) e = ap (λ (x : ℕ). x % frame_length f.config) (sym e) ∙ mul-mod_left q.to (frame_length f.config)

    not_before : (b : Option UsacConfig) → FitsOption IsWellFormed b → GoesOnFrom warm b part → (x : Coded) → x.config ≡ f.config → is_before b x.config ≡ false
    not_before None v j x e = refl
    not_before (Some b) v j x e = same_false b x.config v (subst IsWellFormed (sym e) wf) (λ r. j.0.other (r ∙ e))

    warm_joins : BeginsWarm warm part → (x : Coded) → slice_get (f ∷ rest) q.from ≡ Some x → is_before a.before x.config ≡ false → MayJoin warm a.before (units_in carried_first ++ own_units (take q.from (f ∷ rest))) x
    warm_joins w x e o =
        let z : Some w.frame ≡ Some x = sym w.first ∙ e in
        let is : w.frame ≡ x = cc in
        let v : IsWellFormed w.frame.config = all_at (λ g. IsWellFormed g.config) (f ∷ rest) q.from w.frame w.first well in
        record {
          other = o;
          units = w.carried;
          carries = ap (λ (y : Coded). carried_in y.config y.au) (sym is) ∙ units_carried w.frame w.carried v w.carries;
          enough = let P : Coded → Type 0 = λ y. warm y.config ≤ length w.carried.units in subst P is w.enough;
          front = w.faithful.0;
          own = sym (units_until f rest q.from) ∙ w.faithful.1;
        }

    zero_passes : (b : UsacConfig) → a.before ≡ Some b → GoesOnFrom warm (Some b) part → q.from ≡ 0 → zero_rule true (Some b) ≡ None
    zero_passes b eb j z =
        let e : slice_get (f ∷ rest) q.from ≡ Some f = ap (slice_get (f ∷ rest)) z in
        let o : is_before a.before f.config ≡ false = ap (λ (x : Option UsacConfig). is_before x f.config) eb ∙ not_before (Some b) (subst (FitsOption IsWellFormed) eb before_well) j f refl in
        let w = warm_joins j.1 f e o in
        let us : units_in carried_first ++ own_units (take q.from (f ∷ rest)) ≡ units_in carried_first = ap (λ (n : ℕ). units_in carried_first ++ own_units (take n (f ∷ rest))) z ∙ append-nil (units_in carried_first) in
        let P : List UnitValue → Type 0 = λ xs. MayJoin warm a.before xs f in
        let Q : Option UsacConfig → Type 0 = λ x. MayJoin warm x (units_in carried_first) f in
        joins_rule (Some b) 0 (warm f.config) (units_in carried_first) f.config carried_first (subst Q eb (subst P us w))

    zero_there : (t : Bool) → (from_of a f.config == 0) ≡ t → (b : Option UsacConfig) → a.before ≡ b → GoesOnFrom warm b part → zero_rule t b ≡ None
    zero_there true e None eb j = refl
    zero_there true e (Some b) eb j = zero_passes b eb j (sym from_is ∙ eqb-true (from_of a f.config) 0 e)
    zero_there false e b eb j = refl

    begins_later : (b : Option UsacConfig) (m : ℕ) → GoesOnFrom warm b part → q.from ≡ suc m → BeginsWarm warm part
    begins_later None m (inl z) n = absurd (omega (arith, z, n))
    begins_later None m (inr w) n = w
    begins_later (Some b) m j n = j.1

    joined_later : JoinedIn warm a f.config wf 1 first_units rest
    joined_later m x e at =
        let n : q.from ≡ suc m = omega (arith, e, from_is) in
        let get : slice_get (f ∷ rest) q.from ≡ Some x = ap (slice_get (f ∷ rest)) n ∙ at in
        let one = all_at (λ g. g.config ≡ f.config) (f ∷ rest) q.from x get of_one in
        let w = warm_joins (begins_later a.before m s.sound n) x get (not_before a.before before_well s.sound x one) in
        let us : units_in carried_first ++ own_units (take q.from (f ∷ rest)) ≡ first_units ++ own_units (take m rest) = ap (λ (k : ℕ). units_in carried_first ++ own_units (take k (f ∷ rest))) n ∙ sym (append_assoc (units_in carried_first) (unit_at f ∷ []) (own_units (take m rest))) in
        let P : List UnitValue → Type 0 = λ xs. MayJoin warm a.before xs x in
        subst P us w

    to_is : (u : Option ℕ) → EndsAt u part → to_in u (frame_length f.config) long ≡ q.to
    to_is None e = sym e
    to_is (Some u) e = ap (λ (x : ℕ). x / frame_length f.config) (sym e) ∙ mul-div_cancel q.to some_frame

    all_passed : Passed
    all_passed =
        let reads : AreRead (f ∷ rest) = all_read (f ∷ rest) s.part.stream.1 in
        record {
          short = All-head (λ g. short_at g.config g.au ≡ None) f rest reads;
          reads = All-tail (λ g. short_at g.config g.au ≡ None) f rest reads;
          opening = or_both _ _ (level_there a.before s.sound)
              (passes_bounds a.piece (frame_length f.config) a.position a.until (ap (λ (x : ℕ). x % frame_length f.config) (sym s.timed.begins) ∙ mul-mod_left q.from (frame_length f.config)) (stands_there a.until s.timed.ends));
          starting = opens_start f wf s.part.stream.2;
          zero = zero_there (from_of a f.config == 0) refl a.before refl s.sound;
          one = All-tail (λ g. g.config ≡ f.config) f rest of_one;
          joined = joined_later;
        }

    sound_given : GivesPiece warm a (f ∷ rest) q
    sound_given =
        let ends = to_is a.until s.timed.ends in
        let some : q.from < q.to = s.part.some in
        let within : q.to ≤ long = s.part.within in
        let low : from_of a f.config < long = omega (arith, from_is, some, within) in
        let high : to_in a.until (frame_length f.config) long ≤ long = omega (arith, ends, within) in
        let here : here_in a f.config long ≡ q = ap (λ (n : ℕ). let x : Piece = record { from = n; to = to_in a.until (frame_length f.config) long } in x) from_is ∙ ap (λ (n : ℕ). let x : Piece = record { from = q.from; to = n } in x) ends in
        record { passes = file_passed all_passed; ends = ends_with ∙ (facts_piece a f.config long low high ∙ ap Ok here) }

-- ---- the law

pub gives_sound_pieces : GivesSoundPieces
gives_sound_pieces warm a [] p before rises well = ((λ g. absurd (err_ok _ p g.ends)), (λ s. absurd s.part.stream))
gives_sound_pieces warm a (f ∷ rest) p before rises well = (given_sound warm a f rest well before p rises, sound_given warm a f rest well before p)
