-- The rules and the turn of an access unit that is a frame.
use Rattle.std.proofs.Common.{◌≡◌, ℕ, Bool, false, List, [], length, Option, Some, None, Result, Ok, Err, refl, sym, ap, subst, ◌∙◌}
use Rattle.std.specs.Prelude.{◌==◌, ◌&&◌, nat_lt, is_none, is_some, if◌then◌else◌}
use Rattle.std.proofs.lemmas.Bool.{ne_eqb}
use Rattle.usac_cfg.specs.declared.usac_config.UsacConfig.{UsacConfig}
use Rattle.usac_frame.specs.declared.frame.Frame.{Frame}
use Rattle.usac_frame.specs.AccessUnit.{IsFrame, unit_in}
use Rattle.usac_frame.specs.Units.{UnitValue, unit_of, payload_length}
use Rattle.preroll.specs.declared.carried_units.CarriedUnits.{CarriedUnits}
use Rattle.preroll.specs.declared.fault.CarryFault.{CarryFault}
use Rattle.preroll.specs.Carrying.{Carried, units_in, fades_in, short_at, carried_of, carried_in}
use Rattle.preroll.proofs.Judging.{carried_in_frame}
use Rattle.plans.specs.Coded.{Coded}
use Rattle.splicer.specs.declared.asked.Asked.{Asked}
use Rattle.splicer.specs.declared.judged.Judged.{Judged}
use Rattle.splicer.specs.declared.turn.Turn.{Turn}
use Rattle.splicer.specs.declared.turn.Turn.TheVariants.{Skip, Play, After}
use Rattle.splicer.specs.declared.fault.SpliceFault.{SpliceFault}
use Rattle.splicer.specs.Rules.{or_then, opening_rule, change_rule, short_rule, start_of, start_rule, carried_rule, other_rule, first_rule, later_rule, from_of, first_fault, later_fault, fault_of}
use Rattle.splicer.specs.Runs.{RunValue, fault}
use Rattle.splicer.specs.Turns.{to_of, is_before, beginning, turn_at}
use Rattle.splicer.specs.Steps.{IfRule, Judges, head_units, head_fade, head_rule, head_joins, IsHead, IsJoined, IsJudged, IsJudgedLater}
use Rattle.splicer.specs.SeenFound.{not_short, unit_seen, bytes_seen}
use Rattle.splicer.proofs.Refusals.{rule_map, then_later}

-- ---- frame 0, of which it is known what it carries

head_is : (need : ℕ) (head : Option CarriedUnits) (x : Result Carried CarryFault) → IsHead head x → carried_rule 0 need (units_in x) x ≡ head_rule need head
head_is need None x h = ap (λ (y : Result Carried CarryFault). carried_rule 0 need (units_in y) y) h
head_is need (Some k) x h = ap (λ (y : Result Carried CarryFault). carried_rule 0 need (units_in y) y) h

units_head : (head : Option CarriedUnits) (x : Result Carried CarryFault) → IsHead head x → head_units head ≡ units_in x
units_head None x h = ap units_in (sym h)
units_head (Some k) x h = ap units_in (sym h)

fade_head : (head : Option CarriedUnits) (x : Result Carried CarryFault) → IsHead head x → head_fade head ≡ fades_in x
fade_head None x h = ap fades_in (sym h)
fade_head (Some k) x h = ap fades_in (sym h)

first_is : (a : Asked) (need : ℕ) (c : UsacConfig) (head : Option CarriedUnits) (x : Result Carried CarryFault) → IsHead head x → first_rule a need c x ≡ head_joins a need c head
first_is a need c head x h = ap (λ (z : Option SpliceFault). if (from_of a c == 0) && is_some a.before then or_then (other_rule a.before 0 c) z else None) (head_is need head x h)

-- ---- turns

-- the turn by equal parts
pub turn_by : (t : Turn) (from from' n : ℕ) (to to' : Option ℕ) (first first' : Bool) (o o' : Option CarriedUnits) → t ≡ turn_at from' to' first' n (head_units o') (head_fade o') → from' ≡ from → to' ≡ to → first' ≡ first → o' ≡ o
    → t ≡ turn_at from to first n (head_units o) (head_fade o)
turn_by t from from' n to to' first first' o o' e a b c d =
    e ∙ (ap (λ (x : ℕ). turn_at x to' first' n (head_units o') (head_fade o')) a
    ∙ (ap (λ (x : Option ℕ). turn_at from x first' n (head_units o') (head_fade o')) b
    ∙ (ap (λ (x : Bool). turn_at from to x n (head_units o') (head_fade o')) c
    ∙ ap (λ (x : Option CarriedUnits). turn_at from to first n (head_units x) (head_fade x)) d)))

-- the turn of a frame depends on what it carries only where the piece begins with it
other_turn : (from : ℕ) (to : Option ℕ) (first : Bool) (n : ℕ) (us vs : List UnitValue) (f g : Bool) → (from ≡ n → ⊥) → turn_at from to first n us f ≡ turn_at from to first n vs g
other_turn from to first n us vs f g h =
    let ne : (n == from) ≡ false = ne_eqb n from (λ e. h (sym e)) in
    let of : List UnitValue → Bool → Bool → Turn = λ ws x b. if nat_lt n from then Skip else (if b then beginning ((from == 0) && first) (length ws) x else (if is_before n to then Play else After)) in
    ap (of us f) ne ∙ sym (ap (of vs g) ne)

-- ---- an access unit that is a frame

module _ (a : Asked) (need : ℕ) (c : UsacConfig) (au : List ℕ) (g : Frame) (is : IsFrame c au g) where
  abbrev here : Coded
  here = record { config = c; au = au }

  abbrev start_here : Option SpliceFault
  start_here = start_of (payload_length c g == 0) g.independent (carried_of c g)

  read_passes : (n : ℕ) → short_rule n (short_at c au) ≡ None
  read_passes n = ap (short_rule n) (not_short c au g is)

  start_seen : start_rule here ≡ start_here
  start_seen =
      ap (λ (n : ℕ). start_of (n == 0) (unit_in c au).independent (carried_in c au)) (bytes_seen c au g is)
      ∙ (ap (λ (u : UnitValue). start_of (payload_length c g == 0) u.independent (carried_in c au)) (unit_seen c au g is)
      ∙ ap (start_of (payload_length c g == 0) g.independent) (carried_in_frame c au g is))

  -- frame 0, judged by the frame that was read
  first_seen : opening_rule a c ≡ None → (z : Option SpliceFault) → or_then start_here (first_rule a need c (carried_of c g)) ≡ z → first_fault a need here ≡ z
  first_seen o z q =
      then_later (opening_rule a c) _ z o
      (then_later (short_rule 0 (short_at c au)) _ z (read_passes 0)
      (ap (λ (x : Option SpliceFault). or_then x (first_rule a need c (carried_in c au))) start_seen
      ∙ (ap (λ (x : Result Carried CarryFault). or_then start_here (first_rule a need c x)) (carried_in_frame c au g is) ∙ q)))

  pub first_refused : (e : SpliceFault) → opening_rule a c ≡ None → IfRule e (start_here ≡ Some e) → IfRule e (first_fault a need here ≡ Some e)
  first_refused e o h = rule_map e (λ (q : start_here ≡ Some e). first_seen o (Some e) (ap (λ (x : Option SpliceFault). or_then x (first_rule a need c (carried_of c g))) q)) h

  pub first_joined : (z : Option SpliceFault) → opening_rule a c ≡ None → start_here ≡ None → (head : Option CarriedUnits) → IsHead head (carried_of c g) → head_joins a need c head ≡ z → first_fault a need here ≡ z
  first_joined z o s head i q = first_seen o z (then_later start_here _ z s (first_is a need c head (carried_of c g) i ∙ q))

  pub first_not_joined : (e : SpliceFault) → opening_rule a c ≡ None → start_here ≡ None → (head : Option CarriedUnits) → IsHead head (carried_of c g) → IfRule e (head_joins a need c head ≡ Some e) → IfRule e (first_fault a need here ≡ Some e)
  first_not_joined e o s head i h = rule_map e (first_joined (Some e) o s head i) h

  pub judged_first : (head : Option CarriedUnits) → IsHead head (carried_of c g) → (t : Turn) (u : UnitValue) → t ≡ turn_at (from_of a c) (to_of a c) (is_none a.before) 0 (head_units head) (head_fade head) → u ≡ unit_of c g
      → IsJudged (record { turn = t; unit = u; head = head }) a None 0 here
  judged_first head i t u turn unit =
      let seen : IsHead head (carried_in c au) = is_seen head i in
      record {
        turn = turn ∙ (ap (λ (us : List UnitValue). turn_at (from_of a c) (to_of a c) (is_none a.before) 0 us (head_fade head)) (units_head head (carried_in c au) seen)
            ∙ ap (λ (f : Bool). turn_at (from_of a c) (to_of a c) (is_none a.before) 0 (units_in (carried_in c au)) f) (fade_head head (carried_in c au) seen));
        unit = unit ∙ sym (unit_seen c au g is);
        head = units_head head (carried_in c au) seen;
      }
    where
      is_seen : (o : Option CarriedUnits) → IsHead o (carried_of c g) → IsHead o (carried_in c au)
      is_seen None h = carried_in_frame c au g is ∙ h
      is_seen (Some k) h = carried_in_frame c au g is ∙ h

  -- ---- a later frame

  module _ (n : ℕ) (us : List UnitValue) where
    pub later_joined : (z : Option SpliceFault) → later_rule a n need us c (carried_of c g) ≡ z → later_fault a n us need here ≡ z
    later_joined z q =
        then_later (short_rule n (short_at c au)) _ z (read_passes n) (ap (later_rule a n need us c) (carried_in_frame c au g is) ∙ q)

    pub later_refused : (e : SpliceFault) → IfRule e (later_rule a n need us c (carried_of c g) ≡ Some e) → IfRule e (later_fault a n us need here ≡ Some e)
    later_refused e h = rule_map e (later_joined (Some e)) h

    turn_seen : (o : Option CarriedUnits) → IsJoined o a n c (carried_of c g)
        → turn_at (from_of a c) (to_of a c) (is_none a.before) n (head_units o) (head_fade o) ≡ turn_at (from_of a c) (to_of a c) (is_none a.before) n (units_in (carried_in c au)) (fades_in (carried_in c au))
    turn_seen None i = other_turn (from_of a c) (to_of a c) (is_none a.before) n [] (units_in (carried_in c au)) false (fades_in (carried_in c au)) i
    turn_seen (Some k) i = ap (λ (x : Result Carried CarryFault). turn_at (from_of a c) (to_of a c) (is_none a.before) n (units_in x) (fades_in x)) (sym (carried_in_frame c au g is ∙ i))

    pub judged_later : (o : Option CarriedUnits) → IsJoined o a n c (carried_of c g) → (t : Turn) (u : UnitValue) → t ≡ turn_at (from_of a c) (to_of a c) (is_none a.before) n (head_units o) (head_fade o) → u ≡ unit_of c g
        → IsJudgedLater (record { turn = t; unit = u; head = None }) a n here
    judged_later o i t u turn unit first = record { turn = turn ∙ turn_seen o i; unit = unit ∙ sym (unit_seen c au g is); head = refl }

-- A frame that keeps the rule of the configuration is judged as a later one.
pub judged_behind : (v : RunValue) (first : UsacConfig) (need : ℕ) (f : Coded) (r : Result Judged SpliceFault) → v.first ≡ Some first → change_rule first v.frames f.config ≡ None
    → Judges r (later_fault v.asked v.frames v.kept need f) (λ j. IsJudgedLater j v.asked v.frames f) → Judges r (fault v need f) (λ j. IsJudged j v.asked v.first v.frames f)
judged_behind v first need f (Ok j) e k h =
    (ap (λ (o : Option UsacConfig). fault_of v.asked o v.frames v.kept need f) e ∙ then_later (change_rule first v.frames f.config) _ None k h.0, (let P : Option UsacConfig → Type 0 = λ o. IsJudged j v.asked o v.frames f in subst P (sym e) (h.1 first)))
judged_behind v first need f (Err x) e k h =
    rule_map x (λ q. ap (λ (o : Option UsacConfig). fault_of v.asked o v.frames v.kept need f) e ∙ then_later (change_rule first v.frames f.config) _ (Some x) k q) h
