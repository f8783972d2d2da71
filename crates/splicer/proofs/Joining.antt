-- A frame breaks no rule of a join exactly where it may be joined, by all units of its stream.
use Rattle.std.proofs.Common.{◌≡◌, ℕ, ◌≤◌, Bool, true, false, List, ◌++◌, length, Option, Some, None, Result, Ok, Err, refl, ap, sym, ◌∙◌, arith}
use Rattle.std.specs.Prelude.{nat_lt, if◌then◌else◌}
use Rattle.std.specs.Option.{option_map_or}
use Rattle.std.proofs.lemmas.List.{length-map}
use Rattle.std.proofs.lemmas.Bool.{ltb-false, le-ltb}
use Rattle.usac_cfg.specs.declared.usac_config.UsacConfig.{UsacConfig}
use Rattle.usac_cfg.specs.UsacConfig.{IsWellFormed}
use Rattle.usac_cfg.specs.Same.{same}
use Rattle.usac_frame.specs.declared.frame.Frame.{Frame}
use Rattle.usac_frame.specs.AccessUnit.{frame_of, unit_in}
use Rattle.usac_frame.specs.Units.{UnitValue, first_payload}
use Rattle.preroll.specs.declared.fault.CarryFault.{CarryFault}
use Rattle.preroll.specs.declared.fault.CarryFault.TheVariants.{NotImmediate}
use Rattle.preroll.specs.Carrying.{Carried, units_in, carried_of, carried_in, IsJudged}
use Rattle.preroll.specs.PayloadFound.{preroll_of_is}
use Rattle.preroll.proofs.Judging.{judged}
use Rattle.splicer.specs.declared.fault.SpliceFault.{SpliceFault}
use Rattle.splicer.specs.declared.fault.SpliceFault.TheVariants.{SameConfig, TooFew}
use Rattle.splicer.specs.Foreign.{foreign, last_n}
use Rattle.splicer.specs.ForeignFound.{decided_by_last, foreign_by_last}
use Rattle.splicer.specs.Rules.{or_then, other_rule, foreign_rule, carried_rule, join_rule}

pub some_not_none : {X : Type 0} (x : X) → Some x ≡ None → ⊥
some_not_none x e = cc

pub or_first : (x y : Option SpliceFault) → or_then x y ≡ None → x ≡ None
or_first None y e = refl
or_first (Some x) y e = e

pub or_second : (x y : Option SpliceFault) → or_then x y ≡ None → y ≡ None
or_second None y e = e
or_second (Some x) y e = absurd (some_not_none _ e)

pub or_both : (x y : Option SpliceFault) → x ≡ None → y ≡ None → or_then x y ≡ None
or_both x y e f = rw e f

-- ---- what is carried

few_judged : (c : UsacConfig) (g : Frame) (x : Result Carried CarryFault) → IsJudged c g x → length (units_in x) ≤ 18
few_judged c g (Err e) j = omega arith
few_judged c g (Ok k) j =
    let p = j.carried in
    let w = (preroll_of_is.is (first_payload g) p.0 p.1).0 in
    let long = ap (λ (us : List UnitValue). length us) p.2.1 in
    let many = length-map p.0.units (unit_in c) in
    omega (arith, long, many, w.few)

few_in : (c : UsacConfig) → IsWellFormed c → (o : Option Frame) → length (units_in (option_map_or (carried_of c) o (Err NotImmediate))) ≤ 18
few_in c w None = omega arith
few_in c w (Some g) = few_judged c g (carried_of c g) (judged c g w)

-- an access unit carries 18 units at most
pub few_carried : (c : UsacConfig) (au : List ℕ) → IsWellFormed c → length (units_in (carried_in c au)) ≤ 18
unfolding carried_in
few_carried c au w = few_in c w (frame_of c au)

-- ---- joins

-- the configuration is that of the rendition before
abbrev pub is_before : Option UsacConfig → UsacConfig → Bool
is_before None c = false
is_before (Some b) c = same b c

other_is : (b : Option UsacConfig) (n : ℕ) (c : UsacConfig) → other_rule b n c ≡ (if is_before b c then Some (SameConfig n) else None)
other_is None n c = refl
other_is (Some b) n c = refl

-- A frame may be joined behind a configuration and units of its stream.
pub record Joins (before : Option UsacConfig) (need : ℕ) (us : List UnitValue) (c : UsacConfig) (x : Result Carried CarryFault) : Type 0 where
  pub other : is_before before c ≡ false
  pub units : Carried
  pub carries : x ≡ Ok units
  pub enough : need ≤ length units.units
  pub front : List UnitValue
  pub own : us ≡ front ++ units.units

foreign_none : (n : ℕ) (k : Option ℕ) → foreign_rule n k ≡ None → k ≡ None
foreign_none n None e = refl
foreign_none n (Some k) e = absurd (some_not_none _ e)

pub rule_joins : (b : Option UsacConfig) (n need : ℕ) (us : List UnitValue) (c : UsacConfig) (x : Result Carried CarryFault) → join_rule b n need us c x ≡ None → Joins b need us c x
rule_joins b n need us c ks e = by_before (is_before b c) refl (ap (λ (x : Option SpliceFault). or_then x (carried_rule n need us ks)) (sym (other_is b n c)) ∙ e)
  where
    by_few : (k : Carried) → is_before b c ≡ false → (t : Bool) → nat_lt (length k.units) need ≡ t → (if t then Some (TooFew n (length k.units) need) else foreign_rule n (foreign us k.units)) ≡ None → Joins b need us c (Ok k)
    by_few k o true q e = absurd (some_not_none _ e)
    by_few k o false q e =
        let w = (decided_by_last.none us k.units).0 (foreign_none n (foreign us k.units) e) in
        record { other = o; units = k; carries = refl; enough = ltb-false (length k.units) need q; front = w.0; own = w.1 }

    by_carried : (x : Result Carried CarryFault) → is_before b c ≡ false → carried_rule n need us x ≡ None → Joins b need us c x
    by_carried (Err x) o e = absurd (some_not_none _ e)
    by_carried (Ok k) o e = by_few k o (nat_lt (length k.units) need) refl e

    by_before : (t : Bool) → is_before b c ≡ t → or_then (if t then Some (SameConfig n) else None) (carried_rule n need us ks) ≡ None → Joins b need us c ks
    by_before true q e = absurd (some_not_none _ e)
    by_before false q e = by_carried ks q e

pub joins_rule : (b : Option UsacConfig) (n need : ℕ) (us : List UnitValue) (c : UsacConfig) (x : Result Carried CarryFault) → Joins b need us c x → join_rule b n need us c x ≡ None
joins_rule b n need us c ks j =
    let k = j.units in
    let few = le-ltb (length k.units) need j.enough in
    ap (λ (x : Option SpliceFault). or_then x (carried_rule n need us ks)) (other_is b n c ∙ ap (λ (t : Bool). if t then Some (SameConfig n) else None) j.other)
    ∙ (ap (carried_rule n need us) j.carries
    ∙ (ap (λ t. if t then Some (TooFew n (length k.units) need) else foreign_rule n (foreign us k.units)) few
    ∙ ap (foreign_rule n) ((decided_by_last.none us k.units).1 (j.front, j.own))))

-- the last units decide as all do
pub rule_by_last : (b : Option UsacConfig) (n need : ℕ) (us : List UnitValue) (c : UsacConfig) (x : Result Carried CarryFault) → length (units_in x) ≤ 18 → join_rule b n need (last_n 18 us) c x ≡ join_rule b n need us c x
rule_by_last b n need us c (Err x) h = refl
rule_by_last b n need us c (Ok k) h =
    ap (λ x. or_then (other_rule b n c) (if nat_lt (length k.units) need then Some (TooFew n (length k.units) need) else foreign_rule n x)) (foreign_by_last 18 us k.units h)
