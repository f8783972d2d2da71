-- Each rule of pieces is a refusal: none of them is want of memory.
use Rattle.std.proofs.Common.{◌≡◌, ℕ, Bool, true, false, List, [], ◌∷◌, length, Option, Some, None, Result, Ok, Err, refl, sym, subst}
use Rattle.std.specs.Prelude.{◌/◌, ◌%◌, ◌==◌, ◌&&◌, nat_lt, is_some, if◌then◌else◌}
use Rattle.std.specs.Option.{option_map_or}
use Rattle.usac_cfg.specs.declared.usac_config.UsacConfig.{UsacConfig}
use Rattle.usac_cfg.specs.UsacConfig.{rate, channels, frame_length}
use Rattle.usac_cfg.specs.Same.{same}
use Rattle.usac_frame.specs.declared.frame.Frame.{Frame as UsacFrame}
use Rattle.usac_frame.specs.AccessUnit.{frame_of, unit_in}
use Rattle.usac_frame.specs.Units.{UnitValue, payload_length, first_payload, is_whole}
use Rattle.preroll.specs.declared.preroll.PreRoll.{PreRoll}
use Rattle.preroll.specs.declared.fault.CarryFault.{CarryFault}
use Rattle.preroll.specs.declared.fault.CarryFault.TheVariants as carries
use Rattle.preroll.specs.declared.fault.PreFault.{PreFault}
use Rattle.preroll.specs.Payload.{preroll_of, fault_of}
use Rattle.preroll.specs.Carried.{preroll_bytes, starts_independent}
use Rattle.preroll.specs.Carrying.{Carried, units_in, first_of, config_in, config_judged, config_rule, short_at, short_unit, nested_unit, nested_rule, preroll_rule, or_carried, opened, carried_of, carried_in}
use Rattle.preroll.specs.Carrying.{short_rule as unit_short_rule, first_rule as first_unit_rule}
use Rattle.timeline.specs.declared.piece.Piece.{Piece}
use Rattle.timeline.specs.declared.piece.PieceBounds.{PieceBounds}
use Rattle.timeline.specs.declared.fault.PlanFault.{PlanFault}
use Rattle.timeline.specs.declared.fault.PlanFault.TheVariants as plans
use Rattle.timeline.specs.Bounds.{bounds_until, bounds_result}
use Rattle.plans.specs.Coded.{Coded}
use Rattle.splicer.specs.declared.asked.Asked.{Asked}
use Rattle.splicer.specs.declared.fault.SpliceFault.{SpliceFault}
use Rattle.splicer.specs.declared.fault.SpliceFault.TheVariants as splices
use Rattle.splicer.specs.Foreign.{foreign}
use Rattle.splicer.specs.Rules.{or_then, fault_if_not, level_rule, bounds_rule, opening_rule, change_rule, short_rule, carry_rule, start_of, start_rule, other_rule, foreign_rule, carried_rule, join_rule, fault_of as splice_fault_of, from_of}
use Rattle.splicer.specs.Turns.{to_of}
use Rattle.splicer.specs.Runs.{RunValue, fault, end, piece_to, piece_of}
use Rattle.tool_text.specs.declared.refusal.Refusal.{Refusal}
use Rattle.tool_text.specs.Faults.{refusal_of_carry}
use Rattle.joining.specs.Refusals.{refusal_of_splice}

-- a fault that is there is a refusal
abbrev pub IsTold : Option SpliceFault → Type 0
IsTold None = Unit {0}
IsTold (Some e) = (r : Refusal) × (refusal_of_splice e ≡ Some r)

or_told : (x y : Option SpliceFault) → IsTold x → IsTold y → IsTold (or_then x y)
or_told None y h k = k
or_told (Some e) y h k = h

not_told : (b : Bool) (e : SpliceFault) → IsTold (Some e) → IsTold (fault_if_not b e)
not_told true e h = tt
not_told false e h = h

if_told : (b : Bool) (x y : Option SpliceFault) → IsTold x → IsTold y → IsTold (if b then x else y)
if_told true x y h k = h
if_told false x y h k = k

-- ---- prerolls

-- a rule of prerolls that is broken is a refusal at each frame
abbrev IsCarryTold : Option CarryFault → Type 0
IsCarryTold None = Unit {0}
IsCarryTold (Some e) = (n : ℕ) → (r : Refusal) × (refusal_of_carry n e ≡ Some r)

first_told : (x y : Option CarryFault) → IsCarryTold x → IsCarryTold y → IsCarryTold (first_of x y)
first_told None y h k = k
first_told (Some e) y h k = h

abbrev AreCarriedTold : Result Carried CarryFault → Type 0
AreCarriedTold (Ok k) = Unit {0}
AreCarriedTold (Err e) = IsCarryTold (Some e)

if_carry_told : (b : Bool) (x y : Option CarryFault) → IsCarryTold x → IsCarryTold y → IsCarryTold (if b then x else y)
if_carry_told true x y h k = h
if_carry_told false x y h k = k

judged_told : (c : UsacConfig) (o : Option UsacConfig) → IsCarryTold (config_judged c o)
judged_told c None = λ n. (_, refl)
judged_told c (Some d) = if_carry_told (same d c) None (Some carries.ConfigDiffers) tt (λ n. (_, refl))

config_told : (c : UsacConfig) (bytes : List ℕ) → IsCarryTold (config_rule c bytes)
config_told c [] = tt
config_told c (b ∷ bytes) = judged_told c (config_in (b ∷ bytes))

short_unit_told : (o : Option (ℕ × ℕ)) → IsCarryTold (unit_short_rule o)
short_unit_told None = tt
short_unit_told (Some x) = λ n. (_, refl)

nested_told : (o : Option ℕ) → IsCarryTold (nested_rule o)
nested_told None = tt
nested_told (Some k) = λ n. (_, refl)

preroll_told : (c : UsacConfig) (f : UsacFrame) (p : PreRoll) → IsCarryTold (preroll_rule c f p)
preroll_told c f p =
    let a = if_carry_told (starts_independent c f p.units) None (Some carries.FirstDependent) tt (λ n. (_, refl)) in
    let b = first_told (nested_rule (nested_unit c p.units)) (first_unit_rule (starts_independent c f p.units)) (nested_told (nested_unit c p.units)) a in
    let d = first_told (unit_short_rule (short_unit c p.units)) _ (short_unit_told (short_unit c p.units)) b in
    first_told (config_rule c p.config) _ (config_told c p.config) d

or_carried_told : (c : UsacConfig) (p : PreRoll) (o : Option CarryFault) → IsCarryTold o → AreCarriedTold (or_carried c p o)
or_carried_told c p None h = tt
or_carried_told c p (Some e) h = h

opened_told : (c : UsacConfig) (f : UsacFrame) (o : Option PreRoll) (bad : Option PreFault) → AreCarriedTold (opened c f o bad)
opened_told c f None bad = λ n. (_, refl)
opened_told c f (Some p) bad = or_carried_told c p (preroll_rule c f p) (preroll_told c f p)

carried_of_told : (c : UsacConfig) (f : UsacFrame) → AreCarriedTold (carried_of c f)
unfolding carried_of
carried_of_told c f = by_bytes (payload_length c f == 0)
  where
    by_whole : (b : Bool) → AreCarriedTold (if b then opened c f (preroll_of (first_payload f)) (fault_of (first_payload f)) else Err carries.Split)
    by_whole true = opened_told c f (preroll_of (first_payload f)) (fault_of (first_payload f))
    by_whole false = λ n. (_, refl)

    by_bytes : (b : Bool) → AreCarriedTold (if b then Err carries.NotImmediate else (if is_whole f then opened c f (preroll_of (first_payload f)) (fault_of (first_payload f)) else Err carries.Split))
    by_bytes true = λ n. (_, refl)
    by_bytes false = by_whole (is_whole f)

carried_told : (c : UsacConfig) (au : List ℕ) → AreCarriedTold (carried_in c au)
unfolding carried_in
carried_told c au = by_frame (frame_of c au)
  where
    by_frame : (o : Option UsacFrame) → AreCarriedTold (option_map_or (carried_of c) o (Err carries.NotImmediate))
    by_frame None = λ n. (_, refl)
    by_frame (Some f) = carried_of_told c f

-- ---- the rules of pieces

carry_told : (n : ℕ) (q : Result Carried CarryFault) → AreCarriedTold q → IsTold (carry_rule n q)
carry_told n (Ok k) h = tt
carry_told n (Err e) h = h n

level_told : (k : ℕ) (b : Option UsacConfig) (c : UsacConfig) → IsTold (level_rule k b c)
level_told k None c = tt
level_told k (Some b) c = or_told (fault_if_not (rate b == rate c) (splices.Plan (plans.RateDiffers k))) (fault_if_not (channels b == channels c) (splices.Plan (plans.ChannelsDiffer k))) (not_told (rate b == rate c) (splices.Plan (plans.RateDiffers k)) (_, refl)) (not_told (channels b == channels c) (splices.Plan (plans.ChannelsDiffer k)) (_, refl))

foreign_told : (n : ℕ) (o : Option ℕ) → IsTold (foreign_rule n o)
foreign_told n None = tt
foreign_told n (Some k) = (_, refl)

other_told : (b : Option UsacConfig) (n : ℕ) (c : UsacConfig) → IsTold (other_rule b n c)
other_told None n c = tt
other_told (Some b) n c = if_told (same b c) (Some (splices.SameConfig n)) None (_, refl) tt

short_told : (n : ℕ) (o : Option ℕ) → IsTold (short_rule n o)
short_told n None = tt
short_told n (Some at) = (_, refl)

carried_rule_told : (n need : ℕ) (before : List UnitValue) (q : Result Carried CarryFault) → AreCarriedTold q → IsTold (carried_rule n need before q)
carried_rule_told n need before (Ok k) h = if_told (nat_lt (length k.units) need) (Some (splices.TooFew n (length k.units) need)) (foreign_rule n (foreign before k.units)) (_, refl) (foreign_told n (foreign before k.units))
carried_rule_told n need before (Err e) h = h n

start_told : (f : Coded) → IsTold (start_rule f)
start_told f = by_test (preroll_bytes f.config f.au == 0)
  where
    by_test : (b : Bool) → IsTold (start_of b (unit_in f.config f.au).independent (carried_in f.config f.au))
    by_test true = not_told (unit_in f.config f.au).independent (splices.NotIndependent 0) (_, refl)
    by_test false = carry_told 0 (carried_in f.config f.au) (carried_told f.config f.au)

join_told : (b : Option UsacConfig) (n need : ℕ) (before : List UnitValue) (c : UsacConfig) (q : Result Carried CarryFault) → AreCarriedTold q → IsTold (join_rule b n need before c q)
join_told b n need before c q h = or_told (other_rule b n c) (carried_rule n need before q) (other_told b n c) (carried_rule_told n need before q h)

-- ---- positions

if_bounds_told : (b : Bool) (x y : Result PieceBounds PlanFault) → IsTold (bounds_rule x) → IsTold (bounds_rule y) → IsTold (bounds_rule (if b then x else y))
if_bounds_told true x y h k = h
if_bounds_told false x y h k = k

until_told : (k n from : ℕ) (until : Option ℕ) → IsTold (bounds_rule (bounds_until k n from until))
until_told k n from None = tt
until_told k n from (Some until) = if_bounds_told (until % n == 0) (Ok (record { from = from; to = Some (until / n) })) (Err (plans.NoFrameAt k until)) tt (_, refl)

bounds_told : (k n at : ℕ) (until : Option ℕ) → IsTold (bounds_rule (bounds_result k n at until))
bounds_told k n at until = if_bounds_told (at % n == 0) (bounds_until k n (at / n) until) (Err (plans.NoFrameAt k at)) (until_told k n (at / n) until) (_, refl)

-- ---- all rules

opening_told : (a : Asked) (c : UsacConfig) → IsTold (opening_rule a c)
opening_told a c = or_told (level_rule a.piece a.before c) _ (level_told a.piece a.before c) (bounds_told a.piece (frame_length c) a.position a.until)

pub frame_told : (v : RunValue) (need : ℕ) (f : Coded) → IsTold (fault v need f)
frame_told v need f = by_first v.first
  where
    by_first : (o : Option UsacConfig) → IsTold (splice_fault_of v.asked o v.frames v.kept need f)
    by_first None =
        or_told (opening_rule v.asked f.config) _ (opening_told v.asked f.config)
        (or_told (short_rule 0 (short_at f.config f.au)) _ (short_told 0 (short_at f.config f.au))
        (or_told (start_rule f) _ (start_told f)
        (if_told ((from_of v.asked f.config == 0) && is_some v.asked.before) (join_rule v.asked.before 0 need (units_in (carried_in f.config f.au)) f.config (carried_in f.config f.au)) None (join_told v.asked.before 0 need (units_in (carried_in f.config f.au)) f.config (carried_in f.config f.au) (carried_told f.config f.au)) tt)))
    by_first (Some first) =
        or_told (change_rule first v.frames f.config) _ (not_told (same first f.config) (splices.ConfigChanges v.frames) (_, refl))
        (or_told (short_rule v.frames (short_at f.config f.au)) _ (short_told v.frames (short_at f.config f.au))
        (if_told (from_of v.asked f.config == v.frames) (join_rule v.asked.before v.frames need v.kept f.config (carried_in f.config f.au)) None (join_told v.asked.before v.frames need v.kept f.config (carried_in f.config f.au) (carried_told f.config f.au)) tt))

-- a rendition that lacks its piece is refused
abbrev pub IsEndTold : Result Piece SpliceFault → Type 0
IsEndTold (Ok p) = Unit {0}
IsEndTold (Err e) = IsTold (Some e)

if_end_told : (b : Bool) (x y : Result Piece SpliceFault) → IsEndTold x → IsEndTold y → IsEndTold (if b then x else y)
if_end_told true x y h k = h
if_end_told false x y h k = k

pub end_told : (v : RunValue) → v.ended ≡ false → IsEndTold (end v)
end_told v going = subst (λ (b : Bool). IsEndTold (if b then Err splices.Ended else piece_of v.asked v.first v.frames)) (sym going) (by_first v.first)
  where
    by_to : (from : ℕ) (to : Option ℕ) → IsEndTold (piece_to v.asked from to v.frames)
    by_to from None = tt
    by_to from (Some to) = if_end_told (nat_lt v.frames to) (Err (splices.Plan (plans.PastEnd v.asked.piece))) (Ok (record { from = from; to = to })) (_, refl) tt

    by_first : (o : Option UsacConfig) → IsEndTold (piece_of v.asked o v.frames)
    by_first None = (_, refl)
    by_first (Some first) = if_end_told (nat_lt (from_of v.asked first) v.frames) (piece_to v.asked (from_of v.asked first) (to_of v.asked first) v.frames) (Err (splices.Plan (plans.PastEnd v.asked.piece))) (by_to (from_of v.asked first) (to_of v.asked first)) (_, refl)
