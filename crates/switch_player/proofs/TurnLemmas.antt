-- A frame that was judged is played as its definition says.
use Rattle.std.proofs.Common.{◌≡◌, ℕ, zero, suc, ◌+◌, ◌*◌, ◌<◌, ◌≤◌, true, false, List, ◌++◌, length, Option, Some, None, Result, Ok, Err, ℤ, refl, ap, sym, subst, ◌∙◌, arith, inr}
use Rattle.std.specs.Prelude.{IsSome, IfSome, Bool}
use Rattle.causes.specs.Counts.{HasCause}
use Rattle.usac_cfg.specs.declared.usac_config.UsacConfig.{UsacConfig}
use Rattle.usac_cfg.specs.UsacConfig.{IsWellFormed, channels}
use Rattle.usac_cfg.specs.Same.{same}
use Rattle.usac_cfg.specs.SameFound.{same_equal, same_false}
use Rattle.usac_frame.specs.declared.frame.Frame.{Frame}
use Rattle.usac_frame.specs.AccessUnit.{IsFrame}
use Rattle.usac_frame.specs.Units.{UnitValue, unit_of, payload_length}
use Rattle.preroll.specs.declared.carried_units.CarriedUnits.{CarriedUnits}
use Rattle.preroll.specs.declared.fault.CarryFault.{CarryFault}
use Rattle.preroll.specs.declared.fault.CarryFault.TheVariants as carries
use Rattle.preroll.specs.Carrying.{Carried, IsJudged, carried_of, Shown, Shows}
use Rattle.preroll.proofs.Rules.{none_tried}
use Rattle.preroll.proofs.Judging.{judged}
use Rattle.core_iface.specs.declared.fault.CoreFault.{CoreFault as CoreError}
use Rattle.core_iface.specs.declared.fault.CoreFault.TheVariants as cores
use Rattle.core_iface.specs.Decoding.{Definitions}
use Rattle.core_iface.specs.Laws.{StaysSound, EmitsBlocks}
use Rattle.core_iface.specs.Answering.{Running, Meaning, stepped, emitted, drained}
use Rattle.switch_player.specs.declared.turn.Turn.{Turn}
use Rattle.switch_player.specs.declared.turn.Turn.TheVariants.{GoesOn, Start, Join}
use Rattle.switch_player.specs.declared.fault.PlayFault.{PlayFault}
use Rattle.switch_player.specs.declared.fault.PlayFault.TheVariants.{FrameFault, NotIndependent, RateChanged, ChannelsChanged, Carry, TooFew, CoreFault, Memory, Stopped}
use Rattle.switch_player.specs.Blending.{blended}
use Rattle.switch_player.specs.Faults.{from_core, is_core_fault, stops_by}
use Rattle.switch_player.specs.Playing.{begun, joined_block, played_block, played_state, standing, before_it}
use Rattle.switch_player.specs.PlayerValue.{PlayerValue}
use Rattle.switch_player.specs.Rules.{TakesBy}
use Rattle.switch_player.specs.Turns.{IsTurn, IsTurnAt, Turns, Begins, FedSome, CanTurn, carried_value, carried_at_start, with_carried, turned_block, turned_state, turned_before, kept_of}
use Rattle.switch_player.specs.Feeding.{IsInStep, IsSame, IsStopped, Answered, Feeds}
use Rattle.switch_player.proofs.Lengths.{begun_in_step, drained_long, goes_on_in_step}

-- ---- what beginning to decode does, as a turn

more_room : (old new : Meaning) (n : ℕ) (s t : List ℤ) → FedSome old new n s t → FedSome old new (n + 1) s t
more_room old new n s t h = record { at_least = h.at_least; at_most = omega (arith, h.at_most); samples = h.samples }

pub begins_start : (d : Definitions) (c : UsacConfig) (k : Option CarriedUnits) (u : UnitValue) (old new : Meaning) (s t : List ℤ) (r : Result (Unit {0}) CoreError)
    → Begins r d (with_carried c u (carried_at_start k)) old new s t → Turns r d c (Start k) u old new s t
begins_start d c k u old new s t (Ok x) h = h
begins_start d c k u old new s t (Err cores.Failed) h = h
begins_start d c k u old new s t (Err (cores.Memory e)) h = more_room old new _ s t h.1

joined_plain : (d : Definitions) (at : Option Running) (c : UsacConfig) (u : UnitValue) (k : CarriedUnits) → k.fade ≡ false
    → (let f = with_carried c u (Ok (carried_value k)) in joined_block d at f ≡ begun d f)
joined_plain d at c u k e = rw e refl

-- the block of a join that fades
pub joined_is : (d : Definitions) (at : Option Running) (c : UsacConfig) (u : UnitValue) (k : CarriedUnits) → k.fade ≡ true
    → (let f = with_carried c u (Ok (carried_value k)) in joined_block d at f ≡ blended (channels c) (drained d at) (begun d f))
joined_is d at c u k e = rw e refl

pub begins_join : (d : Definitions) (c : UsacConfig) (k : CarriedUnits) (u : UnitValue) (old new : Meaning) (s t : List ℤ) (r : Result (Unit {0}) CoreError) → k.fade ≡ false
    → Begins r d (with_carried c u (Ok (carried_value k))) old new s t → Turns r d c (Join k) u old new s t
begins_join d c k u old new s t (Ok x) plain h =
    record { ready = h.ready; fed = h.fed; samples = h.samples ∙ ap (λ (xs : List ℤ). s ++ xs) (sym (joined_plain d old.ready c u k plain)) }
begins_join d c k u old new s t (Err cores.Failed) plain h = h
begins_join d c k u old new s t (Err (cores.Memory e)) plain h = more_room old new _ s t h.1

-- a join whose beginning was refused behind a flush
pub begin_refused : (d : Definitions) (c : UsacConfig) (k : CarriedUnits) (u : UnitValue) (old mid new : Meaning) (s bs bt : List ℤ) (e : CoreError) → mid.fed ≡ old.fed + 0
    → Begins (Err e) d (with_carried c u (Ok (carried_value k))) mid new bs bt → Turns (Err e) d c (Join k) u old new s s
begin_refused d c k u old mid new s bs bt cores.Failed fed h =
    (h.0, record { at_least = omega (arith, fed, h.1.at_least); at_most = omega (arith, fed, h.1.at_most); samples = refl })
begin_refused d c k u old mid new s bs bt (cores.Memory e) fed h =
    record { at_least = omega (arith, fed, h.1.at_least); at_most = omega (arith, fed, h.1.at_most); samples = refl }

-- ---- what a turn does is what the frame gives

-- what the frame carries: where it goes on, nobody read it
abbrev turn_carried : UsacConfig → Frame → Turn → Result Carried CarryFault
turn_carried c g GoesOn = carried_of c g
turn_carried c g (Start k) = carried_at_start k
turn_carried c g (Join k) = Ok (carried_value k)

abbrev turn_shown : UsacConfig → Frame → Turn → Shown
turn_shown c g t = with_carried c (unit_of c g) (turn_carried c g t)

turn_judged : (d : Definitions) (c : UsacConfig) (w : IsWellFormed c) (g : Frame) (p : Option UsacConfig) (t : Turn) → IsTurn d p c g t → IsJudged c g (turn_carried c g t)
turn_judged d c w g p GoesOn h = judged c g w
turn_judged d c w g None (Start None) h = record { breaks = h.0; before = none_tried c g }
turn_judged d c w g None (Start (Some k)) h = h.1
turn_judged d c w g (Some b) (Start k) h = absurd h
turn_judged d c w g None (Join k) h = absurd h
turn_judged d c w g (Some b) (Join k) h = h.1.0

turn_shows : (d : Definitions) (c : UsacConfig) (w : IsWellFormed c) (au : List ℕ) (g : Frame) (i : IsFrame c au g) (p : Option UsacConfig) (t : Turn) → IsTurn d p c g t → Shows c au (turn_shown c g t)
turn_shows d c w au g i p t h = record { read = g; is = i; config = refl; unit = refl; carried = turn_judged d c w g p t h }

record IsPlayedSo (d : Definitions) (c : UsacConfig) (g : Frame) (p : Option UsacConfig) (r : Option Running) (t : Turn) : Type 0 where
  pub block : turned_block d r c t (unit_of c g) ≡ played_block d (standing p r) (turn_shown c g t)
  pub state : turned_state d r c t (unit_of c g) ≡ played_state d (standing p r) (turn_shown c g t)
  pub before : turned_before t ≡ before_it p (turn_shown c g t)
  pub in_step : IsInStep d (Some c) (turned_state d r c t (unit_of c g))

module _ (d : Definitions) (stays : StaysSound d) (c : UsacConfig) (w : IsWellFormed c) (g : Frame) where
  played_so : (p : Option UsacConfig) (r : Option Running) (t : Turn) → IsTurn d p c g t → IsInStep d p r → IsPlayedSo d c g p r t
  played_so None r GoesOn h s = absurd h
  played_so (Some b) None GoesOn h s = absurd s
  played_so (Some b) (Some x) GoesOn h s =
      let f = turn_shown c g GoesOn in
      let e : same x.config c ≡ true = same_equal x.config c (s.0 ∙ h) in
      let e' : same b c ≡ true = same_equal b c h in
      let block : emitted d (Some x) (unit_of c g) ≡ played_block d (Some x) f = rw e refl in
      let state : stepped d (Some x) (unit_of c g) ≡ played_state d (Some x) f = rw e refl in
      let P : UsacConfig → Type 0 = λ y. IsInStep d (Some y) (stepped d (Some x) (unit_of c g)) in
      record { block = block; state = state; before = rw e' refl; in_step = subst P h (goes_on_in_step d stays b (Some x) (unit_of c g) s) }
  played_so None r (Start k) h s = record { block = refl; state = refl; before = refl; in_step = begun_in_step d stays (turn_shown c g (Start k)) w }
  played_so (Some b) r (Start k) h s = absurd h
  played_so None r (Join k) h s = absurd h
  played_so (Some b) None (Join k) h s = absurd s
  played_so (Some b) (Some x) (Join k) h s =
      let f = turn_shown c g (Join k) in
      let P : UsacConfig → Type 0 = IsWellFormed in
      let n : same x.config c ≡ false = same_false x.config c (subst P (sym s.0) s.1) w (λ q. h.0.other (sym s.0 ∙ q)) in
      let n' : same b c ≡ false = same_false b c s.1 w h.0.other in
      let block : joined_block d (Some x) f ≡ played_block d (Some x) f = rw n refl in
      let state : turned_state d (Some x) c (Join k) (unit_of c g) ≡ played_state d (Some x) f = rw n refl in
      let before : length k.units ≡ before_it (Some b) f = rw n' refl in
      record { block = block; state = state; before = before; in_step = begun_in_step d stays f w }

-- ---- what a turn needs

pub in_step_fits : (d : Definitions) (p : Option UsacConfig) (r : Option Running) → IsInStep d p r → IfSome p IsWellFormed
in_step_fits d None r s = tt
in_step_fits d (Some c) None s = absurd s
in_step_fits d (Some c) (Some r) s = s.1

in_step_ready : (d : Definitions) (c : UsacConfig) (r : Option Running) → IsInStep d (Some c) r → IsSome r
in_step_ready d c None s = absurd s
in_step_ready d c (Some r) s = refl

pub can_turn : (d : Definitions) (emits : EmitsBlocks d) (c : UsacConfig) (g : Frame) (p : Option UsacConfig) (r : Option Running) (t : Turn) → IsTurn d p c g t → IsInStep d p r → CanTurn d r c t
can_turn d emits c g None r GoesOn h s = absurd h
can_turn d emits c g (Some b) r GoesOn h s = in_step_ready d b r s
can_turn d emits c g p r (Start k) h s = tt
can_turn d emits c g None r (Join k) h s = absurd h
can_turn d emits c g (Some b) r (Join k) h s =
    let level = h.0 in
    (in_step_ready d b r s, drained_long d emits b r s ∙ ap (λ (n : ℕ). 128 * n) level.channels)

-- ---- the whole of a call

-- a player that has not stopped, and one behind that answer
abbrev going : Option UsacConfig → PlayerValue
going p = record { last = p; stopped = false }

abbrev left_by : Result (Unit {0}) PlayFault → Option UsacConfig → PlayerValue
left_by r p = record { last = p; stopped = stops_by r }

module _ (d : Definitions) (stays : StaysSound d) (c : UsacConfig) (w : IsWellFormed c) (au : List ℕ) (g : Frame) (i : IsFrame c au g) (p : Option UsacConfig) (t : Turn) (h : IsTurn d p c g t) (R : PlayFault → Type 0) (takes : TakesBy R) where
  pub fed_frame : (q : Option UsacConfig) (k m : Meaning) (s s' : List ℤ) → IsInStep d p k.ready → q ≡ Some c → Turns (Ok tt) d c t (unit_of c g) k m s s' → Answered (Ok tt) R d c au (going p) (going q) k m s s'
  fed_frame q k m s s' step last done =
      let so = played_so d stays c w g p k.ready t h step in
      record {
        going = refl;
        takes = takes;
        frame = turn_shown c g t;
        shows = turn_shows d c w au g i p t h;
        block = done.samples ∙ ap (λ (xs : List ℤ). s ++ xs) so.block;
        state = done.ready ∙ so.state;
        in_step = subst (λ (r : Option Running). IsInStep d (Some c) r) (sym done.ready) so.in_step;
        fed = done.fed ∙ ap (λ (n : ℕ). k.fed + (n + 1)) so.before;
        player = ap going last;
      }

  pub stopped_frame : (k m : Meaning) (s s' : List ℤ) (e : CoreError) → IsInStep d p k.ready → Turns (Err e) d c t (unit_of c g) k m s s' → Answered (Err (from_core e)) R d c au (going p) (left_by (Err (from_core e)) p) k m s s'
  stopped_frame k m s s' cores.Failed step done =
      let so = played_so d stays c w g p k.ready t h step in (
        record { going = refl; player = refl; samples = done.1.samples },
        takes,
        done.0,
        record { frame = turn_shown c g t; shows = turn_shows d c w au g i p t h; at_least = done.1.at_least; at_most = omega (arith, done.1.at_most, so.before) },
      )
  stopped_frame k m s s' (cores.Memory e) step done =
      let so = played_so d stays c w g p k.ready t h step in (
        record { going = refl; player = refl; samples = done.samples },
        inr record { frame = turn_shown c g t; shows = turn_shows d c w au g i p t h; at_least = done.at_least; at_most = omega (arith, done.at_most, so.before) },
      )

-- how many units a call feeds
turned_few : (t : Turn) → turned_before t ≤ 18
turned_few GoesOn = omega arith
turned_few (Start None) = omega arith
turned_few (Start (Some k)) = k.few
turned_few (Join k) = k.few

pub turns_few : (d : Definitions) (c : UsacConfig) (t : Turn) (u : UnitValue) (k m : Meaning) (s s' : List ℤ) (r : Result (Unit {0}) CoreError) → Turns r d c t u k m s s' → m.fed ≤ k.fed + 19
turns_few d c t u k m s s' (Ok x) done = omega (arith, done.fed, turned_few t)
turns_few d c t u k m s s' (Err cores.Failed) done = omega (arith, done.1.at_most, turned_few t)
turns_few d c t u k m s s' (Err (cores.Memory e)) done = omega (arith, done.at_most, turned_few t)

same_in_step : (d : Definitions) (p q : PlayerValue) (k m : Meaning) (s t : List ℤ) → IsSame p q k m s t → q.stopped ≡ false → (p.stopped ≡ false → IsInStep d p.last k.ready) → IsInStep d q.last m.ready
same_in_step d p q k m s t same going h =
    let old = h (sym (ap (λ (v : PlayerValue). v.stopped) same.player) ∙ going) in
    let moved = subst (λ (v : PlayerValue). IsInStep d v.last k.ready) (sym same.player) old in
    subst (λ (n : Meaning). IsInStep d q.last n.ready) (sym same.core) moved

stops : (p q : PlayerValue) (s t : List ℤ) → IsStopped p q s t → q.stopped ≡ false → ⊥
stops p q s t h going = absurd (let never : true ≡ false = sym (ap (λ (v : PlayerValue). v.stopped) h.player) ∙ going in cc)

-- a player that has not stopped can be fed again
pub stays_in_step : (r : Result (Unit {0}) PlayFault) (R : PlayFault → Type 0) (d : Definitions) (c : UsacConfig) (au : List ℕ) (p q : PlayerValue) (k m : Meaning) (s t : List ℤ)
    → Answered r R d c au p q k m s t → (p.stopped ≡ false → IsInStep d p.last k.ready) → q.stopped ≡ false → IsInStep d q.last m.ready
stays_in_step (Ok x) R d c au p q k m s t a h going = subst (λ (v : PlayerValue). IsInStep d v.last m.ready) (sym a.player) a.in_step
stays_in_step (Err (FrameFault at)) R d c au p q k m s t a h going = same_in_step d p q k m s t a.same going h
stays_in_step (Err NotIndependent) R d c au p q k m s t a h going = same_in_step d p q k m s t a.same going h
stays_in_step (Err RateChanged) R d c au p q k m s t a h going = same_in_step d p q k m s t a.same going h
stays_in_step (Err ChannelsChanged) R d c au p q k m s t a h going = same_in_step d p q k m s t a.same going h
stays_in_step (Err (Carry e)) R d c au p q k m s t a h going = same_in_step d p q k m s t a.same going h
stays_in_step (Err (TooFew have need)) R d c au p q k m s t a h going = same_in_step d p q k m s t a.same going h
stays_in_step (Err CoreFault) R d c au p q k m s t a h going = absurd (stops p q s t a.0 going)
stays_in_step (Err (Memory e)) R d c au p q k m s t a h going = absurd (stops p q s t a.0 going)
stays_in_step (Err Stopped) R d c au p q k m s t a h going = same_in_step d p q k m s t a.1 going h

-- what a call on a player did, by what the call on its parts did
pub feeds_so : (r : Result (Unit {0}) PlayFault) (R : Option UsacConfig → PlayFault → Type 0) (d : Definitions) (c : UsacConfig) (au : List ℕ) (p : PlayerValue) (last new : Option UsacConfig) (b : Bool) (k m : Meaning) (s t : List ℤ)
    → p ≡ going last → b ≡ stops_by r → Answered r (R last) d c au (going last) (left_by r new) k m s t → HasCause (is_core_fault r) k.faults m.faults → m.fed ≤ k.fed + 19
    → (p.stopped ≡ false → IsInStep d p.last k.ready) → Feeds r (R p.last) d c au p (record { last = new; stopped = b }) k m s t
feeds_so r R d c au p last new b k m s t e f a cause few step =
    let from = subst (λ (v : PlayerValue). Answered r (R v.last) d c au v (left_by r new) k m s t) (sym e) a in
    let whole = subst (λ (x : Bool). Answered r (R p.last) d c au p (record { last = new; stopped = x }) k m s t) (sym f) from in
    record { answered = whole; faults = cause; few = few; in_step = stays_in_step r (R p.last) d c au p (record { last = new; stopped = b }) k m s t whole step }

-- the configuration that is kept
pub kept_is : (d : Definitions) (c : UsacConfig) (g : Frame) (p q kept : Option UsacConfig) (t : Turn) → IsTurn d p c g t → kept ≡ kept_of t c → (IsSome kept → q ≡ kept) → (kept ≡ None → q ≡ p) → q ≡ Some c
kept_is d c g None q kept GoesOn h e some none = absurd h
kept_is d c g (Some b) q kept GoesOn h e some none = none e ∙ ap (λ (x : UsacConfig). Some x) h
kept_is d c g p q kept (Start k) h e some none = some (subst (λ (o : Option UsacConfig). IsSome o) (sym e) refl) ∙ e
kept_is d c g p q kept (Join k) h e some none = some (subst (λ (o : Option UsacConfig). IsSome o) (sym e) refl) ∙ e

-- ---- a start within a stream

positive : (n : ℕ) → (n ≡ 0 → ⊥) → 0 < n
positive zero h = absurd (h refl)
positive (suc n) h = omega arith

pub at_is_turn : (d : Definitions) (c : UsacConfig) (g : Frame) (t : Turn) → IsTurnAt d c g t → IsTurn d None c g t
at_is_turn d c g GoesOn h = h
at_is_turn d c g (Start None) h = absurd h
at_is_turn d c g (Start (Some k)) h = (positive (payload_length c g) (let carried = h.0 in carried.keeps carries.NotImmediate), h.0)
at_is_turn d c g (Join k) h = h

pub at_can : (d : Definitions) (r : Option Running) (c : UsacConfig) (g : Frame) (t : Turn) → IsTurnAt d c g t → CanTurn d r c t
at_can d r c g GoesOn h = absurd h
at_can d r c g (Start k) h = tt
at_can d r c g (Join k) h = absurd h
