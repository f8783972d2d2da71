-- How a frame that breaks no rule is played: for the private functions that judge and play it.
use Rattle.std.specs.Prelude.{◌≡◌, ℕ, ◌+◌, ◌*◌, ◌<◌, ◌≤◌, true, List, length, Option, Some, None, IsSome, Result, Ok, Err, ℤ}
use Rattle.usac_cfg.specs.declared.usac_config.UsacConfig.{UsacConfig}
use Rattle.usac_cfg.specs.UsacConfig.{channels}
use Rattle.usac_frame.specs.declared.frame.Frame.{Frame}
use Rattle.usac_frame.specs.Units.{UnitValue, payload_length}
use Rattle.preroll.specs.declared.carried_units.CarriedUnits.{CarriedUnits}
use Rattle.preroll.specs.declared.fault.CarryFault.{CarryFault}
use Rattle.preroll.specs.declared.fault.CarryFault.TheVariants.{NotImmediate}
use Rattle.preroll.specs.Carried.{IsFirst, Carries}
use Rattle.preroll.specs.Carrying.{Carried, Shown, units_in}
use Rattle.plans.specs.Level.{IsLevel}
use Rattle.core_iface.specs.declared.fault.CoreFault.{CoreFault as CoreError}
use Rattle.core_iface.specs.declared.fault.CoreFault.TheVariants as cores
use Rattle.core_iface.specs.Decoding.{Definitions}
use Rattle.core_iface.specs.Answering.{Running, Meaning, IsDone, stepped, emitted, drained}
use Rattle.switch_player.specs.declared.turn.Turn.{Turn}
use Rattle.switch_player.specs.declared.turn.Turn.TheVariants.{GoesOn, Start, Join}
use Rattle.switch_player.specs.declared.fault.PlayFault.{PlayFault}
use Rattle.switch_player.specs.declared.fault.PlayFault.TheVariants.{FrameFault, NotIndependent, RateChanged, ChannelsChanged, Carry, TooFew, CoreFault, Memory, Stopped}
use Rattle.switch_player.specs.Playing.{begun, begun_state, joined_block}
use Rattle.switch_player.specs.Rules.{IsShortOf, RefusesRead}

-- The frame carries these units, and there are as many as the warm-up.
abbrev pub HasEnough : Definitions → UsacConfig → Frame → CarriedUnits → Type 0
HasEnough d c g k = Carries c g k.fade k.units × (d.warm c ≤ length k.units)

-- This is how a frame is played behind a frame of that configuration, or as the first one.
abbrev pub IsTurn : Definitions → Option UsacConfig → UsacConfig → Frame → Turn → Type 0
IsTurn d None c g GoesOn = ⊥
IsTurn d (Some b) c g GoesOn = b ≡ c
IsTurn d None c g (Start None) = (payload_length c g ≡ 0) × (g.independent ≡ true)
IsTurn d None c g (Start (Some k)) = (0 < payload_length c g) × Carries c g k.fade k.units
IsTurn d (Some b) c g (Start k) = ⊥
IsTurn d None c g (Join k) = ⊥
IsTurn d (Some b) c g (Join k) = IsLevel b c × HasEnough d c g k

-- The frame is refused, or there was no memory.
abbrev pub Judges : Definitions → Option UsacConfig → UsacConfig → Frame → PlayFault → Type 0
Judges d last c g (Memory e) = Unit {0}
Judges d last c g (FrameFault at) = RefusesRead d last c g (FrameFault at)
Judges d last c g NotIndependent = RefusesRead d last c g NotIndependent
Judges d last c g RateChanged = RefusesRead d last c g RateChanged
Judges d last c g ChannelsChanged = RefusesRead d last c g ChannelsChanged
Judges d last c g (Carry e) = RefusesRead d last c g (Carry e)
Judges d last c g (TooFew have need) = RefusesRead d last c g (TooFew have need)
Judges d last c g CoreFault = ⊥
Judges d last c g Stopped = ⊥

-- This is how a frame is played at which a player starts within a stream.
abbrev pub IsTurnAt : Definitions → UsacConfig → Frame → Turn → Type 0
IsTurnAt d c g GoesOn = ⊥
IsTurnAt d c g (Start None) = ⊥
IsTurnAt d c g (Start (Some k)) = HasEnough d c g k
IsTurnAt d c g (Join k) = ⊥

-- The frame is refused there, or there was no memory.
abbrev pub JudgesAt : Definitions → UsacConfig → Frame → PlayFault → Type 0
JudgesAt d c g (Memory e) = Unit {0}
JudgesAt d c g (FrameFault at) = ⊥
JudgesAt d c g NotIndependent = ⊥
JudgesAt d c g RateChanged = ⊥
JudgesAt d c g ChannelsChanged = ⊥
JudgesAt d c g (Carry e) = IsFirst c g e
JudgesAt d c g (TooFew have need) = IsShortOf d c g have need
JudgesAt d c g CoreFault = ⊥
JudgesAt d c g Stopped = ⊥

-- ---- what a turn does

-- what is carried, as a value
abbrev pub carried_value : CarriedUnits → Carried
carried_value k = record { fade = k.fade; units = k.units }

abbrev pub carried_at_start : Option CarriedUnits → Result Carried CarryFault
carried_at_start None = Err NotImmediate
carried_at_start (Some k) = Ok (carried_value k)

-- a frame that shows this
abbrev pub with_carried : UsacConfig → UnitValue → Result Carried CarryFault → Shown
with_carried c u k = record { config = c; unit = u; carried = k }

-- the block of a frame that is played so, the core behind it, and how many units are stepped before it
abbrev pub turned_block : Definitions → Option Running → UsacConfig → Turn → UnitValue → List ℤ
turned_block d r c GoesOn u = emitted d r u
turned_block d r c (Start k) u = begun d (with_carried c u (carried_at_start k))
turned_block d r c (Join k) u = joined_block d r (with_carried c u (Ok (carried_value k)))

abbrev pub turned_state : Definitions → Option Running → UsacConfig → Turn → UnitValue → Option Running
turned_state d r c GoesOn u = stepped d r u
turned_state d r c (Start k) u = begun_state d (with_carried c u (carried_at_start k))
turned_state d r c (Join k) u = begun_state d (with_carried c u (Ok (carried_value k)))

abbrev pub turned_before : Turn → ℕ
turned_before GoesOn = 0
turned_before (Start k) = length (units_in (carried_at_start k))
turned_before (Join k) = length k.units

-- the configuration that is kept of a frame that is played so, where it is another one
abbrev pub kept_of : Turn → UsacConfig → Option UsacConfig
kept_of GoesOn c = None
kept_of (Start k) c = Some c
kept_of (Join k) c = Some c

-- Nothing was appended, and so many units were fed at most.
pub record FedSome (old new : Meaning) (most : ℕ) (samples_old samples_new : List ℤ) : Type 0 where
  pub at_least : old.fed ≤ new.fed
  pub at_most : new.fed ≤ old.fed + most
  pub samples : samples_new ≡ samples_old

-- What beginning to decode does on a core: at a refusal the core is not ready.
abbrev pub Begins : Result (Unit {0}) CoreError → Definitions → Shown → Meaning → Meaning → List ℤ → List ℤ → Type 0
Begins (Ok x) d f old new samples_old samples_new =
    IsDone old new (begun_state d f) (length (units_in f.carried) + 1) samples_old samples_new (begun d f)
Begins (Err e) d f old new samples_old samples_new = (new.ready ≡ None) × FedSome old new (length (units_in f.carried)) samples_old samples_new

-- What playing does on a core. Where there was no memory the core may be in any state.
abbrev pub Turns : Result (Unit {0}) CoreError → Definitions → UsacConfig → Turn → UnitValue → Meaning → Meaning → List ℤ → List ℤ → Type 0
Turns (Ok x) d c t u old new samples_old samples_new =
    IsDone old new (turned_state d old.ready c t u) (turned_before t + 1) samples_old samples_new (turned_block d old.ready c t u)
Turns (Err cores.Failed) d c t u old new samples_old samples_new = (new.ready ≡ None) × FedSome old new (turned_before t) samples_old samples_new
Turns (Err (cores.Memory e)) d c t u old new samples_old samples_new = FedSome old new (turned_before t + 1) samples_old samples_new

-- The core can play a frame so: it is ready where it goes on, and what it drains at a join is as long as the fade.
abbrev pub CanTurn : Definitions → Option Running → UsacConfig → Turn → Type 0
CanTurn d r c GoesOn = IsSome r
CanTurn d r c (Start k) = Unit {0}
CanTurn d r c (Join k) = IsSome r × (length (drained d r) ≡ 128 * channels c)
