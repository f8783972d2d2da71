-- Why a player refuses a frame: the first of six rules that it breaks. They are this project's own. Each case has in it what the
-- rules before it want, so that one of them applies at most.
use Rattle.std.specs.Prelude.{◌≡◌, ◌≢◌, ℕ, ◌<◌, Bool, false, List, length, Option, Some, None}
use Rattle.layout.specs.Text.{bits_of}
use Rattle.usac_cfg.specs.declared.usac_config.UsacConfig.{UsacConfig}
use Rattle.usac_cfg.specs.UsacConfig.{rate, channels}
use Rattle.usac_frame.specs.declared.frame.Frame.{Frame}
use Rattle.usac_frame.specs.declared.fault.FrameFault.TheVariants as frames
use Rattle.usac_frame.specs.Frame.{FrameFaults}
use Rattle.usac_frame.specs.AccessUnit.{IsFrame}
use Rattle.usac_frame.specs.Units.{UnitValue, payload_length}
use Rattle.preroll.specs.Carried.{IsFirst, Carries}
use Rattle.plans.specs.Level.{IsLevel}
use Rattle.core_iface.specs.Decoding.{Definitions}
use Rattle.switch_player.specs.declared.fault.PlayFault.{PlayFault}
use Rattle.switch_player.specs.declared.fault.PlayFault.TheVariants.{FrameFault, NotIndependent, RateChanged, ChannelsChanged, Carry, TooFew, CoreFault, Memory, Stopped}

-- The frame carries units, but fewer than the core's warm-up: rule 5 is kept, and rule 6 is broken.
pub record IsShortOf (d : Definitions) (c : UsacConfig) (g : Frame) (have need : ℕ) : Type 0 where
  pub fade : Bool
  pub units : List UnitValue
  pub carries : Carries c g fade units
  pub have_is : have ≡ length units
  pub need_is : need ≡ d.warm c
  pub few : have < need

-- Why a frame that could be read is refused: behind a frame of the first configuration, or, where there is none, as the first
-- frame.
abbrev pub RefusesRead : Definitions → Option UsacConfig → UsacConfig → Frame → PlayFault → Type 0
RefusesRead d last c g (FrameFault at) = ⊥
RefusesRead d None c g NotIndependent = (payload_length c g ≡ 0) × (g.independent ≡ false)
RefusesRead d (Some b) c g NotIndependent = ⊥
RefusesRead d None c g RateChanged = ⊥
RefusesRead d (Some b) c g RateChanged = (b ≢ c) × (rate b ≢ rate c)
RefusesRead d None c g ChannelsChanged = ⊥
RefusesRead d (Some b) c g ChannelsChanged = (b ≢ c) × (rate b ≡ rate c) × (channels b ≢ channels c)
RefusesRead d None c g (Carry e) = (0 < payload_length c g) × IsFirst c g e
RefusesRead d (Some b) c g (Carry e) = IsLevel b c × IsFirst c g e
RefusesRead d None c g (TooFew have need) = ⊥
RefusesRead d (Some b) c g (TooFew have need) = IsLevel b c × IsShortOf d c g have need
RefusesRead d last c g CoreFault = ⊥
RefusesRead d last c g (Memory e) = ⊥
RefusesRead d last c g Stopped = ⊥

-- Why an access unit is refused: it is no frame, with its first fault at that bit; or it is a frame that is refused.
abbrev pub Refuses : Definitions → Option UsacConfig → UsacConfig → List ℕ → PlayFault → Type 0
Refuses d last c au (FrameFault at) = FrameFaults c (frames.Short at) (bits_of au)
Refuses d last c au NotIndependent = (g : Frame) × IsFrame c au g × RefusesRead d last c g NotIndependent
Refuses d last c au RateChanged = (g : Frame) × IsFrame c au g × RefusesRead d last c g RateChanged
Refuses d last c au ChannelsChanged = (g : Frame) × IsFrame c au g × RefusesRead d last c g ChannelsChanged
Refuses d last c au (Carry e) = (g : Frame) × IsFrame c au g × RefusesRead d last c g (Carry e)
Refuses d last c au (TooFew have need) = (g : Frame) × IsFrame c au g × RefusesRead d last c g (TooFew have need)
Refuses d last c au CoreFault = ⊥
Refuses d last c au (Memory e) = ⊥
Refuses d last c au Stopped = ⊥

-- Why an access unit is refused as the frame at which a player starts within a stream. There it has to carry units, and as many
-- as the warm-up, since what stands before it in the stream is not decoded.
abbrev pub RefusesAt : Definitions → UsacConfig → List ℕ → PlayFault → Type 0
RefusesAt d c au (FrameFault at) = FrameFaults c (frames.Short at) (bits_of au)
RefusesAt d c au NotIndependent = ⊥
RefusesAt d c au RateChanged = ⊥
RefusesAt d c au ChannelsChanged = ⊥
RefusesAt d c au (Carry e) = (g : Frame) × IsFrame c au g × IsFirst c g e
RefusesAt d c au (TooFew have need) = (g : Frame) × IsFrame c au g × IsShortOf d c g have need
RefusesAt d c au CoreFault = ⊥
RefusesAt d c au (Memory e) = ⊥
RefusesAt d c au Stopped = ⊥

-- none of these rules is broken
abbrev pub TakesBy : (PlayFault → Type 0) → Type 0
TakesBy R = (e : PlayFault) → R e → ⊥
