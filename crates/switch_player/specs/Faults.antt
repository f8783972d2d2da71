-- How the faults below become a player's, and what an answer says of the core and the player.
use Rattle.std.specs.Prelude.{Bool, true, false, Result, Ok, Err}
use Rattle.usac_frame.specs.declared.fault.FrameFault.{FrameFault as FrameError}
use Rattle.usac_frame.specs.declared.fault.FrameFault.TheVariants as frames
use Rattle.preroll.specs.declared.fault.CarryFault.{CarryFault}
use Rattle.preroll.specs.declared.fault.CarryFault.TheVariants as carries
use Rattle.core_iface.specs.declared.fault.CoreFault.{CoreFault as CoreError}
use Rattle.core_iface.specs.declared.fault.CoreFault.TheVariants as cores
use Rattle.switch_player.specs.declared.fault.PlayFault.{PlayFault}
use Rattle.switch_player.specs.declared.fault.PlayFault.TheVariants.{FrameFault, NotIndependent, RateChanged, ChannelsChanged, Carry, TooFew, CoreFault, Memory, Stopped}

-- out of memory stays what it is
abbrev pub from_frame : FrameError → PlayFault
from_frame (frames.Short at) = FrameFault at
from_frame (frames.Memory e) = Memory e

abbrev pub from_carry : CarryFault → PlayFault
from_carry (carries.Memory e) = Memory e
from_carry carries.NotImmediate = Carry carries.NotImmediate
from_carry carries.Split = Carry carries.Split
from_carry (carries.BadPreroll at) = Carry (carries.BadPreroll at)
from_carry carries.BadConfig = Carry carries.BadConfig
from_carry carries.ConfigDiffers = Carry carries.ConfigDiffers
from_carry (carries.BadUnit k at) = Carry (carries.BadUnit k at)
from_carry (carries.Nested k) = Carry (carries.Nested k)
from_carry carries.FirstDependent = Carry carries.FirstDependent

abbrev pub from_core : CoreError → PlayFault
from_core cores.Failed = CoreFault
from_core (cores.Memory e) = Memory e

-- the core failed
abbrev pub is_core_fault : Result (Unit {0}) PlayFault → Bool
is_core_fault (Ok x) = false
is_core_fault (Err (FrameFault at)) = false
is_core_fault (Err NotIndependent) = false
is_core_fault (Err RateChanged) = false
is_core_fault (Err ChannelsChanged) = false
is_core_fault (Err (Carry e)) = false
is_core_fault (Err (TooFew have need)) = false
is_core_fault (Err CoreFault) = true
is_core_fault (Err (Memory e)) = false
is_core_fault (Err Stopped) = false

-- the player stops behind that answer
abbrev pub stops_by : Result (Unit {0}) PlayFault → Bool
stops_by (Ok x) = false
stops_by (Err (FrameFault at)) = false
stops_by (Err NotIndependent) = false
stops_by (Err RateChanged) = false
stops_by (Err ChannelsChanged) = false
stops_by (Err (Carry e)) = false
stops_by (Err (TooFew have need)) = false
stops_by (Err CoreFault) = true
stops_by (Err (Memory e)) = true
stops_by (Err Stopped) = false
