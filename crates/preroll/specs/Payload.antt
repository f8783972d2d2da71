-- The preroll that a payload is, or its fault (ISO/IEC 23003-3, AudioPreRoll).
use Rattle.std.specs.Prelude.{ℕ, List, Option}
use Rattle.layout.specs.Text.{bits_of}
use Rattle.layout.specs.Laws as Whole
use Rattle.preroll.specs.declared.fault.PreFault.{PreFault}
use Rattle.preroll.specs.declared.preroll.PreRoll.{PreRoll}
use Rattle.preroll.specs.PreRoll.{preroll}
use Rattle.preroll.specs.PreRollExact.{decided}

-- The preroll whose spelling a payload is, if it is one.
unfoldable pub preroll_of : List ℕ → Option PreRoll
preroll_of payload = Whole.value_of preroll decided (bits_of payload)

-- Its first fault, if it is none.
unfoldable pub fault_of : List ℕ → Option PreFault
fault_of payload = Whole.fault_of preroll decided (bits_of payload)
