-- The line of a refusal: which input it is about, its place and its reason.
use Rattle.std.specs.Prelude.{ℕ, List, [], codes, decimal, Option, Some, None}
use Rattle.latm.specs.declared.fault.MuxField.{MuxField}
use Rattle.latm.specs.declared.fault.MuxField.TheVariants as fields
use Rattle.tool_text.specs.declared.refusal.Place.{Place}
use Rattle.tool_text.specs.declared.refusal.Place.TheVariants as places
use Rattle.tool_text.specs.declared.refusal.Reason.{Reason}
use Rattle.tool_text.specs.declared.refusal.Reason.TheVariants as reasons
use Rattle.tool_text.specs.declared.refusal.Refusal.{Refusal}
use Rattle.tool_text.specs.declared.refusal.Within.{Within}
use Rattle.tool_text.specs.declared.refusal.Within.TheVariants as inputs
use Rattle.tool_text.specs.Parts.{◌&◌}

-- the piece or the file, where there are several
abbrev pub within_text : Option Within → List ℕ
within_text None = []
within_text (Some (inputs.Piece piece)) = codes "piece " & decimal piece & codes ": "
within_text (Some (inputs.File file)) = codes "file " & decimal file & codes ": "

-- the place, where one is named
abbrev pub place_text : Place → List ℕ
place_text places.Whole = []
place_text (places.Byte byte) = codes "byte " & decimal byte & codes ": "
place_text (places.Frame frame) = codes "frame " & decimal frame & codes ": "
place_text (places.FrameBit frame bit) = codes "frame " & decimal frame & codes " bit " & decimal bit & codes ": "

-- the name of a field of StreamMuxConfig (ISO/IEC 14496-3)
abbrev pub field_name : MuxField → List ℕ
field_name fields.AudioMuxVersionA = codes "audioMuxVersionA"
field_name fields.AllStreamsSameTimeFraming = codes "allStreamsSameTimeFraming"
field_name fields.NumProgram = codes "numProgram"
field_name fields.NumLayer = codes "numLayer"
field_name fields.FrameLengthType = codes "frameLengthType"
field_name fields.OtherDataLenBits = codes "otherDataLenBits"

abbrev pub reason_text : Reason → List ℕ
reason_text reasons.SyncLost = codes "sync lost"
reason_text reasons.Truncated = codes "truncated"
reason_text reasons.NoConfig = codes "no configuration"
reason_text (reasons.OutOfProfile field) = codes "out of profile: " & field_name field
reason_text reasons.MuxTooShort = codes "mux too short"
reason_text (reasons.NotUsac kind) = codes "not USAC: type " & decimal kind
reason_text reasons.ConfigTooShort = codes "configuration too short"
reason_text reasons.TailTooLong = codes "configuration tail too long"
reason_text reasons.RateReserved = codes "reserved rate index"
reason_text reasons.RateZero = codes "rate zero"
reason_text reasons.FrameReserved = codes "reserved frame length index"
reason_text reasons.ChannelReserved = codes "reserved channel index"
reason_text reasons.NoChannels = codes "no channels"
reason_text reasons.TooManyChannels = codes "too many channels"
reason_text reasons.TooManyElements = codes "too many elements"
reason_text reasons.FrameTooShort = codes "frame too short"
reason_text reasons.NotIndependent = codes "not independent"
reason_text reasons.RateChanged = codes "rate changed"
reason_text reasons.ChannelsChanged = codes "channels changed"
reason_text reasons.NotImmediate = codes "no preroll"
reason_text reasons.Split = codes "preroll split"
reason_text (reasons.BadPreroll bit) = codes "bad preroll at bit " & decimal bit
reason_text reasons.BadConfig = codes "bad preroll configuration"
reason_text reasons.ConfigDiffers = codes "preroll configuration differs"
reason_text (reasons.BadUnit unit bit) = codes "bad carried unit " & decimal unit & codes " at bit " & decimal bit
reason_text (reasons.Nested unit) = codes "nested preroll in unit " & decimal unit
reason_text reasons.FirstDependent = codes "first unit not independent"
reason_text (reasons.TooFew have need) = codes "too few units: " & decimal have & codes " of " & decimal need
reason_text reasons.PastEnd = codes "past end"
reason_text reasons.SameConfig = codes "same configuration"
reason_text (reasons.PrerollForeign unit) = codes "foreign preroll unit " & decimal unit
reason_text reasons.ConfigChanges = codes "configuration changes"
reason_text reasons.TooLong = codes "too long"
reason_text reasons.PositionsFall = codes "positions do not rise"
reason_text (reasons.NoFrameAt position) = codes "no frame at " & decimal position
reason_text reasons.RateDiffers = codes "rate differs"
reason_text reasons.ChannelsDiffer = codes "channels differ"
reason_text reasons.NotDeclared = codes "preroll not declared"
reason_text reasons.ConfigTooLong = codes "configuration too long"
reason_text reasons.BadCount = codes "bad count"
reason_text (reasons.BadTarget place) = codes "bad target " & decimal place
reason_text reasons.AlreadyPresent = codes "already present"
reason_text reasons.TooEarly = codes "too early"
reason_text reasons.PayloadTooLong = codes "payload too long"
reason_text reasons.NotInserted = codes "not inserted"

-- the whole line, with its line feed
abbrev pub refusal_text : Option Within → Refusal → List ℕ
refusal_text within r = codes "refused: " & within_text within & place_text r.place & reason_text r.reason & codes "\n"
