-- What a decoder sees of a frame. The flag and the element are those of ISO/IEC 23003-3, UsacFrame and AudioPreRoll; that
-- the zeros at the end are cut is this project's own.
use Rattle.std.specs.Prelude.{ℕ, Bool, false, ◌&&◌, List, [], ◌++◌, length, take, drop, slice_get, nat_lt, if◌then◌else◌}
use Rattle.std.specs.Option.{option_map_or}
use Rattle.bit_core.specs.Trim.{trimmed}
use Rattle.usac_cfg.specs.declared.usac_config.UsacConfig.{UsacConfig}
use Rattle.usac_cfg.specs.UsacConfig.{declares_preroll}
use Rattle.usac_frame.specs.declared.frame.Frame.{Frame}
use Rattle.usac_frame.specs.declared.part.ExtPart.{ExtPart}
use Rattle.usac_frame.specs.declared.part.ExtPart.TheVariants.{Absent, Present}
use Rattle.usac_frame.specs.declared.unit.Unit.{Unit as UnitRecord}
use Rattle.usac_frame.specs.Frame.{leading_exts, parts_text}

-- a unit, by another name than the built-in type's: `independent`, and `bits` as a list of Bool
abbrev pub UnitValue : Type 0
UnitValue = UnitRecord

-- how many parts are the preroll's: part 0, where element 0 is a preroll
abbrev pub preroll_parts : UsacConfig → ℕ
preroll_parts c = if declares_preroll c then 1 else 0

-- the bits of the part of the preroll element
abbrev pub preroll_text : UsacConfig → Frame → List Bool
preroll_text c f = parts_text (take (preroll_parts c) (leading_exts c)) (take (preroll_parts c) f.leading)

-- the bits behind it: the other parts, and the rest
abbrev pub core_text : UsacConfig → Frame → List Bool
core_text c f = parts_text (drop (preroll_parts c) (leading_exts c)) (drop (preroll_parts c) f.leading) ++ f.rest

-- The unit of a frame: the flag, and the bits behind the preroll element, without the zeros at their end.
abbrev pub unit_of : UsacConfig → Frame → UnitValue
unit_of c f = record { independent = f.independent; bits = trimmed (core_text c f) }

abbrev pub part_bytes : ExtPart → ℕ
part_bytes Absent = 0
part_bytes (Present form start stop payload) = length payload

-- the number of bytes of the preroll
abbrev pub payload_length : UsacConfig → Frame → ℕ
payload_length c f = if declares_preroll c then option_map_or part_bytes (slice_get f.leading 0) 0 else 0

abbrev pub payload_of : ExtPart → List ℕ
payload_of Absent = []
payload_of (Present form start stop payload) = payload

abbrev pub is_whole_part : ExtPart → Bool
is_whole_part Absent = false
is_whole_part (Present form start stop payload) = start && stop

-- the payload of part 0, and whether it both begins and ends in the frame (usacExtElementStart, usacExtElementStop)
abbrev pub first_payload : Frame → List ℕ
first_payload f = option_map_or payload_of (slice_get f.leading 0) []

abbrev pub is_whole : Frame → Bool
is_whole f = option_map_or is_whole_part (slice_get f.leading 0) false

-- A frame is immediate, an immediate play-out frame, where its preroll has bytes and is whole.
abbrev pub is_immediate : UsacConfig → Frame → Bool
is_immediate c f = nat_lt 0 (payload_length c f) && is_whole f
