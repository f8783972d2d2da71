-- What `check` refuses of a stream, and what it writes at its end.
use Rattle.std.specs.Prelude.{◌≡◌, ℕ, ◌+◌, Bool, true, false, List, [], ◌∷◌, length, Some, None}
use Rattle.std.specs.Option.{option_map_or}
use Rattle.layout.specs.Text.{digit}
use Rattle.usac_frame.specs.declared.frame.Frame.{Frame as UsacFrame}
use Rattle.usac_frame.specs.AccessUnit.{IsFrame, frame_of}
use Rattle.usac_frame.specs.Units.{is_immediate}
use Rattle.preroll.specs.declared.fault.CarryFault.{CarryFault}
use Rattle.preroll.specs.Carried.{IsFirst}
use Rattle.tool_text.specs.declared.refusal.Refusal.{Refusal}
use Rattle.tool_text.specs.Faults.{refusal_of_carry}
use Rattle.tool_text.specs.CheckText.{check_line}
use Rattle.au_stream.specs.Frames.{Frame, config_of}
use Rattle.au_stream.specs.Segments.{Segment, AreSegments}
use Rattle.commands.specs.Commands.{Command, opens_silently, RefusesNoEnd, feeds_none}
use Rattle.xheaac_tool.specs.Reading.{IsTooShort}

-- Why `check` refuses a frame: it is too short; or it is immediate, and its preroll breaks a rule, of which this is the first.
pub data CheckRefuses (before : List Frame) (f : Frame) (r : Refusal) : Type 0 where
  TooShort : IsTooShort before f r → CheckRefuses before f r
  Uncarried : (g : UsacFrame) → IsFrame (config_of f) f.au g → is_immediate (config_of f) g ≡ true → (e : CarryFault) → IsFirst (config_of f) g e → refusal_of_carry (length before) e ≡ Some r → CheckRefuses before f r

-- how many of them are so
abbrev pub how_many : {A : Type 0} → (A → Bool) → List A → ℕ
how_many p [] = 0
how_many p (x ∷ xs) = digit (p x) + how_many p xs

abbrev pub flag_of : UsacFrame → Bool
flag_of g = g.independent

-- usacIndependencyFlag is 1
abbrev pub is_independent : Frame → Bool
is_independent f = option_map_or flag_of (frame_of (config_of f) f.au) false

-- the frame is an immediate play-out frame
abbrev pub is_play_out : Frame → Bool
is_play_out f = option_map_or (is_immediate (config_of f)) (frame_of (config_of f) f.au) false

-- The line at the end: how many frames, segments, independent frames and immediate frames there are.
pub record ClosesCounted (frames : List Frame) (text : List ℕ) : Type 0 where
  pub segments : List Segment
  pub are : AreSegments frames segments
  pub line : text ≡ check_line (length frames) (length segments) (how_many is_independent frames) (how_many is_play_out frames)

-- `check` writes that line alone, and feeds no frame.
abbrev pub checking : Command
checking = record { within = None; opening = opens_silently; Refuses = CheckRefuses; output = λ frames. []; RefusesEnd = RefusesNoEnd; Closes = ClosesCounted; plays = false; units = feeds_none; Serves = λ before f. Unit {0} }
