-- What `show` writes for the frames of a stream.
use Rattle.std.specs.Prelude.{ℕ, ◌+◌, Bool, true, false, List, [], ◌∷◌, ◌++◌, length, Option, Some, None, if◌then◌else◌}
use Rattle.std.specs.List.{flat_map}
use Rattle.latm.specs.declared.mux_config.MuxConfig.{MuxConfig}
use Rattle.usac_frame.specs.declared.frame.Frame.{Frame as UsacFrame}
use Rattle.usac_cfg.specs.declared.usac_config.UsacConfig.{UsacConfig}
use Rattle.usac_frame.specs.AccessUnit.{frame_of}
use Rattle.usac_frame.specs.Units.{first_payload, is_immediate}
use Rattle.preroll.specs.declared.fault.PreFault.{PreFault}
use Rattle.preroll.specs.declared.fault.PreFault.TheVariants as faults
use Rattle.preroll.specs.declared.preroll.PreRoll.{PreRoll}
use Rattle.preroll.specs.Payload.{preroll_of, fault_of}
use Rattle.tool_text.specs.MuxText.{lines_of_mux}
use Rattle.tool_text.specs.FrameText.{frame_line}
use Rattle.tool_text.specs.PreRollText.{bad_line, lines_of_preroll}
use Rattle.au_stream.specs.Frames.{Frame, config_of}
use Rattle.commands.specs.Commands.{Command, RefusesNoEnd, ClosesSilently, feeds_none}
use Rattle.xheaac_tool.specs.Reading.{IsTooShort}

-- lines one after another
abbrev pub joined : List (List ℕ) → List ℕ
joined lines = flat_map (λ line. line) lines

-- the lines of a StreamMuxConfig, at the frame that opens with it
abbrev pub mux_where : Bool → MuxConfig → List ℕ
mux_where true m = joined (lines_of_mux m)
mux_where false m = []

-- the lines of a preroll, or that of a payload that is none
abbrev pub lines_where : Option PreRoll → Option PreFault → List (List ℕ)
lines_where (Some p) fault = lines_of_preroll p
lines_where None None = []
lines_where None (Some (faults.Short at)) = bad_line at ∷ []
lines_where None (Some (faults.Memory e)) = []

abbrev pub payload_lines : List ℕ → List (List ℕ)
payload_lines payload = lines_where (preroll_of payload) (fault_of payload)

-- the lines of the preroll of a frame, where it is immediate
abbrev pub preroll_where : UsacConfig → UsacFrame → List ℕ
preroll_where c g = if is_immediate c g then joined (payload_lines (first_payload g)) else []

-- the line of a frame with that number and so many bytes, and the lines of its preroll
abbrev pub frame_text : UsacConfig → ℕ → ℕ → UsacFrame → List ℕ
frame_text c number bytes g = frame_line number bytes g ++ preroll_where c g

abbrev pub text_where : UsacConfig → ℕ → ℕ → Option UsacFrame → List ℕ
text_where c number bytes None = []
text_where c number bytes (Some g) = frame_text c number bytes g

-- all lines of the frame with that number
abbrev pub shown_of : ℕ → Frame → List ℕ
shown_of number f = mux_where f.opens f.mux ++ text_where (config_of f) number (length f.au) (frame_of (config_of f) f.au)

-- the lines of frames, the first of which has that number
abbrev pub shown_from : ℕ → List Frame → List ℕ
shown_from number [] = []
shown_from number (f ∷ fs) = shown_of number f ++ shown_from (number + 1) fs

-- the lines of the StreamMuxConfig that a frame opens with
abbrev pub opening_of : List Frame → Frame → List ℕ
opening_of before f = mux_where f.opens f.mux

-- `show` writes them before it judges the frame, refuses a frame that is too short, and feeds none.
abbrev pub showing : Command
showing = record { within = None; opening = opening_of; Refuses = IsTooShort; output = shown_from 0; RefusesEnd = RefusesNoEnd; Closes = ClosesSilently; plays = false; units = feeds_none; Serves = λ before f. Unit {0} }
