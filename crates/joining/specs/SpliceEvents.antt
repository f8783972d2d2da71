-- The first event of renditions for `splice`, in the order of the files and of their frames, and the bytes of the frames before it.
use Rattle.std.specs.Prelude.{ℕ, ◌+◌, List, [], ◌∷◌, ◌++◌, Option, Some, None}
use Rattle.usac_cfg.specs.declared.usac_config.UsacConfig.{UsacConfig}
use Rattle.timeline.specs.Order.{order_result}
use Rattle.timeline.specs.Plan.{first_position}
use Rattle.plans.specs.WholeStream.{stream_config}
use Rattle.splicer.specs.declared.asked.Asked.{Asked}
use Rattle.splicer.specs.Pieces.{asked}
use Rattle.splicer.specs.Runs.{RunValue, new_run, run_over, behind, end}
use Rattle.au_stream.specs.Canonical.{Handed, bytes_of_handed}
use Rattle.au_stream.specs.Frames.{Frame, config_of}
use Rattle.playing.specs.Spliced.{coded}
use Rattle.joining.specs.Events.{FileScript, Event, or_event, close_event, end_event, order_event, coded_of}
use Rattle.joining.specs.Splicing.{Halt, halt, handed_over}

-- What ends `splice` before all is done.
pub data Stop : Type 0 where
  -- a frame of piece k is refused
  AtFrame : (piece : ℕ) (halt : Halt) → Stop
  -- an event before all files, or behind the frames of one
  Behind : (event : Event) → Stop

-- one stop, and then the others
abbrev pub or_stop : Option Stop → Option Stop → Option Stop
or_stop None later = later
or_stop (Some s) later = Some s

abbrev pub frame_stop : ℕ → Option Halt → Option Stop
frame_stop k None = None
frame_stop k (Some h) = Some (AtFrame k h)

abbrev pub stop_behind : Option Event → Option Stop
stop_behind None = None
stop_behind (Some e) = Some (Behind e)

-- ---- in one file

abbrev pub or_halt : Option Halt → Option Halt → Option Halt
or_halt None later = later
or_halt (Some h) later = Some h

-- why the first frame is refused that is
abbrev pub halt_over : (UsacConfig → ℕ) → RunValue → List Frame → Option Halt
halt_over warm v [] = None
halt_over warm v (f ∷ fs) = or_halt (halt v (warm (config_of f)) f) (halt_over warm (behind v (coded f)) fs)

-- these, unless something is there
abbrev pub unless : {A B : Type 0} → Option A → List B → List B
unless None xs = xs
unless (Some a) xs = []

-- the frames before that one
abbrev pub frames_before : (UsacConfig → ℕ) → RunValue → List Frame → List Frame
frames_before warm v [] = []
frames_before warm v (f ∷ fs) = unless (halt v (warm (config_of f)) f) (f ∷ frames_before warm (behind v (coded f)) fs)

-- The first stop in a piece: the first frame that is refused; then that the file does not end behind its last frame; then that the
-- rendition lacks the piece.
abbrev pub file_stop : (UsacConfig → ℕ) → Asked → FileScript → Option Stop
file_stop warm a s =
    or_stop (frame_stop a.piece (halt_over warm (new_run a) s.frames))
    (stop_behind (or_event (close_event a.piece s.close) (end_event a.piece (end (run_over (new_run a) (coded_of s))))))

-- the access units of the frames of the piece before it
abbrev pub file_handed : (UsacConfig → ℕ) → Asked → FileScript → List Handed
file_handed warm a s = handed_over (new_run a) (frames_before warm (new_run a) s.frames)

-- ---- in all files

-- The first stop from piece k on, behind a rendition of that configuration, if there is one.
abbrev pub files_stop : (UsacConfig → ℕ) → ℕ → Option UsacConfig → List ℕ → List FileScript → Option Stop
files_stop warm k before [] ss = None
files_stop warm k before (at ∷ ats) [] = None
files_stop warm k before (at ∷ ats) (s ∷ ss) =
    or_stop (file_stop warm (asked k at (first_position ats) before) s) (files_stop warm (k + 1) (stream_config (coded_of s)) ats ss)

-- the access units of the frames of pieces before it
abbrev pub files_handed : (UsacConfig → ℕ) → ℕ → Option UsacConfig → List ℕ → List FileScript → List Handed
files_handed warm k before [] ss = []
files_handed warm k before (at ∷ ats) [] = []
files_handed warm k before (at ∷ ats) (s ∷ ss) =
    let a = asked k at (first_position ats) before in
    file_handed warm a s ++ unless (file_stop warm a s) (files_handed warm (k + 1) (stream_config (coded_of s)) ats ss)

-- The first stop of `splice`: positions that do not rise, and then the first of its pieces.
abbrev pub first_stop : (UsacConfig → ℕ) → List ℕ → List FileScript → Option Stop
first_stop warm positions scripts = or_stop (stop_behind (order_event (order_result positions))) (files_stop warm 0 None positions scripts)

-- the access units that `splice` hands on before it
abbrev pub all_handed : (UsacConfig → ℕ) → List ℕ → List FileScript → List Handed
all_handed warm positions scripts = unless (order_event (order_result positions)) (files_handed warm 0 None positions scripts)

-- what `splice` writes before it
abbrev pub splice_bytes : (UsacConfig → ℕ) → List ℕ → List FileScript → List ℕ
splice_bytes warm positions scripts = bytes_of_handed (all_handed warm positions scripts)
