-- What is given of renditions before their first event, and the plan that it is, by the scripts of the files.
use Rattle.std.specs.Prelude.{ℕ, ◌+◌, List, [], ◌∷◌, ◌++◌, map, Option, None}
use Rattle.usac_cfg.specs.declared.usac_config.UsacConfig.{UsacConfig}
use Rattle.timeline.specs.Order.{order_result}
use Rattle.timeline.specs.Plan.{first_position}
use Rattle.plans.specs.Parts.{Part}
use Rattle.plans.specs.WholeStream.{stream_config}
use Rattle.splicer.specs.declared.asked.Asked.{Asked}
use Rattle.splicer.specs.Pieces.{asked}
use Rattle.splicer.specs.Runs.{RunValue, new_run, fault, behind}
use Rattle.splicer.specs.SoFar.{part_given}
use Rattle.au_stream.specs.Frames.{Frame, config_of}
use Rattle.playing.specs.Spliced.{coded}
use Rattle.joining.specs.Events.{FileScript, order_event, coded_of, file_event}
use Rattle.joining.specs.SpliceEvents.{unless}
use Rattle.switching.specs.Switching.{given}

-- ---- in one file

-- the frames before the first one that breaks a rule
abbrev pub unbroken : (UsacConfig → ℕ) → RunValue → List Frame → List Frame
unbroken warm v [] = []
unbroken warm v (f ∷ fs) = unless (fault v (warm (config_of f)) (coded f)) (f ∷ unbroken warm (behind v (coded f)) fs)

-- those of a file
abbrev pub file_unbroken : (UsacConfig → ℕ) → Asked → FileScript → List Frame
file_unbroken warm a s = unbroken warm (new_run a) s.frames

-- those of them that are of the piece
abbrev pub file_given : (UsacConfig → ℕ) → Asked → FileScript → List Frame
file_given warm a s = given (new_run a) (file_unbroken warm a s)

-- The part that they are: from the first frame of the piece up to the last one that was given, where its stream ends. None, where none was given.
abbrev pub file_part : (UsacConfig → ℕ) → Asked → FileScript → List Part
file_part warm a s = part_given a (map coded (file_unbroken warm a s))

-- ---- in all files

-- The frames that are given from piece k on before the first event, behind a rendition of that configuration, if there is one.
abbrev pub files_given : (UsacConfig → ℕ) → ℕ → Option UsacConfig → List ℕ → List FileScript → List Frame
files_given warm k before [] ss = []
files_given warm k before (at ∷ ats) [] = []
files_given warm k before (at ∷ ats) (s ∷ ss) =
    let a = asked k at (first_position ats) before in
    file_given warm a s ++ unless (file_event warm a s) (files_given warm (k + 1) (stream_config (coded_of s)) ats ss)

-- the parts that they are
abbrev pub files_parts : (UsacConfig → ℕ) → ℕ → Option UsacConfig → List ℕ → List FileScript → List Part
files_parts warm k before [] ss = []
files_parts warm k before (at ∷ ats) [] = []
files_parts warm k before (at ∷ ats) (s ∷ ss) =
    let a = asked k at (first_position ats) before in
    file_part warm a s ++ unless (file_event warm a s) (files_parts warm (k + 1) (stream_config (coded_of s)) ats ss)

-- The frames that are given before the first event.
abbrev pub all_given : (UsacConfig → ℕ) → List ℕ → List FileScript → List Frame
all_given warm positions scripts = unless (order_event (order_result positions)) (files_given warm 0 None positions scripts)

-- The plan cut short by the first event: the pieces of which a frame was given before it, each stream up to its last frame that was given.
abbrev pub plan_cut_short : (UsacConfig → ℕ) → List ℕ → List FileScript → List Part
plan_cut_short warm positions scripts = unless (order_event (order_result positions)) (files_parts warm 0 None positions scripts)
