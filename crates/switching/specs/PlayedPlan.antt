-- What `switch` writes is the cut of a plan.
use Rattle.std.specs.Prelude.{◌<◌, ◌≤◌, length, None, ◌≡◌, ℕ, List, [], ◌∷◌, ◌++◌, map, All}
use Rattle.std.specs.List.Sorted.{IsStrictlyIncreasing}
use Rattle.usac_cfg.specs.UsacConfig.{IsWellFormed}
use Rattle.plans.specs.Coded.{Coded}
use Rattle.plans.specs.Parts.{Part, spliced}
use Rattle.plans.specs.SoundPlan.{IsSoundPlan}
use Rattle.splicer.specs.Pieces.{AreTimedBy}
use Rattle.splicer.specs.SoFar.{plan_so_far}
use Rattle.core_iface.specs.Decoding.{Definitions}
use Rattle.au_stream.specs.Frames.{Frame}
use Rattle.au_stream.specs.Script.{End, most_bytes}
use Rattle.commands.specs.Commands.{TakesAll, TakesEnd}
use Rattle.commands.specs.Ending.{Passes}
use Rattle.playing.specs.Playing.{playing, output}
use Rattle.playing.specs.Spliced.{coded, plan_bytes}
use Rattle.joining.specs.Renditions.{asked_at}
use Rattle.joining.specs.Answers.{ArePlanned as FilesArePlanned}
use Rattle.joining.specs.Events.{FileScript, coded_of, first_event, AreScripts}
use Rattle.joining.specs.SpliceEvents.{first_stop, splice_bytes}
use Rattle.switching.specs.CutShort.{all_given, plan_cut_short}
use Rattle.switching.specs.Switching.{SwitchAt, given_so_far, switching, begins_at, next_at}
use Rattle.switching.specs.Standing.{ArePlanned}

-- ---- at any frame

-- The plan is sound, the frames are its splice, and their samples are those of the plan.
pub record ArePlayedBy (d : Definitions) (frames : List Frame) (plan : List Part) : Type 0 where
  pub sound : IsSoundPlan d.warm plan
  pub splice : map coded frames ≡ spliced plan
  pub bytes : output d frames ≡ plan_bytes d plan

-- Whatever the renditions are, and however they go on: what was given out of them so far is played by a sound plan.
abbrev pub PlaysSoFar : Definitions → Type 0
PlaysSoFar d = (at : SwitchAt) (frames : List Frame) (h : ArePlanned d.warm at frames) → ArePlayedBy d (given_so_far at frames) (plan_so_far h.parts (asked_at at.piece) (map coded frames))

-- ---- files to their ends

-- the command takes each frame of files with these frames, one file after another, and takes them as all frames of the file
abbrev pub TakesFiles : Definitions → SwitchAt → List (List Frame) → Type 0
TakesFiles d at [] = Unit {0}
TakesFiles d at (frames ∷ files) = TakesAll (switching d at) [] frames × TakesEnd (switching d at) frames × TakesFiles d (next_at at frames) files

-- what it writes for them
abbrev pub written_for : Definitions → SwitchAt → List (List Frame) → List ℕ
written_for d at [] = []
written_for d at (frames ∷ files) = (switching d at).output frames ++ written_for d (next_at at frames) files

-- the streams of files with these frames
abbrev pub streams_of : List (List Frame) → List (List Coded)
streams_of files = map (λ frames. map coded frames) files

-- They are taken, and what is written for all of them is the plan: each frame of its parts once, in order, with the samples of its own
-- stream decoded alone, and with the fades of its joins.
pub record PlaysPlan (d : Definitions) (positions : List ℕ) (files : List (List Frame)) (plan : List Part) : Type 0 where
  pub takes : TakesFiles d (begins_at positions) files
  pub written : written_for d (begins_at positions) files ≡ plan_bytes d plan

-- So it is with all files whose frames are the streams of a sound plan that is timed by the positions.
abbrev pub PlaysSoundPlans : Definitions → Type 0
PlaysSoundPlans d = (positions : List ℕ) (files : List (List Frame)) (plan : List Part) → IsStrictlyIncreasing positions → IsSoundPlan d.warm plan → AreTimedBy positions plan
    → map (λ p. p.stream) plan ≡ streams_of files → All (λ p. All (λ f. IsWellFormed f.config) p.stream) plan → PlaysPlan d positions files plan

-- ---- files with an event

-- the frames of files have well formed configurations
abbrev pub AreFine : List FileScript → Type 0
AreFine scripts = All (λ s. All (λ f. IsWellFormed f.config) (coded_of s)) scripts

-- What is given of any files before their first event is the splice of a sound plan, the plan cut short by the event, and has the samples
-- of this plan. Where the files are the streams of a sound plan that is timed by the positions, these are the samples of all of it.
pub record PlaysBeforeEvents (d : Definitions) : Type 0 where
  pub cut : (positions : List ℕ) (scripts : List FileScript) → AreFine scripts → ArePlayedBy d (all_given d.warm positions scripts) (plan_cut_short d.warm positions scripts)
  pub whole : (positions : List ℕ) (scripts : List FileScript) → AreFine scripts → (plan : FilesArePlanned d.warm positions scripts) → plan_bytes d (plan_cut_short d.warm positions scripts) ≡ plan_bytes d plan.parts

-- ---- the file that `splice` writes

-- Where `splice` has no stop, and writes no more bytes than a file may have: these bytes are a file that `play` takes to its end, and its
-- output is what `switch` writes of the files, which have no event.
abbrev pub PlaysTheSplice : Definitions → Type 0
PlaysTheSplice d = (positions : List ℕ) (texts : List (List ℕ)) (scripts : List FileScript) → AreScripts texts scripts → length positions ≡ length texts → 0 < length positions
    → first_stop d.warm positions scripts ≡ None → length (splice_bytes d.warm positions scripts) ≤ most_bytes
    → (first_event d.warm positions scripts ≡ None) × ((frames : List Frame) × Passes (playing d []) (splice_bytes d.warm positions scripts) frames End × (output d frames ≡ plan_bytes d (plan_cut_short d.warm positions scripts)))
