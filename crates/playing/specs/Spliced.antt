-- Files that carry the splice of a plan, and what `play` has to write for a plan.
use Rattle.std.specs.Prelude.{◌≡◌, ℕ, List, [], map}
use Rattle.plans.specs.Coded.{Coded}
use Rattle.plans.specs.Parts.{Part, spliced}
use Rattle.plans.specs.OwnPlan.{own_plan}
use Rattle.plans.specs.SoundPlan.{IsSoundPlan}
use Rattle.core_iface.specs.Decoding.{Definitions, samples_of}
use Rattle.core_iface.specs.Samples.{sample_bytes}
use Rattle.switch_player.specs.Cuts.{cut_plan}
use Rattle.switch_player.specs.Splices.{IsOwnSplice}
use Rattle.switch_player.specs.Laws.{CutsEachFrame}
use Rattle.au_stream.specs.Frames.{Frame, config_of}
use Rattle.au_stream.specs.Script.{End, IsScript}
use Rattle.commands.specs.Ending.{Passes}
use Rattle.playing.specs.Playing.{playing, output}

-- a frame of a file, as one of a stream: its mux is left open
abbrev pub coded : Frame → Coded
coded f = record { config = config_of f; au = f.au }

-- The file ends behind its frames, and they are what the plan splices.
abbrev pub CarriesSplice : List ℕ → List Part → Type 0
CarriesSplice text plan = (frames : List Frame) × IsScript text frames End × (map coded frames ≡ spliced plan)

-- The file carries the splice of no sound plan.
abbrev pub CarriesNoSplice : Definitions → List ℕ → Type 0
CarriesNoSplice d text = (plan : List Part) → IsSoundPlan d.warm plan → CarriesSplice text plan → ⊥

-- The file ends behind its frames, their own plan is sound, and they are its splice.
abbrev pub CarriesOwn : Definitions → List ℕ → Type 0
CarriesOwn d text = (frames : List Frame) × IsScript text frames End × IsOwnSplice d (map coded frames)

-- the sample bytes of a plan: each frame of its parts once, in order, with the samples of its own stream decoded alone, and with
-- the fades of its joins
abbrev pub plan_bytes : Definitions → List Part → List ℕ
plan_bytes d plan = sample_bytes (samples_of (cut_plan d plan))

-- those of frames, by their own plan
abbrev pub own_bytes : Definitions → List Frame → List ℕ
own_bytes d frames = plan_bytes d (own_plan (map coded frames))

-- `play` takes a file, to its end, exactly where it carries the splice of a sound plan. Its output is then that of the plan.
pub record TakesSplices (d : Definitions) (text : List ℕ) : Type 0 where
  pub splice : (plan : List Part) → IsSoundPlan d.warm plan → CarriesSplice text plan → (frames : List Frame) × Passes (playing d []) text frames End × (output d frames ≡ plan_bytes d plan)
  pub own : (frames : List Frame) → Passes (playing d []) text frames End → IsOwnSplice d (map coded frames)

-- So it is with every file. The output for frames is always that of their own plan; and the cut of a sound plan has one block for
-- each frame that the plan splices.
pub record TakesFilesOfSplices (d : Definitions) : Type 0 where
  pub file : (text : List ℕ) → TakesSplices d text
  pub output_of : (frames : List Frame) → output d frames ≡ own_bytes d frames
  pub each : CutsEachFrame d
