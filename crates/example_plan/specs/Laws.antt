-- What is true of the example.
use Rattle.std.specs.Prelude.{◌≡◌, ℕ, ◌≤◌, List, [], ◌∷◌}
use Rattle.usac_cfg.specs.declared.usac_config.UsacConfig.{UsacConfig}
use Rattle.plans.specs.Coded.{CarriesUnits}
use Rattle.plans.specs.SoundPlan.{IsSoundPlan}
use Rattle.core_iface.specs.Decoding.{Definitions}
use Rattle.core_iface.specs.Folding.{fold_core, ramp}
use Rattle.switch_player.specs.Blending.{blended}
use Rattle.switch_player.specs.Cuts.{cut_plan}
use Rattle.au_stream.specs.Frames.{Frame}
use Rattle.au_stream.specs.Script.{End}
use Rattle.commands.specs.Ending.{Passes}
use Rattle.playing.specs.Playing.{playing, output}
use Rattle.playing.specs.Spliced.{CarriesSplice, plan_bytes}
use Rattle.example_plan.specs.Example.{new_config, joining_frame, joining, example}
use Rattle.example_plan.specs.File.{example_file}

-- It is a sound plan for each decoder whose warm-up at the new configuration is one unit at most, FoldCore among them; its join carries
-- one unit, and fades; and the file carries its splice.
pub record IsSoundExample : Type 0 where
  pub sound : (warm : UsacConfig → ℕ) → warm new_config ≤ 1 → IsSoundPlan warm example
  pub fold : IsSoundPlan fold_core.warm example
  pub fades : CarriesUnits joining_frame joining
  pub file : CarriesSplice example_file example

-- Where that warm-up is one unit at most, `play` takes all frames of the file, and its output is that of the plan.
abbrev pub PlaysExample : Definitions → Type 0
PlaysExample d = d.warm new_config ≤ 1 → (frames : List Frame) × Passes (playing d []) example_file frames End × (output d frames ≡ plan_bytes d example)

-- What FoldCore gives for the plan: a ramp for each frame, from its first sample on, 1024 of them. Into that of the fifth frame, which
-- begins at 15, the ramp fades that the old stream would have given next, from 8 on.
abbrev pub IsCutIntoRamps : Type 0
IsCutIntoRamps = cut_plan fold_core example ≡ ramp 1 1 1024 ∷ ramp 7 1 1024 ∷ ramp 28 1 1024 ∷ ramp 40 1 1024 ∷ blended 1 (ramp 8 1 128) (ramp 15 1 1024) ∷ ramp 20 1 1024 ∷ ramp 74 1 1024 ∷ ramp 239 1 1024 ∷ []
