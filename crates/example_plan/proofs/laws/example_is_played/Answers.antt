use Rattle.example_plan.specs.Example.{example}
use Rattle.example_plan.specs.File.{example_file}
use Rattle.example_plan.proofs.Elements.{carries_splice}
use Rattle.example_plan.proofs.Sound.{sound}
use Rattle.example_plan.proofs.laws.example_is_played.Goals as goal

pub returns : goal.returns
returns g c = λ few. (c.play_takes_splices_alone.ensures.file example_file).splice example (sound g.C.Core.does.warm few) carries_splice
