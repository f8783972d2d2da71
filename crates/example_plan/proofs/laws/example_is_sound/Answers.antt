use Rattle.example_plan.proofs.Sound.{sound_example}
use Rattle.example_plan.proofs.laws.example_is_sound.Goals as goal

pub returns : goal.returns
returns c = sound_example
