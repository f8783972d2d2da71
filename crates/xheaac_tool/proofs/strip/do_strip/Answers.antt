use Rattle.std.proofs.Common.{[], ◌∷◌, refl}
use Rattle.commands.specs.declared.outcome.Outcome.TheVariants as is
use Rattle.commands.specs.Wholes.{on_whole}
use Rattle.editing.specs.Stripping.{stripping}
use Rattle.joining.proofs.Calls.{idle_called}
use Rattle.xheaac_tool.proofs.strip.do_strip.Goals as goal

pub returns-in-Err : goal.returns-in-Err
returns-in-Err g c = λ file tail targets asked.
    idle_called (on_whole (stripping tail targets)) (file ∷ []) _ (is.Memory c.in-Err.error) tt (λ texts. (tt, record { written = refl; fed = refl }))
