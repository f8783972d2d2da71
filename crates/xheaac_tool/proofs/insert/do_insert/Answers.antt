use Rattle.std.proofs.Common.{[], ◌∷◌, refl}
use Rattle.commands.specs.declared.outcome.Outcome.TheVariants as is
use Rattle.commands.specs.Wholes.{on_whole}
use Rattle.editing.specs.Inserting.{inserting}
use Rattle.joining.proofs.Calls.{idle_called}
use Rattle.xheaac_tool.proofs.insert.do_insert.Goals as goal

pub returns-in-Err : goal.returns-in-Err
returns-in-Err g c = λ file count fade targets asked.
    idle_called (on_whole (inserting count fade targets)) (file ∷ []) _ (is.Memory c.in-Err.error) tt (λ texts. (tt, record { written = refl; fed = refl }))
