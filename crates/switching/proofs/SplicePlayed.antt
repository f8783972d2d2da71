-- `play` of the file that `splice` makes writes what `switch` writes.
use Rattle.std.proofs.Common.{sym, ◌∙◌}
use Rattle.core_iface.specs.Decoding.{Definitions}
use Rattle.playing.specs.Spliced.{TakesFilesOfSplices}
use Rattle.joining.specs.SpliceAnswers.{NoStopIsASplice}
use Rattle.joining.specs.SpliceEvents.{splice_bytes}
use Rattle.joining.proofs.NoStop.{first_none}
use Rattle.switching.specs.PlayedPlan.{PlaysBeforeEvents, PlaysTheSplice}
use Rattle.switching.proofs.Fine.{scripts_fine}

pub plays_the_splice : (d : Definitions) → NoStopIsASplice → TakesFilesOfSplices d → PlaysBeforeEvents d → PlaysTheSplice d
plays_the_splice d splices takes plays positions texts ss are long some none few =
    let spliced = splices d.warm positions texts ss are long some none few in
    let plan = spliced.0 in
    let played = (takes.file (splice_bytes d.warm positions ss)).splice plan.parts plan.sound spliced.1 in
    (first_none d.warm positions ss none, (played.0, played.1, played.2 ∙ sym (plays.whole positions ss (scripts_fine texts ss are) plan)))
