-- What the command of a case does.
use Rattle.std.specs.Prelude.{[]}
use Rattle.core_iface.specs.Decoding.{Definitions}
use Rattle.commands.specs.Calling.{Effect}
use Rattle.commands.specs.OnInput.{on_file}
use Rattle.commands.specs.Wholes.{on_whole}
use Rattle.playing.specs.Playing.{playing}
use Rattle.playing.specs.Starting.{starting}
use Rattle.xheaac_tool.specs.Showing.{showing}
use Rattle.xheaac_tool.specs.Checking.{checking}
use Rattle.joining.specs.Planning.{plans_files}
use Rattle.joining.specs.Splicing.{splices_files}
use Rattle.switching.specs.Switching.{switches_files}
use Rattle.editing.specs.Inserting.{inserting}
use Rattle.editing.specs.Stripping.{stripping}
use Rattle.xheaac_tool.specs.Words.{Case, Show, Check, Play, Start, Plan, Splice, Switch, Insert, Strip, positions_of}

abbrev pub effect_of : Definitions → Case → Effect
effect_of d (Show file) = on_file showing
effect_of d (Check file) = on_file checking
effect_of d (Play file) = on_file (playing d [])
effect_of d (Start file frame) = on_file (starting d frame)
effect_of d (Plan pieces) = plans_files d (positions_of pieces)
effect_of d (Splice pieces) = splices_files d (positions_of pieces)
effect_of d (Switch pieces) = switches_files d (positions_of pieces)
effect_of d (Insert file count fade targets) = on_whole (inserting count fade targets)
effect_of d (Strip file tail targets) = on_whole (stripping tail targets)
