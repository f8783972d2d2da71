use Rattle.std.proofs.Common.{[], refl}
use Rattle.au_stream.proofs.SegmentLists.{none_split}
use Rattle.xheaac_tool.proofs.check_task.Check.new.Goals as goal

pub returns : goal.returns
returns c = record { frames = refl; segments = []; split = none_split; configurations = refl; independent = refl; immediate = refl }
