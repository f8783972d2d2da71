use Rattle.std.proofs.Common.{◌≡◌, ℕ, ◌*◌, ◌≤◌, List, false}
use Rattle.au_stream.specs.Frames.{Frame}
use Rattle.au_stream.specs.Script.{most_bytes}
use Rattle.au_stream.specs.Reading.{HasRead}
use Rattle.au_stream.specs.Giving.{weight}
use Rattle.core_iface.specs.Folding.{fold_core}
use Rattle.switch_player.specs.Feeding.{IsInStep}
use Rattle.xheaac_rows.proofs.program.play_source.Given as goal

-- what the reader has given, and what the player wants of its next call
abbrev pub invariant-loop-samples : goal.invariant-loop-samples
invariant-loop-samples g l = record {
  read : (got : List ℕ) × (given : List Frame) × HasRead got given l.reader;
  few : l.reader.count ≤ most_bytes;
  fed : l.core.fed ≤ 19 * l.reader.count;
  in_step : l.player.stopped ≡ false → IsInStep fold_core l.player.last l.core.ready;
}

abbrev pub decreases-loop-samples : goal.decreases-loop-samples
decreases-loop-samples g l = weight l.reader
