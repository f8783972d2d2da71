use Rattle.std.proofs.Common.{◌≡◌, ◌++◌, drop}
use Rattle.usac_frame.specs.Frame.{leading, FitParts, parts_text}
use Rattle.usac_frame.proofs.writing.write_parts.Given as goal

abbrev pub invariant-loop-i : goal.invariant-loop-i
invariant-loop-i l = record {
  fit : FitParts (leading (drop l.i l.elements)) (drop l.i l.parts);
  so_far : l.writer ++ parts_text (leading (drop l.i l.elements)) (drop l.i l.parts) ≡ l.fn.writer ++ parts_text (leading l.elements) l.parts;
}
