use Rattle.std.proofs.Common.{◌≡◌, ◌≤◌, drop}
use Rattle.layout.proofs.Counted.{with_front}
use Rattle.layout.specs.Each.{each_read}
use Rattle.usac_frame.specs.Part.{part}
use Rattle.usac_frame.specs.Frame.{leading}
use Rattle.usac_frame.proofs.reading.read_parts.Given as goal

abbrev pub invariant-loop-element : goal.invariant-loop-element
invariant-loop-element l = record {
  so_far : with_front l.parts (each_read part (leading (drop l.element-index l.elements)) l.reader) ≡ each_read part (leading l.elements) l.fn.reader;
  same_text : l.reader.text ≡ l.fn.reader.text;
  onwards : l.fn.reader.at ≤ l.reader.at;
}
