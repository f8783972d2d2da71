use Rattle.std.proofs.Common.{◌≡◌, ◌-◌, ◌≤◌}
use Rattle.layout.specs.Times.{times_read}
use Rattle.layout.proofs.Counted.{with_front}
use Rattle.preroll.specs.PreRoll.{counted_bytes}
use Rattle.preroll.proofs.reading.read_each_unit_bytes.Given as goal

abbrev pub invariant-loop : goal.invariant-loop
invariant-loop l = record {
  so_far : with_front l.units (times_read (counted_bytes 16 16 0) (l.count - l.counter) l.reader) ≡ times_read (counted_bytes 16 16 0) l.count l.fn.reader;
  same_text : l.reader.text ≡ l.fn.reader.text;
  onwards : l.fn.reader.at ≤ l.reader.at;
}
