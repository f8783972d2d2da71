use Rattle.std.proofs.Common.{◌≡◌, ◌-◌, ◌≤◌}
use Rattle.layout.specs.Times.{times_read}
use Rattle.layout.proofs.Counted.{with_front}
use Rattle.bit_core.specs.Plain.{number}
use Rattle.usac_cfg.specs.Faults.{from_short}
use Rattle.usac_cfg.proofs.reading.read_each_position.Given as goal

abbrev pub invariant-loop : goal.invariant-loop
invariant-loop l = record {
  so_far : with_front l.positions (times_read (number from_short 5) (l.count - l.counter) l.reader) ≡ times_read (number from_short 5) l.count l.fn.reader;
  same_text : l.reader.text ≡ l.fn.reader.text;
  onwards : l.fn.reader.at ≤ l.reader.at;
}
