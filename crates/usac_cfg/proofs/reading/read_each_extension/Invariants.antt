use Rattle.std.proofs.Common.{◌≡◌, ◌-◌, ◌≤◌}
use Rattle.layout.specs.Times.{times_read}
use Rattle.layout.proofs.Counted.{with_front}
use Rattle.usac_cfg.specs.ConfigExtension.{config_extension}
use Rattle.usac_cfg.proofs.reading.read_each_extension.Given as goal

abbrev pub invariant-loop : goal.invariant-loop
invariant-loop l = record {
  so_far : with_front l.extensions (times_read config_extension (l.count - l.counter) l.reader) ≡ times_read config_extension l.count l.fn.reader;
  same_text : l.reader.text ≡ l.fn.reader.text;
  onwards : l.fn.reader.at ≤ l.reader.at;
}
