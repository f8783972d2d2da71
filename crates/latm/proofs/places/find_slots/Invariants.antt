use Rattle.std.proofs.Common.{◌≡◌, ◌-◌, ◌≤◌, length}
use Rattle.layout.specs.Times.{times_read}
use Rattle.layout.proofs.Counted.{with_front}
use Rattle.latm.specs.MuxElement.{slot_of_bytes}
use Rattle.latm.specs.Places.{slots_at, AreWithin}
use Rattle.latm.proofs.places.find_slots.Given as goal

abbrev pub invariant-loop : goal.invariant-loop
invariant-loop l = record {
  so_far : with_front (slots_at l.fn.reader.text l.places) (times_read slot_of_bytes (l.count - l.counter) l.reader) ≡ times_read slot_of_bytes l.count l.fn.reader;
  same_text : l.reader.text ≡ l.fn.reader.text;
  onwards : l.fn.reader.at ≤ l.reader.at;
  within : AreWithin (length l.fn.reader.text) l.places;
}
