use Rattle.layout.proofs.Layouts.{prefix_free}
use Rattle.esc_value.specs.SlotLength.{slot}
use Rattle.esc_value.proofs.SlotExact.{slot_exact}
use Rattle.esc_value.proofs.laws.slot_length_has_one_spelling.Goals as goal

pub returns : goal.returns
returns c = prefix_free slot slot_exact
