use Rattle.layout.proofs.Layouts.{one_fault}
use Rattle.layout.proofs.ToEnd.{decided_by}
use Rattle.esc_value.specs.SlotLength.{slot}
use Rattle.esc_value.proofs.SlotExact.{slot_exact}
use Rattle.esc_value.proofs.laws.slot_lengths_are_decided.Goals as goal

pub returns-clause-decided : goal.returns-clause-decided
returns-clause-decided c = decided_by slot slot_exact

pub returns-clause-one_fault : goal.returns-clause-one_fault
returns-clause-one_fault c = one_fault slot slot_exact
