use Rattle.std.proofs.Common.{subst}
use Rattle.std.specs.Option.{option_copied}
use Rattle.layout.specs.Text.{bits_of}
use Rattle.layout.specs.Reading.{GivesUnless}
use Rattle.layout.proofs.Whole.{reads_text}
use Rattle.latm.specs.Faults.{is_memory}
use Rattle.latm.specs.MuxElement.{element}
use Rattle.latm.specs.MuxElementExact.{element_exact}
use Rattle.latm.proofs.mux_element.read_element.Goals as goal

pub returns : goal.returns
returns c =
    let L = element (option_copied c.args.in_force) in
    reads_text is_memory L (element_exact (option_copied c.args.in_force)) (bits_of c.args.bytes.now) c.read_fields.new.reader c.read_fields.result
    (subst (λ r. GivesUnless is_memory L r c.read_fields.new.reader c.read_fields.result) c.new-reader.ensures c.read_fields.ensures)
