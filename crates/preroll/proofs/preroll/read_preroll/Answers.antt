use Rattle.std.proofs.Common.{subst}
use Rattle.layout.specs.Text.{bits_of}
use Rattle.layout.specs.Reading.{GivesUnless}
use Rattle.layout.proofs.Whole.{reads_text}
use Rattle.preroll.specs.Faults.{is_memory}
use Rattle.preroll.specs.PreRoll.{preroll}
use Rattle.preroll.specs.PreRollExact.{preroll_exact}
use Rattle.preroll.proofs.preroll.read_preroll.Goals as goal

pub returns : goal.returns
returns c =
    reads_text is_memory preroll preroll_exact (bits_of c.args.payload.now) c.read_fields.new.reader c.read_fields.result
    (subst (λ r. GivesUnless is_memory preroll r c.read_fields.new.reader c.read_fields.result) c.new-reader.ensures c.read_fields.ensures)
