use Rattle.std.proofs.Common.{subst}
use Rattle.layout.specs.Text.{bits_of}
use Rattle.layout.specs.Reading.{GivesUnless}
use Rattle.layout.proofs.Whole.{reads_text}
use Rattle.usac_frame.specs.Faults.{is_memory}
use Rattle.usac_frame.specs.Frame.{frame}
use Rattle.usac_frame.specs.FrameExact.{frame_exact}
use Rattle.usac_frame.proofs.frame.read_frame.Goals as goal

pub returns : goal.returns
returns c =
    reads_text is_memory (frame c.args.config.now) (frame_exact c.args.config.now) (bits_of c.args.au.now) c.read_fields.new.reader c.read_fields.result
    (subst (λ r. GivesUnless is_memory (frame c.args.config.now) r c.read_fields.new.reader c.read_fields.result) c.new-reader.ensures c.read_fields.ensures)
