use Rattle.std.proofs.Common.{◌≡◌, ℕ, List, Ok, sym, ◌∙◌}
use Rattle.layout.specs.Text.{bits_of}
use Rattle.layout.specs.Reader.{Reader, left}
use Rattle.usac_cfg.specs.declared.usac_config.UsacConfig.{UsacConfig}
use Rattle.usac_frame.specs.declared.head.FrameHead.{FrameHead}
use Rattle.usac_frame.specs.Head.{ReadsHeadAt}
use Rattle.xheaac_tool.specs.Reading.{ReadsUnitHead}
use Rattle.xheaac_tool.proofs.unit_frame.read_unit_head.Goals as goal

head_there : (number : ℕ) (c : UsacConfig) (au : List ℕ) (r : Reader) (h : FrameHead) → left r ≡ bits_of au → ReadsHeadAt c r (Ok h) → ReadsUnitHead number c au (Ok h)
head_there number c au r h same read = (read.0, record { fits = read.1; spelled = sym same ∙ read.2 })

pub returns-in-Ok-clause-reads : goal.returns-in-Ok-clause-reads
returns-in-Ok-clause-reads c = head_there c.args.event.now.frame c.args.config.now c.args.event.now.au c.reader-reader.result c.in-Ok.head c.reader-reader.ensures c.in-Ok.ensures
