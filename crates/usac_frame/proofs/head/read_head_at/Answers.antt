use Rattle.std.specs.Prelude.{length, Result, Ok, Err}
use Rattle.layout.specs.Reader.{Reader, left, moved}
use Rattle.usac_cfg.specs.declared.usac_config.UsacConfig.{UsacConfig}
use Rattle.usac_frame.specs.declared.fault.FrameFault.{FrameFault}
use Rattle.usac_frame.specs.declared.head.FrameHead.{FrameHead}
use Rattle.usac_frame.specs.FrameExact.{frame_exact}
use Rattle.usac_frame.specs.Head.{with_rest, GivesHead, ReadsHeadAt}
use Rattle.usac_frame.proofs.head.read_head_at.Goals as goal

head_read : (c : UsacConfig) (old new : Reader) (q : Result FrameHead FrameFault) → GivesHead c old new q → ReadsHeadAt c old q
head_read c old new (Ok h) gives =
    let took = (frame_exact c).takes old (moved new (length (left new))) (with_rest h (left new)) gives.0 in
    (left new, took.0, took.1)
head_read c old new (Err f) gives = λ free. (frame_exact c).blames old f (gives.0 free)

pub returns : goal.returns
returns c = head_read c.args.config.now c.args.reader.now c.read_head_fields.new.reader c.read_head_fields.result c.read_head_fields.ensures
