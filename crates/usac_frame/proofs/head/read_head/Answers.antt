use Rattle.std.proofs.Common.{List, ℕ, Result, Ok, Err, subst}
use Rattle.layout.specs.Text.{bits_of}
use Rattle.usac_cfg.specs.declared.usac_config.UsacConfig.{UsacConfig}
use Rattle.usac_frame.specs.declared.fault.FrameFault.{FrameFault}
use Rattle.usac_frame.specs.declared.head.FrameHead.{FrameHead}
use Rattle.usac_frame.specs.Head.{ReadsHead, ReadsHeadAt}
use Rattle.usac_frame.proofs.head.read_head.Goals as goal

from_first_bit : (c : UsacConfig) (au : List ℕ) (q : Result FrameHead FrameFault) → ReadsHeadAt c (record { text = bits_of au; at = 0 }) q → ReadsHead c au q
from_first_bit c au (Ok h) read = (read.0, record { fits = read.1; spelled = read.2 })
from_first_bit c au (Err f) read = read

pub returns : goal.returns
returns c =
    from_first_bit c.args.config.now c.args.au.now c.read_head_at.result
    (subst (λ r. ReadsHeadAt c.args.config.now r c.read_head_at.result) c.new-reader.ensures c.read_head_at.ensures)
