use Rattle.std.proofs.Common.{List, [], ℕ, Bor, arith}
use Rattle.ipf_frame.proofs.Payloads.{frame_at, slot_at}
use Rattle.ipf_frame.proofs.payload.clean_each.Goals as goal

pub clean-requires-clause-size : goal.clean-requires-clause-size
clean-requires-clause-size c =
    let few = slot_at (λ (au : Bor (List ℕ)). au.now) c.args.aus.now c.loop-au.au-index (record { ref_ptr = (0, 0); now = [] }) c.loop-au-test.true c.requires.slots in
    omega (arith, few)

pub clean-requires-clause-is : goal.clean-requires-clause-is
clean-requires-clause-is c = frame_at c.args.config.now (λ (au : Bor (List ℕ)). au.now) c.args.aus.now c.loop-au.au-index (record { ref_ptr = (0, 0); now = [] }) c.loop-au-test.true c.requires.frames
