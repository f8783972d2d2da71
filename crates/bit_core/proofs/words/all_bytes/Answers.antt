use Rattle.bit_core.proofs.ByteLemmas.{no_bytes, next_bytes}
use Rattle.bit_core.proofs.words.all_bytes.Goals as goal

pub loop-word-init : goal.loop-word-init
loop-word-init c = no_bytes _ c.in_ok-out.ensures.items

pub loop-word-preserved : goal.loop-word-preserved
loop-word-preserved c = rw c.in_ok-extend_from_slice.ensures.items (next_bytes _ _ _ _ c.loop-word-test.true (c.type_inv.words c.loop-word.word-index).fits c.to_be_bytes-bytes.ensures c.loop-word.invariant)
