use Rattle.std.proofs.Common.{ap, ◌∙◌, ◌++◌, List, Bool, arith}
use Rattle.bit_core.proofs.WordLemmas.{num_flag}
use Rattle.bit_core.proofs.CopyLemmas.{head_word}
use Rattle.bit_core.proofs.TypeLemmas.{put_text}
use Rattle.bit_core.proofs.bits.Bits.push.Goals as goal

pub push_word-requires-clause-front : goal.push_word-requires-clause-front
push_word-requires-clause-front c = (head_word 1 c.from.result (omega arith)).0

pub returns-clause-ok : goal.returns-clause-ok
returns-clause-ok c =
    put_text _ _ _ 1 c.from.result _ _ c.self.view_is (head_word 1 c.from.result (omega arith)).1 c.in_ok-push_word.ensures.ok
    ∙ ap (λ (t : List Bool). c.args.self.now ++ t) (num_flag c.args.bit c.from.result c.from.ensures)
