use Rattle.std.proofs.Common.{sym, arith}
use Rattle.std.proofs.lemmas.List.{append-nil}
use Rattle.layout.specs.Text.{num}
use Rattle.bit_core.proofs.CopyLemmas.{head_word}
use Rattle.bit_core.proofs.TypeLemmas.{put_text}
use Rattle.bit_core.proofs.writer.BitWriter.put.Goals as goal

pub returns-then-n-eq0-clause-ok : goal.returns-then-n-eq0-clause-ok
unfolding num
returns-then-n-eq0-clause-ok c = rw c.if-n-eq0.true (sym (append-nil c.args.self.now))

pub push_word-requires-clause-front : goal.push_word-requires-clause-front
push_word-requires-clause-front c = (head_word c.args.n _ (omega arith)).0

pub returns-clause-ok : goal.returns-clause-ok
returns-clause-ok c = rw (c.from-3.ensures, ← c.from-2.ensures) (put_text _ _ _ c.args.n c.from-2.result _ _ c.self.view_is (head_word c.args.n c.from-2.result (omega arith)).1 c.in_ok-push_word.ensures.ok)
