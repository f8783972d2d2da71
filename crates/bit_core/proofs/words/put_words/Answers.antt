use Rattle.std.proofs.Common.{◌≡◌, List, Bool, ◌++◌, ◌/◌, ◌+◌, ◌-◌, ◌*◌, ◌%◌, drop, arith, ap, ◌∙◌}
use Rattle.std.proofs.lemmas.List.{length-drop}
use Rattle.layout.specs.Text.{bits_of}
use Rattle.bit_core.specs.Words.{zeros}
use Rattle.layout.proofs.TextLemmas.{length-bits_of}
use Rattle.bit_core.proofs.CopyLemmas.{shown_from}
use Rattle.bit_core.proofs.Across.{no_words, next_put, last_put}
use Rattle.bit_core.proofs.words.put_words.Goals as goal

pub loop-i-init : goal.loop-i-init
loop-i-init c = no_words c.args.out.now (drop c.args.at (bits_of c.args.bytes.now))

pub loop-i-preserved : goal.loop-i-preserved
loop-i-preserved c =
    let k : 8 * (c.args.at / 8 + 8 * c.loop-i.i) + c.args.at % 8 ≡ c.args.at + 64 * c.loop-i.i = omega arith in
    let shows = rw k at c.word_across.ensures in
    next_put c.loop-i.out c.loop-i.i _ (drop c.args.at (bits_of c.args.bytes.now)) (omega arith) c.loop-i.invariant
    (shown_from c.args.bytes.now c.args.at (64 * c.loop-i.i) _ 64 (omega arith) (omega arith) shows)

pub returns : goal.returns
returns c =
    let last = (c.args.n - 1) / 64 in
    let text = drop c.args.at (bits_of c.args.bytes.now) in
    let e : c.loop-i.i ≡ (c.args.n - 1) / 64 = omega arith in
    let is = c.front_of.ensures ∙ ap (λ (t : List Bool). t ++ zeros (64 - (c.args.n - 64 * last))) (shown_from c.args.bytes.now c.args.at (64 * last) c.peek.result (c.args.n - 64 * last) (omega arith) (omega arith) c.peek.ensures) in
    last_put c.loop-i.out last c.args.n c.front_of.result text (omega arith) (omega arith) (omega arith) (omega (arith, length-drop c.args.at (bits_of c.args.bytes.now), length-bits_of c.args.bytes.now)) (rw e at c.loop-i.invariant) is
