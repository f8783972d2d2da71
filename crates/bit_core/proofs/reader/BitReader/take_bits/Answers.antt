use Rattle.std.proofs.Common.{◌≡◌, ◌≤◌, ◌<◌, ◌+◌, arith, refl, ap, List, length, Bool, take, drop}
use Rattle.std.proofs.lemmas.List.{length-take, length-drop}
use Rattle.layout.specs.Text.{bits_of}
use Rattle.layout.specs.Reader.{left}
use Rattle.layout.specs.Layout.{wrapped}
use Rattle.layout.proofs.Layouts.{wrapped-exact, reads_unless}
use Rattle.layout.proofs.TextLemmas.{length-left, length-bits_of}
use Rattle.bit_core.specs.declared.faults.ReadFault.TheVariants as faults
use Rattle.bit_core.specs.Plain.{bit_run, short_at}
use Rattle.bit_core.specs.Faults.{is_memory}
use Rattle.bit_core.proofs.PlainFacts.{run_gives, run_short, bit_run-exact, gives_wrapped, short_wrapped, part_behind}
use Rattle.bit_core.proofs.reader.BitReader.take_bits.Goals as goal

pub returns-then-left-n-clause-exact : goal.returns-then-left-n-clause-exact
returns-then-left-n-clause-exact c =
    let short : length (left c.args.self.now) < c.args.n = omega (arith, c.left.ensures, c.if-left-n.true) in
    let here : c.self.inside.at ≡ c.args.self.now.at = ap (λ r. r.at) c.self.view_is in
    rw here (short_wrapped is_memory (λ s. faults.Short s) (bit_run c.args.n) c.args.self.now (short_at c.args.self.now.at) (run_short c.args.n c.args.self.now short))

pub returns-then-left-n-clause-reads : goal.returns-then-left-n-clause-reads
returns-then-left-n-clause-reads c =
    reads_unless is_memory (wrapped (λ s. faults.Short s) (bit_run c.args.n)) (wrapped-exact (λ s. faults.Short s) (bit_run c.args.n) (bit_run-exact c.args.n)) c.args.self.now c.args.self.now _ (returns-then-left-n-clause-exact c) refl

pub returns-clause-exact : goal.returns-clause-exact
returns-clause-exact c =
    let i = c.self.inside in
    let text = c.in_ok-bits.bits in
    let same : text ≡ take c.args.n (drop i.at (bits_of i.bytes.now)) = c.in_ok-bits.ensures in
    let within : i.at + c.args.n ≤ i.end = omega (arith, length-left i.bytes.now i.at i.end c.self.invariant.1, rw (← c.self.view_is) at c.left.ensures, c.if-left-n.false) in
    let many : length text ≡ c.args.n = omega (arith, ap (λ (t : List Bool). length t) same, length-take c.args.n (drop i.at (bits_of i.bytes.now)), length-drop i.at (bits_of i.bytes.now), length-bits_of i.bytes.now, c.self.invariant.1) in
    rw (← c.self.view_is) (gives_wrapped is_memory (λ s. faults.Short s) (bit_run c.args.n) _ _ text
    (run_gives c.args.n _ _ text many (part_behind (bits_of i.bytes.now) i.at c.args.n i.end text within same) refl))

pub returns-clause-reads : goal.returns-clause-reads
returns-clause-reads c =
    reads_unless is_memory (wrapped (λ s. faults.Short s) (bit_run c.args.n)) (wrapped-exact (λ s. faults.Short s) (bit_run c.args.n) (bit_run-exact c.args.n)) c.args.self.now _ _ (returns-clause-exact c) tt
