use Rattle.std.proofs.Common.{◌≡◌, ◌≤◌, ◌<◌, ◌+◌, ◌*◌, arith, refl, ap, length}
use Rattle.layout.specs.Text.{bits_of}
use Rattle.layout.specs.Reader.{left}
use Rattle.layout.specs.Layout.{wrapped}
use Rattle.layout.proofs.Layouts.{wrapped-exact, reads_unless}
use Rattle.layout.proofs.TextLemmas.{length-left}
use Rattle.bit_core.specs.declared.faults.ReadFault.TheVariants as faults
use Rattle.bit_core.specs.Plain.{octets, short_at}
use Rattle.bit_core.specs.Faults.{is_memory}
use Rattle.bit_core.proofs.PlainFacts.{octets_give, octets_short, octets-exact, gives_wrapped, short_wrapped, part_behind}
use Rattle.bit_core.proofs.reader.BitReader.take_bytes.Goals as goal

pub returns-then-left-n-clause-exact : goal.returns-then-left-n-clause-exact
returns-then-left-n-clause-exact c =
    let short : length (left c.args.self.now) < 8 * c.args.n = omega (arith, c.left.ensures, c.if-left-n.true) in
    let here : c.self.inside.at ≡ c.args.self.now.at = ap (λ r. r.at) c.self.view_is in
    rw here (short_wrapped is_memory (λ s. faults.Short s) (octets c.args.n) c.args.self.now (short_at c.args.self.now.at) (octets_short c.args.n c.args.self.now short))

pub returns-then-left-n-clause-reads : goal.returns-then-left-n-clause-reads
returns-then-left-n-clause-reads c =
    reads_unless is_memory (wrapped (λ s. faults.Short s) (octets c.args.n)) (wrapped-exact (λ s. faults.Short s) (octets c.args.n) (octets-exact c.args.n)) c.args.self.now c.args.self.now _ (returns-then-left-n-clause-exact c) refl

pub returns-clause-exact : goal.returns-clause-exact
returns-clause-exact c =
    let i = c.self.inside in
    let xs = c.from_vec.result in
    let same : xs ≡ c.in_ok-bytes.bytes.items = c.from_vec.ensures in
    let within : i.at + 8 * c.args.n ≤ i.end = omega (arith, length-left i.bytes.now i.at i.end c.self.invariant.1, rw (← c.self.view_is) at c.left.ensures, c.if-left-n.false) in
    rw (← c.self.view_is) (gives_wrapped is_memory (λ s. faults.Short s) (octets c.args.n) _ _ xs
    (octets_give c.args.n _ _ xs (rw same c.in_ok-bytes.ensures.many) (rw same c.in_ok-bytes.ensures.bytes)
    (part_behind (bits_of i.bytes.now) i.at (8 * c.args.n) i.end (bits_of xs) within (rw same c.in_ok-bytes.ensures.same)) refl))

pub returns-clause-reads : goal.returns-clause-reads
returns-clause-reads c =
    reads_unless is_memory (wrapped (λ s. faults.Short s) (octets c.args.n)) (wrapped-exact (λ s. faults.Short s) (octets c.args.n) (octets-exact c.args.n)) c.args.self.now _ _ (returns-clause-exact c) tt
