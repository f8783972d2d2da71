use Rattle.std.proofs.Common.{◌≡◌, ℕ, ◌+◌, ◌-◌, ◌/◌, length, take, drop, arith, ap, ◌∙◌}
use Rattle.std.proofs.lemmas.List.{take_at}
use Rattle.layout.specs.Text.{bits_of}
use Rattle.bit_core.proofs.Across.{whole_part, part_across}
use Rattle.bit_core.proofs.slices.bytes_at.Goals as goal

pub returns-then-skipped-eq0-clause-same : goal.returns-then-skipped-eq0-clause-same
returns-then-skipped-eq0-clause-same c =
    let from = c.args.at / 8 in
    let k : from + c.args.n - from ≡ c.args.n = omega arith in
    ap bits_of (c.in_ok-copied.ensures.items ∙ ap (λ (m : ℕ). take m (drop from c.args.bytes.now)) k) ∙ whole_part c.args.bytes.now c.args.at c.args.n c.if-skipped-eq0.true c.requires.within

pub returns-clause-bytes : goal.returns-clause-bytes
returns-clause-bytes c =
    let out = c.put_across.new.out in
    let long : length out ≡ c.resize.new.self.len = omega (arith, c.put_across.auto.out, c.deref_mut.ensures.len) in
    rw (take_at out (drop (length out) c.resize.new.self.items) c.resize.new.self.len long) c.put_across.ensures.bytes

pub returns-clause-same : goal.returns-clause-same
returns-clause-same c =
    let out = c.put_across.new.out in
    let from = c.args.at / 8 in
    let long : length out ≡ c.resize.new.self.len = omega (arith, c.put_across.auto.out, c.deref_mut.ensures.len) in
    let many : length out ≡ c.args.n = omega (arith, long, c.in_ok-resize.ensures.len) in
    let k : from + c.args.n + 1 - from ≡ c.args.n + 1 = omega arith in
    rw (take_at out (drop (length out) c.resize.new.self.items) c.resize.new.self.len long)
    (rw (many, k) at c.put_across.ensures.same ∙ part_across c.args.bytes.now c.args.at c.args.n c.requires.within (omega arith) (omega arith))
