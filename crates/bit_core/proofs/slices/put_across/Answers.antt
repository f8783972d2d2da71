use Rattle.std.proofs.Common.{drop, arith}
use Rattle.layout.specs.Text.{bits_of}
use Rattle.bit_core.proofs.Across.{no_across, next_across, all_across, small_more, small_all}
use Rattle.bit_core.proofs.slices.put_across.Goals as goal

pub loop-i-init : goal.loop-i-init
loop-i-init c = record {
  bytes = λ k h. absurd (omega (arith, h));
  same = no_across c.args.out.now (drop c.args.skipped (bits_of c.args.bytes.now));
}

pub loop-i-preserved : goal.loop-i-preserved
loop-i-preserved c = record {
  bytes = small_more c.loop-i.out c.loop-i.i _ (omega arith) c.byte_across.type_inv c.loop-i.invariant.bytes;
  same = next_across c.args.bytes.now c.loop-i.out c.args.skipped c.loop-i.i _ c.requires.within (omega arith) (omega arith) c.loop-i.invariant.same c.byte_across.ensures;
}

pub returns-clause-bytes : goal.returns-clause-bytes
returns-clause-bytes c = small_all c.loop-i.out c.loop-i.i (omega arith) c.loop-i.invariant.bytes

pub returns-clause-same : goal.returns-clause-same
returns-clause-same c = all_across c.loop-i.out c.loop-i.i _ (omega arith) c.loop-i.invariant.same
