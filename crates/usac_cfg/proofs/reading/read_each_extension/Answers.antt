use Rattle.std.proofs.Common.{arith, ◌∙◌}
use Rattle.std.proofs.lemmas.Result.{err_from_is_err_and}
use Rattle.layout.specs.Times.{times_read}
use Rattle.layout.proofs.Counted.{goes_on, fails_within}
use Rattle.usac_cfg.specs.Faults.{is_memory}
use Rattle.usac_cfg.specs.ConfigExtension.{config_extension}
use Rattle.usac_cfg.proofs.reading.read_each_extension.Goals as goal

pub loop-preserved : goal.loop-preserved
loop-preserved c =
    let read = c.in_ok-item.ensures in
    record {
      so_far = rw c.in_ok-push.ensures.ok (goes_on config_extension c.loop.extensions c.args.count c.loop.counter c.loop.reader c.read_config_extension.new.reader c.in_ok-item.item (times_read config_extension c.args.count c.args.reader.now) c.loop-test.true read.0 c.loop.invariant.so_far);
      same_text = read.1.0 ∙ c.loop.invariant.same_text;
      onwards = omega (arith, read.1.1, c.loop.invariant.onwards);
    }

pub returns-in_err-item : goal.returns-in_err-item
returns-in_err-item c =
    let p = err_from_is_err_and c.from_residual.result c.from_residual.ensures.1 in
    let i = c.loop.invariant in
    rw (p.1, p.2) (fails_within is_memory config_extension c.loop.extensions c.args.count c.loop.counter c.args.reader.now c.loop.reader c.read_config_extension.new.reader c.in_err-item.field-0.0 c.loop-test.true c.in_err-item.ensures i.so_far i.same_text i.onwards)
