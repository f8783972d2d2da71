use Rattle.std.proofs.Common.{ℕ, List, length, subst, sym, ap, arith}
use Rattle.usac_frame.specs.AccessUnit.{IsFrame}
use Rattle.usac_frame.specs.Head.{with_rest}
use Rattle.ipf_insert.specs.Steps.{settled}
use Rattle.ipf_insert.proofs.Here.{au_is, slot_at, frame_at}
use Rattle.ipf_insert.proofs.Judged.{never_short}
use Rattle.ipf_insert.proofs.target_rules.head_at.Goals as goal

pub read_head-requires : goal.read_head-requires
read_head-requires c =
    let i = settled c.args.sources.now in
    let au = ap (λ (x : List ℕ). length x) (au_is c.args.sources.now c.args.frame c.index.result.now c.index.ensures c.requires.below) in
    let few = (slot_at i.aus c.args.frame c.requires.ready.slots c.requires.below).0 in
    omega (arith, au, few)

pub unreachable-requires : goal.unreachable-requires
unreachable-requires c =
    let i = settled c.args.sources.now in
    let au = au_is c.args.sources.now c.args.frame c.index.result.now c.index.ensures c.requires.below in
    let f = frame_at i.config i.aus c.args.frame c.requires.ready.frames c.requires.below in
    never_short i.config c.index.result.now.now f.0 c.in-Err-Short.field-0 c.in-Err-Short.field-0-0 (subst (λ (x : List ℕ). IsFrame i.config x f.0) (sym au) f.1) c.in-Err-Short.field-0-is c.in-Err-Short.ensures

pub returns-in-Ok : goal.returns-in-Ok
returns-in-Ok c =
    let au = au_is c.args.sources.now c.args.frame c.index.result.now c.index.ensures c.requires.below in
    let h = c.in-Ok.ensures in
    (h.0, subst (λ (x : List ℕ). IsFrame c.args.sources.now.config.now x (with_rest c.in-Ok.head h.0)) au h.1)
