use Rattle.std.proofs.Common.{◌≡◌, ℕ, List, subst, sym}
use Rattle.std.specs.Prelude.{IfOk}
use Rattle.usac_frame.specs.AccessUnit.{IsFrame}
use Rattle.ipf_insert.specs.Inserting.{units_before}
use Rattle.ipf_insert.specs.Rules.{au_at}
use Rattle.ipf_insert.specs.Steps.{settled}
use Rattle.ipf_insert.proofs.Here.{au_is, frame_at}
use Rattle.ipf_insert.proofs.Kept.{open_frame, slot_is}
use Rattle.ipf_insert.proofs.changing.target_slot.Goals as goal

pub with_payload-requires-clause-is : goal.with_payload-requires-clause-is
with_payload-requires-clause-is c =
    let i = settled c.args.sources.now in
    let au = au_is c.args.sources.now c.args.frame c.index.result.now c.index.ensures c.requires.kept.below in
    let f = frame_at i.config i.aus c.args.frame c.requires.ready.frames c.requires.kept.below in
    (f.0, subst (λ (x : List ℕ). IsFrame i.config x f.0) (sym au) f.1, open_frame i c.args.frame f.0 c.requires.kept.frame f.1)

pub returns : goal.returns
returns c =
    let i = settled c.args.sources.now in
    let au = au_is c.args.sources.now c.args.frame c.index.result.now c.index.ensures c.requires.kept.below in
    subst (λ (x : List ℕ). IfOk c.with_payload.result (λ new. new ≡ x))
    (slot_is i.config i.fade (units_before i.count c.args.frame i.aus) (au_at i.aus c.args.frame) c.in_ok-payload.payload c.index.result.now.now c.in_ok-payload.ensures au)
    c.with_payload.ensures
