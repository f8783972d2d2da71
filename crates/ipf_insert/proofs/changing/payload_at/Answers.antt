use Rattle.std.proofs.Common.{◌≡◌, ℕ, ◌-◌, List, subst, sym}
use Rattle.std.specs.Prelude.{IfOk}
use Rattle.ipf_frame.specs.Laws.{AreFrames, AreSlots}
use Rattle.ipf_frame.specs.Payload.{new_payload}
use Rattle.ipf_insert.specs.Steps.{settled}
use Rattle.ipf_insert.proofs.Here.{frames_part, slots_part, part_is}
use Rattle.ipf_insert.proofs.changing.payload_at.Goals as goal

pub new_payload-requires-clause-frames : goal.new_payload-requires-clause-frames
new_payload-requires-clause-frames c =
    let s = c.args.sources.now in
    subst (λ (aus : List (List ℕ)). AreFrames s.config.now aus) (sym (part_is s.aus.items c.deref.result.now s.count c.args.frame c.deref.ensures.value c.requires.late))
    (frames_part s.config.now (settled s).aus s.count (c.args.frame - s.count) c.requires.ready.frames)

pub new_payload-requires-clause-slots : goal.new_payload-requires-clause-slots
new_payload-requires-clause-slots c =
    let s = c.args.sources.now in
    subst AreSlots (sym (part_is s.aus.items c.deref.result.now s.count c.args.frame c.deref.ensures.value c.requires.late))
    (slots_part (settled s).aus s.count (c.args.frame - s.count) c.requires.ready.slots)

pub returns : goal.returns
returns c =
    let s = c.args.sources.now in
    subst (λ (aus : List (List ℕ)). IfOk c.new_payload.result (λ payload. payload ≡ new_payload s.config.now s.fade aus)) (part_is s.aus.items c.deref.result.now s.count c.args.frame c.deref.ensures.value c.requires.late)
    c.new_payload.ensures
