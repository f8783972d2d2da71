use Rattle.std.proofs.Common.{◌≡◌, ℕ, List, None, length, sym, ap, subst, ◌∙◌}
use Rattle.std.specs.List.{AllByRecursion}
use Rattle.usac_cfg.specs.declared.usac_config.UsacConfig.{UsacConfig}
use Rattle.latm.specs.Stream.{frames_of}
use Rattle.stream_edit.specs.declared.frames.FrameRef.{FrameRef}
use Rattle.stream_edit.specs.Edited.{elements_in}
use Rattle.stream_edit.specs.Giving.{IsWritable}
use Rattle.stream_edit.specs.Steps.{TargetsMay}
use Rattle.stream_edit.proofs.Elements.{small_frames}
use Rattle.ipf_strip.specs.Rules.{list_rule}
use Rattle.ipf_strip.specs.Steps.{MayLose}
use Rattle.ipf_strip.specs.Stripping.{slot_without}
use Rattle.ipf_strip.proofs.Passed.{short_frames, listed, passed_refs}
use Rattle.ipf_strip.proofs.streams.stripper.Goals as goal

pub check_frames-requires : goal.check_frames-requires
check_frames-requires c = rw (c.deref.ensures.value, c.in_ok-frames.ensures) (short_frames (frames_of c.args.stream.now) (small_frames None c.args.stream.now.elements c.requires.elements))

pub check_targets-requires-clause-short : goal.check_targets-requires-clause-short
check_targets-requires-clause-short c = rw (c.deref-2.ensures.value, c.in_ok-frames.ensures) (short_frames (frames_of c.args.stream.now) (small_frames None c.args.stream.now.elements c.requires.elements))

pub check_targets-requires-clause-below : goal.check_targets-requires-clause-below
check_targets-requires-clause-below c =
    let n : c.len.result ≡ length c.deref-2.result.now = c.len.ensures ∙ sym c.deref-2.ensures.len in
    let l = listed (length c.deref-2.result.now) c.args.targets.now (subst (λ (n : ℕ). list_rule n c.args.targets.now ≡ None) n c.in_ok-check_list.ensures) in
    l.below

pub new-requires-clause-rising : goal.new-requires-clause-rising
new-requires-clause-rising c =
    let l = listed c.len.result c.args.targets.now c.in_ok-check_list.ensures in
    l.rising

pub new-requires-clause-may : goal.new-requires-clause-may
new-requires-clause-may c =
    let s = c.args.stream.now in
    let targets = c.args.targets.now in
    let items = c.in_ok-frames.frames.items in
    let p = passed_refs s c.args.tail targets items c.deref.result.now c.deref-2.result.now c.len.result c.requires c.in_ok-frames.ensures c.deref.ensures.value c.deref-2.ensures.value (c.len.ensures ∙ sym c.deref.ensures.len ∙ ap (λ (xs : List FrameRef). length xs) c.deref.ensures.value) c.in_ok-check_frames.ensures c.in_ok-check_list.ensures c.in_ok-check_targets.ensures in
    subst (λ (fs : List (UsacConfig × List ℕ)). TargetsMay (MayLose c.args.tail fs) targets (frames_of s)) (sym c.in_ok-frames.ensures) p.may

pub new-requires-clause-writable : goal.new-requires-clause-writable
new-requires-clause-writable c =
    let s = c.args.stream.now in
    let targets = c.args.targets.now in
    let items = c.in_ok-frames.frames.items in
    let p = passed_refs s c.args.tail targets items c.deref.result.now c.deref-2.result.now c.len.result c.requires c.in_ok-frames.ensures c.deref.ensures.value c.deref-2.ensures.value (c.len.ensures ∙ sym c.deref.ensures.len ∙ ap (λ (xs : List FrameRef). length xs) c.deref.ensures.value) c.in_ok-check_frames.ensures c.in_ok-check_list.ensures c.in_ok-check_targets.ensures in
    subst (λ (fs : List (UsacConfig × List ℕ)). AllByRecursion IsWritable (elements_in (slot_without c.args.tail fs) targets 0 s.elements)) (sym c.in_ok-frames.ensures) p.writable
