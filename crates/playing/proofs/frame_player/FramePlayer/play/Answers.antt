use Rattle.std.proofs.Common.{◌≡◌, ap, ◌∙◌, inl, inr}
use Rattle.std.proofs.lemmas.Result.{err_from_is_err_and}
use Rattle.core_iface.specs.Samples.{sample_bytes}
use Rattle.commands.specs.declared.frame_end.FrameEnd.TheVariants as ends
use Rattle.playing.proofs.PlayerSteps.{stops_playing, stops_writing, stops_unwritten, plays_all, no_core_end, ended_caused}
use Rattle.playing.proofs.frame_player.FramePlayer.play.Goals as goal

pub returns-in-Err-clause-plays : goal.returns-in-Err-clause-plays
returns-in-Err-clause-plays g c = inl (stops_playing _ _ _ _ _ _ _ _ _ _ c.clear.ensures.items _ _ c.in-Err.fault _ c.in-Err.ensures.feeds.answered c.end_of.ensures)

pub returns-in-Err-clause-caused : goal.returns-in-Err-clause-caused
returns-in-Err-clause-caused g c = ended_caused c.args.number c.in-Err.fault c.end_of.result _ _ _ c.end_of.ensures c.in-Err.ensures.feeds.faults

pub returns-in-Err-clause-calm_serves : goal.returns-in-Err-clause-calm_serves
returns-in-Err-clause-calm_serves g c = λ calm serves failed.
    let end : c.end_of.result ≡ ends.CoreFault = cc in
    no_core_end c.args.number c.in-Err.fault c.end_of.result c.end_of.ensures (c.in-Err.ensures.calm_serves calm serves) end

pub returns-in_err-set_sample_bytes-clause-plays : goal.returns-in_err-set_sample_bytes-clause-plays
returns-in_err-set_sample_bytes-clause-plays g c =
    let p = err_from_is_err_and c.from_residual.result c.from_residual.ensures.1 in
    rw (p.1, p.2) (inr (stops_unwritten _ _ _ _ _ _ _ _ _ _ c.clear.ensures.items _ _ c.in_default.ensures.feeds.answered))

pub returns-in_err-give_all-clause-plays : goal.returns-in_err-give_all-clause-plays
returns-in_err-give_all-clause-plays g c =
    let p = err_from_is_err_and c.from_residual-in_err-give_all.result c.from_residual-in_err-give_all.ensures.1 in
    let bytes : c.deref-2.result.now ≡ sample_bytes c.feed.new.out.items =
    c.deref-2.ensures.value ∙ (c.in_ok-set_sample_bytes.ensures.ok ∙ ap sample_bytes c.deref.ensures.value) in
    rw (p.1, p.2) (inr (stops_writing _ _ _ _ _ _ _ _ _ _ c.clear.ensures.items _ _ c.deref-2.result.now c.in_err-give_all.field-0.0 c.in_default.ensures.feeds.answered bytes c.in_err-give_all.ensures.err))

pub returns-clause-plays : goal.returns-clause-plays
returns-clause-plays g c =
    let bytes : c.deref-2.result.now ≡ sample_bytes c.feed.new.out.items =
    c.deref-2.ensures.value ∙ (c.in_ok-set_sample_bytes.ensures.ok ∙ ap sample_bytes c.deref.ensures.value) in
    plays_all _ _ _ _ _ _ _ _ _ _ c.clear.ensures.items _ _ c.deref-2.result.now c.in_default.ensures.feeds.answered bytes c.in_ok-give_all.ensures.ok
