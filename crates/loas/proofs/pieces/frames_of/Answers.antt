use Rattle.std.proofs.Common.{List, ℕ, length, ap, arith, refl, ◌∙◌}
use Rattle.std.proofs.lemmas.List.{take_all}
use Rattle.std.proofs.lemmas.List.Folds.{length-flat_map-take}
use Rattle.loas.specs.Framer.{grown}
use Rattle.loas.specs.Pieces.{TakesAll}
use Rattle.loas.proofs.Reading.{read-none, read-more, read-pushed, is_read, joined-more, IsFaultOf}
use Rattle.loas.proofs.pieces.frames_of.Goals.{in-Ok, in-Err}
use Rattle.loas.proofs.pieces.frames_of.Goals as goal

pub loop-piece-init : goal.loop-piece-init
loop-piece-init c = record { read = rw (c.new-framer.ensures.nothing, c.new-frames.ensures.items) read-none }

pub push-requires : goal.push-requires
push-requires c =
    let pushed = read-pushed _ _ _ c.loop-piece.invariant.read in
    let within = length-flat_map-take (λ (piece : List ℕ). piece) c.args.pieces.now c.loop-piece.piece-index c.piece-item.result c.loop-piece-test.true in
    omega (arith, pushed, within, ap (λ (t : List ℕ). length t) c.as_slice.ensures, ap (λ (t : List ℕ). length t) c.piece-item.is, c.requires)

pub loop-piece-preserved : goal.loop-piece-preserved
loop-piece-preserved c =
    let taken : TakesAll (grown c.loop-piece.framer.framer c.as_slice.result.now) c.take_all.new.framer.framer c.loop-piece.frames.items c.take_all.new.frames.items =
    rw c.in_ok-push.ensures.ok at c.in_ok-take_all.ensures in
    let read = read-more _ c.loop-piece.framer.framer c.take_all.new.framer.framer c.as_slice.result.now c.loop-piece.frames.items c.take_all.new.frames.items c.loop-piece.invariant.read taken in
    let text = joined-more c.args.pieces.now c.loop-piece.piece-index c.as_slice.result.now c.piece-item.result c.loop-piece-test.true (c.as_slice.ensures ∙ c.piece-item.is) in
    record { read = rw text read }

pub returns : goal.returns
returns c =
    let read = rw (take_all c.loop-piece.piece-index c.args.pieces.now c.loop-piece-test.false) at c.loop-piece.invariant.read in
    let same : IsFaultOf c.end.result c.match-end.fault = elim c.match-end.branch [
      | in-Ok w ↦ rw (w.in-Ok.is, w.fault-is) tt
      | in-Err w ↦ rw (w.in-Err.is, w.fault-is) refl
    ] in
    is_read _ c.loop-piece.framer.framer (record { frames = c.loop-piece.frames; fault = c.match-end.fault }) c.end.result read c.end.ensures.ends same
