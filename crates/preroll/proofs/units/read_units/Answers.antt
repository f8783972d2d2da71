use Rattle.std.proofs.Common.{◌≡◌, ℕ, List, Some, length, refl, sym, ap, ◌∙◌}
use Rattle.std.specs.Prelude.{slice_get}
use Rattle.std.proofs.lemmas.Option.{slice_get_read}
use Rattle.std.proofs.lemmas.Result.{err_from_is_err_and}
use Rattle.preroll.proofs.UnitFrames.{is_short}
use Rattle.preroll.proofs.units.read_units.Goals as goal

pub returns-in_err-frame-clause-bad : goal.returns-in_err-frame-clause-bad
returns-in_err-frame-clause-bad c =
    let p = err_from_is_err_and c.from_residual.result c.from_residual.ensures.1 in
    let us = c.args.units.now in
    let k = c.loop-k.k in
    let unit = c.as_slice.result.now in
    let there : slice_get us k ≡ Some unit =
    slice_get_read us (length us) k c.index-units-k.result refl c.loop-k-test.true c.index-units-k.is ∙ ap (λ (u : List ℕ). Some u) (sym c.as_slice.ensures) in
    rw (p.1, p.2) (λ want. let bad = c.in_err-frame.ensures.bad want in is_short c.args.config.now us c.loop-k.frames k unit bad.0 c.in_err-frame.field-0.0 c.loop-k.invariant there bad.1 bad.2 want)
