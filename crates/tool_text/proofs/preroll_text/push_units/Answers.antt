use Rattle.std.proofs.Common.{[], ◌∷◌, refl, ◌∙◌}
use Rattle.tool_text.specs.PreRollText.{unit_line, units_from}
use Rattle.tool_text.proofs.Numbered.{one_more, at_end}
use Rattle.tool_text.proofs.preroll_text.push_units.Goals as goal

pub loop-k-preserved : goal.loop-k-preserved
loop-k-preserved c = rw (c.in_ok-push.ensures.ok, c.in_ok-line.ensures, c.as_slice.ensures) (one_more units_from (λ k u. unit_line k u ∷ []) (λ k u us. refl) c.loop-k.lines c.args.units.now c.loop-k.k c.index-units-k.result c.loop-k-test.true c.index-units-k.is ∙ c.loop-k.invariant)

pub returns : goal.returns
returns c = at_end units_from (λ k. refl) c.loop-k.lines _ c.args.units.now c.loop-k.k c.loop-k-test.false c.loop-k.invariant
