use Rattle.std.proofs.Common.{[], ◌∷◌, refl, ◌∙◌}
use Rattle.tool_text.specs.ConfigurationText.{extension_line, extensions_from}
use Rattle.tool_text.proofs.Numbered.{one_more, at_end}
use Rattle.tool_text.proofs.configuration_text.push_extensions.Goals as goal

pub loop-i-preserved : goal.loop-i-preserved
loop-i-preserved c = rw (c.in_ok-push.ensures.ok, c.in_ok-line.ensures) (one_more extensions_from (λ i v. extension_line i v ∷ []) (λ i v vs. refl) c.loop-i.lines c.args.extensions.now c.loop-i.i c.index-extensions-i.result c.loop-i-test.true c.index-extensions-i.is ∙ c.loop-i.invariant)

pub returns : goal.returns
returns c = at_end extensions_from (λ i. refl) c.loop-i.lines _ c.args.extensions.now c.loop-i.i c.loop-i-test.false c.loop-i.invariant
