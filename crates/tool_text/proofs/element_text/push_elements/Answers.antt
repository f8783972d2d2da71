use Rattle.std.proofs.Common.{refl, ◌∙◌}
use Rattle.tool_text.specs.ElementText.{lines_of_element, elements_from}
use Rattle.tool_text.proofs.Numbered.{one_more, at_end}
use Rattle.tool_text.proofs.element_text.push_elements.Goals as goal

pub loop-i-preserved : goal.loop-i-preserved
loop-i-preserved c = rw c.in_ok-push_element.ensures (one_more elements_from lines_of_element (λ i e es. refl) c.loop-i.lines c.args.elements.now c.loop-i.i c.index-elements-i.result c.loop-i-test.true c.index-elements-i.is ∙ c.loop-i.invariant)

pub returns : goal.returns
returns c = at_end elements_from (λ i. refl) c.loop-i.lines _ c.args.elements.now c.loop-i.i c.loop-i-test.false c.loop-i.invariant
