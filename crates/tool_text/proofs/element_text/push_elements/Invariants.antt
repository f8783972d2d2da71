use Rattle.std.proofs.Common.{◌≡◌, ◌++◌, drop}
use Rattle.tool_text.specs.ElementText.{elements_from}
use Rattle.tool_text.proofs.element_text.push_elements.Given as goal

abbrev pub invariant-loop-i : goal.invariant-loop-i
invariant-loop-i l = l.lines ++ elements_from l.i (drop l.i l.elements) ≡ l.fn.lines ++ elements_from 0 l.elements
