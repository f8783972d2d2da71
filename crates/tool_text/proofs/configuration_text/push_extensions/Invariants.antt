use Rattle.std.proofs.Common.{◌≡◌, ◌++◌, drop}
use Rattle.tool_text.specs.ConfigurationText.{extensions_from}
use Rattle.tool_text.proofs.configuration_text.push_extensions.Given as goal

abbrev pub invariant-loop-i : goal.invariant-loop-i
invariant-loop-i l = l.lines ++ extensions_from l.i (drop l.i l.extensions) ≡ l.fn.lines ++ extensions_from 0 l.extensions
