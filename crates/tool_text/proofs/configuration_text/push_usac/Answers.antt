use Rattle.std.proofs.Common.{◌++◌, ap, ◌∙◌}
use Rattle.tool_text.specs.ElementText.{elements_from}
use Rattle.tool_text.specs.ConfigurationText.{extensions_from}
use Rattle.tool_text.proofs.Behind.{one_and_list, three_lists}
use Rattle.tool_text.proofs.configuration_text.push_usac.Goals as goal

pub returns : goal.returns
returns c =
    let elements = c.in_ok-push_elements.ensures ∙ ap (λ xs. c.push_positions.new.lines ++ elements_from 0 xs) c.as_slice.ensures in
    let extensions = c.in_ok-push_extensions.ensures ∙ ap (λ xs. c.push_elements.new.lines ++ extensions_from 0 xs) c.as_slice-2.ensures in
    one_and_list _ _ _ _ _ _ c.in_ok-line.ensures c.in_ok-push.ensures.ok (three_lists _ _ _ _ _ _ _ c.in_ok-push_positions.ensures elements extensions)
