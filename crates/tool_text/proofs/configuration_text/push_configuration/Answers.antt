use Rattle.tool_text.proofs.Behind.{one_and_list}
use Rattle.tool_text.proofs.configuration_text.push_configuration.Goals as goal

pub returns : goal.returns
returns c = one_and_list _ _ _ _ _ _ c.in_ok-line.ensures c.in_ok-push.ensures.ok c.in_ok-push_usac.ensures
