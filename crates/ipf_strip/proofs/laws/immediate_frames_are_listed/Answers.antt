use Rattle.ipf_strip.proofs.ImmediateLists.{lists_immediate}
use Rattle.ipf_strip.proofs.laws.immediate_frames_are_listed.Goals as goal

pub returns : goal.returns
returns c = lists_immediate
