use Rattle.ipf_strip.proofs.Passed.{immediate_there}
use Rattle.ipf_strip.proofs.stripping.StrippingChange.change.Goals as goal

pub without_preroll-requires-clause-is : goal.without_preroll-requires-clause-is
without_preroll-requires-clause-is c = immediate_there (c.args.config.now, c.args.au.now) c.requires.immediate
