use Rattle.std.proofs.Common.{sym, arith}
use Rattle.core_iface.proofs.Weights.{word_places, within_small, ones_small}
use Rattle.core_iface.proofs.fold.places_in_word.Goals as goal

pub overflow_add-result-4 : goal.overflow_add-result-4
overflow_add-result-4 c = record { fits = omega (arith, within_small c.args.word c.ranges.word.fits) }

pub overflow_add-result-5 : goal.overflow_add-result-5
overflow_add-result-5 c = record { fits = omega (arith, within_small c.args.word c.ranges.word.fits) }

pub overflow_add-result-6 : goal.overflow_add-result-6
overflow_add-result-6 c = record { fits = omega (arith, within_small c.args.word c.ranges.word.fits, ones_small c.args.place c.args.word c.requires c.ranges.word.fits) }

pub returns-clause-places : goal.returns-clause-places
returns-clause-places c = sym (word_places c.args.place c.args.word c.ranges.word.fits)

pub returns-clause-small : goal.returns-clause-small
returns-clause-small c = omega (arith, within_small c.args.word c.ranges.word.fits, ones_small c.args.place c.args.word c.requires c.ranges.word.fits)
