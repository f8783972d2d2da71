use Rattle.std.proofs.Common.{◌∙◌, arith}
use Rattle.bit_core.proofs.TypeLemmas.{len_is, cut_text}
use Rattle.bit_core.proofs.writer.BitWriter.truncate.Goals as goal

pub cut_words-requires : goal.cut_words-requires
cut_words-requires c = omega (arith, len_is _ _ _ c.self.invariant.0 c.self.view_is, c.self.invariant.0.fits, c.requires)

pub invariant_of-self : goal.invariant_of-self
invariant_of-self c = (c.cut_words.ensures.packed, omega (arith, len_is _ _ _ c.self.invariant.0 c.self.view_is, c.self.invariant.1, c.requires))

pub returns : goal.returns
returns c = c.cut_words.ensures.spelled ∙ cut_text _ _ _ _ c.self.view_is (omega (arith, len_is _ _ _ c.self.invariant.0 c.self.view_is, c.requires))
