use Rattle.std.proofs.Common.{ap, ◌∙◌, List, Bool, ℕ}
use Rattle.layout.specs.Text.{pad, bits_of}
use Rattle.bit_core.proofs.writer.BitWriter.finish.Goals as goal

pub returns : goal.returns
returns c = ap (λ (xs : List ℕ). bits_of xs) c.from_vec.ensures ∙ rw c.deref.ensures.value at c.in_ok-bytes.ensures ∙ ap (λ (t : List Bool). pad t) c.self.view_is
