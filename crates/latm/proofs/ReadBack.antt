-- What is read of an element can be written.
use Rattle.std.proofs.Common.{◌≡◌, ℕ, ◌*◌, ◌%◌, List, length, Option, ap, sym, ◌∙◌, arith}
use Rattle.layout.specs.Text.{bits_of}
use Rattle.layout.proofs.TextLemmas.{length-bits_of}
use Rattle.latm.specs.declared.mux_config.MuxConfig.{MuxConfig}
use Rattle.latm.specs.declared.mux_element.MuxElement.{MuxElement}
use Rattle.latm.specs.MuxElement.{element}
use Rattle.latm.specs.Written.{element_text}

pub whole_bytes : (before : Option MuxConfig) (v : MuxElement) (bytes : List ℕ) → bits_of bytes ≡ (let L = element before in L.spelling v) → length (element_text v) % 8 ≡ 0
whole_bytes before v bytes e = let n : length (element_text v) ≡ 8 * length bytes = sym (ap length e) ∙ length-bits_of bytes in omega (arith, n)
