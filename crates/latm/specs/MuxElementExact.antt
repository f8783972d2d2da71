-- An AudioMuxElement is read exactly.
use Rattle.std.proofs.Common.{◌≡◌, ℕ, Bool, true, false, List, Option, refl, ap}
use Rattle.std.specs.Prelude.{is_some, not}
use Rattle.layout.specs.Exact.{IsExact, IsExactToEnd}
use Rattle.layout.proofs.Layouts.{both-exact, shaped-exact, wrapped-exact, checked-exact, where_set-exact, times-exact}
use Rattle.layout.proofs.ToEnd.{both-to_end, shaped-to_end, rest-to_end}
use Rattle.layout.proofs.Whole.{spells_once, decided_whole}
use Rattle.bit_core.proofs.PlainFacts.{bit-exact, octets-exact, bit_run-exact}
use Rattle.bit_core.specs.declared.faults.ReadFault.TheVariants as reads
use Rattle.esc_value.proofs.SlotExact.{slot_exact}
use Rattle.latm.specs.declared.mux_config.MuxConfig.{MuxConfig}
use Rattle.latm.specs.Faults.{from_short, from_read}
use Rattle.latm.specs.MuxConfigExact.{mux_config_exact}
use Rattle.latm.specs.MuxElement.{IsSpelledOnce, IsDecided, then_in_force, slot_count, other_bits, same_refused, same, opening, slot_of_bytes, body, element}

same-exact : (in_force : Bool) → IsExact (same in_force)
same-exact in_force = checked-exact (same_refused in_force) _ (wrapped-exact from_short _ bit-exact)

twice : (b c : Bool) → b ≡ not c → not b ≡ c
twice b true e = ap not e
twice b false e = ap not e

opening-exact : (in_force : Bool) → IsExact (opening in_force)
opening-exact in_force = shaped-exact _ _ _ (both-exact _ _ (same-exact in_force) (λ same. where_set-exact (not same) _ mux_config_exact))
    (λ a h. ap (λ (b : Bool). let x : Bool × Option MuxConfig = (b, a.1) in x) (twice (is_some a.1) a.0 h.1.0)) (λ b h. refl)

pub slot_of_bytes-exact : IsExact slot_of_bytes
slot_of_bytes-exact = shaped-exact _ _ _ (both-exact _ _ (wrapped-exact from_short _ slot_exact) (λ n. wrapped-exact from_read _ (wrapped-exact (λ s. reads.Short s) _ (octets-exact n))))
    (λ a h. ap (λ (n : ℕ). let x : ℕ × List ℕ = (n, a.1) in x) h.1.0) (λ b h. refl)

body-exact : (m : Option MuxConfig) → IsExactToEnd (body m)
body-exact m = both-to_end _ _ (times-exact (slot_count m) _ slot_of_bytes-exact) (λ _. both-to_end _ _ (wrapped-exact from_read _ (wrapped-exact (λ s. reads.Short s) _ (bit_run-exact (other_bits m)))) (λ _. rest-to_end))

pub element_exact : (before : Option MuxConfig) → IsExactToEnd (element before)
element_exact before = shaped-to_end _ _ _ (both-to_end _ _ (opening-exact (is_some before)) (λ own. body-exact (then_in_force before own))) (λ a h. refl) (λ b h. refl)

pub spelled_once : IsSpelledOnce
spelled_once before = spells_once (element before) (element_exact before)

pub decided : IsDecided
decided before = decided_whole (element before) (element_exact before)
