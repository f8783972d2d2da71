-- How many frames elements have, and what they are as frames of a stream.
use Rattle.std.proofs.Common.{◌≡◌, ℕ, ◌+◌, ◌≤◌, Bool, false, List, [], ◌∷◌, ◌++◌, length, map, Option, Some, None, refl, sym, ap, ◌∙◌, arith}
use Rattle.std.specs.Prelude.{is_some}
use Rattle.std.proofs.lemmas.List.{length-append, length-map, map-append}
use Rattle.loas.specs.Framing.{framed}
use Rattle.usac_cfg.specs.declared.usac_config.UsacConfig.{UsacConfig}
use Rattle.latm.specs.declared.mux_config.MuxConfig.{MuxConfig}
use Rattle.latm.specs.declared.mux_element.MuxElement.{MuxElement}
use Rattle.latm.specs.MuxElement.{then_in_force}
use Rattle.latm.specs.Stream as streams
use Rattle.au_stream.specs.Elements.{Carries}
use Rattle.au_stream.specs.Frames.{frames_under, frames_from}
use Rattle.au_stream.specs.Pairs.{as_pair}
use Rattle.au_stream.proofs.Counting.{slots_fit}

-- ---- the pairs of a stream

pairs_under : (m : MuxConfig) (opens : Bool) (slots : List (List ℕ)) → map as_pair (frames_under (Some m) opens slots) ≡ map (λ (au : List ℕ). (m.asc.usac, au)) slots
pairs_under m opens [] = refl
pairs_under m opens (au ∷ slots) = ap (λ (x : List (UsacConfig × List ℕ)). (m.asc.usac, au) ∷ x) (pairs_under m false slots)

pairs_own : (in_force : Option MuxConfig) (opens : Bool) (slots : List (List ℕ)) → map as_pair (frames_under in_force opens slots) ≡ streams.slots_under in_force slots
pairs_own None opens slots = refl
pairs_own (Some m) opens slots = pairs_under m opens slots

pub pairs_from : (before : Option MuxConfig) (es : List MuxElement) → map as_pair (frames_from before es) ≡ streams.slots_from before es
pairs_from before [] = refl
pairs_from before (e ∷ es) =
    let m = then_in_force before e.config in
    map-append as_pair (frames_under m (is_some e.config) e.slots) (frames_from m es)
    ∙ ap (λ (x : List (UsacConfig × List ℕ)). x ++ map as_pair (frames_from m es)) (pairs_own m (is_some e.config) e.slots)
    ∙ ap (λ (x : List (UsacConfig × List ℕ)). streams.slots_under m e.slots ++ x) (pairs_from m es)

pub length-pairs : (before : Option MuxConfig) (es : List MuxElement) → length (streams.slots_from before es) ≡ length (frames_from before es)
length-pairs before es = ap (λ (x : List (UsacConfig × List ℕ)). length x) (sym (pairs_from before es)) ∙ length-map (frames_from before es) as_pair

-- ---- their number

pub length-frames_under : (m : MuxConfig) (opens : Bool) (slots : List (List ℕ)) → length (frames_under (Some m) opens slots) ≡ length slots
length-frames_under m opens [] = refl
length-frames_under m opens (au ∷ slots) = omega (arith, length-frames_under m false slots)

few_under : (in_force : Option MuxConfig) (opens : Bool) (slots : List (List ℕ)) → length (frames_under in_force opens slots) ≤ length slots
few_under None opens slots = omega arith
few_under (Some m) opens slots = omega (arith, length-frames_under m opens slots)

-- each has a byte of its own
pub frames_few : (before : Option MuxConfig) (text : List ℕ) (es : List MuxElement) (rest : List ℕ) → Carries before text es rest → length (frames_from before es) + length rest ≤ length text
frames_few before text [] rest c = omega (arith, ap (λ (x : List ℕ). length x) c)
frames_few before text (e ∷ es) rest c =
    let m = then_in_force before e.config in
    omega (
      arith,
      few_under m (is_some e.config) e.slots,
      slots_fit before e c.0 c.4,
      frames_few m c.1 es rest c.5,
      ap (λ (x : List ℕ). length x) c.3,
      length-append (framed c.0) c.1,
      length-append (frames_under m (is_some e.config) e.slots) (frames_from m es),
    )
