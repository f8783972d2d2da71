-- The elements of the example's file, and that its bytes are these.
use Rattle.std.proofs.Common.{◌≡◌, ℕ, ◌+◌, ◌*◌, ◌<◌, false, List, [], ◌∷◌, ◌++◌, drop, Option, Some, None, refl, arith}
use Rattle.std.specs.Prelude.{◌/◌, ◌%◌, replicate, map, is_some}
use Rattle.std.specs.List.{flat_map, AllByRecursion}
use Rattle.layout.specs.Text.{bits_of, num}
use Rattle.bit_core.specs.Plain.{bits}
use Rattle.esc_value.specs.SlotLength.{slot_text}
use Rattle.loas.specs.Framing.{framed, IsFrameBody}
use Rattle.latm.specs.declared.mux_config.MuxConfig.{MuxConfig}
use Rattle.latm.specs.declared.mux_element.MuxElement.{MuxElement}
use Rattle.latm.specs.MuxConfig.{IsWellFormed}
use Rattle.latm.specs.MuxElement.{element, body, same_refused}
use Rattle.au_stream.specs.Elements.{IsElement, Carries}
use Rattle.au_stream.specs.Frames.{frames_from}
use Rattle.au_stream.proofs.Scripts.{script_end}
use Rattle.playing.specs.Spliced.{CarriesSplice}
use Rattle.example_plan.specs.Example.{mono, joining_frame, example}
use Rattle.example_plan.specs.File.{old_opening, old_others, new_opening, new_others, example_file}
use Rattle.example_plan.proofs.Configs.{mono_fits}

-- the StreamMuxConfig of a stream with this identifier: one slot an element
abbrev mux : ℕ → MuxConfig
mux id = record {
  version = 0;
  tara = None;
  sub_frames = 0;
  asc_length = None;
  asc = record { index = 3; explicit_rate = 0; channels = 1; usac = mono id; tail = [] };
  fullness = 255;
  other = None;
  crc = None;
}

mux_fits : (id : ℕ) → id < 256 → IsWellFormed (mux id)
mux_fits id small = record {
  version = omega arith;
  tara = refl;
  fullness_of_tara = tt;
  sub_frames = omega arith;
  asc_length = refl;
  counted = refl;
  asc = record { index = omega arith; explicit = refl; channels = omega arith; usac = mono_fits id small; tail = omega arith };
  fullness = omega arith;
  other = tt;
  crc = tt;
}

-- ---- elements

-- an element of one access unit
abbrev with_au : Option MuxConfig → List ℕ → ℕ → MuxElement
with_au own au behind = record { config = own; slots = au ∷ []; other = []; tail = replicate behind false }

abbrev AreBytes : List ℕ → Type 0
AreBytes au = AllByRecursion (let L = bits 8 in L.Fits) au

body_fits : (id : ℕ) (au : List ℕ) (behind : ℕ) → AreBytes au → (let L = body (Some (mux id)) in L.Fits (au ∷ [], ([], replicate behind false)))
body_fits id au behind bytes = ((refl, ((tt, (refl, bytes)), tt)), ((refl, refl), tt))

-- an element with a StreamMuxConfig, where another is in force or none
own_refused : (before : Option MuxConfig) → same_refused (is_some before) false ≡ None
own_refused None = refl
own_refused (Some m) = refl

own_is : (before : Option MuxConfig) (id : ℕ) (au text : List ℕ) (behind : ℕ) → id < 256 → AreBytes au → bits_of text ≡ (let L = element before in L.spelling (with_au (Some (mux id)) au behind))
    → IsElement before (with_au (Some (mux id)) au behind) text
own_is before id au text behind small bytes spelled = record {
  fits = ((((tt, refl), own_refused before), (refl, mux_fits id small)), body_fits id au behind bytes);
  spelled = spelled;
}

-- an element without one, of one byte
abbrev short_element : ℕ → MuxElement
short_element b = with_au None (b ∷ []) 7

-- its bytes: 1, the length in 8 bits, the byte, and 7 zeros
abbrev shifted : ℕ → List ℕ
shifted b = 0x80 ∷ (0x80 + b / 2) ∷ (b % 2 * 0x80) ∷ []

abbrev IsShort : ℕ → ℕ → Type 0
IsShort id b = (b < 256) × (bits_of (shifted b) ≡ (let L = element (Some (mux id)) in L.spelling (short_element b)))

short_is : (id b : ℕ) → IsShort id b → IsElement (Some (mux id)) (short_element b) (shifted b)
short_is id b h = record {
  fits = ((((tt, refl), refl), (refl, tt)), body_fits id (b ∷ []) 7 ((h.0, refl), tt));
  spelled = h.1;
}

-- ---- texts of elements

abbrev short_frames : List ℕ → List ℕ
short_frames bs = flat_map (λ b. framed (shifted b)) bs

shorts_carried : (id : ℕ) (bs : List ℕ) → AllByRecursion (IsShort id) bs → (es : List MuxElement) (rest : List ℕ) → Carries (Some (mux id)) rest es []
    → Carries (Some (mux id)) (short_frames bs ++ rest) (map short_element bs ++ es) []
shorts_carried id [] h es rest c = c
shorts_carried id (b ∷ bs) h es rest c = (shifted b, short_frames bs ++ rest, omega arith, refl, short_is id b h.0, shorts_carried id bs h.1 es rest c)

own_carried : (before : Option MuxConfig) (id : ℕ) (au text : List ℕ) (behind : ℕ) → IsFrameBody text → IsElement before (with_au (Some (mux id)) au behind) text → (es : List MuxElement) (rest : List ℕ) → Carries (Some (mux id)) rest es []
    → Carries before (framed text ++ rest) (with_au (Some (mux id)) au behind ∷ es) []
own_carried before id au text behind few is es rest c = (text, rest, few, refl, is, c)

-- ---- the file

old_shorts : AllByRecursion (IsShort 1) (0x10 ∷ 0x08 ∷ 0x84 ∷ [])
unfolding bits_of num slot_text
old_shorts = ((omega arith, refl), ((omega arith, refl), ((omega arith, refl), tt)))

new_shorts : AllByRecursion (IsShort 2) (0x02 ∷ 0x28 ∷ 0x09 ∷ [])
unfolding bits_of num slot_text
new_shorts = ((omega arith, refl), ((omega arith, refl), ((omega arith, refl), tt)))

abbrev first_element : MuxElement
first_element = with_au (Some (mux 1)) (0xA0 ∷ []) 4

abbrev joining_element : MuxElement
joining_element = with_au (Some (mux 2)) joining_frame.au 4

first_is : IsElement None first_element (drop 3 old_opening)
unfolding bits_of num slot_text
first_is = own_is None 1 (0xA0 ∷ []) (drop 3 old_opening) 4 (omega arith) ((omega arith, refl), tt) refl

joining_is : IsElement (Some (mux 1)) joining_element (drop 3 new_opening)
unfolding bits_of num slot_text
joining_is = own_is (Some (mux 1)) 2 joining_frame.au (drop 3 new_opening) 4 (omega arith) ((omega arith, refl), ((omega arith, refl), ((omega arith, refl), ((omega arith, refl), ((omega arith, refl), ((omega arith, refl), ((omega arith, refl), ((omega arith, refl), ((omega arith, refl), ((omega arith, refl), ((omega arith, refl), ((omega arith, refl), ((omega arith, refl), ((omega arith, refl), ((omega arith, refl), tt))))))))))))))) refl

abbrev new_elements : List MuxElement
new_elements = map short_element (0x02 ∷ 0x28 ∷ 0x09 ∷ []) ++ []

abbrev later_elements : List MuxElement
later_elements = joining_element ∷ new_elements

abbrev elements : List MuxElement
elements = first_element ∷ (map short_element (0x10 ∷ 0x08 ∷ 0x84 ∷ []) ++ later_elements)

carried : Carries None example_file elements []
carried =
    own_carried None 1 (0xA0 ∷ []) (drop 3 old_opening) 4 (omega arith) first_is (map short_element (0x10 ∷ 0x08 ∷ 0x84 ∷ []) ++ later_elements) (old_others ++ new_opening ++ new_others)
    (shorts_carried 1 (0x10 ∷ 0x08 ∷ 0x84 ∷ []) old_shorts later_elements (new_opening ++ new_others)
    (own_carried (Some (mux 1)) 2 joining_frame.au (drop 3 new_opening) 4 (omega arith) joining_is new_elements new_others
    (shorts_carried 2 (0x02 ∷ 0x28 ∷ 0x09 ∷ []) new_shorts [] [] refl)))

-- the file ends behind its frames, which are those of the plan
pub carries_splice : CarriesSplice example_file example
carries_splice = (frames_from None elements, script_end example_file elements [] (omega arith) carried refl, refl)
