-- An access unit is no longer than its element.
use Rattle.std.proofs.Common.{◌≡◌, ℕ, ◌+◌, ◌*◌, ◌≤◌, Bool, true, false, List, [], ◌∷◌, ◌++◌, length, Option, Some, None, Result, Ok, Err, refl, sym, ap, subst, ◌∙◌, arith}
use Rattle.std.specs.Prelude.{is_some}
use Rattle.std.specs.List.{flat_map, AllByRecursion}
use Rattle.std.proofs.lemmas.List.{length-append}
use Rattle.layout.specs.Text.{num, bits_of}
use Rattle.layout.proofs.TextLemmas.{length-bits_of}
use Rattle.layout.proofs.Every.{all_append}
use Rattle.esc_value.specs.SlotLength.{slot_text}
use Rattle.latm.specs.declared.mux_config.MuxConfig.{MuxConfig}
use Rattle.latm.specs.declared.mux_element.MuxElement.{MuxElement}
use Rattle.latm.specs.MuxElement.{opening, slot_of_bytes, then_in_force}
use Rattle.au_stream.specs.declared.event.Event.{Event}
use Rattle.au_stream.specs.declared.fault.StreamFault.{StreamFault}
use Rattle.au_stream.specs.Elements.{IsElement, Carries}
use Rattle.au_stream.specs.Frames.{Frame, frames_under, frames_from}
use Rattle.au_stream.specs.Reading.{Reading, HasRead}
use Rattle.au_stream.specs.Taking.{Seen}
use Rattle.au_stream.specs.Giving.{IsSmall}
use Rattle.au_stream.specs.Events.{Reads}

abbrev IsShort : ℕ → Frame → Type 0
IsShort n f = length f.au ≤ n

bytes_long : (au : List ℕ) → length (flat_map (num 8) au) ≡ 8 * length au
unfolding bits_of
bytes_long au = length-bits_of au

-- slots that are spelled in so many bits
slots_short : (n : ℕ) (m : Option MuxConfig) (opens : Bool) (slots : List (List ℕ)) → length (flat_map slot_of_bytes.spelling slots) ≤ 8 * n → AllByRecursion (IsShort n) (frames_under m opens slots)
slots_short n None opens slots le = tt
slots_short n (Some m) opens [] le = tt
slots_short n (Some m) opens (au ∷ slots) le =
    let parts = length-append (slot_of_bytes.spelling au) (flat_map slot_of_bytes.spelling slots) in
    let own = length-append (slot_text (length au)) (flat_map (num 8) au) in
    (omega (arith, le, parts, own, bytes_long au), slots_short n (Some m) false slots (omega (arith, le, parts)))

element_short : (before : Option MuxConfig) (e : MuxElement) (body : List ℕ) (m : Option MuxConfig) (opens : Bool) (n : ℕ) → IsElement before e body → length body ≤ n → AllByRecursion (IsShort n) (frames_under m opens e.slots)
element_short before e body m opens n is le =
    let front = (opening (is_some before)).spelling e.config in
    let slots = flat_map slot_of_bytes.spelling e.slots in
    let whole : bits_of body ≡ front ++ (slots ++ (e.other ++ e.tail)) = is.spelled in
    slots_short n m opens e.slots (omega (arith, le, length-bits_of body, ap (λ (t : List Bool). length t) whole, length-append front (slots ++ (e.other ++ e.tail)), length-append slots (e.other ++ e.tail)))

of_one : (P : Frame → Type 0) (xs : List Frame) (x : Frame) (ys : List Frame) → AllByRecursion P (xs ++ x ∷ ys) → P x
of_one P [] x ys h = h.0
of_one P (y ∷ xs) x ys h = of_one P xs x ys h.1

frames_short : (before : Option MuxConfig) (text : List ℕ) (es : List MuxElement) (rest : List ℕ) → Carries before text es rest → AllByRecursion (IsShort 8191) (frames_from before es)
frames_short before text [] rest c = tt
frames_short before text (e ∷ es) rest c =
    let own = then_in_force before e.config in
    all_append (IsShort 8191) (frames_under own (is_some e.config) e.slots) (frames_from own es) (element_short before e c.0 own (is_some e.config) 8191 c.4 c.2) (frames_short own c.1 es rest c.5)

-- so is the one that was given
pub small : (got : List ℕ) (given : List Frame) (old new : Reading) (before now : Seen) (result : Result (Option Event) StreamFault) → Reads got given old new before now result → IsSmall result
small got given old new before now (Ok None) r = tt
small got given old new before now (Err fault) r = tt
small got given old new before now (Ok (Some event)) r =
    let k = r.leaves in
    let h = k.2.holds in
    let each = frames_short None (got ++ r.more) h.elements new.framer.held h.carried in
    let p = subst (λ (x : List Frame). AllByRecursion (IsShort 8191) x) (h.frames ∙ Rattle.std.proofs.Common.append_assoc given (k.0 ∷ []) (Rattle.au_stream.specs.Reading.pending_frames new)) each in
    omega (arith, of_one (IsShort 8191) given k.0 (Rattle.au_stream.specs.Reading.pending_frames new) p, ap (λ (x : List ℕ). length x) k.1.au)
