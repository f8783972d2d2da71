-- Access units that still stand in the LOAS frame that the reader holds.
use Rattle.std.proofs.Common.{◌≡◌, ℕ, zero, suc, ◌+◌, ◌*◌, ◌<◌, ◌≤◌, Bool, false, List, [], ◌∷◌, length, get_or, drop, Option, Some, None, refl, sym, ap, subst, ◌∙◌, arith}
use Rattle.std.specs.Prelude.{is_some, slice_get}
use Rattle.std.proofs.lemmas.List.{length-drop, drop_more, drop_all, length-map}
use Rattle.std.proofs.lemmas.Option.{slice_get_within, get_or_from_slice_get}
use Rattle.layout.specs.Text.{bits_of}
use Rattle.layout.specs.Layout.{FitsOption}
use Rattle.loas.specs.Framing.{BeginsWithFrame}
use Rattle.loas.specs.Framer.{Framer, past_frame, pushed}
use Rattle.loas.proofs.Given.{begins-length}
use Rattle.latm.specs.declared.fault.MuxFault.{MuxFault}
use Rattle.latm.specs.Faults.{is_memory}
use Rattle.latm.specs.declared.mux_config.MuxConfig.{MuxConfig}
use Rattle.latm.specs.declared.slot_place.SlotPlace.{SlotPlace}
use Rattle.latm.specs.MuxElement.{element, then_in_force}
use Rattle.latm.specs.MuxConfig.{IsWellFormed}
use Rattle.latm.specs.Places.{IsWithin, AreWithin, slot_at, slots_at, HasPlaces}
use Rattle.latm.specs.declared.places.Places.{Places}
use Rattle.au_stream.specs.declared.event.Event.{Event}
use Rattle.au_stream.specs.Elements.{IsElement}
use Rattle.au_stream.specs.Reading.{Reading}
use Rattle.au_stream.specs.Giving.{Tells, Unread, Gave, past, refused_element}
use Rattle.au_stream.specs.Held.{front_body, behind_read, slots_of, AreHeld, HoldsSlots, FoundSlots, IsNext, Passed, Opened}
use Rattle.au_stream.specs.declared.event.EventHead.{EventHead}
use Rattle.au_stream.specs.declared.event.Found.{Found}
use Rattle.au_stream.specs.Views.{next_au, next_event, after_next}
use Rattle.au_stream.proofs.Counting.{some_in_force, slots_fit}
use Rattle.au_stream.proofs.Steps.{untaken}

-- ---- lists

pub none_left : {A : Type 0} (xs : List A) (k : ℕ) → k ≤ length xs → drop k xs ≡ [] → k ≡ length xs
none_left xs k le e = omega (arith, length-drop k xs, ap length e)

-- ---- slots that are still to be given

pub no_slots : (places : List SlotPlace) (n : ℕ) (framer : Framer) → slots_of places n framer ≡ [] → places ≡ []
no_slots [] n framer e = refl
no_slots (p ∷ places) n framer e = absurd cc

pub some_slots : (places : List SlotPlace) (n : ℕ) (framer : Framer) → 0 < length (slots_of places n framer) → 0 < length places
some_slots [] n framer lt = absurd (omega arith)
some_slots (p ∷ places) n framer lt = omega arith

pub behind_some : (places : List SlotPlace) (n : ℕ) (framer : Framer) → 0 < length places → behind_read places n framer ≡ past_frame n framer
behind_some [] n framer lt = absurd (omega arith)
behind_some (p ∷ places) n framer lt = refl

pub held_some : (places : List SlotPlace) (n : ℕ) (framer : Framer) → 0 < length places → AreHeld places n framer → BeginsWithFrame n framer.held × AreWithin (8 * n) places
held_some [] n framer lt h = absurd (omega arith)
held_some (p ∷ places) n framer lt h = h

pub are_held : (places : List SlotPlace) (n : ℕ) (framer : Framer) → BeginsWithFrame n framer.held → AreWithin (8 * n) places → AreHeld places n framer
are_held [] n framer b w = tt
are_held (p ∷ places) n framer b w = (b, w)

-- the next place, and the others
place_split : (slots : List SlotPlace) (given : ℕ) → given < length slots → (p : SlotPlace) × (drop given slots ≡ p ∷ drop (given + 1) slots)
place_split [] given lt = absurd (omega arith)
place_split (p ∷ slots) zero lt = (p, refl)
place_split (p ∷ slots) (suc given) lt =
    let more = place_split slots given (omega arith) in
    let k : suc given + 1 ≡ suc (given + 1) = omega arith in
    (more.0, more.1 ∙ ap (λ (m : ℕ). more.0 ∷ drop m (p ∷ slots)) (sym k))

pub next_place : (slots : List SlotPlace) (given : ℕ) (p : SlotPlace) → slice_get slots given ≡ Some p → (given < length slots) × (drop given slots ≡ p ∷ drop (given + 1) slots)
next_place slots given p e =
    let lt = slice_get_within slots given p e in
    (lt, drop_more slots given p lt ∙ ap (λ (x : SlotPlace). x ∷ drop (given + 1) slots) (get_or_from_slice_get slots given p p e))

pub never_none : (slots : List SlotPlace) (given : ℕ) → given < length slots → slice_get slots given ≡ None → ⊥
never_none [] given lt e = omega arith
never_none (p ∷ slots) zero lt e = cc
never_none (p ∷ slots) (suc given) lt e = never_none slots given (omega arith) e

-- ---- a reader, by its fields

-- of the last element these places are left
abbrev pub reading : List SlotPlace → ℕ → Framer → Option MuxConfig → ℕ → Bool → Reading
reading left n framer in_force count failed = record { framer = behind_read left n framer; in_force = in_force; pending = slots_of left n framer; opens = false; changed = false; count = count; failed = failed }

-- nothing is left of it
abbrev pub idle : Framer → Option MuxConfig → ℕ → Bool → Reading
idle framer in_force count failed = record { framer = framer; in_force = in_force; pending = []; opens = false; changed = false; count = count; failed = failed }

pub idle_is : (left : List SlotPlace) (n : ℕ) (framer : Framer) (in_force : Option MuxConfig) (count : ℕ) (failed : Bool) → left ≡ [] → reading left n framer in_force count failed ≡ idle framer in_force count failed
idle_is left n framer in_force count failed none = ap (λ (l : List SlotPlace). reading l n framer in_force count failed) none

pub front_here : (left : List SlotPlace) (m n : ℕ) (framer : Framer) → left ≡ [] → BeginsWithFrame n (behind_read left m framer).held → BeginsWithFrame n framer.held
front_here left m n framer none b = subst (λ (l : List SlotPlace). BeginsWithFrame n (behind_read l m framer).held) none b

pub pushed_past : (n : ℕ) (framer : Framer) → BeginsWithFrame n framer.held → pushed (past_frame n framer) ≡ pushed framer
pushed_past n framer b = omega (arith, b.long, length-drop (3 + n) framer.held)

-- the element at the front was not read
pub unread : (left : List SlotPlace) (m n : ℕ) (framer : Framer) (in_force : Option MuxConfig) (count : ℕ) (failed : Bool) (body : List ℕ) (fault : MuxFault) → left ≡ [] → body ≡ front_body n framer
    → (is_memory fault ≡ false → (let L = element in_force in L.Faults 0 fault (bits_of body))) → Unread n (reading left m framer in_force count failed) (refused_element count fault)
unread left m n framer in_force count failed body fault none same bad =
    let front : behind_read left m framer ≡ framer = ap (λ (l : List SlotPlace). behind_read l m framer) none in
    untaken n (reading left m framer in_force count failed) fault (λ free.
    subst (λ (f : Framer). let L = element in_force in L.Faults 0 fault (bits_of (front_body n f))) (sym front)
    (subst (λ (b : List ℕ). let L = element in_force in L.Faults 0 fault (bits_of b)) same (bad free)))

slots_some : (before : Option MuxConfig) (body : List ℕ) (p : Places) → HasPlaces before body p → 0 < length p.slots
slots_some before body p h =
    let is : IsElement before h.whole body = record { fits = h.fits; spelled = h.spelled } in
    omega (arith, (some_in_force before h.whole body is).2, ap (λ (x : List (List ℕ)). length x) h.slots, length-map p.slots (slot_at (bits_of body)))

slots_few : (before : Option MuxConfig) (body : List ℕ) (p : Places) → HasPlaces before body p → length p.slots ≤ length body
slots_few before body p h =
    let is : IsElement before h.whole body = record { fits = h.fits; spelled = h.spelled } in
    omega (arith, slots_fit before h.whole body is, ap (λ (x : List (List ℕ)). length x) h.slots, length-map p.slots (slot_at (bits_of body)))

-- the slots of the element at the front were found
pub found : (left : List SlotPlace) (m n : ℕ) (framer : Framer) (in_force : Option MuxConfig) (count : ℕ) (failed : Bool) (body : List ℕ) (p : Places) → left ≡ [] → body ≡ front_body n framer → HasPlaces in_force body p
    → FoundSlots n (reading left m framer in_force count failed) (reading p.slots n framer in_force count failed) p.config
found left m n framer in_force count failed body p none same h =
    let e = h.whole in
    let is : IsElement in_force e body = record { fits = h.fits; spelled = h.spelled } in
    let front : behind_read left m framer ≡ framer = ap (λ (l : List SlotPlace). behind_read l m framer) none in
    let framers : behind_read p.slots n framer ≡ past_frame n (behind_read left m framer) = behind_some p.slots n framer (slots_some in_force body p h) ∙ ap (past_frame n) (sym front) in
    let slots : slots_of p.slots n framer ≡ e.slots = ap (λ (b : List ℕ). slots_at (bits_of b) p.slots) (sym same) ∙ h.slots in
    record {
      whole = e;
      is = subst (λ (f : Framer). IsElement in_force e (front_body n f)) (sym front) (subst (λ (b : List ℕ). IsElement in_force e b) same is);
      own = h.config;
      left = ap (λ (f : Framer). record { framer = f; in_force = in_force; pending = slots_of p.slots n framer; opens = false; changed = false; count = count; failed = failed }) framers
          ∙ ap (λ (s : List (List ℕ)). record { framer = past_frame n (behind_read left m framer); in_force = in_force; pending = s; opens = false; changed = false; count = count; failed = failed }) slots;
      shut = refl;
      still = refl;
    }

pub holds_found : (left : List SlotPlace) (m n count : ℕ) (framer : Framer) (in_force : Option MuxConfig) (body : List ℕ) (p : Places) → left ≡ [] → body ≡ front_body n framer → BeginsWithFrame n framer.held → HasPlaces in_force body p
    → count + length left ≤ (behind_read left m framer).passed → HoldsSlots p.slots 0 n count framer
holds_found left m n count framer in_force body p none same b h counted =
    let long : length body ≡ n = ap (λ (x : List ℕ). length x) same ∙ begins-length n framer.held b in
    let few = slots_few in_force body p h in
    let front : (behind_read left m framer).passed ≡ framer.passed = ap (λ (l : List SlotPlace). (behind_read l m framer).passed) none in
    let behind : (behind_read p.slots n framer).passed ≡ framer.passed + (3 + n) = ap (λ (f : Framer). f.passed) (behind_some p.slots n framer (slots_some in_force body p h)) in
    record {
      few = omega (arith, few, long, b.fits);
      within = omega arith;
      held = are_held p.slots n framer b (subst (λ (k : ℕ). AreWithin (8 * k) p.slots) long h.within);
      counted = omega (arith, few, long, counted, front, behind);
    }

pub well_formed : (before : Option MuxConfig) (body : List ℕ) (p : Places) → HasPlaces before body p → FitsOption IsWellFormed p.config
well_formed before body p h = subst (λ (o : Option MuxConfig). FitsOption IsWellFormed o) (sym h.config) h.fits.0.1.1

pub some_pending : (before : Option MuxConfig) (body : List ℕ) (p : Places) (n : ℕ) (framer : Framer) → HasPlaces before body p → 0 < length (slots_of p.slots n framer)
some_pending before body p n framer h = omega (arith, slots_some before body p h, length-map p.slots (slot_at (bits_of (front_body n framer))))

-- ---- the next slot

pub is_left : (slots : List SlotPlace) (given n : ℕ) (framer : Framer) → 0 < length (slots_of (drop given slots) n framer) → given < length slots
is_left slots given n framer some = omega (arith, some, length-map (drop given slots) (slot_at (bits_of (front_body n framer))), length-drop given slots)

pub some_left : (slots : List SlotPlace) (given n : ℕ) (framer : Framer) → given < length slots → 0 < length (slots_of (drop given slots) n framer)
some_left slots given n framer lt = omega (arith, lt, length-map (drop given slots) (slot_at (bits_of (front_body n framer))), length-drop given slots)

-- it was copied
pub is_next : (slots : List SlotPlace) (given n : ℕ) (framer : Framer) (in_force : Option MuxConfig) (count : ℕ) (failed : Bool) (p : SlotPlace) (body au : List ℕ) → slice_get slots given ≡ Some p → body ≡ front_body n framer → au ≡ slot_at (bits_of body) p
    → IsNext (reading (drop given slots) n framer in_force count failed) au
is_next slots given n framer in_force count failed p body au here same copied = record {
  rest = slots_of (drop (given + 1) slots) n framer;
  pending = ap (λ (l : List SlotPlace). slots_of l n framer) (next_place slots given p here).1 ∙ ap (λ (x : List ℕ). x ∷ slots_of (drop (given + 1) slots) n framer) (sym (copied ∙ ap (λ (b : List ℕ). slot_at (bits_of b) p) same));
}

-- it stands in the frame at the front
pub next_held : (slots : List SlotPlace) (given n count : ℕ) (framer : Framer) → HoldsSlots slots given n count framer → given < length slots → BeginsWithFrame n framer.held × AreWithin (8 * n) (drop given slots)
next_held slots given n count framer h lt = held_some (drop given slots) n framer (omega (arith, lt, length-drop given slots)) h.held

pub next_within : (slots : List SlotPlace) (given n count : ℕ) (framer : Framer) (p : SlotPlace) (body : List ℕ) → HoldsSlots slots given n count framer → slice_get slots given ≡ Some p → body ≡ front_body n framer
    → (length body ≤ 16777216) × IsWithin (8 * length body) p
next_within slots given n count framer p body h here same =
    let next = next_place slots given p here in
    let held = next_held slots given n count framer h next.0 in
    let long : length body ≡ n = ap (λ (x : List ℕ). length x) same ∙ begins-length n framer.held held.0 in
    let each : AreWithin (8 * n) (p ∷ drop (given + 1) slots) = subst (λ (l : List SlotPlace). AreWithin (8 * n) l) next.1 held.1 in
    (omega (arith, long, held.0.fits), omega (arith, long, each.0))

-- it was passed
rest_of : (slots : List SlotPlace) (given n : ℕ) (framer now : Framer) (in_force : Option MuxConfig) (count : ℕ) (failed : Bool) → given < length slots → slots_of (drop (given + 1) slots) n now ≡ slots_of (drop (given + 1) slots) n framer
    → behind_read (drop (given + 1) slots) n now ≡ behind_read (drop given slots) n framer → Passed (reading (drop given slots) n framer in_force count failed) (reading (drop (given + 1) slots) n now in_force (count + 1) failed)
rest_of slots given n framer now in_force count failed lt same behind =
    let first = place_split slots given lt in
    let rest = slots_of (drop (given + 1) slots) n framer in
    record {
      slot = slot_at (bits_of (front_body n framer)) first.0;
      rest = rest;
      pending = ap (λ (l : List SlotPlace). slots_of l n framer) first.1;
      left = ap (λ (f : Framer). record { framer = f; in_force = in_force; pending = slots_of (drop (given + 1) slots) n now; opens = false; changed = false; count = count + 1; failed = failed }) behind
          ∙ ap (λ (s : List (List ℕ)). record { framer = behind_read (drop given slots) n framer; in_force = in_force; pending = s; opens = false; changed = false; count = count + 1; failed = failed }) same;
    }

pub passed_more : (slots : List SlotPlace) (given n : ℕ) (framer : Framer) (in_force : Option MuxConfig) (count : ℕ) (failed : Bool) → given + 1 < length slots
    → Passed (reading (drop given slots) n framer in_force count failed) (reading (drop (given + 1) slots) n framer in_force (count + 1) failed)
passed_more slots given n framer in_force count failed lt =
    rest_of slots given n framer framer in_force count failed (omega arith) refl
    (behind_some (drop (given + 1) slots) n framer (omega (arith, length-drop (given + 1) slots)) ∙ sym (behind_some (drop given slots) n framer (omega (arith, length-drop given slots))))

pub passed_last : (slots : List SlotPlace) (given n : ℕ) (framer : Framer) (in_force : Option MuxConfig) (count : ℕ) (failed : Bool) → given + 1 ≡ length slots
    → Passed (reading (drop given slots) n framer in_force count failed) (reading (drop (given + 1) slots) n (past_frame n framer) in_force (count + 1) failed)
passed_last slots given n framer in_force count failed last =
    let none : drop (given + 1) slots ≡ [] = drop_all (given + 1) slots (omega arith) in
    let slots_none = λ (f : Framer). ap (λ (l : List SlotPlace). slots_of l n f) none in
    rest_of slots given n framer (past_frame n framer) in_force count failed (omega arith) (slots_none (past_frame n framer) ∙ sym (slots_none framer))
    (ap (λ (l : List SlotPlace). behind_read l n (past_frame n framer)) none ∙ sym (behind_some (drop given slots) n framer (omega (arith, length-drop given slots))))

pub holds_more : (slots : List SlotPlace) (given n count : ℕ) (framer : Framer) → HoldsSlots slots given n count framer → given + 1 < length slots → HoldsSlots slots (given + 1) n (count + 1) framer
holds_more slots given n count framer h lt =
    let first = place_split slots given (omega arith) in
    let held = next_held slots given n count framer h (omega arith) in
    let each : AreWithin (8 * n) (first.0 ∷ drop (given + 1) slots) = subst (λ (l : List SlotPlace). AreWithin (8 * n) l) first.1 held.1 in
    let behind : (behind_read (drop (given + 1) slots) n framer).passed ≡ (behind_read (drop given slots) n framer).passed =
    ap (λ (f : Framer). f.passed) (behind_some (drop (given + 1) slots) n framer (omega (arith, length-drop (given + 1) slots)) ∙ sym (behind_some (drop given slots) n framer (omega (arith, length-drop given slots)))) in
    record {
      few = h.few;
      within = omega arith;
      held = are_held (drop (given + 1) slots) n framer held.0 each.1;
      counted = omega (arith, h.counted, behind, length-drop given slots, length-drop (given + 1) slots);
    }

pub holds_last : (slots : List SlotPlace) (given n count : ℕ) (framer : Framer) → HoldsSlots slots given n count framer → given + 1 ≡ length slots → HoldsSlots slots (given + 1) n (count + 1) (past_frame n framer)
holds_last slots given n count framer h last =
    let none : drop (given + 1) slots ≡ [] = drop_all (given + 1) slots (omega arith) in
    let before : (behind_read (drop given slots) n framer).passed ≡ framer.passed + (3 + n) = ap (λ (f : Framer). f.passed) (behind_some (drop given slots) n framer (omega (arith, length-drop given slots))) in
    let behind : (behind_read (drop (given + 1) slots) n (past_frame n framer)).passed ≡ framer.passed + (3 + n) = ap (λ (l : List SlotPlace). (behind_read l n (past_frame n framer)).passed) none in
    record {
      few = h.few;
      within = omega arith;
      held = subst (λ (l : List SlotPlace). AreHeld l n (past_frame n framer)) (sym none) tt;
      counted = omega (arith, h.counted, before, behind, length-drop given slots, length-drop (given + 1) slots);
    }

-- ---- an access unit

-- one of the element that was read before
pub gave : (old new : Reading) (au : List ℕ) (event : Event) → old.opens ≡ false → old.changed ≡ false → IsNext old au → Passed old new → event ≡ record { frame = old.count; changed = false; opens = false; au = au } → Gave old new event
gave old new au event shut still next p is =
    let slots : au ∷ next.rest ≡ p.slot ∷ p.rest = sym next.pending ∙ p.pending in
    let unit : p.slot ≡ event.au = let same : p.slot ≡ au = cc in same ∙ sym (ap (λ (e : Event). e.au) is) in
    record {
      rest = p.rest;
      pending = p.pending ∙ ap (λ (x : List ℕ). x ∷ p.rest) unit;
      number = ap (λ (e : Event). e.frame) is;
      changed = ap (λ (e : Event). e.changed) is ∙ sym still;
      opens = ap (λ (e : Event). e.opens) is ∙ sym shut;
      left = p.left ∙ ap (λ (b : Bool). record old { pending = p.rest; opens = b; count = old.count + 1 }) shut ∙ ap (λ (b : Bool). record old { pending = p.rest; opens = false; changed = b; count = old.count + 1 }) still;
    }

-- the first one of an element
pub opened : (n : ℕ) (old held put new : Reading) (config : Option MuxConfig) (au : List ℕ) (opens changed : Bool) (event : Event) → FoundSlots n old held config → IsNext held au
    → put ≡ record held { in_force = then_in_force held.in_force config } → Tells changed held.in_force config → opens ≡ is_some config → Passed put new → event ≡ record { frame = put.count; changed = changed; opens = opens; au = au } → Opened n old new event
opened n old held put new config au opens changed event f next is tells some p made =
    let e = f.whole in
    let between : Reading = record (past n old) { in_force = then_in_force old.in_force e.config; pending = e.slots; opens = is_some e.config; changed = changed } in
    let force : held.in_force ≡ old.in_force = ap (λ (r : Reading). r.in_force) f.left in
    let put_is : put ≡ record (past n old) { in_force = then_in_force old.in_force e.config; pending = e.slots } =
    is ∙ ap (λ (r : Reading). record r { in_force = then_in_force r.in_force config }) f.left ∙ ap (λ (o : Option MuxConfig). record (past n old) { in_force = then_in_force old.in_force o; pending = e.slots }) f.own in
    let slots : au ∷ next.rest ≡ p.slot ∷ p.rest = sym next.pending ∙ ap (λ (r : Reading). r.pending) (f.left) ∙ sym (ap (λ (r : Reading). r.pending) put_is) ∙ p.pending in
    let unit : p.slot ≡ event.au = let same : p.slot ≡ au = cc in same ∙ sym (ap (λ (x : Event). x.au) made) in
    let tells_old : Tells changed old.in_force e.config = subst (λ (o : Option MuxConfig). Tells changed old.in_force o) f.own (subst (λ (o : Option MuxConfig). Tells changed o config) force tells) in
    record {
      between = between;
      took = record { element = e; is = f.is; changed = tells_old; held = refl };
      gave = record {
        rest = p.rest;
        pending = sym (ap (λ (r : Reading). r.pending) put_is) ∙ p.pending ∙ ap (λ (x : List ℕ). x ∷ p.rest) unit;
        number = ap (λ (x : Event). x.frame) made ∙ ap (λ (r : Reading). r.count) put_is;
        changed = ap (λ (x : Event). x.changed) made;
        opens = ap (λ (x : Event). x.opens) made ∙ some ∙ ap (λ (o : Option MuxConfig). is_some o) f.own;
        left = p.left ∙ ap (λ (r : Reading). record r { pending = p.rest; count = r.count + 1 }) put_is
            ∙ ap (λ (b : Bool). record (past n old) { in_force = then_in_force old.in_force e.config; pending = p.rest; opens = b; count = old.count + 1 }) f.shut
            ∙ ap (λ (b : Bool). record (past n old) { in_force = then_in_force old.in_force e.config; pending = p.rest; opens = false; changed = b; count = old.count + 1 }) f.still;
      };
    }

-- ---- the next one, where it is found and not yet passed

split_first : (xs : List (List ℕ)) → 0 < length xs → xs ≡ get_or xs 0 [] ∷ drop 1 xs
split_first [] lt = absurd (omega arith)
split_first (x ∷ xs) lt = refl

pub next_is_next : (r : Reading) → 0 < length r.pending → IsNext r (next_au r)
next_is_next r lt = record { rest = drop 1 r.pending; pending = split_first r.pending lt }

pub next_passed : (r : Reading) → 0 < length r.pending → Passed r (after_next r)
next_passed r lt = record { slot = next_au r; rest = drop 1 r.pending; pending = split_first r.pending lt; left = refl }

pub passed_is : (old new : Reading) → Passed old new → new ≡ after_next old
passed_is old new p = p.left ∙ ap (λ (xs : List (List ℕ)). record old { pending = xs; count = old.count + 1 }) (sym (ap (λ (xs : List (List ℕ)). drop 1 xs) p.pending))

pub next_is : (r : Reading) (au : List ℕ) → IsNext r au → au ≡ next_au r
next_is r au n = sym (ap (λ (xs : List (List ℕ)). get_or xs 0 []) n.pending)

-- one of the element that was read before
pub gave_found : (r : Reading) (found : Found) → 0 < length r.pending → r.opens ≡ false → r.changed ≡ false → found.head ≡ record { frame = r.count; changed = false; opens = false } → Gave r (after_next r) (next_event r found.head)
gave_found r found some shut still is =
    gave r (after_next r) (next_au r) (next_event r found.head) shut still (next_is_next r some) (next_passed r some) (ap (λ (h : EventHead). next_event r h) is)

-- the first one of an element
pub opened_found : (n : ℕ) (old held put : Reading) (config : Option MuxConfig) (opens changed : Bool) (head : EventHead) → FoundSlots n old held config → 0 < length held.pending
    → put ≡ record held { in_force = then_in_force held.in_force config } → Tells changed held.in_force config → opens ≡ is_some config → head ≡ record { frame = put.count; changed = changed; opens = opens } → Opened n old (after_next put) (next_event put head)
opened_found n old held put config opens changed head f some is tells there made =
    let same : put.pending ≡ held.pending = ap (λ (r : Reading). r.pending) is in
    let more : 0 < length put.pending = omega (arith, some, ap (λ (xs : List (List ℕ)). length xs) same) in
    opened n old held put (after_next put) config (next_au put) opens changed (next_event put head) f (subst (λ (xs : List (List ℕ)). IsNext held (get_or xs 0 [])) (sym same) (next_is_next held some)) is tells there (next_passed put more) (ap (λ (h : EventHead). next_event put h) made)
