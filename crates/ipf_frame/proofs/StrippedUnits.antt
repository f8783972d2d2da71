-- An access unit without its preroll: it is the relation on bits, its unit stays, and a target is what it was.
use Rattle.std.proofs.Common.{◌≡◌, ℕ, ◌-◌, ◌%◌, ◌<◌, ◌≤◌, Bool, true, false, List, ◌++◌, length, take, drop, replicate, refl, sym, ap, subst, ◌∙◌, arith}
use Rattle.std.specs.Prelude.{◌&&◌, slice_get, nat_lt, if◌then◌else◌}
use Rattle.std.specs.Option.{option_map_or}
use Rattle.std.specs.List.{AllByRecursion}
use Rattle.std.proofs.lemmas.Bool.Decides.{nat_tests}
use Rattle.std.proofs.lemmas.List.{take-append-drop}
use Rattle.std.proofs.lemmas.List.Elements.{All-from_recursion}
use Rattle.layout.specs.Text.{bits_of, pad}
use Rattle.usac_cfg.specs.declared.usac_config.UsacConfig.{UsacConfig}
use Rattle.usac_cfg.specs.UsacConfig.{declares_preroll}
use Rattle.usac_frame.specs.declared.frame.Frame.{Frame}
use Rattle.usac_frame.specs.declared.part.ExtPart.{ExtPart}
use Rattle.usac_frame.specs.declared.part.ExtPart.TheVariants.{Absent}
use Rattle.usac_frame.specs.AccessUnit.{IsFrame, unit_in}
use Rattle.usac_frame.specs.Frame.{leading_exts, frame_text}
use Rattle.usac_frame.specs.Laws.{with_zeros}
use Rattle.usac_frame.specs.Units.{UnitValue, part_bytes, payload_length, is_whole, is_immediate, unit_of}
use Rattle.bit_core.specs.Trim.{trimmed}
use Rattle.ipf_frame.specs.declared.stripping.Tail.{Tail}
use Rattle.ipf_frame.specs.declared.stripping.Tail.TheVariants.{Undo, Keep}
use Rattle.ipf_frame.specs.Frames.{with_first, frame_bytes, new_part}
use Rattle.ipf_frame.specs.Slot.{IsTarget}
use Rattle.ipf_frame.specs.StripLaws.{StrippedIsMade, StrippedUnitsStay, TargetsAreStripped, StrippedAreFew}
use Rattle.ipf_frame.specs.Stripping.{spare_bits, shortened, stripped_frame, stripped_slot, ends_in_zeros, may_strip, IsStrippedText}
use Rattle.ipf_frame.proofs.BareFrames.{absent_bytes}
use Rattle.ipf_frame.proofs.CarriedUnits.{some_payload, whole, no_payload}
use Rattle.ipf_frame.proofs.CleanBytes.{pad_short, pad_small, frame_bits, frame_back, bare_short}
use Rattle.ipf_frame.proofs.NewParts.{new_fits}
use Rattle.ipf_frame.proofs.ShortFrames.{pad_none, same_front, zeros_end, zeros_long, zeros_cut, zeros_found, short_text, short_long, short_few}
use Rattle.ipf_frame.proofs.StrippedFrames.{text_long, text_whole, slot_is, may_is}
use Rattle.ipf_frame.proofs.Undone.{absent_again}
use Rattle.ipf_frame.proofs.WrittenFrames.{parts_fit, core_kept, zeros_behind, unit_behind, written, unit_is}

-- ---- it is the relation on bits

module _ (c : UsacConfig) (au : List ℕ) (f : Frame) (is : IsFrame c au f) where
  undo_text : may_strip Undo c au ≡ true → IsStrippedText Undo c f (stripped_slot Undo c au)
  undo_text may =
      let n = spare_bits c f in
      let g = with_first Absent f in
      let s = shortened n g in
      let z = zeros_end n f.rest (sym (may_is Undo c au f is) ∙ may) in
      let text : frame_text c g ≡ frame_text c s ++ replicate n false = short_text c n g ∙ ap (λ (t : List Bool). frame_text c s ++ t) z.1 in
      let full : length (frame_text c s) % 8 ≡ 0 = omega (arith, short_long c n g z.0) in
      let bits : bits_of (stripped_slot Undo c au) ≡ frame_text c s = ap (λ (xs : List ℕ). bits_of xs) (slot_is Undo c au f is) ∙ (frame_bits c s ∙ pad_none (frame_text c s) full) in
      (z.0, text ∙ ap (λ (t : List Bool). t ++ replicate n false) (sym bits))

  tail_text : (tail : Tail) → may_strip tail c au ≡ true → IsStrippedText tail c f (stripped_slot tail c au)
  tail_text Undo may = undo_text may
  tail_text Keep may = ap (λ (xs : List ℕ). bits_of xs) (slot_is Keep c au f is) ∙ frame_bits c (with_first Absent f)

pub stripped_is_made : StrippedIsMade
stripped_is_made tail c au f is immediate may = record { frame = f; is = is; immediate = immediate; text = tail_text c au f is tail may }

-- ---- the unit stays

immediate_declares : (c : UsacConfig) (f : Frame) → is_immediate c f ≡ true → declares_preroll c ≡ true
immediate_declares c f h = by_declared (declares_preroll c) (is_whole f) (option_map_or part_bytes (slice_get f.leading 0) 0) h
  where
    by_declared : (b w : Bool) (n : ℕ) → (nat_lt 0 (if b then n else 0) && w) ≡ true → b ≡ true
    by_declared true w n e = refl
    by_declared false w n e = absurd (let never : false ≡ true = e in cc)

bare_unit : (c : UsacConfig) (f : Frame) → declares_preroll c ≡ true → unit_of c (with_first Absent f) ≡ unit_of c f
bare_unit c f declared = ap (λ (t : List Bool). let u : UnitValue = record { independent = f.independent; bits = trimmed t } in u) (core_kept c f Absent declared)

abbrev KeptUnit : UsacConfig → List ℕ → List ℕ → Type 0
KeptUnit c au new = (unit_in c new ≡ unit_in c au) × ((g : Frame) × IsFrame c new g × (payload_length c g ≡ 0))

module _ (c : UsacConfig) (au new : List ℕ) (f : Frame) (is : IsFrame c au f) (declared : declares_preroll c ≡ true) where
  keep_kept : IsStrippedText Keep c f new → KeptUnit c au new
  keep_kept text =
      let w = written c f Absent new declared is.fits (λ e. tt) text in
      (w.unit ∙ sym (unit_is c au f is), (with_zeros (with_first Absent f) w.zeros, w.is, absent_bytes c f w.zeros))

  undo_kept : IsStrippedText Undo c f new → KeptUnit c au new
  undo_kept (le, text) =
      let n = spare_bits c f in
      let g = with_first Absent f in
      let s = shortened n g in
      let last = drop (length f.rest - n) f.rest in
      let both : frame_text c s ++ last ≡ bits_of new ++ replicate n false = sym (short_text c n g) ∙ text in
      let long : length (frame_text c s) ≡ length (bits_of new) = omega (arith, short_long c n g le, ap (λ (t : List Bool). length t) text, zeros_long (bits_of new) n) in
      let same = same_front (frame_text c s) (bits_of new) last (replicate n false) both long in
      let new_is : IsFrame c new s = record { fits = parts_fit (leading_exts c) f.leading Absent (λ e. tt) is.fits; spelled = sym same.0 } in
      let back : frame_text c g ≡ frame_text c (with_zeros s n) = short_text c n g ∙ (ap (λ (t : List Bool). frame_text c s ++ t) same.1 ∙ zeros_behind c s n) in
      let rest : f.rest ≡ take (length f.rest - n) f.rest ++ replicate n false = sym (take-append-drop (length f.rest - n) f.rest) ∙ ap (λ (t : List Bool). take (length f.rest - n) f.rest ++ t) same.1 in
      let whole_is : g ≡ with_zeros s n = ap (λ (r : List Bool). let x : Frame = record { independent = f.independent; leading = g.leading; rest = r } in x) rest in
      let unit : unit_of c s ≡ unit_of c f = sym (unit_behind c s n) ∙ (ap (λ (x : Frame). unit_of c x) (sym whole_is) ∙ bare_unit c f declared) in
      (unit_is c new s new_is ∙ (unit ∙ sym (unit_is c au f is)), (s, new_is, absent_bytes c f 0))

  kept : (tail : Tail) → IsStrippedText tail c f new → KeptUnit c au new
  kept Undo text = undo_kept text
  kept Keep text = keep_kept text

pub stripped_units_stay : StrippedUnitsStay
stripped_units_stay tail c au new h = kept c au new h.frame h.is (immediate_declares c h.frame h.immediate) tail h.text

-- ---- a target is what it was

module _ (c : UsacConfig) (fade : Bool) (aus : List (List ℕ)) (au new : List ℕ) (declared : declares_preroll c ≡ true) (t : IsTarget c fade aus au new) where
  abbrev n : ℕ
  n = (8 - length (frame_text c (with_first (new_part t.payload) t.frame)) % 8) % 8

  abbrev g : Frame
  g = with_zeros (with_first (new_part t.payload) t.frame) n

  new_is : IsFrame c new g
  new_is = record { fits = parts_fit (leading_exts c) t.frame.leading (new_part t.payload) (new_fits t.payload t.few t.bytes) t.is.fits; spelled = t.text ∙ zeros_behind c (with_first (new_part t.payload) t.frame) n }

  some : nat_lt 0 (payload_length c g) ≡ true
  some = by_test (nat_lt 0 (payload_length c g)) refl
    where
      none : nat_lt 0 (payload_length c g) ≡ false → payload_length c g ≡ 0
      none e = grind (arith, nat_tests)

      by_test : (b : Bool) → nat_lt 0 (payload_length c g) ≡ b → nat_lt 0 (payload_length c g) ≡ true
      by_test true e = e
      by_test false e = absurd (no_payload t.payload t.preroll (sym (some_payload c t.frame t.payload n declared t.absent) ∙ none e) t.spelled)

  immediate : is_immediate c g ≡ true
  immediate = ap (λ (b : Bool). b && is_whole g) some ∙ whole c t.frame t.payload n declared t.absent

  back : with_first Absent g ≡ with_zeros t.frame n
  back = ap (λ (ps : List ExtPart). let x : Frame = record { independent = t.frame.independent; leading = ps; rest = t.frame.rest ++ replicate n false } in x) (absent_again (new_part t.payload) t.frame.leading t.absent)

  spare : spare_bits c g ≡ n
  spare =
      let text : frame_text c (with_first Absent g) ≡ frame_text c t.frame ++ replicate n false = ap (λ (x : Frame). frame_text c x) back ∙ sym (zeros_behind c t.frame n) in
      let lt : n < 8 = omega arith in
      omega (arith, ap (λ (x : List Bool). length x) text, zeros_long (frame_text c t.frame) n, text_long c au t.frame t.is, lt)

  undone_frame : stripped_frame Undo c g ≡ t.frame
  undone_frame =
      ap (λ (k : ℕ). shortened k (with_first Absent g)) spare
      ∙ (ap (λ (x : Frame). shortened n x) back
      ∙ ap (λ (r : List Bool). let x : Frame = record { independent = t.frame.independent; leading = t.frame.leading; rest = r } in x) (zeros_cut t.frame.rest n))

  may : may_strip Undo c new ≡ true
  may = may_is Undo c new g new_is ∙ (ap (λ (k : ℕ). ends_in_zeros k (t.frame.rest ++ replicate n false)) spare ∙ zeros_found t.frame.rest n)

  same : AllByRecursion (λ b. b < 256) au → stripped_slot Undo c new ≡ au
  same small =
      let text : bits_of au ≡ pad (frame_text c t.frame) = t.is.spelled ∙ sym (pad_none (frame_text c t.frame) (text_whole c au t.frame t.is)) in
      slot_is Undo c new g new_is
      ∙ (ap (λ (x : Frame). frame_bytes c x) undone_frame
      ∙ sym (frame_back c t.frame au au refl (All-from_recursion (λ byte. byte < 256) au small) text))

pub targets_are_stripped : TargetsAreStripped
targets_are_stripped c fade aus au new declared t small =
    ((g c fade aus au new declared t, new_is c fade aus au new declared t, immediate c fade aus au new declared t), may c fade aus au new declared t, same c fade aus au new declared t small)

-- ---- what is left are bytes, and no more of them than there were

pub stripped_small : (tail : Tail) (c : UsacConfig) (au : List ℕ) (f : Frame) → IsFrame c au f → AllByRecursion (λ b. b < 256) (stripped_slot tail c au)
unfolding frame_bytes
stripped_small tail c au f is = subst (λ (xs : List ℕ). AllByRecursion (λ b. b < 256) xs) (sym (slot_is tail c au f is)) (pad_small (frame_text c (stripped_frame tail c f)))

pub stripped_few : (tail : Tail) (c : UsacConfig) (au : List ℕ) (f : Frame) → IsFrame c au f → length (stripped_slot tail c au) ≤ length au
unfolding frame_bytes
stripped_few tail c au f is =
    let le = pad_short (frame_text c (stripped_frame tail c f)) (length au) (omega (arith, text_long c au f is, by_tail tail)) in
    omega (arith, le, ap (λ (xs : List ℕ). length xs) (slot_is tail c au f is))
  where
    by_tail : (tail : Tail) → length (frame_text c (stripped_frame tail c f)) ≤ length (frame_text c f)
    by_tail Undo = omega (arith, short_few c (spare_bits c f) (with_first Absent f), bare_short c f)
    by_tail Keep = bare_short c f

pub stripped_are_few : StrippedAreFew
stripped_are_few tail c au f is = (stripped_small tail c au f is, stripped_few tail c au f is)
