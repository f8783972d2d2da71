-- What is known of a stream where the rules hold.
use Rattle.std.proofs.Common.{◌≡◌, ℕ, zero, suc, ◌≤◌, Bool, true, false, List, [], ◌∷◌, length, Option, Some, None, refl, sym, ap, subst, ◌∙◌}
use Rattle.std.specs.Prelude.{◌||◌, ◌==◌, not, slice_get}
use Rattle.std.specs.List.{AllByRecursion}
use Rattle.std.specs.Option.{option_map, option_map_or, option_or}
use Rattle.std.proofs.lemmas.Bool.{eqb-true}
use Rattle.std.proofs.lemmas.List.{length-map}
use Rattle.usac_cfg.specs.declared.usac_config.UsacConfig.{UsacConfig}
use Rattle.usac_frame.specs.declared.frame.Frame.{Frame}
use Rattle.usac_frame.specs.AccessUnit.{IsFrame, frame_of}
use Rattle.usac_frame.specs.FrameFound.{frame_of_is}
use Rattle.usac_frame.specs.Units.{is_immediate}
use Rattle.latm.specs.declared.stream.Stream.{Stream}
use Rattle.latm.specs.Stream.{IsWellFormed, frames_of, config_in, au_in}
use Rattle.stream_edit.specs.declared.frames.FrameRef.{FrameRef}
use Rattle.stream_edit.specs.Frames.{pair_of, pairs_of}
use Rattle.stream_edit.specs.Edited.{elements_in}
use Rattle.stream_edit.specs.Giving.{IsWritable}
use Rattle.stream_edit.specs.Steps.{AreSmall, TargetsMay}
use Rattle.stream_edit.specs.Targets.{is_target, misplaced}
use Rattle.stream_edit.proofs.Elements.{small_frames}
use Rattle.stream_edit.proofs.Placed.{ArePlaced, placed}
use Rattle.stream_edit.proofs.ShorterSlots.{shorter_is_writable}
use Rattle.ipf_frame.specs.declared.stripping.Tail.{Tail}
use Rattle.ipf_frame.specs.Stripping.{may_strip, stripped_slot}
use Rattle.ipf_frame.proofs.StrippedUnits.{stripped_few}
use Rattle.ipf_strip.specs.declared.fault.StripFault.{StripFault}
use Rattle.ipf_strip.specs.declared.fault.StripFault.TheVariants.{BadTarget, NotImmediate, NotInserted}
use Rattle.ipf_strip.specs.Rules.{frames_rule, list_rule, immediate, fault_if, target_rule, target_at, targets_rule, strip_fault}
use Rattle.ipf_strip.specs.Steps.{AreShort, MayLose}
use Rattle.ipf_strip.specs.Stripping.{slot_of, slot_without}
use Rattle.ipf_strip.proofs.Judged.{frame_passed}
use Rattle.ipf_strip.proofs.Places.{or_none, passes_first}

abbrev Pair : Type 0
Pair = UsacConfig × List ℕ

-- ---- one frame

pub immediate_there : (f : Pair) → immediate f ≡ true → (g : Frame) × IsFrame (config_in f) (au_in f) g × (is_immediate (config_in f) g ≡ true)
immediate_there f e = by_frame (frame_of (config_in f) (au_in f)) refl e
  where
    by_frame : (o : Option Frame) → frame_of (config_in f) (au_in f) ≡ o → option_map_or (is_immediate (config_in f)) o false ≡ true → (g : Frame) × IsFrame (config_in f) (au_in f) g × (is_immediate (config_in f) g ≡ true)
    by_frame None is h = absurd (let never : false ≡ true = h in cc)
    by_frame (Some g) is h = (g, frame_of_is.is (config_in f) (au_in f) g is, h)

pub short_frames : (fs : List Pair) → AreSmall fs → AreShort fs
short_frames [] h = tt
short_frames (f ∷ fs) h = (h.0.0, short_frames fs h.1)

short_at_place : (fs : List Pair) (t : ℕ) (f : Pair) → AreShort fs → slice_get fs t ≡ Some f → length (au_in f) ≤ 8191
short_at_place [] t f h e = absurd (let never : None ≡ Some f = e in cc)
short_at_place (x ∷ fs) zero f h e = let same : x ≡ f = (let s : Some x ≡ Some f = e in cc) in subst (λ (y : Pair). length (au_in y) ≤ 8191) same h.0
short_at_place (x ∷ fs) (suc t) f h e = short_at_place fs t f h.1 e

-- ---- the targets

set : (b : Bool) (x : StripFault) → fault_if (not b) x ≡ None → b ≡ true
set true x e = refl
set false x e = absurd (let never : Some x ≡ None = e in cc)

target_passed : (tail : Tail) (fs : List Pair) (targets : List ℕ) (t : ℕ) → targets_rule tail fs targets ≡ None → is_target targets t ≡ true → target_at tail t (slice_get fs t) ≡ None
target_passed tail fs [] t e is = absurd (let never : false ≡ true = is in cc)
target_passed tail fs (x ∷ targets) t e is =
    let p = or_none (target_at tail x (slice_get fs x)) (targets_rule tail fs targets) e in
    by_first (x == t) refl p.0 (target_passed tail fs targets t p.1)
  where
    by_first : (b : Bool) → (x == t) ≡ b → target_at tail x (slice_get fs x) ≡ None → (is_target targets t ≡ true → target_at tail t (slice_get fs t) ≡ None) → target_at tail t (slice_get fs t) ≡ None
    by_first true q first more = subst (λ (n : ℕ). target_at tail n (slice_get fs n) ≡ None) (eqb-true x t q) first
    by_first false q first more = more (sym (ap (λ (b : Bool). b || is_target targets t) q) ∙ is)

pub may_lose : (tail : Tail) (fs : List Pair) (targets : List ℕ) → AreShort fs → targets_rule tail fs targets ≡ None → TargetsMay (MayLose tail fs) targets fs
may_lose tail fs targets short e t f at is =
    let own : target_rule tail t f ≡ None = sym (ap (λ (o : Option Pair). target_at tail t o) at) ∙ target_passed tail fs targets t e is in
    let p = or_none (fault_if (not (immediate f)) (NotImmediate t)) (fault_if (not (may_strip tail (config_in f) (au_in f))) (NotInserted t)) own in
    record {
      is = at;
      short = short_at_place fs t f short at;
      immediate = set (immediate f) (NotImmediate t) p.0;
      may = set (may_strip tail (config_in f) (au_in f)) (NotInserted t) p.1;
    }

-- ---- the list

not_mapped : (o : Option ℕ) → option_map BadTarget o ≡ None → o ≡ None
not_mapped None e = refl
not_mapped (Some place) e = absurd (let never : Some (BadTarget place) ≡ None = e in cc)

pub listed : (n : ℕ) (targets : List ℕ) → list_rule n targets ≡ None → ArePlaced n 0 targets
listed n targets e = placed n 0 0 targets (not_mapped (misplaced n targets) e)

-- ---- the stream

pub record Passed (s : Stream) (tail : Tail) (targets : List ℕ) : Type 0 where
  pub frames : frames_rule 0 (frames_of s) ≡ None
  pub places : ArePlaced (length (frames_of s)) 0 targets
  pub may : TargetsMay (MayLose tail (frames_of s)) targets (frames_of s)
  pub writable : AllByRecursion IsWritable (elements_in (slot_without tail (frames_of s)) targets 0 s.elements)

-- of a target: its new access unit
pub slot_is : (tail : Tail) (fs : List Pair) (t : ℕ) (c : UsacConfig) (au : List ℕ) → slice_get fs t ≡ Some (c, au) → slot_without tail fs t au ≡ stripped_slot tail c au
slot_is tail fs t c au at = ap (λ (o : Option Pair). slot_of tail o au) at

pub passed_by : (s : Stream) (tail : Tail) (targets : List ℕ) → IsWellFormed s → frames_rule 0 (frames_of s) ≡ None → list_rule (length (frames_of s)) targets ≡ None → targets_rule tail (frames_of s) targets ≡ None → Passed s tail targets
passed_by s tail targets w frames list rules =
    let fs = frames_of s in
    let may = may_lose tail fs targets (short_frames fs (small_frames None s.elements w.elements)) rules in
    record {
      frames = frames;
      places = listed (length fs) targets list;
      may = may;
      writable = shorter_is_writable (slot_without tail fs) targets s w (λ t f at is.
          let g = frame_passed f t (passes_first fs t f frames at) in
          subst (λ (xs : List ℕ). length xs ≤ length (au_in f)) (sym (slot_is tail fs t (config_in f) (au_in f) at)) (stripped_few tail (config_in f) (au_in f) g.0 g.1));
    }

pub passed_all : (s : Stream) (tail : Tail) (targets : List ℕ) → IsWellFormed s → strip_fault s tail targets ≡ None → Passed s tail targets
passed_all s tail targets w e =
    let fs = frames_of s in
    let p = or_none (frames_rule 0 fs) (option_or (list_rule (length fs) targets) (targets_rule tail fs targets)) e in
    let q = or_none (list_rule (length fs) targets) (targets_rule tail fs targets) p.1 in
    passed_by s tail targets w p.0 q.0 q.1

-- by the references to its frames
pub passed_refs : (s : Stream) (tail : Tail) (targets : List ℕ) (items one two : List FrameRef) (n : ℕ) → IsWellFormed s → pairs_of items ≡ frames_of s → one ≡ items → two ≡ items → n ≡ length items
    → frames_rule 0 (pairs_of one) ≡ None → list_rule n targets ≡ None → targets_rule tail (pairs_of two) targets ≡ None → Passed s tail targets
passed_refs s tail targets items one two n w are first second count frames list rules =
    let long : n ≡ length (frames_of s) = count ∙ sym (length-map items pair_of) ∙ ap (λ (fs : List Pair). length fs) are in
    passed_by s tail targets w
    (sym (ap (λ (fs : List Pair). frames_rule 0 fs) (ap pairs_of first ∙ are)) ∙ frames)
    (sym (ap (λ (k : ℕ). list_rule k targets) long) ∙ list)
    (sym (ap (λ (fs : List Pair). targets_rule tail fs targets) (ap pairs_of second ∙ are)) ∙ rules)
