-- What an insertion made of a stream is that stream again without the prerolls of the same targets.
use Rattle.std.proofs.Common.{◌≡◌, ℕ, zero, suc, ◌+◌, ◌<◌, Bool, true, false, List, [], ◌∷◌, length, Option, Some, None, refl, sym, ap, subst, ◌∙◌, arith}
use Rattle.std.specs.Prelude.{◌||◌, ◌==◌, slice_get, if◌then◌else◌}
use Rattle.std.specs.List.{AllByRecursion}
use Rattle.std.specs.Option.{option_map, option_or}
use Rattle.std.proofs.lemmas.Bool.Decides.{nat_tests}
use Rattle.std.proofs.lemmas.List.{length-map}
use Rattle.usac_cfg.specs.declared.usac_config.UsacConfig.{UsacConfig}
use Rattle.usac_frame.specs.declared.frame.Frame.{Frame}
use Rattle.usac_frame.specs.AccessUnit.{IsFrame}
use Rattle.latm.specs.declared.stream.Stream.{Stream}
use Rattle.latm.specs.Stream.{IsWellFormed, frames_of, config_in, au_in}
use Rattle.stream_edit.specs.Edited.{slot_in, edited}
use Rattle.stream_edit.specs.Steps.{AreSmall}
use Rattle.stream_edit.specs.Targets.{is_target, misplaced}
use Rattle.stream_edit.proofs.EditedAll.{edited_back}
use Rattle.stream_edit.proofs.EditedFrames.{frames_in, frame_new, frames_are, in_length, in_at}
use Rattle.stream_edit.proofs.Elements.{small_frames}
use Rattle.ipf_frame.specs.declared.stripping.Tail.TheVariants.{Undo}
use Rattle.ipf_frame.specs.Stripping.{may_strip, stripped_slot}
use Rattle.ipf_frame.specs.StripLaws.{ImmediateFrame}
use Rattle.ipf_frame.proofs.StrippedUnits.{targets_are_stripped}
use Rattle.ipf_insert.specs.Inserting.{Settled, units_before, target_slot, stream_in}
use Rattle.ipf_insert.specs.Rules.{au_at}
use Rattle.ipf_insert.proofs.ChangedSlots.{target_of}
use Rattle.ipf_insert.proofs.Here.{at_there, au_there, config_there, frame_at}
use Rattle.ipf_insert.proofs.Kept.{one_kept}
use Rattle.ipf_insert.proofs.Holding.{Holds, passed_all}
use Rattle.ipf_strip.specs.declared.fault.StripFault.{StripFault}
use Rattle.ipf_strip.specs.declared.fault.StripFault.TheVariants.{BadTarget}
use Rattle.ipf_strip.specs.Laws.{UndoesInsertions}
use Rattle.ipf_strip.specs.Rules.{frame_rule, frames_rule, list_rule, target_at, targets_rule, strip_fault}
use Rattle.ipf_strip.specs.Stripping.{slot_of, slot_without, stripped}
use Rattle.ipf_strip.proofs.Judged.{frame_passes, immediate_is, judged_by}

abbrev Pair : Type 0
Pair = UsacConfig × List ℕ

-- ---- lists of which each member passes

or_both : (a b : Option StripFault) → a ≡ None → b ≡ None → option_or a b ≡ None
or_both a b p q = ap (λ (o : Option StripFault). option_or o b) p ∙ q

all_frames_pass : (n : ℕ) (fs : List Pair) → ((k : ℕ) (f : Pair) → slice_get fs k ≡ Some f → (g : Frame) × IsFrame (config_in f) (au_in f) g) → frames_rule n fs ≡ None
all_frames_pass n [] h = refl
all_frames_pass n (f ∷ fs) h =
    let g = h 0 f refl in
    or_both (frame_rule n f) (frames_rule (suc n) fs) (frame_passes (config_in f) (au_in f) n g.0 g.1) (all_frames_pass (suc n) fs (λ k x e. h (suc k) x e))

itself : (x : ℕ) (b : Bool) → ((x == x) || b) ≡ true
itself x b = ap (λ (c : Bool). c || b) (let e : (x == x) ≡ true = grind (arith, nat_tests) in e)

or_true : (a b : Bool) → b ≡ true → (a || b) ≡ true
or_true true b e = refl
or_true false b e = e

all_targets_pass : (fs : List Pair) (ts : List ℕ) → ((t : ℕ) → is_target ts t ≡ true → target_at Undo t (slice_get fs t) ≡ None) → targets_rule Undo fs ts ≡ None
all_targets_pass fs [] h = refl
all_targets_pass fs (t ∷ ts) h =
    or_both (target_at Undo t (slice_get fs t)) (targets_rule Undo fs ts) (h t (itself t (is_target ts t))) (all_targets_pass fs ts (λ x is. h x (or_true (t == x) (is_target ts x) is)))

small_at : (fs : List Pair) (t : ℕ) (f : Pair) → AreSmall fs → slice_get fs t ≡ Some f → AllByRecursion (λ b. b < 256) (au_in f)
small_at [] t f h e = absurd (let never : None ≡ Some f = e in cc)
small_at (x ∷ fs) zero f h e = let same : x ≡ f = (let s : Some x ≡ Some f = e in cc) in subst (λ (y : Pair). AllByRecursion (λ b. b < 256) (au_in y)) same h.0.1
small_at (x ∷ fs) (suc t) f h e = small_at fs t f h.1 e

below_length : (fs : List Pair) (k : ℕ) (f : Pair) → slice_get fs k ≡ Some f → k < length fs
below_length [] k f e = absurd (let never : None ≡ Some f = e in cc)
below_length (x ∷ fs) zero f e = omega arith
below_length (x ∷ fs) (suc k) f e = omega (arith, below_length fs k f e)

-- ---- the stream that an insertion made

module _ (s : Stream) (i : Settled) (targets : List ℕ) (h : Holds s i targets) (w : IsWellFormed s) where
  abbrev made : Stream
  made = edited (target_slot i) targets s

  made_are : frames_of made ≡ frames_in (target_slot i) targets 0 (frames_of s)
  made_are = frames_are (target_slot i) targets 0 None s.elements w.elements

  made_long : length (frames_of made) ≡ length (frames_of s)
  made_long = ap (λ (fs : List Pair). length fs) made_are ∙ in_length (target_slot i) targets 0 (frames_of s)

  made_at : (t : ℕ) (f : Pair) → slice_get (frames_of s) t ≡ Some f → slice_get (frames_of made) t ≡ Some (config_in f, slot_in (target_slot i) targets t (au_in f))
  made_at t f at =
      ap (λ (fs : List Pair). slice_get fs t) made_are
      ∙ in_at (target_slot i) targets 0 t (frames_of s) f at
      ∙ ap (λ (k : ℕ). Some (frame_new (target_slot i) targets k f)) (let k : 0 + t ≡ t = omega arith in k)

  -- a target among them
  target_made : (t : ℕ) (f : Pair) → slice_get (frames_of s) t ≡ Some f → is_target targets t ≡ true → slice_get (frames_of made) t ≡ Some (config_in f, target_slot i t (au_in f))
  target_made t f at is = made_at t f at ∙ ap (λ (b : Bool). let x : Pair = (config_in f, if b then target_slot i t (au_in f) else au_in f) in Some x) is

  undone_at : (t : ℕ) (f : Pair) → slice_get (frames_of s) t ≡ Some f → is_target targets t ≡ true
      → ImmediateFrame (config_in f) (target_slot i t (au_in f)) × (may_strip Undo (config_in f) (target_slot i t (au_in f)) ≡ true) × (stripped_slot Undo (config_in f) (target_slot i t (au_in f)) ≡ au_in f)
  undone_at t f at is =
      subst (λ (c : UsacConfig). ImmediateFrame c (target_slot i t (au_in f)) × (may_strip Undo c (target_slot i t (au_in f)) ≡ true) × (stripped_slot Undo c (target_slot i t (au_in f)) ≡ au_in f))
      (config_there i.config (frames_of s) t f h.same at)
      (targets_are_stripped i.config i.fade (units_before i.count t i.aus) (au_in f) (target_slot i t (au_in f)) h.listed.declared (target_of s i targets h t f at is)
      (small_at (frames_of s) t f (small_frames None s.elements w.elements) at))

  -- ---- no rule refuses

  frame_of_made : (t : ℕ) (f : Pair) (b : Bool) → is_target targets t ≡ b → slice_get (frames_of s) t ≡ Some f → (g : Frame) × IsFrame (config_in f) (if b then target_slot i t (au_in f) else au_in f) g
  frame_of_made t f true is at = let u = undone_at t f at is in (u.0.0, u.0.1)
  frame_of_made t f false is at =
      let same = config_there i.config (frames_of s) t f h.same at in
      let au : au_at i.aus t ≡ au_in f = ap (λ (xs : List (List ℕ)). au_at xs t) h.aus ∙ sym (au_there (frames_of s) t f at) in
      let lt : t < length i.aus = omega (arith, below_length (frames_of s) t f at, ap (λ (xs : List (List ℕ)). length xs) h.aus, length-map (frames_of s) au_in) in
      let g = frame_at i.config i.aus t h.frames lt in
      (g.0, subst (λ (c : UsacConfig). IsFrame c (au_in f) g.0) same (subst (λ (x : List ℕ). IsFrame i.config x g.0) au g.1))

  frames_pass : frames_rule 0 (frames_of made) ≡ None
  frames_pass = all_frames_pass 0 (frames_of made) (λ k x at.
      let f = at_there (frames_of s) k (omega (arith, below_length (frames_of made) k x at, made_long)) in
      let is : x ≡ (config_in f.0, slot_in (target_slot i) targets k (au_in f.0)) = (let e : Some x ≡ Some (config_in f.0, slot_in (target_slot i) targets k (au_in f.0)) = sym at ∙ made_at k f.0 f.1 in cc) in
      subst (λ (y : Pair). (g : Frame) × IsFrame (config_in y) (au_in y) g) (sym is) (frame_of_made k f.0 (is_target targets k) refl f.1))

  list_passes : list_rule (length (frames_of made)) targets ≡ None
  list_passes =
      let long : length (frames_of made) ≡ length i.aus = made_long ∙ sym (length-map (frames_of s) au_in) ∙ ap (λ (xs : List (List ℕ)). length xs) (sym h.aus) in
      ap (λ (n : ℕ). option_map BadTarget (misplaced n targets)) long ∙ ap (option_map BadTarget) h.listed.placed

  below : (t : ℕ) → is_target targets t ≡ true → t < length (frames_of s)
  below t is =
      let k = one_kept i targets t h.kept is in
      let long : length i.aus ≡ length (frames_of s) = ap (λ (xs : List (List ℕ)). length xs) h.aus ∙ length-map (frames_of s) au_in in
      omega (arith, k.below, long)

  target_passes : (t : ℕ) → is_target targets t ≡ true → target_at Undo t (slice_get (frames_of made) t) ≡ None
  target_passes t is =
      let f = at_there (frames_of s) t (below t is) in
      let u = undone_at t f.0 f.1 is in
      ap (λ (o : Option Pair). target_at Undo t o) (target_made t f.0 f.1 is)
      ∙ judged_by Undo t (config_in f.0, target_slot i t (au_in f.0)) true (immediate_is (config_in f.0) (target_slot i t (au_in f.0)) u.0.0 u.0.1 ∙ u.0.2) u.1

  passes : strip_fault made Undo targets ≡ None
  passes = or_both (frames_rule 0 (frames_of made)) (option_or (list_rule (length (frames_of made)) targets) (targets_rule Undo (frames_of made) targets)) frames_pass
      (or_both (list_rule (length (frames_of made)) targets) (targets_rule Undo (frames_of made) targets) list_passes (all_targets_pass (frames_of made) targets target_passes))

  -- ---- what is left is the stream

  same : stripped made Undo targets ≡ s
  same = edited_back (target_slot i) (slot_without Undo (frames_of made)) targets s w (λ t f at is.
      let u = undone_at t f at is in
      ap (λ (o : Option Pair). slot_of Undo o (target_slot i t (au_in f))) (target_made t f at is) ∙ u.2)

pub undoes_insertions : UndoesInsertions
undoes_insertions s count fade targets w e =
    let p = passed_all s count fade targets w e in
    let made_undone : strip_fault (stream_in (Some p.shared) targets s) Undo targets ≡ None = passes s p.shared targets p.holds w in
    record {
      passes = subst (λ (o : Option Settled). strip_fault (stream_in o targets s) Undo targets ≡ None) (sym p.found) made_undone;
      same = subst (λ (o : Option Settled). stripped (stream_in o targets s) Undo targets ≡ s) (sym p.found) (same s p.shared targets p.holds w);
    }
