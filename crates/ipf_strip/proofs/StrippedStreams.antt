-- What is left of a stream: a well formed one, with its units, that differs in the slots of the targets alone.
use Rattle.std.proofs.Common.{◌≡◌, ℕ, ◌<◌, List, Option, Some, None, refl, sym, subst}
use Rattle.std.specs.Prelude.{slice_get}
use Rattle.std.specs.List.{AllByRecursion}
use Rattle.usac_cfg.specs.declared.usac_config.UsacConfig.{UsacConfig}
use Rattle.usac_frame.specs.declared.frame.Frame.{Frame}
use Rattle.usac_frame.specs.AccessUnit.{frame_of}
use Rattle.usac_frame.specs.FrameFound.{frame_of_is}
use Rattle.latm.specs.Stream.{frames_of, config_in, au_in}
use Rattle.stream_edit.proofs.EditedAll.{is_edited, keeps_frames}
use Rattle.stream_edit.proofs.EditedStream.{stays_well_formed}
use Rattle.ipf_frame.specs.declared.stripping.Tail.{Tail}
use Rattle.ipf_frame.specs.Stripping.{stripped_where, stripped_slot, IsStripped}
use Rattle.ipf_frame.proofs.StrippedUnits.{stripped_is_made, stripped_units_stay, stripped_small}
use Rattle.ipf_strip.specs.Laws.{OnlyTargetsChange, StaysWellFormed, UnitsStay}
use Rattle.ipf_strip.specs.Relation.{BecomesBare}
use Rattle.ipf_strip.specs.Steps.{MayLose}
use Rattle.ipf_strip.specs.Stripping.{slot_of, slot_without}
use Rattle.ipf_strip.proofs.Passed.{immediate_there, slot_is, passed_all}

abbrev Pair : Type 0
Pair = UsacConfig × List ℕ

abbrev AreBytes : List ℕ → Type 0
AreBytes au = AllByRecursion (λ b. b < 256) au

-- ---- one slot

-- it is bytes
kept_small : (tail : Tail) (c : UsacConfig) (au : List ℕ) → frame_of c au ≡ None → AreBytes au → AreBytes (stripped_slot tail c au)
unfolding stripped_slot
kept_small tail c au e h = subst (λ (o : Option Frame). AreBytes (stripped_where tail c au o)) (sym e) h

slot_small : (tail : Tail) (c : UsacConfig) (au : List ℕ) → AreBytes au → AreBytes (stripped_slot tail c au)
slot_small tail c au h = by_frame (frame_of c au) refl
  where
    by_frame : (o : Option Frame) → frame_of c au ≡ o → AreBytes (stripped_slot tail c au)
    by_frame None e = kept_small tail c au e h
    by_frame (Some f) e = stripped_small tail c au f (frame_of_is.is c au f e)

new_small : (tail : Tail) (fs : List Pair) (t : ℕ) (au : List ℕ) → AreBytes au → AreBytes (slot_without tail fs t au)
new_small tail fs t au h = by_frame (slice_get fs t)
  where
    by_frame : (o : Option Pair) → AreBytes (slot_of tail o au)
    by_frame None = h
    by_frame (Some f) = slot_small tail (config_in f) au h

-- a target's is the relation on bits
pub lost : (tail : Tail) (fs : List Pair) (t : ℕ) (c : UsacConfig) (au : List ℕ) → MayLose tail fs t c au → IsStripped tail c au (slot_without tail fs t au)
lost tail fs t c au may =
    let g = immediate_there (c, au) may.immediate in
    subst (λ (xs : List ℕ). IsStripped tail c au xs) (sym (slot_is tail fs t c au may.is)) (stripped_is_made tail c au g.0 g.1 g.2 may.may)

-- ---- the stream

pub only_targets : OnlyTargetsChange
only_targets s tail targets w e =
    let fs = frames_of s in
    let p = passed_all s tail targets w e in
    is_edited (λ t au slot. BecomesBare tail (slice_get fs t) au slot) (slot_without tail fs) targets s w (λ t f at is.
    subst (λ (o : Option Pair). BecomesBare tail o (au_in f) (slot_without tail fs t (au_in f))) (sym at) (lost tail fs t (config_in f) (au_in f) (p.may t f at is)))

pub well_formed : StaysWellFormed
well_formed s tail targets w e =
    let p = passed_all s tail targets w e in
    stays_well_formed (slot_without tail (frames_of s)) targets (new_small tail (frames_of s)) s w p.writable

pub units_stay : UnitsStay
units_stay s tail targets w e =
    let fs = frames_of s in
    let p = passed_all s tail targets w e in
    keeps_frames (slot_without tail fs) targets s w (λ t f at is.
    let kept = stripped_units_stay tail (config_in f) (au_in f) (slot_without tail fs t (au_in f)) (lost tail fs t (config_in f) (au_in f) (p.may t f at is)) in kept.0)
