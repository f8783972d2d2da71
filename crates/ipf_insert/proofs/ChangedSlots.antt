-- Nothing but the slots of the targets changes.
use Rattle.std.proofs.Common.{◌≡◌, ℕ, ◌-◌, ◌≤◌, true, List, length, take, drop, Option, Some, sym, ap, subst, ◌∙◌, arith}
use Rattle.std.specs.Prelude.{slice_get}
use Rattle.std.proofs.lemmas.List.{length-take}
use Rattle.usac_cfg.specs.declared.usac_config.UsacConfig.{UsacConfig}
use Rattle.latm.specs.declared.stream.Stream.{Stream}
use Rattle.latm.specs.Stream.{frames_of, au_in}
use Rattle.stream_edit.specs.Targets.{is_target}
use Rattle.stream_edit.proofs.EditedAll.{is_edited}
use Rattle.ipf_frame.specs.Slot.{new_slot, IsTarget}
use Rattle.ipf_frame.proofs.Targets.{targets_made}
use Rattle.ipf_insert.specs.Inserting.{Settled, units_before, target_slot, stream_in}
use Rattle.ipf_insert.specs.Laws.{OnlyTargetsChange}
use Rattle.ipf_insert.specs.Relation.{BecomesTarget, AreInserted}
use Rattle.ipf_insert.specs.Rules.{au_at}
use Rattle.ipf_insert.proofs.Here.{frame_at, frames_part, slots_part, au_there}
use Rattle.ipf_insert.proofs.Holding.{Holds, passed_all}
use Rattle.ipf_insert.proofs.Kept.{one_kept, open_frame, few_bytes}

few_units : (count n : ℕ) (aus : List (List ℕ)) → count ≤ 18 → length (take count (drop n aus)) ≤ 18
few_units count n aus le = omega (arith, le, length-take count (drop n aus))

module _ (s : Stream) (i : Settled) (targets : List ℕ) (h : Holds s i targets) where
  -- what a target becomes, as a relation on bits
  target_at : (t : ℕ) → is_target targets t ≡ true → IsTarget i.config i.fade (units_before i.count t i.aus) (au_at i.aus t) (new_slot i.config i.fade (units_before i.count t i.aus) (au_at i.aus t))
  target_at t is =
      let k = one_kept i targets t h.kept is in
      let f = frame_at i.config i.aus t h.frames k.below in
      targets_made i.config i.fade (units_before i.count t i.aus) (au_at i.aus t) f.0 f.1 (open_frame i t f.0 k.frame f.1)
      (frames_part i.config i.aus i.count (t - i.count) h.frames) (slots_part i.aus i.count (t - i.count) h.slots)
      (few_units i.count (t - i.count) i.aus h.listed.count) h.listed.short (few_bytes i t k.units)

  pub target_here : (t : ℕ) (au : List ℕ) → au ≡ au_at i.aus t → is_target targets t ≡ true → IsTarget i.config i.fade (units_before i.count t i.aus) au (new_slot i.config i.fade (units_before i.count t i.aus) au)
  target_here t au here is = subst (λ (x : List ℕ). IsTarget i.config i.fade (units_before i.count t i.aus) x (new_slot i.config i.fade (units_before i.count t i.aus) x)) (sym here) (target_at t is)

  -- the frame with a target's number is one that can be one
  pub target_of : (t : ℕ) (f : UsacConfig × List ℕ) → slice_get (frames_of s) t ≡ Some f → is_target targets t ≡ true → IsTarget i.config i.fade (units_before i.count t i.aus) (au_in f) (target_slot i t (au_in f))
  target_of t f at is = target_here t (au_in f) (au_there (frames_of s) t f at ∙ ap (λ (xs : List (List ℕ)). au_at xs t) (sym h.aus)) is

pub only_targets : OnlyTargetsChange
only_targets s count fade targets w e =
    let p = passed_all s count fade targets w e in
    subst (λ (o : Option Settled). AreInserted o targets s (stream_in o targets s)) (sym p.found)
    (is_edited (BecomesTarget p.shared) (target_slot p.shared) targets s w (λ t f at is. target_of s p.shared targets p.holds t f at is))
