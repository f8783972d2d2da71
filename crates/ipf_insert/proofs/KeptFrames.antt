-- Each frame keeps its configuration and its unit.
use Rattle.std.proofs.Common.{◌≡◌, ℕ, true, List, Option, Some, sym, subst}
use Rattle.std.specs.Prelude.{slice_get}
use Rattle.usac_cfg.specs.declared.usac_config.UsacConfig.{UsacConfig}
use Rattle.usac_frame.specs.AccessUnit.{unit_in}
use Rattle.latm.specs.declared.stream.Stream.{Stream}
use Rattle.latm.specs.Stream.{frames_of, config_in, au_in}
use Rattle.stream_edit.specs.Laws.{KeepsFrames}
use Rattle.stream_edit.specs.Targets.{is_target}
use Rattle.stream_edit.proofs.EditedAll.{keeps_frames}
use Rattle.ipf_frame.proofs.KeptUnits.{keeps_unit}
use Rattle.ipf_insert.specs.Inserting.{Settled, units_before, target_slot, stream_in}
use Rattle.ipf_insert.specs.Laws.{UnitsStay}
use Rattle.ipf_insert.proofs.ChangedSlots.{target_of}
use Rattle.ipf_insert.proofs.Here.{config_there}
use Rattle.ipf_insert.proofs.Holding.{Holds, passed_all}

-- of one target
unit_kept : (s : Stream) (i : Settled) (targets : List ℕ) → Holds s i targets → (t : ℕ) (f : UsacConfig × List ℕ) → slice_get (frames_of s) t ≡ Some f → is_target targets t ≡ true
    → unit_in (config_in f) (target_slot i t (au_in f)) ≡ unit_in (config_in f) (au_in f)
unit_kept s i targets h t f at is =
    subst (λ (c : UsacConfig). unit_in c (target_slot i t (au_in f)) ≡ unit_in c (au_in f)) (config_there i.config (frames_of s) t f h.same at)
    (keeps_unit i.config i.fade (units_before i.count t i.aus) (au_in f) (target_slot i t (au_in f)) h.listed.declared (target_of s i targets h t f at is))

pub units_stay : UnitsStay
units_stay s count fade targets w e =
    let p = passed_all s count fade targets w e in
    subst (λ (o : Option Settled). KeepsFrames s (stream_in o targets s)) (sym p.found) (keeps_frames (target_slot p.shared) targets s w (λ t f at is. unit_kept s p.shared targets p.holds t f at is))
