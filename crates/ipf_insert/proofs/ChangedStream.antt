-- What is made is a well formed stream.
use Rattle.std.proofs.Common.{ℕ, ◌<◌, Bool, List, Option, Some, None, sym, subst}
use Rattle.std.specs.List.{AllByRecursion}
use Rattle.usac_cfg.specs.declared.usac_config.UsacConfig.{UsacConfig}
use Rattle.usac_frame.specs.declared.frame.Frame.{Frame}
use Rattle.usac_frame.specs.AccessUnit.{frame_of}
use Rattle.usac_frame.specs.Frame.{frame_text}
use Rattle.latm.specs.Stream.{IsWellFormed}
use Rattle.stream_edit.proofs.EditedStream.{stays_well_formed}
use Rattle.ipf_frame.specs.Frames.{with_first, new_part, frame_bytes}
use Rattle.ipf_frame.specs.Payload.{new_payload}
use Rattle.ipf_frame.specs.Slot.{slot_where, slot_with, new_slot}
use Rattle.ipf_frame.proofs.CleanBytes.{pad_small}
use Rattle.ipf_insert.specs.Inserting.{Settled, units_before, target_slot, stream_in}
use Rattle.ipf_insert.specs.Laws.{StaysWellFormed}
use Rattle.ipf_insert.proofs.Holding.{passed_all}

abbrev AreBytes : List ℕ → Type 0
AreBytes au = AllByRecursion (λ b. b < 256) au

-- ---- the slots are bytes

frame_small : (c : UsacConfig) (f : Frame) → AreBytes (frame_bytes c f)
unfolding frame_bytes
frame_small c f = pad_small (frame_text c f)

new_small : (c : UsacConfig) (fade : Bool) (aus : List (List ℕ)) (au : List ℕ) → AreBytes au → AreBytes (new_slot c fade aus au)
unfolding new_slot slot_with
new_small c fade aus au h = by_frame (frame_of c au)
  where
    by_frame : (o : Option Frame) → AreBytes (slot_where c (new_payload c fade aus) au o)
    by_frame None = h
    by_frame (Some f) = frame_small c (with_first (new_part (new_payload c fade aus)) f)

-- ---- the stream

pub stays : StaysWellFormed
stays s count fade targets w e =
    let p = passed_all s count fade targets w e in
    let i = p.shared in
    let small : (t : ℕ) (au : List ℕ) → AreBytes au → AreBytes (target_slot i t au) = λ t au h. new_small i.config i.fade (units_before i.count t i.aus) au h in
    subst (λ (o : Option Settled). IsWellFormed (stream_in o targets s)) (sym p.found) (stays_well_formed (target_slot i) targets small s w p.holds.writable)
