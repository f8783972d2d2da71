-- What a target becomes is the relation on bits.
use Rattle.std.proofs.Common.{◌≡◌, ℕ, List, Bool, Option, ap, ◌∙◌}
use Rattle.layout.specs.Text.{bits_of, pad}
use Rattle.usac_cfg.specs.declared.usac_config.UsacConfig.{UsacConfig}
use Rattle.usac_frame.specs.declared.frame.Frame.{Frame}
use Rattle.usac_frame.specs.AccessUnit.{IsFrame}
use Rattle.usac_frame.specs.Frame.{frame_text}
use Rattle.usac_frame.specs.FrameFound.{frame_of_is}
use Rattle.ipf_frame.specs.Frames.{with_first, frame_bytes, new_part}
use Rattle.ipf_frame.specs.Payload.{new_preroll, new_payload}
use Rattle.ipf_frame.specs.Slot.{slot_where, slot_with, new_slot}
use Rattle.ipf_frame.specs.Laws.{TargetsAreMade}
use Rattle.ipf_frame.proofs.CleanBytes.{frame_bits}
use Rattle.ipf_frame.proofs.Payloads.{new_is, payload_bits, payload_small}

pub slot_of : (c : UsacConfig) (payload au : List ℕ) (f : Frame) → IsFrame c au f → slot_with c payload au ≡ frame_bytes c (with_first (new_part payload) f)
unfolding slot_with
slot_of c payload au f is = ap (λ (o : Option Frame). slot_where c payload au o) (frame_of_is.found c au f is)

slot_bits : (c : UsacConfig) (fade : Bool) (aus : List (List ℕ)) (au : List ℕ) (f : Frame) → IsFrame c au f → bits_of (new_slot c fade aus au) ≡ pad (frame_text c (with_first (new_part (new_payload c fade aus)) f))
unfolding new_slot
slot_bits c fade aus au f is = ap (λ (xs : List ℕ). bits_of xs) (slot_of c (new_payload c fade aus) au f is) ∙ frame_bits c (with_first (new_part (new_payload c fade aus)) f)

pub targets_made : TargetsAreMade
targets_made c fade aus au f is absent frames slots few short small = record {
  frame = f;
  is = is;
  absent = absent;
  preroll = new_preroll c fade aus;
  carries = new_is c fade aus frames slots few short;
  payload = new_payload c fade aus;
  bytes = payload_small c fade aus;
  spelled = payload_bits c fade aus;
  few = small;
  text = slot_bits c fade aus au f is;
}
