-- What the rules see of an access unit that is a frame, and of one that is none.
use Rattle.std.proofs.Common.{◌≡◌, ℕ, true, List, Option, Some, None, refl, ap}
use Rattle.std.specs.Prelude.{Bool, ◌==◌, Err, if◌then◌else◌}
use Rattle.std.specs.Option.{option_map_or}
use Rattle.layout.specs.Text.{bits_of}
use Rattle.layout.proofs.Whole.{fault_of_is}
use Rattle.usac_cfg.specs.declared.usac_config.UsacConfig.{UsacConfig}
use Rattle.usac_frame.specs.declared.fault.FrameFault.TheVariants as frames
use Rattle.usac_frame.specs.declared.frame.Frame.{Frame}
use Rattle.usac_frame.specs.Frame.{frame, FrameFaults}
use Rattle.usac_frame.specs.FrameExact.{decided}
use Rattle.usac_frame.specs.FrameFound.{frame_of_is}
use Rattle.usac_frame.specs.AccessUnit.{IsFrame, unit_where, unit_in}
use Rattle.usac_frame.specs.Units.{unit_of, payload_length, first_payload, is_whole}
use Rattle.preroll.specs.declared.fault.CarryFault.TheVariants.{NotImmediate, Split}
use Rattle.preroll.specs.Carried.{IsAFrame, preroll_bytes}
use Rattle.preroll.specs.Payload.{preroll_of, fault_of}
use Rattle.preroll.specs.Carrying.{frame_short, short_at, opened, carried_of}
use Rattle.preroll.proofs.Judging.{short_is}

abbrev ShortOr : UsacConfig → List ℕ → Option ℕ → Type 0
ShortOr c u None = IsAFrame c u
ShortOr c u (Some at) = FrameFaults c (frames.Short at) (bits_of u)

-- a frame is not short
pub not_short : (c : UsacConfig) (au : List ℕ) (g : Frame) → IsFrame c au g → short_at c au ≡ None
not_short c au g is = by_place (short_at c au) refl (short_is c au)
  where
    by_place : (o : Option ℕ) → short_at c au ≡ o → ShortOr c au o → short_at c au ≡ None
    by_place None e h = e
    by_place (Some at) e h = absurd ((decided c).not_both (bits_of au) (frames.Short at) (g, is.fits, is.spelled) h)

-- what is not short is a frame
pub frame_there : (c : UsacConfig) (au : List ℕ) → short_at c au ≡ None → (g : Frame) × IsFrame c au g
frame_there c au e = by_place (short_at c au) e (short_is c au)
  where
    by_place : (o : Option ℕ) → o ≡ None → ShortOr c au o → (g : Frame) × IsFrame c au g
    by_place None e h = (h.0, frame_of_is.is c au h.0 h.1)
    by_place (Some at) e h = absurd (let never : Some at ≡ None = e in cc)

-- the first fault of an access unit is where it is short
pub is_short : (c : UsacConfig) (au : List ℕ) (at : ℕ) → FrameFaults c (frames.Short at) (bits_of au) → short_at c au ≡ Some at
unfolding short_at
is_short c au at bad = ap frame_short ((fault_of_is (frame c) (decided c)).found (bits_of au) (frames.Short at) bad)

module _ (c : UsacConfig) (au : List ℕ) (g : Frame) (is : IsFrame c au g) where
  pub unit_seen : unit_in c au ≡ unit_of c g
  unit_seen = ap (unit_where c) (frame_of_is.found c au g is)

  pub bytes_seen : preroll_bytes c au ≡ payload_length c g
  bytes_seen = ap (λ (o : Option Frame). option_map_or (payload_length c) o 0) (frame_of_is.found c au g is)

-- a frame without bytes of preroll carries nothing
pub bare_carries : (c : UsacConfig) (g : Frame) → (payload_length c g == 0) ≡ true → carried_of c g ≡ Err NotImmediate
unfolding carried_of
bare_carries c g e = ap (λ (b : Bool). if b then Err NotImmediate else (if is_whole g then opened c g (preroll_of (first_payload g)) (fault_of (first_payload g)) else Err Split)) e
