-- An access unit as it is carried is a frame without a preroll.
use Rattle.std.proofs.Common.{◌≡◌, ℕ, Bool, true, false, List, [], ◌∷◌, Option, refl, sym, ap, subst, ◌∙◌}
use Rattle.std.specs.Prelude.{slice_get, ◌==◌, if◌then◌else◌}
use Rattle.std.specs.Option.{option_map_or}
use Rattle.std.proofs.lemmas.Bool.{eqb-true}
use Rattle.usac_cfg.specs.declared.usac_config.UsacConfig.{UsacConfig}
use Rattle.usac_cfg.specs.UsacConfig.{declares_preroll}
use Rattle.usac_frame.specs.declared.frame.Frame.{Frame}
use Rattle.usac_frame.specs.declared.part.ExtPart.{ExtPart}
use Rattle.usac_frame.specs.declared.part.ExtPart.TheVariants.{Absent}
use Rattle.usac_frame.specs.AccessUnit.{IsFrame, unit_in}
use Rattle.usac_frame.specs.FrameFound.{frame_of_is}
use Rattle.usac_frame.specs.Laws.{with_zeros}
use Rattle.usac_frame.specs.Units.{part_bytes, payload_length}
use Rattle.preroll.specs.Carried.{preroll_bytes}
use Rattle.ipf_frame.specs.Frames.{first_part, with_first}
use Rattle.ipf_frame.specs.Clean.{IsCleanText, IsClean}
use Rattle.ipf_frame.specs.Laws.{CleanUnitsStay}
use Rattle.ipf_frame.proofs.WrittenFrames.{written, unit_is}

pub absent_bytes : (c : UsacConfig) (f : Frame) (n : ℕ) → payload_length c (with_zeros (with_first Absent f) n) ≡ 0
absent_bytes c f n = by_declared (declares_preroll c) f.leading
  where
    by_declared : (b : Bool) (ps : List ExtPart) → (if b then option_map_or part_bytes (slice_get (first_part Absent ps) 0) 0 else 0) ≡ 0
    by_declared true [] = refl
    by_declared true (q ∷ ps) = refl
    by_declared false ps = refl

preroll_of_frame : (c : UsacConfig) (au : List ℕ) (f : Frame) → IsFrame c au f → preroll_bytes c au ≡ payload_length c f
preroll_of_frame c au f is = ap (λ (o : Option Frame). option_map_or (payload_length c) o 0) (frame_of_is.found c au f is)

-- the bytes are a frame with no bytes of preroll, and with the unit of the access unit
pub record IsBare (c : UsacConfig) (au bytes : List ℕ) : Type 0 where
  pub frame : Frame
  pub is : IsFrame c bytes frame
  pub unit : unit_in c bytes ≡ unit_in c au
  pub none : payload_length c frame ≡ 0

module _ (c : UsacConfig) (au bytes : List ℕ) (declared : declares_preroll c ≡ true) where
  by_text : (f : Frame) → IsFrame c au f → (b : Bool) → (payload_length c f == 0) ≡ b → IsCleanText b c f au bytes → IsBare c au bytes
  by_text f is true e t = record { frame = f; is = subst (λ (x : List ℕ). IsFrame c x f) (sym t) is; unit = ap (unit_in c) t; none = eqb-true (payload_length c f) 0 e }
  by_text f is false e t =
      let w = written c f Absent bytes declared is.fits (λ x. tt) t in
      record { frame = with_zeros (with_first Absent f) w.zeros; is = w.is; unit = w.unit ∙ sym (unit_is c au f is); none = absent_bytes c f w.zeros }

  pub bare : IsClean c au bytes → IsBare c au bytes
  bare h = by_text h.frame h.is (payload_length c h.frame == 0) refl h.text

pub clean_units : CleanUnitsStay
clean_units c au bytes declared h =
    let b = bare c au bytes declared h in
    (b.unit, preroll_of_frame c bytes b.frame b.is ∙ b.none)
