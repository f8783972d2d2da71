-- What is left of an access unit without its preroll, of the frame that it is.
use Rattle.std.proofs.Common.{◌≡◌, ℕ, ◌*◌, ◌%◌, Bool, true, List, length, Option, sym, ap, subst, ◌∙◌, arith}
use Rattle.layout.proofs.TextLemmas.{length-bits_of}
use Rattle.usac_cfg.specs.declared.usac_config.UsacConfig.{UsacConfig}
use Rattle.usac_frame.specs.declared.frame.Frame.{Frame}
use Rattle.usac_frame.specs.AccessUnit.{IsFrame}
use Rattle.usac_frame.specs.declared.part.ExtPart.TheVariants.{Absent}
use Rattle.usac_frame.specs.Frame.{FitsConfig, leading_exts, frame_text}
use Rattle.usac_frame.specs.FrameFound.{frame_of_is}
use Rattle.usac_frame.specs.Units.{is_immediate}
use Rattle.ipf_frame.specs.declared.stripping.Tail.{Tail}
use Rattle.ipf_frame.specs.declared.stripping.Tail.TheVariants.{Undo, Keep}
use Rattle.ipf_frame.specs.Frames.{with_first, frame_bytes}
use Rattle.ipf_frame.specs.Stripping.{spare_bits, shortened, ends_in_zeros, stripped_frame, stripped_where, stripped_slot, may_strip_frame, may_strip_where, may_strip}
use Rattle.ipf_frame.proofs.WrittenFrames.{parts_fit, one_frame}

pub text_long : (c : UsacConfig) (au : List ℕ) (f : Frame) → IsFrame c au f → length (frame_text c f) ≡ 8 * length au
text_long c au f is = ap (λ (x : List Bool). length x) (sym is.spelled) ∙ length-bits_of au

pub text_whole : (c : UsacConfig) (au : List ℕ) (f : Frame) → IsFrame c au f → length (frame_text c f) % 8 ≡ 0
text_whole c au f is = omega (arith, text_long c au f is)

pub read_immediate : (c : UsacConfig) (au : List ℕ) (g : Frame) → IsFrame c au g → ((f : Frame) × IsFrame c au f × (is_immediate c f ≡ true)) → is_immediate c g ≡ true
read_immediate c au g is given = subst (λ (f : Frame). is_immediate c f ≡ true) (one_frame c au given.0 g given.1 is) given.2

pub slot_is : (tail : Tail) (c : UsacConfig) (au : List ℕ) (f : Frame) → IsFrame c au f → stripped_slot tail c au ≡ frame_bytes c (stripped_frame tail c f)
unfolding stripped_slot
slot_is tail c au f is = ap (λ (o : Option Frame). stripped_where tail c au o) (frame_of_is.found c au f is)

pub may_is : (tail : Tail) (c : UsacConfig) (au : List ℕ) (f : Frame) → IsFrame c au f → may_strip tail c au ≡ may_strip_frame tail c f
unfolding may_strip
may_is tail c au f is = ap (λ (o : Option Frame). may_strip_where tail c o) (frame_of_is.found c au f is)

-- ---- what the code finds

module _ (tail : Tail) (c : UsacConfig) (au : List ℕ) (f bare : Frame) (n : ℕ) (is : IsFrame c au f) (gone : bare ≡ with_first Absent f) where
  pub undo_may : (b : Bool) → tail ≡ Undo → n ≡ spare_bits c f → b ≡ ends_in_zeros n bare.rest → may_strip tail c au ≡ b
  undo_may b undo spare found =
      ap (λ (t : Tail). may_strip t c au) undo
      ∙ (may_is Undo c au f is
      ∙ (ap (λ (k : ℕ). ends_in_zeros k f.rest) (sym spare)
      ∙ (ap (λ (g : Frame). ends_in_zeros n g.rest) (sym gone)
      ∙ sym found)))

  short_is : n ≡ spare_bits c f → (short : Frame) → short ≡ shortened n bare → short ≡ stripped_frame Undo c f
  short_is spare short made = made ∙ ap (λ (k : ℕ). shortened k bare) spare ∙ ap (λ (g : Frame). shortened (spare_bits c f) g) gone

  pub undo_fits : n ≡ spare_bits c f → (short : Frame) → short ≡ shortened n bare → FitsConfig c short
  undo_fits spare short made = subst (λ (g : Frame). FitsConfig c g) (sym (short_is spare short made)) (parts_fit (leading_exts c) f.leading Absent (λ e. tt) is.fits)

  pub undo_bytes : tail ≡ Undo → n ≡ spare_bits c f → (short : Frame) (bytes : List ℕ) → short ≡ shortened n bare → bytes ≡ frame_bytes c short → bytes ≡ stripped_slot tail c au
  undo_bytes undo spare short bytes made written =
      written ∙ (ap (λ (g : Frame). frame_bytes c g) (short_is spare short made) ∙ (sym (slot_is Undo c au f is) ∙ ap (λ (t : Tail). stripped_slot t c au) (sym undo)))

  pub keep_may : tail ≡ Keep → may_strip tail c au ≡ true
  keep_may keep = ap (λ (t : Tail). may_strip t c au) keep ∙ may_is Keep c au f is

  pub keep_bytes : tail ≡ Keep → (bytes : List ℕ) → bytes ≡ frame_bytes c bare → bytes ≡ stripped_slot tail c au
  keep_bytes keep bytes written =
      written ∙ (ap (λ (g : Frame). frame_bytes c g) gone ∙ (sym (slot_is Keep c au f is) ∙ ap (λ (t : Tail). stripped_slot t c au) (sym keep)))
