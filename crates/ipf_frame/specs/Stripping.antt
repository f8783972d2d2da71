-- An access unit without its preroll (ISO/IEC 23003-3, UsacExtElement and AudioPreRoll).
use Rattle.std.specs.Prelude.{◌≡◌, ℕ, ◌-◌, ◌%◌, ◌≤◌, Bool, true, false, not, ◌&&◌, List, ◌++◌, length, take, drop, replicate, nat_lt, Option, Some, None, Result, Ok, Err}
use Rattle.std.specs.List.{list_all}
use Rattle.std.specs.declared.alloc.AllocError.{AllocError}
use Rattle.layout.specs.Text.{bits_of, pad}
use Rattle.usac_cfg.specs.declared.usac_config.UsacConfig.{UsacConfig}
use Rattle.usac_frame.specs.declared.frame.Frame.{Frame}
use Rattle.usac_frame.specs.declared.part.ExtPart.TheVariants.{Absent}
use Rattle.usac_frame.specs.AccessUnit.{IsFrame, frame_of}
use Rattle.usac_frame.specs.Frame.{frame_text}
use Rattle.usac_frame.specs.Units.{is_immediate}
use Rattle.ipf_frame.specs.declared.stripping.Tail.{Tail}
use Rattle.ipf_frame.specs.declared.stripping.Tail.TheVariants.{Undo, Keep}
use Rattle.ipf_frame.specs.Frames.{with_first, frame_bytes}

-- how many bits of the frame with part 0 absent do not fill a byte
abbrev pub spare_bits : UsacConfig → Frame → ℕ
spare_bits c f = length (frame_text c (with_first Absent f)) % 8

-- the frame without the last bits of its rest
abbrev pub shortened : ℕ → Frame → Frame
shortened n f = record { independent = f.independent; leading = f.leading; rest = take (length f.rest - n) f.rest }

-- the frame with part 0 absent, and the end as the tail says
abbrev pub stripped_frame : Tail → UsacConfig → Frame → Frame
stripped_frame Undo c f = shortened (spare_bits c f) (with_first Absent f)
stripped_frame Keep c f = with_first Absent f

abbrev pub stripped_where : Tail → UsacConfig → List ℕ → Option Frame → List ℕ
stripped_where tail c au None = au
stripped_where tail c au (Some f) = frame_bytes c (stripped_frame tail c f)

-- the access unit without its preroll
unfoldable pub stripped_slot : Tail → UsacConfig → List ℕ → List ℕ
stripped_slot tail c au = stripped_where tail c au (frame_of c au)

-- there are so many bits, and the last ones are zeros
abbrev pub ends_in_zeros : ℕ → List Bool → Bool
ends_in_zeros n bits = not (nat_lt (length bits) n) && list_all not (drop (length bits - n) bits)

abbrev pub may_strip_frame : Tail → UsacConfig → Frame → Bool
may_strip_frame Undo c f = ends_in_zeros (spare_bits c f) f.rest
may_strip_frame Keep c f = true

abbrev pub may_strip_where : Tail → UsacConfig → Option Frame → Bool
may_strip_where tail c None = false
may_strip_where tail c (Some f) = may_strip_frame tail c f

-- whether the bits that no longer fill a byte may go where the tail says so: they are there, and are zeros
unfoldable pub may_strip : Tail → UsacConfig → List ℕ → Bool
may_strip tail c au = may_strip_where tail c (frame_of c au)

-- what a call gives: the new bytes exactly where the preroll may be taken out so, unless memory fails
abbrev pub Strips : Result (Option (List ℕ)) AllocError → Bool → List ℕ → Type 0
Strips (Ok None) may new = may ≡ false
Strips (Ok (Some bytes)) may new = (may ≡ true) × (bytes ≡ new)
Strips (Err e) may new = Unit {0}

abbrev pub IsStrippedText : Tail → UsacConfig → Frame → List ℕ → Type 0
IsStrippedText Undo c f new = (spare_bits c f ≤ length f.rest) × (frame_text c (with_first Absent f) ≡ bits_of new ++ replicate (spare_bits c f) false)
IsStrippedText Keep c f new = bits_of new ≡ pad (frame_text c (with_first Absent f))

-- The same as a relation on bits: the bytes are the access unit, an immediate play-out frame, without its preroll.
pub record IsStripped (tail : Tail) (c : UsacConfig) (au new : List ℕ) : Type 0 where
  pub frame : Frame
  pub is : IsFrame c au frame
  pub immediate : is_immediate c frame ≡ true
  pub text : IsStrippedText tail c frame new
