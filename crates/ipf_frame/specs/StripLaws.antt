-- What taking a preroll out keeps, of one frame: the unit stays, and a target is what it was.
use Rattle.std.specs.Prelude.{◌≡◌, ℕ, ◌<◌, ◌≤◌, Bool, true, List, length}
use Rattle.std.specs.List.{AllByRecursion}
use Rattle.usac_cfg.specs.declared.usac_config.UsacConfig.{UsacConfig}
use Rattle.usac_cfg.specs.UsacConfig.{declares_preroll}
use Rattle.usac_frame.specs.declared.frame.Frame.{Frame}
use Rattle.usac_frame.specs.AccessUnit.{IsFrame, unit_in}
use Rattle.usac_frame.specs.Units.{payload_length, is_immediate}
use Rattle.ipf_frame.specs.declared.stripping.Tail.{Tail}
use Rattle.ipf_frame.specs.declared.stripping.Tail.TheVariants.{Undo}
use Rattle.ipf_frame.specs.Slot.{IsTarget}
use Rattle.ipf_frame.specs.Stripping.{stripped_slot, may_strip, IsStripped}

-- the frame is an immediate play-out frame
abbrev pub ImmediateFrame : UsacConfig → List ℕ → Type 0
ImmediateFrame c au = (f : Frame) × IsFrame c au f × (is_immediate c f ≡ true)

-- `stripped_slot` is the relation on bits, where the preroll may be taken out so.
abbrev pub StrippedIsMade : Type 0
StrippedIsMade = (tail : Tail) (c : UsacConfig) (au : List ℕ) (f : Frame) → IsFrame c au f → is_immediate c f ≡ true → may_strip tail c au ≡ true → IsStripped tail c au (stripped_slot tail c au)

-- Without its preroll an access unit has the unit that it had, and is a frame that has no bytes of preroll.
abbrev pub StrippedUnitsStay : Type 0
StrippedUnitsStay = (tail : Tail) (c : UsacConfig) (au new : List ℕ) → IsStripped tail c au new → (unit_in c new ≡ unit_in c au) × ((g : Frame) × IsFrame c new g × (payload_length c g ≡ 0))

-- A target is an immediate play-out frame, and without its preroll it is the access unit that it was, byte for byte.
abbrev pub TargetsAreStripped : Type 0
TargetsAreStripped = (c : UsacConfig) (fade : Bool) (aus : List (List ℕ)) (au new : List ℕ) → declares_preroll c ≡ true → IsTarget c fade aus au new → AllByRecursion (λ b. b < 256) au
    → ImmediateFrame c new × (may_strip Undo c new ≡ true) × (stripped_slot Undo c new ≡ au)

-- What is left are bytes, and no more of them than there were.
abbrev pub StrippedAreFew : Type 0
StrippedAreFew = (tail : Tail) (c : UsacConfig) (au : List ℕ) (f : Frame) → IsFrame c au f → AllByRecursion (λ b. b < 256) (stripped_slot tail c au) × (length (stripped_slot tail c au) ≤ length au)
