-- What an insertion keeps, of one target: units stay, targets carry, and taken out again a target is what it was.
use Rattle.std.specs.Prelude.{◌≡◌, ℕ, ◌-◌, ◌%◌, ◌<◌, ◌≤◌, Bool, true, List, [], ◌∷◌, length, map, take}
use Rattle.std.specs.List.{AllByRecursion}
use Rattle.layout.specs.Text.{bits_of}
use Rattle.usac_cfg.specs.declared.usac_config.UsacConfig.{UsacConfig}
use Rattle.usac_cfg.specs.UsacConfig.{IsWellFormed, declares_preroll}
use Rattle.usac_frame.specs.declared.frame.Frame.{Frame}
use Rattle.usac_frame.specs.declared.part.ExtPart.TheVariants.{Absent}
use Rattle.usac_frame.specs.AccessUnit.{IsFrame, unit_in}
use Rattle.usac_frame.specs.Frame.{frame_text}
use Rattle.preroll.specs.Carried.{preroll_bytes, Carries}
use Rattle.ipf_frame.specs.Frames.{with_first}
use Rattle.ipf_frame.specs.Clean.{clean, IsClean}
use Rattle.ipf_frame.specs.Payload.{config_bytes, new_payload}
use Rattle.ipf_frame.specs.Slot.{new_slot, IsOpen, IsTarget}

-- A target has the unit that it had, though each of its core bits moved.
abbrev pub KeepsUnit : Type 0
KeepsUnit = (c : UsacConfig) (fade : Bool) (aus : List (List ℕ)) (au new : List ℕ) → declares_preroll c ≡ true → IsTarget c fade aus au new → unit_in c new ≡ unit_in c au

-- An access unit as it is carried has the unit that it had, and no preroll.
abbrev pub CleanUnitsStay : Type 0
CleanUnitsStay = (c : UsacConfig) (au bytes : List ℕ) → declares_preroll c ≡ true → IsClean c au bytes → (unit_in c bytes ≡ unit_in c au) × (preroll_bytes c bytes ≡ 0)

-- the first of the access units is independent
abbrev pub FirstIndependent : UsacConfig → List (List ℕ) → Type 0
FirstIndependent c [] = ⊥
FirstIndependent c (u ∷ us) = (unit_in c u).independent ≡ true

-- The frame that a target has become carries exactly the units of these access units, with the fade flag.
abbrev pub TargetsCarry : Type 0
TargetsCarry = (c : UsacConfig) (fade : Bool) (aus : List (List ℕ)) (au new : List ℕ) → IsWellFormed c → declares_preroll c ≡ true → FirstIndependent c aus → IsTarget c fade aus au new
    → (g : Frame) × IsFrame c new g × Carries c g fade (map (unit_in c) aus)

-- the bits of a frame with part 0 absent, without the last ones that do not fill a byte
abbrev pub undone : UsacConfig → Frame → List Bool
undone c g = let t = frame_text c (with_first Absent g) in take (length t - length t % 8) t

-- Taken out again, a target is the access unit that it was, bit for bit.
abbrev pub Undoes : Type 0
Undoes = (c : UsacConfig) (fade : Bool) (aus : List (List ℕ)) (au new : List ℕ) (g : Frame) → declares_preroll c ≡ true → IsTarget c fade aus au new → IsFrame c new g → undone c g ≡ bits_of au

-- `clean` is the relation on bits.
abbrev pub CleanIsMade : Type 0
CleanIsMade = (c : UsacConfig) (au : List ℕ) (f : Frame) → IsFrame c au f → IsClean c au (clean c au)

-- the access units are frames
abbrev pub AreFrames : UsacConfig → List (List ℕ) → Type 0
AreFrames c [] = Unit {0}
AreFrames c (u ∷ us) = ((f : Frame) × IsFrame c u f) × AreFrames c us

-- at most so many bytes, each below 256
abbrev pub AreSlots : List (List ℕ) → Type 0
AreSlots aus = AllByRecursion (λ au. (length au ≤ 8191) × AllByRecursion (λ b. b < 256) au) aus

-- `new_slot` is the relation on bits, where the rules of an insertion hold.
abbrev pub TargetsAreMade : Type 0
TargetsAreMade = (c : UsacConfig) (fade : Bool) (aus : List (List ℕ)) (au : List ℕ) (f : Frame) → IsFrame c au f → IsOpen f → AreFrames c aus → AreSlots aus → length aus ≤ 18
    → length (config_bytes c) ≤ 285 → length (new_payload c fade aus) ≤ 65788 → IsTarget c fade aus au (new_slot c fade aus au)
