-- What is true of every frame.
use Rattle.std.specs.Prelude.{◌≡◌, ℕ, ◌<◌, ◌≤◌, true, false, List, ◌∷◌, ◌++◌, length, replicate, Result, IfOk, IfErr}
use Rattle.layout.specs.Laws.{SpellsOnce, IsDecidedWhole}
use Rattle.layout.specs.Reading.{ReadsText}
use Rattle.layout.specs.Text.{bits_of, pad}
use Rattle.usac_cfg.specs.declared.usac_config.UsacConfig.{UsacConfig}
use Rattle.usac_cfg.specs.UsacConfig.{IsWellFormed, leading}
use Rattle.usac_frame.specs.declared.fault.FrameFault.{FrameFault}
use Rattle.usac_frame.specs.declared.frame.Frame.{Frame}
use Rattle.usac_frame.specs.Faults.{is_memory}
use Rattle.usac_frame.specs.Frame.{FitsConfig, frame, frame_text}
use Rattle.usac_frame.specs.Units.{preroll_text, core_text, first_payload}

-- An access unit is at most one frame of a configuration.
abbrev pub IsSpelledOnce : Type 0
IsSpelledOnce = (c : UsacConfig) → SpellsOnce (frame c)

-- An access unit is a frame of a configuration, or has a fault, and not both; and it has one fault at most.
abbrev pub IsDecided : Type 0
IsDecided = (c : UsacConfig) → IsDecidedWhole (frame c)

-- the frame with so many zeros behind it
abbrev pub with_zeros : Frame → ℕ → Frame
with_zeros f n = record { independent = f.independent; leading = f.leading; rest = f.rest ++ replicate n false }

-- What is written of a frame is read as this frame with fewer than 8 zeros behind it, unless memory fails.
abbrev pub IsReadBack : Type 0
IsReadBack = (c : UsacConfig) (f : Frame) (bytes : List ℕ) (result : Result Frame FrameFault) → FitsConfig c f → bits_of bytes ≡ pad (frame_text c f) → ReadsText is_memory (frame c) (bits_of bytes) result
    → (n : ℕ) × (n < 8) × IfErr result (λ e. is_memory e ≡ true) × IfOk result (λ g. g ≡ with_zeros f n)

-- A frame has as many parts as its configuration has leading extension elements.
abbrev pub HasPartOfEach : Type 0
HasPartOfEach = (c : UsacConfig) (f : Frame) → FitsConfig c f → length f.leading ≡ leading c

-- A frame's spelling is the flag, the part of the preroll element, where one is declared, and the bits behind it.
abbrev pub IsSplitAtPreroll : Type 0
IsSplitAtPreroll = (c : UsacConfig) (f : Frame) → FitsConfig c f → frame_text c f ≡ f.independent ∷ (preroll_text c f ++ core_text c f)

-- Under a well formed configuration, whose default lengths are bounded, the payload of part 0 is bounded too.
abbrev pub HasSmallPayload : Type 0
HasSmallPayload = (c : UsacConfig) (f : Frame) → IsWellFormed c → FitsConfig c f → length (first_payload f) ≤ 65791
