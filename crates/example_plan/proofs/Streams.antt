-- Streams of short frames, and the frames that they are.
use Rattle.std.proofs.Common.{◌≡◌, ℕ, ◌<◌, Bool, false, List, [], ◌∷◌, refl}
use Rattle.std.specs.Prelude.{All, map, drop, ◌/◌}
use Rattle.std.specs.List.{AllByRecursion}
use Rattle.std.proofs.lemmas.List.Elements.{All-nil, All-cons}
use Rattle.layout.specs.Text.{is_odd, bits_of, num}
use Rattle.usac_cfg.specs.declared.usac_config.UsacConfig.{UsacConfig}
use Rattle.usac_frame.specs.declared.frame.Frame.{Frame}
use Rattle.usac_frame.specs.declared.part.ExtPart.TheVariants.{Absent}
use Rattle.usac_frame.specs.AccessUnit.{IsFrame}
use Rattle.plans.specs.Coded.{Coded, IsCoded}
use Rattle.example_plan.specs.Example.{mono, short_frame}
use Rattle.example_plan.proofs.Configs.{mono_fits}

-- a frame without a preroll
abbrev pub bare : Bool → List Bool → Frame
bare independent bits = record { independent = independent; leading = Absent ∷ []; rest = bits }

-- the frame that a byte is, where its second bit is 0
abbrev pub bare_in : ℕ → Frame
bare_in b = bare (is_odd (b / 128)) (drop 2 (bits_of (b ∷ [])))

abbrev pub IsBare : ℕ → Type 0
IsBare b = bits_of (b ∷ []) ≡ is_odd (b / 128) ∷ false ∷ drop 2 (bits_of (b ∷ []))

pub bare_frame : (id b : ℕ) → IsBare b → IsFrame (mono id) (b ∷ []) (bare_in b)
bare_frame id b h = record { fits = (tt, tt); spelled = h }

pub all_coded : (id : ℕ) → id < 256 → (bs : List ℕ) → AllByRecursion IsBare bs → All IsCoded (map (short_frame (mono id)) bs)
all_coded id small [] h = All-nil IsCoded
all_coded id small (b ∷ bs) h =
    All-cons IsCoded (short_frame (mono id) b) (map (short_frame (mono id)) bs)
    (record { config = mono_fits id small; frame = bare_in b; is = bare_frame id b h.0 }) (all_coded id small bs h.1)

-- frames of one configuration
abbrev pub IsOf : UsacConfig → Coded → Type 0
IsOf c f = f.config ≡ c

pub all_of : (c : UsacConfig) (bs : List ℕ) → All (IsOf c) (map (short_frame c) bs)
all_of c [] = All-nil (IsOf c)
all_of c (b ∷ bs) = All-cons (IsOf c) (short_frame c b) (map (short_frame c) bs) refl (all_of c bs)

pub bare_A0 : IsBare 0xA0
unfolding bits_of num
bare_A0 = refl

pub bare_90 : IsBare 0x90
unfolding bits_of num
bare_90 = refl

pub bare_81 : IsBare 0x81
unfolding bits_of num
bare_81 = refl

-- the bytes of the old stream, and of the new one before and behind its frame with a preroll
abbrev pub old_bytes : List ℕ
old_bytes = 0xA0 ∷ 0x10 ∷ 0x08 ∷ 0x84 ∷ 0x82 ∷ 0x01 ∷ 0x30 ∷ 0x18 ∷ []

abbrev pub first_bytes : List ℕ
first_bytes = 0x90 ∷ 0x04 ∷ 0x20 ∷ 0x81 ∷ []

abbrev pub last_bytes : List ℕ
last_bytes = 0x02 ∷ 0x28 ∷ 0x09 ∷ []

pub old_bare : AllByRecursion IsBare old_bytes
unfolding bits_of num
old_bare = (refl, (refl, (refl, (refl, (refl, (refl, (refl, (refl, tt))))))))

pub first_bare : AllByRecursion IsBare first_bytes
unfolding bits_of num
first_bare = (refl, (refl, (refl, (refl, tt))))

pub last_bare : AllByRecursion IsBare last_bytes
unfolding bits_of num
last_bare = (refl, (refl, (refl, tt)))
