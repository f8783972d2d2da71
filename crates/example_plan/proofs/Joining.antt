-- The frame of the join carries one unit, and fades.
use Rattle.std.proofs.Common.{◌≡◌, ℕ, true, false, List, [], ◌∷◌, ◌++◌, refl, ap, arith}
use Rattle.std.specs.Prelude.{replicate, map}
use Rattle.layout.specs.Text.{bits_of, num}
use Rattle.bit_core.specs.Trim.{trimmed}
use Rattle.usac_cfg.specs.Spelling.{usac_config}
use Rattle.usac_frame.specs.declared.frame.Frame.{Frame}
use Rattle.usac_frame.specs.declared.part.ExtPart.TheVariants.{Present}
use Rattle.usac_frame.specs.declared.part.LengthForm.TheVariants.{Byte}
use Rattle.usac_frame.specs.Frame.{frame_text}
use Rattle.usac_frame.specs.AccessUnit.{IsFrame}
use Rattle.usac_frame.specs.FrameFound.{frame_of_is}
use Rattle.usac_frame.specs.Units.{unit_of}
use Rattle.preroll.specs.declared.preroll.PreRoll.{PreRoll}
use Rattle.preroll.specs.PreRoll.{IsWellFormed, preroll_text}
use Rattle.preroll.specs.Carried.{IsConfigIn, Carries}
use Rattle.preroll.specs.Steps.{IsOpened, AreFrames}
use Rattle.preroll.proofs.Configs.{one_config}
use Rattle.preroll.proofs.Tried.{is_opened, pass_6, pass_7, pass_8, pass_9, are_carried, carries}
use Rattle.plans.specs.Coded.{CarriesUnits}
use Rattle.example_plan.specs.Example.{new_config, joining_frame, joining}
use Rattle.example_plan.proofs.Configs.{mono_fits}
use Rattle.example_plan.proofs.Streams.{bare_in, bare_frame, bare_81}

-- ---- the frame

abbrev payload : List ℕ
payload = 0x81 ∷ 0x90 ∷ 0x8E ∷ 0x60 ∷ 0x0C ∷ 0x72 ∷ 0x00 ∷ 0x02 ∷ 0x09 ∷ 0x00 ∷ 0x01 ∷ 0x81 ∷ []

abbrev pub joined : Frame
joined = record { independent = true; leading = Present Byte true true payload ∷ []; rest = true ∷ true ∷ replicate 11 false }

spelled : bits_of joining_frame.au ≡ frame_text new_config joined
unfolding bits_of num
spelled = refl

pub is_joined : IsFrame new_config joining_frame.au joined
is_joined = record {
  fits = (record { size = omega arith; marks = (refl, refl); bytes = (omega arith, (omega arith, (omega arith, (omega arith, (omega arith, (omega arith, (omega arith, (omega arith, (omega arith, (omega arith, (omega arith, (omega arith, tt)))))))))))) }, tt);
  spelled = spelled;
}

-- ---- its preroll

abbrev config_bytes : List ℕ
config_bytes = 0x19 ∷ 0x08 ∷ 0xE6 ∷ 0x00 ∷ 0xC7 ∷ 0x20 ∷ 0x00 ∷ 0x20 ∷ []

abbrev carried : PreRoll
carried = record { config = config_bytes; fade = true; reserved = false; units = (0x81 ∷ []) ∷ []; tail = [] }

carried_spelled : bits_of payload ≡ preroll_text carried
unfolding bits_of num
carried_spelled = refl

carried_fits : IsWellFormed carried
carried_fits = record { config = (omega arith, (omega arith, (omega arith, (omega arith, (omega arith, (omega arith, (omega arith, (omega arith, (omega arith, tt))))))))); few = omega arith; units = ((omega arith, (omega arith, tt)), tt) }

opened : IsOpened new_config joined carried
opened = is_opened new_config joined carried payload (λ none. absurd (omega arith)) refl refl carried_fits carried_spelled

config_spelled : bits_of config_bytes ≡ usac_config.spelling new_config ++ replicate 4 false
unfolding bits_of num
config_spelled = refl

config_is : IsConfigIn config_bytes new_config
config_is = record { behind = replicate 4 false; fits = mono_fits 2 (omega arith); spelled = config_spelled; few = omega arith }

-- ---- what it carries

abbrev units : List Frame
units = bare_in 0x81 ∷ []

are_frames : AreFrames new_config carried.units units
are_frames = ap (λ o. o ∷ []) (frame_of_is.found new_config (0x81 ∷ []) (bare_in 0x81) (bare_frame 2 0x81 bare_81))

unit_is : joining.units ≡ map (unit_of new_config) units
unfolding bits_of num trimmed
unit_is = refl

pub carries_joining : Carries new_config joined true joining.units
carries_joining =
    let six = pass_6 new_config joined carried opened (λ none. none.1 new_config config_is) (λ other. other.2 (one_config config_bytes other.0 new_config other.1 config_is)) in
    let seven = pass_7 new_config joined carried units opened six are_frames in
    let eight = pass_8 new_config joined carried units opened seven are_frames (refl, tt) in
    let nine = pass_9 new_config joined carried units opened eight are_frames refl in
    carries new_config joined carried units joining.units opened (are_carried new_config joined carried units nine are_frames) unit_is

pub joining_carries : CarriesUnits joining_frame joining
joining_carries = record { frame = joined; is = is_joined; carries = carries_joining }
