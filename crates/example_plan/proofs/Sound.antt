-- The example is sound.
use Rattle.std.proofs.Common.{◌≡◌, ℕ, ◌≤◌, ◌+◌, List, [], ◌∷◌, ◌++◌, take, refl, ap, ◌∙◌, arith, inl}
use Rattle.std.specs.Prelude.{All, map}
use Rattle.std.proofs.lemmas.List.Elements.{All-cons, All-append}
use Rattle.usac_cfg.specs.declared.usac_config.UsacConfig.{UsacConfig}
use Rattle.usac_frame.specs.Units.{UnitValue, unit_of}
use Rattle.layout.specs.Text.{bits_of, num}
use Rattle.bit_core.specs.Trim.{trimmed}
use Rattle.plans.specs.Coded.{Coded, coded_shown, IsCoded}
use Rattle.plans.specs.WholeStream.{IsWholeStream}
use Rattle.plans.specs.StreamUnits.{IsFaithful, head_of, units_of}
use Rattle.plans.specs.SoundPlan.{BeginsWarm, IsSoundPlan}
use Rattle.core_iface.specs.Folding.{fold_core}
use Rattle.example_plan.specs.Example.{old_config, new_config, short_frame, old_stream, new_stream, joining_frame, joining, example}
use Rattle.example_plan.specs.Laws.{IsSoundExample}
use Rattle.example_plan.proofs.Configs.{mono_fits, are_level}
use Rattle.example_plan.proofs.Streams.{IsOf, bare_in, bare_frame, all_coded, all_of, bare_90, bare_A0, old_bytes, first_bytes, last_bytes, old_bare, first_bare, last_bare}
use Rattle.example_plan.proofs.Shown.{new_shown, new_shows}
use Rattle.example_plan.proofs.Elements.{carries_splice}
use Rattle.example_plan.proofs.Joining.{joined, is_joined, joining_carries}

old_whole : IsWholeStream old_stream
old_whole = (
  all_of old_config old_bytes,
  all_coded 1 (omega arith) old_bytes old_bare,
  inl (record { frame = bare_in 0xA0; is = bare_frame 1 0xA0 bare_A0; bare = refl; independent = refl }),
)

joining_coded : IsCoded joining_frame
joining_coded = record { config = mono_fits 2 (omega arith); frame = joined; is = is_joined }

abbrev firsts : List Coded
firsts = map (short_frame new_config) first_bytes

abbrev lasts : List Coded
lasts = map (short_frame new_config) last_bytes

-- what holds of each short frame and of the one with a preroll
of_new : (P : Coded → Type 0) → All P firsts → P joining_frame → All P lasts → All P new_stream
of_new P first joining last = All-append P firsts (joining_frame ∷ lasts) first (All-cons P joining_frame lasts joining last)

new_whole : IsWholeStream new_stream
new_whole = (
  of_new (IsOf new_config) (all_of new_config first_bytes) refl (all_of new_config last_bytes),
  of_new IsCoded (all_coded 2 (omega arith) first_bytes first_bare) joining_coded (all_coded 2 (omega arith) last_bytes last_bare),
  inl (record { frame = bare_in 0x90; is = bare_frame 2 0x90 bare_90; bare = refl; independent = refl }),
)

-- ---- the join

abbrev unit : ℕ → UnitValue
unit b = unit_of new_config (bare_in b)

-- the units of frames 0 to 3 are three, and the one that is carried
units_before : take (head_of new_shown + 4) (units_of new_shown) ≡ (unit 0x90 ∷ unit 0x04 ∷ unit 0x20 ∷ []) ++ joining.units
unfolding bits_of num trimmed
units_before = refl

faithful : IsFaithful (map coded_shown new_stream) 4 joining
faithful = (unit 0x90 ∷ unit 0x04 ∷ unit 0x20 ∷ [], ap (λ ss. take (head_of ss + 4) (units_of ss)) new_shows ∙ units_before)

begins_warm : (warm : UsacConfig → ℕ) → warm new_config ≤ 1 → BeginsWarm warm (record { stream = new_stream; from = 4; to = 8 })
begins_warm warm few = record { frame = joining_frame; carried = joining; first = refl; carries = joining_carries; enough = few; faithful = faithful }

pub sound : (warm : UsacConfig → ℕ) → warm new_config ≤ 1 → IsSoundPlan warm example
sound warm few = (
  record { stream = old_whole; some = omega arith; within = omega arith },
  inl refl,
  (record { stream = new_whole; some = omega arith; within = omega arith }, are_level, begins_warm warm few, tt),
)

pub sound_example : IsSoundExample
sound_example = record { sound = sound; fold = sound fold_core.warm (omega arith); fades = joining_carries; file = carries_splice }
