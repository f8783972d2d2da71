-- How a part of a changed plan begins, and what its stream gives.
use Rattle.std.proofs.Common.{◌≡◌, ℕ, Bool, true, false, List, map, Option, Some, None, refl, sym, ap, subst, ◌∙◌, arith}
use Rattle.std.specs.Prelude.{slice_get, ◌&&◌, if◌then◌else◌, ℤ}
use Rattle.std.specs.Option.{option_map}
use Rattle.usac_cfg.specs.declared.usac_config.UsacConfig.{UsacConfig}
use Rattle.usac_cfg.specs.UsacConfig.{IsWellFormed as IsConfig, channels}
use Rattle.preroll.specs.Carrying.{Shown, fades_in}
use Rattle.plans.specs.Coded.{Coded, coded_shown}
use Rattle.core_iface.specs.Decoding.{Definitions}
use Rattle.switch_player.specs.Cuts.{joined, blend_first}
use Rattle.switch_player.proofs.PartsShown.{carried_shown}
use Rattle.stream_edit.specs.Targets.{is_target}
use Rattle.inserted_plans.specs.Insertion.{Insertion, IsAllowed, old_frames, new_frames}
use Rattle.inserted_plans.specs.Changes.{IsInto, stream_behind, is_fading, faded}
use Rattle.inserted_plans.specs.Laws.{DecodeAlike}
use Rattle.inserted_plans.proofs.Lists.{there, get_mapped}
use Rattle.inserted_plans.proofs.Inserted.{as_many, stays, target_below, config_fits, config_before, config_behind, target_bare, target_carries}
use Rattle.inserted_plans.proofs.Alike.{streams_decode_alike}

abbrev Blocks : Type 0
Blocks = List (List ℤ)

-- ---- with no fade

not_faded : (before : Option (List ℤ)) (f : Option Coded) (blocks : Blocks) → faded before false f blocks ≡ blocks
not_faded None f blocks = refl
not_faded (Some old) f blocks = refl

pub unfaded : (before : Option (List ℤ)) (b : Bool) (f : Option Coded) (blocks : Blocks) → b ≡ false → faded before b f blocks ≡ blocks
unfaded before b f blocks e = ap (λ (x : Bool). faded before x f blocks) e ∙ not_faded before f blocks

pub and_false : (a b : Bool) → b ≡ false → (a && b) ≡ false
and_false true b e = e
and_false false b e = refl

and_true : (a b : Bool) → b ≡ true → (a && b) ≡ a
and_true true b e = e
and_true false b e = refl

-- ---- at a target

-- a test and a blend, as the definition of the cut has it and as `faded` has it
fade_where : (old : List ℤ) (fade : Bool) (f : Coded) (c : UsacConfig) (blocks : Blocks) → c ≡ f.config → (if fade then blend_first (channels c) old blocks else blocks) ≡ faded (Some old) fade (Some f) blocks
fade_where old true f c blocks e = ap (λ (x : UsacConfig). blend_first (channels x) old blocks) e
fade_where old false f c blocks e = refl

shown_at : (fs : List Coded) (n : ℕ) (f : Coded) → slice_get fs n ≡ Some f → slice_get (map coded_shown fs) n ≡ Some (coded_shown f)
shown_at fs n f e = get_mapped coded_shown fs n ∙ ap (λ (o : Option Coded). option_map coded_shown o) e

module _ (i : Insertion) (w : IsAllowed i) (at : ℕ) (is : is_target i.targets at ≡ true) where
  before_there : (f : Coded) × (slice_get (old_frames i) at ≡ Some f)
  before_there = there (old_frames i) at (target_below i w at is)

  behind_there : (g : Coded) × (slice_get (new_frames i) at ≡ Some g)
  behind_there = there (new_frames i) at (omega (arith, target_below i w at is, as_many i w))

  same_config : behind_there.0.config ≡ before_there.0.config
  same_config = config_behind i w at behind_there.0 behind_there.1 ∙ sym (config_before i w at before_there.0 before_there.1)

  fades_behind : fades_in (coded_shown behind_there.0).carried ≡ i.fade
  fades_behind =
      let g = behind_there.0 in
      ap fades_in (carried_shown g _ (subst IsConfig (sym (config_behind i w at g behind_there.1)) (config_fits i w)) (target_carries i w at g is behind_there.1))

  fades_before : fades_in (coded_shown before_there.0).carried ≡ false
  fades_before = ap fades_in (target_bare i w at before_there.0 is before_there.1)

  begins_at : (before : Option (List ℤ)) (blocks : Blocks)
      → joined before (Some (coded_shown behind_there.0)) blocks ≡ faded before i.fade (Some before_there.0) (joined before (Some (coded_shown before_there.0)) blocks)
  begins_at None blocks = refl
  begins_at (Some old) blocks =
      let g = behind_there.0 in
      let f = before_there.0 in
      ap (λ (b : Bool). if b then blend_first (channels g.config) old blocks else blocks) fades_behind
      ∙ fade_where old i.fade f g.config blocks same_config
      ∙ ap (λ (b : Bool). faded (Some old) i.fade (Some f) (if b then blend_first (channels f.config) old blocks else blocks)) (sym fades_before)

  begins_target : (before : Option (List ℤ)) (blocks : Blocks)
      → joined before (slice_get (map coded_shown (new_frames i)) at) blocks ≡ faded before (is_fading (Some i) at) (slice_get (old_frames i) at) (joined before (slice_get (map coded_shown (old_frames i)) at) blocks)
  begins_target before blocks =
      let f = before_there.0 in
      ap (λ (o : Option Shown). joined before o blocks) (shown_at (new_frames i) at behind_there.0 behind_there.1)
      ∙ begins_at before blocks
      ∙ ap (λ (o : Option Shown). faded before i.fade (Some f) (joined before o blocks)) (sym (shown_at (old_frames i) at f before_there.1))
      ∙ ap (λ (o : Option Coded). faded before i.fade o (joined before (slice_get (map coded_shown (old_frames i)) at) blocks)) (sym before_there.1)
      ∙ ap (λ (b : Bool). faded before b (slice_get (old_frames i) at) (joined before (slice_get (map coded_shown (old_frames i)) at) blocks)) (sym (and_true i.fade (is_target i.targets at) is))

-- ---- at any frame

begins_inserted : (i : Insertion) → IsAllowed i → (at : ℕ) (before : Option (List ℤ)) (blocks : Blocks)
    → joined before (slice_get (map coded_shown (new_frames i)) at) blocks ≡ faded before (is_fading (Some i) at) (slice_get (old_frames i) at) (joined before (slice_get (map coded_shown (old_frames i)) at) blocks)
begins_inserted i w at before blocks = by_target (is_target i.targets at) refl
  where
    by_target : (b : Bool) → is_target i.targets at ≡ b
        → joined before (slice_get (map coded_shown (new_frames i)) at) blocks ≡ faded before (is_fading (Some i) at) (slice_get (old_frames i) at) (joined before (slice_get (map coded_shown (old_frames i)) at) blocks)
    by_target true is = begins_target i w at is before blocks
    by_target false is =
        let same : slice_get (map coded_shown (new_frames i)) at ≡ slice_get (map coded_shown (old_frames i)) at =
        get_mapped coded_shown (new_frames i) at ∙ ap (λ (o : Option Coded). option_map coded_shown o) (stays i w at is) ∙ sym (get_mapped coded_shown (old_frames i) at) in
        ap (λ (o : Option Shown). joined before o blocks) same
        ∙ sym (unfaded before (is_fading (Some i) at) (slice_get (old_frames i) at) (joined before (slice_get (map coded_shown (old_frames i)) at) blocks) (and_false i.fade (is_target i.targets at) is))

pub begins : (fs : List Coded) (o : Option Insertion) → IsInto fs o → (at : ℕ) (before : Option (List ℤ)) (blocks : Blocks)
    → joined before (slice_get (map coded_shown (stream_behind fs o)) at) blocks ≡ faded before (is_fading o at) (slice_get fs at) (joined before (slice_get (map coded_shown fs) at) blocks)
begins fs None into at before blocks = sym (not_faded before (slice_get fs at) (joined before (slice_get (map coded_shown fs) at) blocks))
begins fs (Some i) into at before blocks =
    subst (λ (xs : List Coded). joined before (slice_get (map coded_shown (new_frames i)) at) blocks ≡ faded before (is_fading (Some i) at) (slice_get xs at) (joined before (slice_get (map coded_shown xs) at) blocks))
    (sym into.1) (begins_inserted i into.0 at before blocks)

pub gives_alike : (d : Definitions) (fs : List Coded) (o : Option Insertion) → IsInto fs o → DecodeAlike d (map coded_shown fs) (map coded_shown (stream_behind fs o))
gives_alike d fs None into = record { many = refl; units = refl; head = refl; alone = refl; left = λ j. refl }
gives_alike d fs (Some i) into = subst (λ (xs : List Coded). DecodeAlike d (map coded_shown xs) (map coded_shown (new_frames i))) (sym into.1) (streams_decode_alike d i into.0)
