-- The blocks of the example. They are computed for any ramp, and then for FoldCore's.
use Rattle.std.proofs.Common.{◌≡◌, ℕ, ◌+◌, ℤ, List, [], ◌∷◌, refl, ap, ◌∙◌}
use Rattle.std.specs.Prelude.{map}
use Rattle.layout.specs.Text.{bits_of, num}
use Rattle.bit_core.specs.Trim.{trimmed}
use Rattle.usac_cfg.specs.UsacConfig.{channels, frame_length}
use Rattle.preroll.specs.Carrying.{Shown}
use Rattle.plans.specs.Coded.{coded_shown}
use Rattle.plans.specs.Plans.{Piece}
use Rattle.core_iface.specs.Decoding.{Definitions}
use Rattle.core_iface.specs.Folding.{fold_core, ramp, value_of, weighted, past_of}
use Rattle.switch_player.specs.Blending.{blended}
use Rattle.switch_player.specs.Cuts.{cut}
use Rattle.example_plan.specs.Example.{old_stream, new_stream}
use Rattle.example_plan.specs.Laws.{IsCutIntoRamps}
use Rattle.example_plan.proofs.Streams.{old_bytes, old_bare}
use Rattle.example_plan.proofs.Shown.{short_shown, shorts_show, new_shown, new_shows}

-- the plan, of streams as they show themselves
abbrev pieces : List Shown → List Shown → List Piece
pieces old new = record { stream = old; from = 0; to = 4 } ∷ record { stream = new; from = 4; to = 8 } ∷ []

module _ (r : ℕ → ℕ → ℕ → List ℤ) where
  -- FoldCore with another ramp
  abbrev fold_with : Definitions
  fold_with = record fold_core {
    emit = λ c s u. r (value_of s u + weighted 2 (past_of c s)) (channels c) (frame_length c);
    drain = λ c s. r (weighted 2 (past_of c s)) (channels c) 128;
  }

  abbrev blocks : List (List ℤ)
  blocks = r 1 1 1024 ∷ r 7 1 1024 ∷ r 28 1 1024 ∷ r 40 1 1024 ∷ blended 1 (r 8 1 128) (r 15 1 1024) ∷ r 20 1 1024 ∷ r 74 1 1024 ∷ r 239 1 1024 ∷ []

  computed : cut fold_with (pieces (map (short_shown 1) old_bytes) new_shown) ≡ blocks
  unfolding bits_of num trimmed
  computed = refl

  blocks_are : cut fold_with (pieces (map coded_shown old_stream) (map coded_shown new_stream)) ≡ blocks
  blocks_are =
      ap (λ ss. cut fold_with (pieces ss (map coded_shown new_stream))) (shorts_show 1 old_bytes old_bare)
      ∙ ap (λ ss. cut fold_with (pieces (map (short_shown 1) old_bytes) ss)) new_shows
      ∙ computed

pub cut_into_ramps : IsCutIntoRamps
cut_into_ramps = blocks_are ramp
