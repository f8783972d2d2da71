-- How `switch` stands behind frames of a rendition.
use Rattle.std.specs.Prelude.{◌≡◌, ℕ, true, List, map, Option, None, All}
use Rattle.std.specs.List.Sorted.{IsStrictlyIncreasing}
use Rattle.usac_cfg.specs.declared.usac_config.UsacConfig.{UsacConfig}
use Rattle.usac_cfg.specs.UsacConfig.{IsWellFormed}
use Rattle.plans.specs.Parts.{Part, spliced}
use Rattle.splicer.specs.Runs.{new_run}
use Rattle.splicer.specs.Pieces.{fault_over}
use Rattle.splicer.specs.SoFar.{AsksNext}
use Rattle.core_iface.specs.Decoding.{Definitions}
use Rattle.core_iface.specs.Answering.{Running}
use Rattle.au_stream.specs.Frames.{Frame}
use Rattle.playing.specs.Spliced.{coded}
use Rattle.playing.specs.Standing.{PlayerStands}
use Rattle.joining.specs.Renditions.{asked_at, RenditionStands}
use Rattle.switching.specs.declared.switch_task.Switch.{Switch}
use Rattle.switching.specs.Switching.{SwitchAt, given_so_far}

-- The positions rise. The renditions before gave these parts of a plan, which the earlier frames are; and these frames of the
-- rendition under way break no rule.
pub record ArePlanned (warm : UsacConfig → ℕ) (at : SwitchAt) (frames : List Frame) : Type 0 where
  pub rise : IsStrictlyIncreasing at.piece.positions
  pub parts : List Part
  pub fine : All (λ p. All (λ f. IsWellFormed f.config) p.stream) parts
  pub asks : AsksNext warm 0 None at.piece.positions parts (asked_at at.piece)
  pub earlier : map coded at.earlier ≡ spliced parts
  pub well : All (λ f. IsWellFormed f.config) (map coded frames)
  pub passes : fault_over warm (new_run (asked_at at.piece)) (map coded frames) ≡ None

-- ---- in the code

-- The check was fed these frames, and the player those of them that are of the piece, behind the ones of the pieces before.
pub record SwitchStands (d : Definitions) (at : SwitchAt) (frames : List Frame) (task : Switch) (ready : Option Running) : Type 0 where
  pub rendition : RenditionStands at.piece frames task.renditions
  pub player : PlayerStands d (given_so_far at frames) task.frames.player ready
  pub planned : task.follows ≡ true → ArePlanned d.warm at frames
