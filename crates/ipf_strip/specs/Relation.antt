-- What taking prerolls out keeps and changes, as a relation of the elements before and behind.
use Rattle.std.specs.Prelude.{ℕ, List, Option, Some, None, slice_get}
use Rattle.usac_cfg.specs.declared.usac_config.UsacConfig.{UsacConfig}
use Rattle.latm.specs.declared.stream.Stream.{Stream}
use Rattle.latm.specs.Stream.{frames_of, config_in}
use Rattle.stream_edit.specs.Relation.{IsEdited}
use Rattle.ipf_frame.specs.declared.stripping.Tail.{Tail}
use Rattle.ipf_frame.specs.Stripping.{IsStripped}

-- The access unit becomes, under the configuration of its frame, one without its preroll.
abbrev pub BecomesBare : Tail → Option (UsacConfig × List ℕ) → List ℕ → List ℕ → Type 0
BecomesBare tail None au new = ⊥
BecomesBare tail (Some f) au new = IsStripped tail (config_in f) au new

-- The two streams agree in all but the slots of the targets, each of which has lost its preroll.
abbrev pub IsStrippedOf : Stream → Stream → Tail → List ℕ → Type 0
IsStrippedOf s new tail targets = IsEdited (λ t au slot. BecomesBare tail (slice_get (frames_of s) t) au slot) targets s new
