-- What is cut out of the streams of a plan, each stream decoded alone. No word here names a player or a reset.
use Rattle.std.specs.Prelude.{List, [], ◌∷◌, ◌++◌, Option, Some, None, if◌then◌else◌, ℕ, ℤ, map, slice_get, slice_range}
use Rattle.usac_cfg.specs.UsacConfig.{channels}
use Rattle.core_iface.specs.Decoding.{Definitions}
use Rattle.preroll.specs.Carrying.{Shown, fades_in}
use Rattle.plans.specs.Plans.{Piece}
use Rattle.plans.specs.Parts.{Part, part_shown}
use Rattle.switch_player.specs.Blending.{blended}
use Rattle.switch_player.specs.Streams.{alone, left}

-- the blocks of a piece, its stream decoded alone
abbrev pub blocks_of : Definitions → Piece → List (List ℤ)
blocks_of d p = slice_range (alone d p.stream) p.from p.to

-- blocks, into whose first samples the old ones fade
abbrev pub blend_first : ℕ → List ℤ → List (List ℤ) → List (List ℤ)
blend_first channels old [] = []
blend_first channels old (x ∷ xs) = blended channels old x ∷ xs

-- The blocks of a piece behind what is left of the piece before, where there is one. It fades into them where the piece's first
-- frame asks for it.
abbrev pub joined : Option (List ℤ) → Option Shown → List (List ℤ) → List (List ℤ)
joined None f blocks = blocks
joined (Some old) None blocks = blocks
joined (Some old) (Some f) blocks = if fades_in f.carried then blend_first (channels f.config) old blocks else blocks

-- the blocks of pieces, behind what is left of the piece before
abbrev pub cut_behind : Definitions → Option (List ℤ) → List Piece → List (List ℤ)
cut_behind d before [] = []
cut_behind d before (p ∷ ps) =
    joined before (slice_get p.stream p.from) (blocks_of d p) ++ cut_behind d (Some (left d p.stream p.to)) ps

-- the blocks of a plan, each stream decoded alone and cut
abbrev pub cut : Definitions → List Piece → List (List ℤ)
cut d ps = cut_behind d None ps

-- and of a plan of parts of streams, by what they show
abbrev pub cut_plan : Definitions → List Part → List (List ℤ)
cut_plan d ps = cut d (map part_shown ps)
