-- A plan, and the plan that it becomes where insertions are made into the streams of some of its parts.
use Rattle.std.specs.Prelude.{◌≡◌, ℕ, ◌-◌, ◌≤◌, Bool, true, false, ◌&&◌, List, [], ◌∷◌, ◌++◌, length, map, take, drop, Option, Some, None, slice_get, ℤ}
use Rattle.std.specs.List.{AllByRecursion}
use Rattle.usac_cfg.specs.UsacConfig.{channels}
use Rattle.core_iface.specs.Decoding.{Definitions}
use Rattle.plans.specs.Coded.{Coded, coded_shown}
use Rattle.plans.specs.Parts.{Part}
use Rattle.switch_player.specs.Cuts.{blend_first}
use Rattle.switch_player.specs.Streams.{left}
use Rattle.stream_edit.specs.Targets.{is_target}
use Rattle.inserted_plans.specs.Insertion.{Insertion, IsAllowed, old_frames, new_frames}

-- a part of a plan, and what is inserted into its stream, if anything is
pub record Change : Type 0 where
  pub part : Part
  pub insertion : Option Insertion

-- An insertion, if there is one, is one into this stream, and no rule refuses it.
abbrev pub IsInto : List Coded → Option Insertion → Type 0
IsInto fs None = Unit {0}
IsInto fs (Some i) = IsAllowed i × (fs ≡ old_frames i)

-- The part ends within its stream, and the insertion is one into that stream.
pub record IsChange (c : Change) : Type 0 where
  pub within : c.part.to ≤ length c.part.stream
  pub into : IsInto c.part.stream c.insertion

-- the stream behind the insertion
abbrev pub stream_behind : List Coded → Option Insertion → List Coded
stream_behind fs None = fs
stream_behind fs (Some i) = new_frames i

-- the part with the same numbers of the stream behind the insertion
abbrev pub part_behind : Change → Part
part_behind c = record { stream = stream_behind c.part.stream c.insertion; from = c.part.from; to = c.part.to }

-- the plan before the insertions, and behind them
abbrev pub old_plan : List Change → List Part
old_plan cs = map (λ c. c.part) cs

abbrev pub new_plan : List Change → List Part
new_plan cs = map part_behind cs

-- ---- where a block of the cut changes

-- The frame with that number is a target, and its preroll asks for a fade.
abbrev pub is_fading : Option Insertion → ℕ → Bool
is_fading None at = false
is_fading (Some i) at = i.fade && is_target i.targets at

-- No part behind the first begins at such a frame.
abbrev pub BeginsNoFade : List Change → Type 0
BeginsNoFade [] = Unit {0}
BeginsNoFade (c ∷ cs) = AllByRecursion (λ b. is_fading b.insertion b.part.from ≡ false) cs

-- The blocks of a part that begins with frame f. If it is fading, what the part before leaves fades into the first of them, where there is a part before.
abbrev pub faded : Option (List ℤ) → Bool → Option Coded → List (List ℤ) → List (List ℤ)
faded None fading f blocks = blocks
faded (Some old) false f blocks = blocks
faded (Some old) true None blocks = blocks
faded (Some old) true (Some f) blocks = blend_first (channels f.config) old blocks

-- what the stream of a part still has to give behind the part
abbrev pub left_behind : Definitions → Part → List ℤ
left_behind d p = left d (map coded_shown p.stream) p.to

-- The blocks of the parts, behind what the part before leaves. All stay as they are, but for the first one of a part that begins at a
-- fading target behind another part: into that one fades what the stream of the part before still has to give.
abbrev pub with_fades : Definitions → Option (List ℤ) → List Change → List (List ℤ) → List (List ℤ)
with_fades d before [] blocks = blocks
with_fades d before (c ∷ cs) blocks =
    faded before (is_fading c.insertion c.part.from) (slice_get c.part.stream c.part.from) (take (c.part.to - c.part.from) blocks)
    ++ with_fades d (Some (left_behind d c.part)) cs (drop (c.part.to - c.part.from) blocks)
