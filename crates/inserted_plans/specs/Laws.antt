-- What an insertion keeps, and what it gives, for whoever cuts and joins its stream.
use Rattle.std.specs.Prelude.{◌≡◌, ℕ, ◌≤◌, ◌<◌, true, List, [], ◌∷◌, ◌++◌, length, map, Option, Some, None}
use Rattle.std.specs.List.{AllByRecursion}
use Rattle.usac_cfg.specs.declared.usac_config.UsacConfig.{UsacConfig}
use Rattle.preroll.specs.Carrying.{Shown}
use Rattle.plans.specs.Coded.{coded_shown}
use Rattle.plans.specs.WholeStream.{IsWholeStream, stream_config}
use Rattle.plans.specs.StreamUnits.{units_of, head_of}
use Rattle.plans.specs.Level.{AreLevel}
use Rattle.plans.specs.Parts.{Part, IsPart}
use Rattle.plans.specs.SoundPlan.{BeginsWarm, AreJoined, IsSoundPlan}
use Rattle.core_iface.specs.Decoding.{Definitions}
use Rattle.switch_player.specs.Streams.{alone, left}
use Rattle.switch_player.specs.Cuts.{cut_plan}
use Rattle.stream_edit.specs.Targets.{is_target}
use Rattle.inserted_plans.specs.Insertion.{Insertion, IsAllowed, old_frames, new_frames}
use Rattle.inserted_plans.specs.Changes.{Change, IsChange, BeginsNoFade, old_plan, new_plan, with_fades}

-- ---- the stream

-- A whole stream is one behind the insertion too.
abbrev pub StaysWhole : Type 0
StaysWhole = (i : Insertion) → IsAllowed i → IsWholeStream (old_frames i) → IsWholeStream (new_frames i)

-- Two streams have as many frames and the same units; and on one core, each decoded alone, they give the same blocks, and leave the same
-- before each frame.
pub record DecodeAlike (d : Definitions) (old new : List Shown) : Type 0 where
  pub many : length new ≡ length old
  pub units : units_of new ≡ units_of old
  pub head : head_of new ≡ head_of old
  pub alone : alone d new ≡ alone d old
  pub left : (j : ℕ) → left d new j ≡ left d old j

-- So it is with the stream before and behind the insertion, though every core bit of a target moved.
abbrev pub DecodesAlike : Definitions → Type 0
DecodesAlike d = (i : Insertion) → IsAllowed i → DecodeAlike d (map coded_shown (old_frames i)) (map coded_shown (new_frames i))

-- ---- the targets

-- The frame is a target, which carries as many units as a decoder of this warm-up needs, or more.
pub record IsWarmTarget (warm : UsacConfig → ℕ) (i : Insertion) (t : ℕ) : Type 0 where
  pub target : is_target i.targets t ≡ true
  pub config : UsacConfig
  pub is : stream_config (new_frames i) ≡ Some config
  pub enough : warm config ≤ i.count

-- the frames of the stream behind the insertion, from one number on, up to before another
abbrev pub new_part : Insertion → ℕ → ℕ → Part
new_part i from to = record { stream = new_frames i; from = from; to = to }

-- It is a part that begins warm, and so by itself a sound plan.
pub record IsWarmPart (warm : UsacConfig → ℕ) (p : Part) : Type 0 where
  pub part : IsPart p
  pub warms : BeginsWarm warm p
  pub sound : IsSoundPlan warm (p ∷ [])

-- A target is a sound start of a whole stream behind the insertion: each part from there on is such a part.
abbrev pub TargetsBeginWarm : Type 0
TargetsBeginWarm = (warm : UsacConfig → ℕ) (i : Insertion) (t to : ℕ) → IsAllowed i → IsWholeStream (old_frames i) → IsWarmTarget warm i t → t < to → to ≤ length (new_frames i) → IsWarmPart warm (new_part i t to)

-- the configuration of the last stream of a plan
abbrev pub last_config : List Part → Option UsacConfig
last_config [] = None
last_config (p ∷ []) = stream_config p.stream
last_config (p ∷ q ∷ ps) = last_config (q ∷ ps)

-- The part is soundly joined to each other configuration of equal rate and channels: it may follow a sound plan of which the last stream has
-- such a configuration.
pub record JoinsSoundly (warm : UsacConfig → ℕ) (p : Part) : Type 0 where
  pub joined : (before : Option UsacConfig) → AreLevel before (stream_config p.stream) → AreJoined warm before (p ∷ [])
  pub behind : (ps : List Part) → IsSoundPlan warm ps → AreLevel (last_config ps) (stream_config p.stream) → IsSoundPlan warm (ps ++ p ∷ [])

-- And a target is a sound join.
abbrev pub TargetsJoin : Type 0
TargetsJoin = (warm : UsacConfig → ℕ) (i : Insertion) (t to : ℕ) → IsAllowed i → IsWholeStream (old_frames i) → IsWarmTarget warm i t → t < to → to ≤ length (new_frames i) → JoinsSoundly warm (new_part i t to)

-- ---- plans

-- The plan is sound behind the insertions too, and its cut is the same.
pub record PlanStays (d : Definitions) (cs : List Change) : Type 0 where
  pub sound : IsSoundPlan d.warm (new_plan cs)
  pub cut : cut_plan d (new_plan cs) ≡ cut_plan d (old_plan cs)

-- So it is with each sound plan: its parts begin with their streams, or at frames that carried units before, and these are no targets.
abbrev pub SoundPlansStay : Definitions → Type 0
SoundPlansStay d = (cs : List Change) → AllByRecursion IsChange cs → IsSoundPlan d.warm (old_plan cs) → PlanStays d cs

-- The cut of the plan behind the insertions has as many blocks as that of the plan before, and these are the same, but where a part
-- behind the first begins at a fading target.
pub record CutsFaded (d : Definitions) (cs : List Change) : Type 0 where
  pub blocks : cut_plan d (new_plan cs) ≡ with_fades d None cs (cut_plan d (old_plan cs))
  pub many : length (cut_plan d (new_plan cs)) ≡ length (cut_plan d (old_plan cs))

abbrev pub CutsWithFades : Definitions → Type 0
CutsWithFades d = (cs : List Change) → AllByRecursion IsChange cs → CutsFaded d cs

-- It is the same cut where none does so.
abbrev pub CutsAlike : Definitions → Type 0
CutsAlike d = (cs : List Change) → AllByRecursion IsChange cs → BeginsNoFade cs → cut_plan d (new_plan cs) ≡ cut_plan d (old_plan cs)
