-- A target is a sound join behind each other configuration of equal rate and channels.
use Rattle.std.proofs.Common.{ℕ, List, [], ◌∷◌, ◌++◌, Option}
use Rattle.usac_cfg.specs.declared.usac_config.UsacConfig.{UsacConfig}
use Rattle.plans.specs.WholeStream.{stream_config}
use Rattle.plans.specs.Level.{AreLevel}
use Rattle.plans.specs.Parts.{Part, IsPart}
use Rattle.plans.specs.SoundPlan.{BeginsWarm, AreJoined, IsSoundPlan}
use Rattle.inserted_plans.specs.Laws.{last_config, JoinsSoundly, TargetsJoin}
use Rattle.inserted_plans.proofs.Starting.{begins_warm, part_of}

module _ (warm : UsacConfig → ℕ) (p : Part) (part : IsPart p) (warms : BeginsWarm warm p) where
  joined : (before : Option UsacConfig) → AreLevel before (stream_config p.stream) → AreJoined warm before (p ∷ [])
  joined before level = (part, level, warms, tt)

  joined_behind : (q : Part) (qs : List Part) → AreJoined warm (stream_config q.stream) qs → AreLevel (last_config (q ∷ qs)) (stream_config p.stream) → AreJoined warm (stream_config q.stream) (qs ++ p ∷ [])
  joined_behind q [] h level = joined (stream_config q.stream) level
  joined_behind q (r ∷ qs) h level = (h.0, h.1, h.2, joined_behind r qs h.3 level)

  sound_behind : (ps : List Part) → IsSoundPlan warm ps → AreLevel (last_config ps) (stream_config p.stream) → IsSoundPlan warm (ps ++ p ∷ [])
  sound_behind [] h level = absurd level
  sound_behind (q ∷ qs) h level = (h.0, h.1, joined_behind q qs h.2 level)

  pub joins : JoinsSoundly warm p
  joins = record { joined = joined; behind = sound_behind }

pub targets_join : TargetsJoin
targets_join warm i t to w h is lt within = joins warm _ (part_of warm i w t to is lt within h) (begins_warm warm i w t to is lt within)
