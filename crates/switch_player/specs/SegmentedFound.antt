-- One core that runs on through frames gives what their segments give, each decoded alone.
use Rattle.std.proofs.Common.{List, [], ◌∷◌, length, map, Option, Some, None, refl, ap, sym, ◌∙◌, arith}
use Rattle.usac_cfg.specs.declared.usac_config.UsacConfig.{UsacConfig}
use Rattle.core_iface.specs.Decoding.{Definitions}
use Rattle.preroll.specs.Carrying.{Shown}
use Rattle.plans.specs.Plans.{whole}
use Rattle.plans.specs.Segments.{segments, own}
use Rattle.plans.specs.Laws.{AreRuns}
use Rattle.plans.specs.SegmentsFound.{runs_of, splice_own}
use Rattle.switch_player.specs.Playing.{played}
use Rattle.switch_player.specs.Laws.{PlaysSegments}
use Rattle.switch_player.specs.PiecesFound.{placed_start}
use Rattle.switch_player.specs.PlaysFound.{AllPlaced, played_pieces}

placed_runs : (d : Definitions) (c : Option UsacConfig) (rs : List (List Shown)) → AreRuns c rs → AllPlaced d c (map whole rs)
placed_runs d c [] h = tt
placed_runs d c ([] ∷ rs) h = absurd h
placed_runs d c ((f ∷ fs) ∷ rs) h = (h.0, placed_start d f fs 0 (length (f ∷ fs)) (omega arith) (omega arith) h.1 refl, placed_runs d (Some f.config) rs h.2)

pub plays_segments : (d : Definitions) → PlaysSegments d
plays_segments d fs = ap (played d None) (sym (splice_own fs)) ∙ played_pieces d None (own fs) (placed_runs d None (segments fs) (runs_of fs))
