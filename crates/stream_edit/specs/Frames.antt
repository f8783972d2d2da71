-- The frames of a stream, referred to where they stand.
use Rattle.std.specs.Prelude.{ℕ, List, map}
use Rattle.usac_cfg.specs.declared.usac_config.UsacConfig.{UsacConfig}
use Rattle.stream_edit.specs.declared.frames.FrameRef.{FrameRef}

abbrev pub pair_of : FrameRef → UsacConfig × List ℕ
pair_of f = (f.config.now, f.au.now)

abbrev pub pairs_of : List FrameRef → List (UsacConfig × List ℕ)
pairs_of fs = map pair_of fs
