-- A frame of a script as a frame of a stream.
use Rattle.std.specs.Prelude.{ℕ, List}
use Rattle.usac_cfg.specs.declared.usac_config.UsacConfig.{UsacConfig}
use Rattle.au_stream.specs.Frames.{Frame, config_of}

-- its configuration and its access unit
abbrev pub as_pair : Frame → UsacConfig × List ℕ
as_pair f = (config_of f, f.au)
