-- An insertion, and the frames of its stream before and behind it, as a packager cuts them.
use Rattle.std.specs.Prelude.{◌≡◌, ℕ, Bool, List, map, None}
use Rattle.usac_cfg.specs.declared.usac_config.UsacConfig.{UsacConfig}
use Rattle.latm.specs.declared.stream.Stream.{Stream}
use Rattle.latm.specs.Stream.{IsWellFormed, frames_of, config_in, au_in}
use Rattle.plans.specs.Coded.{Coded}
use Rattle.ipf_insert.specs.Inserting.{inserted}
use Rattle.ipf_insert.specs.Rules.{insert_fault}

-- a stream, and what is inserted into it
pub record Insertion : Type 0 where
  pub stream : Stream
  pub count : ℕ
  pub fade : Bool
  pub targets : List ℕ

-- The stream is well formed, and no rule refuses what is inserted.
pub record IsAllowed (i : Insertion) : Type 0 where
  pub stream : IsWellFormed i.stream
  pub rules : insert_fault i.stream i.count i.fade i.targets ≡ None

-- a frame of a stream, as one that is cut
abbrev pub coded : UsacConfig × List ℕ → Coded
coded f = record { config = config_in f; au = au_in f }

-- the frames of the stream
abbrev pub old_frames : Insertion → List Coded
old_frames i = map coded (frames_of i.stream)

-- the frames of what the insertion makes of it
abbrev pub new_frames : Insertion → List Coded
new_frames i = map coded (frames_of (inserted i.stream i.count i.fade i.targets))
