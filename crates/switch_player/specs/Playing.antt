-- What a core gives for frames, one after another. A frame is seen as it shows itself: its configuration, its unit, and what its
-- preroll carries.
use Rattle.std.specs.Prelude.{ℕ, List, [], ◌∷◌, length, Option, Some, None, if◌then◌else◌, ℤ}
use Rattle.usac_cfg.specs.declared.usac_config.UsacConfig.{UsacConfig}
use Rattle.usac_cfg.specs.UsacConfig.{channels}
use Rattle.usac_cfg.specs.Same.{same}
use Rattle.core_iface.specs.Decoding.{Definitions}
use Rattle.core_iface.specs.Answering.{Running, running, stepped, emitted, drained, stepped_over}
use Rattle.preroll.specs.Carrying.{Shown, units_in, fades_in}
use Rattle.switch_player.specs.Blending.{blended}

-- a core that was reset to the configuration of a frame, and has stepped the units that the frame carries
abbrev pub fresh : Definitions → Shown → Option Running
fresh d f = stepped_over d (running f.config (d.init f.config)) (units_in f.carried)

-- the block of a frame at which decoding begins, and the core behind it
abbrev pub begun : Definitions → Shown → List ℤ
begun d f = emitted d (fresh d f) f.unit

abbrev pub begun_state : Definitions → Shown → Option Running
begun_state d f = stepped d (fresh d f) f.unit

-- The block of a frame of another configuration, behind a core. Where the frame asks for it, what the core drains fades into it.
abbrev pub joined_block : Definitions → Option Running → Shown → List ℤ
joined_block d at f = if fades_in f.carried then blended (channels f.config) (drained d at) (begun d f) else begun d f

-- The block of a frame behind a core, which stands nowhere before the first frame; and the core behind it. Where the
-- configuration goes on, what the frame carries counts for nothing.
abbrev pub played_block : Definitions → Option Running → Shown → List ℤ
played_block d None f = begun d f
played_block d (Some r) f = if same r.config f.config then emitted d (Some r) f.unit else joined_block d (Some r) f

abbrev pub played_state : Definitions → Option Running → Shown → Option Running
played_state d None f = begun_state d f
played_state d (Some r) f = if same r.config f.config then stepped d (Some r) f.unit else begun_state d f

-- the blocks of frames, one after another
abbrev pub played : Definitions → Option Running → List Shown → List (List ℤ)
played d at [] = []
played d at (f ∷ fs) = played_block d at f ∷ played d (played_state d at f) fs

-- and the core behind them
abbrev pub state_over : Definitions → Option Running → List Shown → Option Running
state_over d at [] = at
state_over d at (f ∷ fs) = state_over d (played_state d at f) fs

-- where a player's core stands, by the configuration of the last frame: nowhere before the first frame
abbrev pub standing : Option UsacConfig → Option Running → Option Running
standing None r = None
standing (Some c) r = r

-- how many units are stepped before a frame: those that it carries where decoding begins there, and none where it goes on
abbrev pub before_it : Option UsacConfig → Shown → ℕ
before_it None f = length (units_in f.carried)
before_it (Some b) f = if same b f.config then 0 else length (units_in f.carried)
