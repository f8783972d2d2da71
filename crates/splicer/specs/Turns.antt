-- What becomes of a frame that breaks no rule.
use Rattle.std.specs.Prelude.{ℕ, ◌/◌, List, length, Option, Some, None, Bool, true, ◌&&◌, ◌==◌, nat_lt, is_none, if◌then◌else◌}
use Rattle.usac_cfg.specs.declared.usac_config.UsacConfig.{UsacConfig}
use Rattle.usac_cfg.specs.UsacConfig.{frame_length}
use Rattle.usac_frame.specs.Units.{UnitValue}
use Rattle.preroll.specs.Carrying.{units_in, fades_in, carried_in}
use Rattle.plans.specs.Coded.{Coded}
use Rattle.splicer.specs.declared.asked.Asked.{Asked}
use Rattle.splicer.specs.declared.turn.Turn.{Turn}
use Rattle.splicer.specs.declared.turn.Turn.TheVariants.{Skip, Start, Join, Play, After}
use Rattle.splicer.specs.Rules.{from_of}

abbrev pub frame_until : Option ℕ → ℕ → Option ℕ
frame_until None frame_length = None
frame_until (Some until) frame_length = Some (until / frame_length)

-- the frame behind the piece, where another piece follows
abbrev pub to_of : Asked → UsacConfig → Option ℕ
to_of a c = frame_until a.until (frame_length c)

abbrev pub is_before : ℕ → Option ℕ → Bool
is_before n None = true
is_before n (Some to) = nat_lt n to

abbrev pub beginning : Bool → ℕ → Bool → Turn
beginning is_start units fade = if is_start then Start units fade else Join units fade

-- The turn of frame n, which carries these units, in a piece from one frame up to another: the piece begins with a join, unless it
-- is the first of all, and begins with its stream.
abbrev pub turn_at : ℕ → Option ℕ → Bool → ℕ → List UnitValue → Bool → Turn
turn_at from to is_first n units fade =
    if nat_lt n from then Skip
    else (if n == from then beginning ((from == 0) && is_first) (length units) fade else (if is_before n to then Play else After))

-- a rendition's first frame has the number 0
abbrev pub number_of : Option UsacConfig → ℕ → ℕ
number_of None n = 0
number_of (Some first) n = n

abbrev pub turn_of : Asked → Option UsacConfig → ℕ → Coded → Turn
turn_of a first n f =
    let carried = carried_in f.config f.au in
    turn_at (from_of a f.config) (to_of a f.config) (is_none a.before) (number_of first n) (units_in carried) (fades_in carried)
