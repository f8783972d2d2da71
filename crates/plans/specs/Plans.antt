-- Plans: pieces of streams, one behind another. A stream is a list of frames as they show themselves.
use Rattle.std.specs.Prelude.{ℕ, List, length, slice_range}
use Rattle.std.specs.List.{flat_map}
use Rattle.preroll.specs.Carrying.{Shown}

-- a piece of a stream: its frames from one number on, up to before another
pub record Piece : Type 0 where
  pub stream : List Shown
  pub from : ℕ
  pub to : ℕ

-- the frames of a piece
abbrev pub frames_of : Piece → List Shown
frames_of p = slice_range p.stream p.from p.to

-- the frames of pieces, one piece after another
abbrev pub splice : List Piece → List Shown
splice ps = flat_map frames_of ps

-- a stream from its first frame to its end
abbrev pub whole : List Shown → Piece
whole fs = record { stream = fs; from = 0; to = length fs }
