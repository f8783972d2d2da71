-- Parts of whole streams, one behind another: a plan of a splice.
use Rattle.std.specs.Prelude.{ℕ, ◌≤◌, ◌<◌, List, length, map, slice_range}
use Rattle.std.specs.List.{flat_map}
use Rattle.plans.specs.Plans.{Piece}
use Rattle.plans.specs.Coded.{Coded, coded_shown}
use Rattle.plans.specs.WholeStream.{IsWholeStream}

-- a part of a stream: its frames from one number on, up to before another
pub record Part : Type 0 where
  pub stream : List Coded
  pub from : ℕ
  pub to : ℕ

-- Its stream is a whole one; it has a frame, and none beyond the stream's end.
pub record IsPart (p : Part) : Type 0 where
  pub stream : IsWholeStream p.stream
  pub some : p.from < p.to
  pub within : p.to ≤ length p.stream

-- the frames of a part
abbrev pub part_frames : Part → List Coded
part_frames p = slice_range p.stream p.from p.to

-- the splice of a plan: the frames of its parts, one part after another
abbrev pub spliced : List Part → List Coded
spliced ps = flat_map part_frames ps

-- a stream from its first frame to its end
abbrev pub whole_part : List Coded → Part
whole_part fs = record { stream = fs; from = 0; to = length fs }

-- what a part shows
abbrev pub part_shown : Part → Piece
part_shown p = record { stream = map coded_shown p.stream; from = p.from; to = p.to }
