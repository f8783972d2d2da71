-- The frames of a piece as `splice` hands them on, and whether each fits an element of the canonical mux.
use Rattle.std.specs.Prelude.{◌≤◌, List, [], ◌∷◌, map, Some, None, slice_range, All}
use Rattle.latm.specs.Written.{canonical_length}
use Rattle.plans.specs.Parts.{Part}
use Rattle.au_stream.specs.Canonical.{Handed}
use Rattle.au_stream.specs.Frames.{Frame}
use Rattle.joining.specs.Events.{FileScript}

-- a frame behind the first one of its piece
abbrev pub handed_later : Frame → Handed
handed_later f = record { asc = None; au = f.au }

-- Frames of a piece, in order: the AudioSpecificConfig in force is given with the first one alone.
abbrev pub handed_in_order : List Frame → List Handed
handed_in_order [] = []
handed_in_order (f ∷ fs) = record { asc = Some f.mux.asc; au = f.au } ∷ map handed_later fs

-- the frames of a file that a part of its stream has
abbrev pub part_handed : FileScript → Part → List Handed
part_handed s p = handed_in_order (slice_range s.frames p.from p.to)

-- Its canonical element has no more bytes than a LOAS frame holds.
abbrev pub FitsElement : Handed → Type 0
FitsElement h = canonical_length h.asc h.au ≤ 8191

-- Each frame of the part fits an element.
abbrev pub FitElements : FileScript → Part → Type 0
FitElements s p = All FitsElement (part_handed s p)
