-- A frame that a reader has found and not yet passed.
use Rattle.std.specs.Prelude.{◌≡◌, ℕ, ◌+◌, ◌<◌, ◌≤◌, Bool, true, List, [], length, get_or, drop, Option, Some, None, Result, Ok, Err}
use Rattle.au_stream.specs.declared.event.Event.{Event}
use Rattle.au_stream.specs.declared.event.EventHead.{EventHead}
use Rattle.au_stream.specs.declared.event.Found.{Found}
use Rattle.au_stream.specs.declared.fault.StreamFault.{StreamFault}
use Rattle.au_stream.specs.Frames.{Frame}
use Rattle.au_stream.specs.Reading.{Reading}
use Rattle.au_stream.specs.Taking.{Seen}
use Rattle.au_stream.specs.Giving.{weight, Unread}
use Rattle.au_stream.specs.Held.{Opened}
use Rattle.au_stream.specs.Events.{Reads}

-- the event with that head and access unit
abbrev pub event_with : EventHead → List ℕ → Event
event_with h au = record { frame = h.frame; changed = h.changed; opens = h.opens; au = au }

-- the access unit that is next to be given
abbrev pub next_au : Reading → List ℕ
next_au r = get_or r.pending 0 []

-- the event of that one
abbrev pub next_event : Reading → EventHead → Event
next_event r h = event_with h (next_au r)

-- the reader behind that one
abbrev pub after_next : Reading → Reading
after_next r = record r { pending = drop 1 r.pending; count = r.count + 1 }

-- What a call that looks for the next frame did. Where there is one, it is found and not yet passed: passing it does the rest of
-- what reading it does.
abbrev pub Finds : List ℕ → List Frame → Reading → Reading → Seen → Seen → Result (Option EventHead) StreamFault → Type 0
Finds got given old new before now (Ok (Some head)) = Reads got given old (after_next new) before now (Ok (Some (next_event new head)))
Finds got given old new before now (Ok None) = Reads got given old new before now (Ok None)
Finds got given old new before now (Err fault) = Reads got given old new before now (Err fault)

-- a frame was found
abbrev pub HasNext : Reading → Result (Option EventHead) StreamFault → Type 0
HasNext r (Ok (Some head)) = 0 < length r.pending
HasNext r (Ok None) = Unit {0}
HasNext r (Err fault) = Unit {0}

-- What a source may still give weighs less behind a frame that was found.
abbrev pub FallsBehind : Reading → Reading → Result (Option EventHead) StreamFault → Type 0
FallsBehind old new (Ok (Some head)) = weight (after_next new) < weight old
FallsBehind old new (Ok None) = Unit {0}
FallsBehind old new (Err fault) = Unit {0}

-- An access unit is no longer than an element.
abbrev pub IsSmallNext : Reading → Result (Option EventHead) StreamFault → Type 0
IsSmallNext r (Ok (Some head)) = length (next_au r) ≤ 8191
IsSmallNext r (Ok None) = Unit {0}
IsSmallNext r (Err fault) = Unit {0}

-- ---- for the private functions of a reader

-- the heads of what was found
abbrev pub heads : Result (Option Found) StreamFault → Result (Option EventHead) StreamFault
heads (Ok (Some found)) = Ok (Some found.head)
heads (Ok None) = Ok None
heads (Err fault) = Err fault

-- a copy of the access unit that is next, where it was asked for
abbrev pub IsCopied : Bool → Reading → Result (Option Found) StreamFault → Type 0
IsCopied copies r (Ok (Some found)) = copies ≡ true → found.au ≡ next_au r
IsCopied copies r (Ok None) = Unit {0}
IsCopied copies r (Err fault) = Unit {0}

-- The element at the front was read, and its first access unit found.
abbrev pub Enters : ℕ → Bool → Reading → Reading → Result Found StreamFault → Type 0
Enters n copies old new (Ok found) = (0 < length new.pending) × Opened n old (after_next new) (next_event new found.head) × (copies ≡ true → found.au ≡ next_au new)
Enters n copies old new (Err fault) = Unread n old fault
