-- What a reader does with one element.
use Rattle.std.specs.Prelude.{◌≡◌, ◌≢◌, ℕ, ◌+◌, ◌-◌, ◌<◌, ◌≤◌, Bool, false, List, ◌∷◌, length, take, drop, Option, Some, None, is_some, Result, Ok, Err, IsTrue}
use Rattle.layout.specs.Text.{bits_of}
use Rattle.loas.specs.Framer.{past_frame, pushed}
use Rattle.latm.specs.declared.fault.MuxFault.{MuxFault}
use Rattle.latm.specs.declared.fault.MuxFault.TheVariants as mux
use Rattle.latm.specs.declared.mux_config.MuxConfig.{MuxConfig}
use Rattle.latm.specs.declared.mux_element.MuxElement.{MuxElement}
use Rattle.latm.specs.MuxElement.{element, then_in_force}
use Rattle.au_stream.specs.declared.event.Event.{Event}
use Rattle.au_stream.specs.declared.fault.StreamFault.{StreamFault}
use Rattle.au_stream.specs.declared.fault.StreamFault.TheVariants.{ReadFault, TooLarge, Loas, Mux, Memory}
use Rattle.au_stream.specs.Elements.{IsElement}
use Rattle.au_stream.specs.Script.{most_bytes}
use Rattle.au_stream.specs.Reading.{Reading}

-- an element's own configuration changes the UsacConfig that is in force before it
abbrev pub Changes : Option MuxConfig → Option MuxConfig → Type 0
Changes before None = ⊥
Changes None (Some own) = Unit {0}
Changes (Some before) (Some own) = before.asc.usac ≢ own.asc.usac

-- it leaves that as it is
abbrev pub Keeps : Option MuxConfig → Option MuxConfig → Type 0
Keeps before None = Unit {0}
Keeps None (Some own) = ⊥
Keeps (Some before) (Some own) = before.asc.usac ≡ own.asc.usac

-- this tells which of the two it does
abbrev pub Tells : Bool → Option MuxConfig → Option MuxConfig → Type 0
Tells changed before own = (IsTrue changed → Changes before own) × (changed ≡ false → Keeps before own)

-- the reader with the access units of an element still to be given
abbrev pub with_element : MuxElement → Bool → Reading → Reading
with_element e changed r = record r { in_force = then_in_force r.in_force e.config; pending = e.slots; opens = is_some e.config; changed = changed }

abbrev pub past : ℕ → Reading → Reading
past n r = record r { framer = past_frame n r.framer }

-- why no frame is given where an element has a fault, or finds no memory
abbrev pub refused_element : ℕ → MuxFault → StreamFault
refused_element frame (mux.Memory e) = Memory e
refused_element frame fault = Mux frame fault

-- the element of the LOAS frame at the front was read
pub record TookElement (n : ℕ) (old new : Reading) : Type 0 where
  pub element : MuxElement
  pub is : IsElement old.in_force element (take n (drop 3 old.framer.held))
  pub changed : Tells new.changed old.in_force element.config
  pub held : new ≡ with_element element new.changed (past n old)

-- why it was not read: it has this fault, or there was no memory
abbrev pub Unread : ℕ → Reading → StreamFault → Type 0
Unread n r (Mux frame fault) = (frame ≡ r.count) × (let L = element r.in_force in L.Faults 0 fault (bits_of (take n (drop 3 r.framer.held))))
Unread n r (Memory e) = Unit {0}
Unread n r ReadFault = ⊥
Unread n r TooLarge = ⊥
Unread n r (Loas fault) = ⊥

-- the first access unit was given
pub record Gave (old new : Reading) (event : Event) : Type 0 where
  pub rest : List (List ℕ)
  pub pending : old.pending ≡ event.au ∷ rest
  pub number : event.frame ≡ old.count
  pub changed : event.changed ≡ old.changed
  pub opens : event.opens ≡ old.opens
  pub left : new ≡ record old { pending = rest; opens = false; changed = false; count = old.count + 1 }

-- What a source may still give weighs less behind each frame: the bytes that are still to be got, those that are held, and the
-- access units that are still to be given.
abbrev pub weight : Reading → ℕ
weight r = (most_bytes - pushed r.framer) + length r.framer.held + length r.pending

abbrev pub Falls : Reading → Reading → Result (Option Event) StreamFault → Type 0
Falls old new (Ok (Some event)) = weight new < weight old
Falls old new (Ok None) = Unit {0}
Falls old new (Err fault) = Unit {0}

-- An access unit is no longer than an element.
abbrev pub IsSmall : Result (Option Event) StreamFault → Type 0
IsSmall (Ok (Some event)) = length event.au ≤ 8191
IsSmall (Ok None) = Unit {0}
IsSmall (Err fault) = Unit {0}
