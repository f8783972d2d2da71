-- What contracts see of the shelf, of out and of the core, at one moment.
use Rattle.std.specs.Prelude.{ℕ, List, Bool}
use Rattle.std.specs.declared.option.Option.{Option}
use Rattle.outside.specs.declared.shelf.Shelf
use Rattle.outside.specs.declared.sink.Sink
use Rattle.core_iface.specs.declared.cores.Core
use Rattle.commands.specs.Causes.{Counts}
use Rattle.commands.specs.Ending.{Traces}

pub record World (H K C : Type 0) : Type 1 where
  -- the objects
  pub shelf : H
  pub out : K
  pub core : C
  -- of the shelf: whether it tells, the bytes of each name, how many inputs were begun, and what is left of each
  pub tells : Bool
  pub bytes : List ℕ → Option (List ℕ)
  pub begun : ℕ
  pub left : ℕ → Option (List ℕ)
  -- all that was written on out, where it tells
  pub written : Option (List ℕ)
  -- how many units the core was fed
  pub fed : ℕ
  -- how often each failed
  pub faults : Counts
  -- which of them are calm
  pub calm_shelf : Type 0
  pub calm_out : Type 0
  pub calm_core : Type 0

abbrev pub world : {H K C : Type 0} → Shelf.Ghosts H → Sink.Ghosts K → Core.Ghosts C → H → K → C → World H K C
world h k c shelf out core = record {
  shelf = shelf;
  out = out;
  core = core;
  tells = h.tells shelf;
  bytes = h.bytes shelf;
  begun = h.begun shelf;
  left = h.left shelf;
  written = k.written out;
  fed = (c.meaning core).fed;
  faults = record { shelf = h.faults shelf; out = k.faults out; core = (c.meaning core).faults };
  calm_shelf = h.calm shelf;
  calm_out = k.calm out;
  calm_core = c.IsCalm core;
}

-- what was written and fed from the one moment to the other
abbrev pub traces : {H K C : Type 0} → World H K C → World H K C → Traces
traces before after = record { written_before = before.written; written_after = after.written; fed_before = before.fed; fed_after = after.fed }
