use Rattle.std.proofs.Common.{map, take, drop}
use Rattle.commands.specs.Worlds.{world}
use Rattle.commands.specs.OnInputs.{GoesOnTo}
use Rattle.commands.proofs.inputs.run_files.Given as goal

abbrev pub invariant-loop-name : goal.invariant-loop-name
invariant-loop-name g l =
    let inputs = g.I.Inputs in
    let core = g.C.Core in
    record {
      so_far : (from : inputs.At) → inputs.IsReady core.does from l.initial.inputs (core.meaning l.initial.core).ready →
          (at : inputs.At) × inputs.IsReady core.does at l.inputs (core.meaning l.core).ready
          × GoesOnTo (inputs.does core.does) from at (map (λ name. name.now) (take l.name-index l.names)) (map (λ name. name.now) (drop l.name-index l.names))
          (world g.H.Shelf g.K.Sink g.C.Core l.initial.shelf l.initial.out l.initial.core) (world g.H.Shelf g.K.Sink g.C.Core l.shelf l.out l.core);
    }
