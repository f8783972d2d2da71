use Rattle.ipf_insert.specs.Inserting.{inserted}
use Rattle.editing.specs.Inserting.{targets_of_stream, inserted_bytes}
use Rattle.editing.proofs.Written.{runs_written}
use Rattle.editing.proofs.laws.inserted_bytes_are_read_back.Goals as goal

pub returns : goal.returns
returns c = λ count fade targets stream fits keeps few.
    let list = targets_of_stream targets stream in
    let new = inserted stream count fade list in
    let whole = c.inserted_is_well_formed.ensures stream count fade list fits keeps in
    c.written_streams_are_read_back.ensures new (inserted_bytes count fade targets stream) whole (runs_written new whole) few
