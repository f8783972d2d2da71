use Rattle.ipf_strip.specs.Stripping.{stripped}
use Rattle.editing.specs.Stripping.{targets_to_strip, stripped_bytes}
use Rattle.editing.proofs.Written.{runs_written}
use Rattle.editing.proofs.laws.stripped_bytes_are_read_back.Goals as goal

pub returns : goal.returns
returns c = λ tail targets stream fits keeps few.
    let list = targets_to_strip targets stream in
    let new = stripped stream tail list in
    let whole = c.stripped_is_well_formed.ensures stream tail list fits keeps in
    c.written_streams_are_read_back.ensures new (stripped_bytes tail targets stream) whole (runs_written new whole) few
