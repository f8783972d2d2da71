use Rattle.std.proofs.Common.{ap, sym, ◌∙◌}
use Rattle.std.specs.declared.option.Option.{Option}
use Rattle.std.specs.Option.{option_and_then}
use Rattle.latm.specs.declared.stream.Stream.{Stream}
use Rattle.ipf_strip.specs.declared.fault.StripFault.{StripFault}
use Rattle.editing.specs.Inserting.{targets_of_stream}
use Rattle.editing.specs.Runs.{run_of}
use Rattle.editing.specs.StripRefusals.{refusal_of_strip}
use Rattle.editing.proofs.FileBytes.{file_is}
use Rattle.editing.proofs.laws.inserted_bytes_are_undone.Goals as goal

pub returns : goal.returns
returns c = λ count fade targets text stream small is keeps.
    let undone = c.insertions_are_undone.ensures stream count fade (targets_of_stream targets stream) is.well_formed keeps in
    record {
      passes = ap (λ (o : Option StripFault). option_and_then refusal_of_strip o) undone.passes;
      bytes = ap (λ (s : Stream). run_of s.elements) undone.same ∙ sym (file_is text stream small is);
    }
