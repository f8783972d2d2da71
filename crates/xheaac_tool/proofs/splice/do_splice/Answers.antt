use Rattle.std.proofs.Common.{length, sym, ap, ◌∙◌, arith}
use Rattle.joining.proofs.Calls.{splice_memory_called}
use Rattle.xheaac_tool.specs.Asked.{pieces_at}
use Rattle.xheaac_tool.specs.Words.{files_of, positions_of}
use Rattle.xheaac_tool.proofs.ListedLemmas.{as_many_files, as_many_positions}
use Rattle.xheaac_tool.proofs.splice.do_splice.Goals as goal

pub returns-in-Err : goal.returns-in-Err
returns-in-Err g c = λ pieces is. splice_memory_called g.C.Core.does (positions_of pieces) (files_of pieces) _ c.in-Err.error

pub splice_files-requires-clause-each : goal.splice_files-requires-clause-each
splice_files-requires-clause-each g c =
    let pieces = pieces_at c.in-Some-Splice.pieces in
    let files = as_many_files c.in-Ok.lists pieces c.in-Ok.ensures in
    as_many_positions c.in-Ok.lists pieces c.in-Ok.ensures ∙ sym (ap (λ xs. length xs) c.deref.ensures.value ∙ files)

pub splice_files-requires-clause-few : goal.splice_files-requires-clause-few
splice_files-requires-clause-few g c =
    let pieces = pieces_at c.in-Some-Splice.pieces in
    let listed = c.in-Ok.ensures in
    let files = as_many_files c.in-Ok.lists pieces listed in
    let count = ap (λ xs. length xs) c.deref.ensures.value ∙ files in
    omega (arith, count, listed.few)
