use Rattle.std.proofs.Common.{length, sym, ap, ◌∙◌, arith}
use Rattle.switching.proofs.Calls.{switch_memory_called}
use Rattle.xheaac_tool.specs.Asked.{pieces_at}
use Rattle.xheaac_tool.specs.Words.{files_of, positions_of}
use Rattle.xheaac_tool.proofs.ListedLemmas.{as_many_files, as_many_positions}
use Rattle.xheaac_tool.proofs.switch.do_switch.Goals as goal

pub returns-in-Err : goal.returns-in-Err
returns-in-Err g c = λ pieces is. switch_memory_called g.C.Core.does (positions_of pieces) (files_of pieces) _ c.in-Err.error

pub switch_files-requires-clause-each : goal.switch_files-requires-clause-each
switch_files-requires-clause-each g c =
    let pieces = pieces_at c.in-Some-Switch.pieces in
    let files = as_many_files c.in-Ok.lists pieces c.in-Ok.ensures in
    as_many_positions c.in-Ok.lists pieces c.in-Ok.ensures ∙ sym (ap (λ xs. length xs) c.deref.ensures.value ∙ files)

pub switch_files-requires-clause-few : goal.switch_files-requires-clause-few
switch_files-requires-clause-few g c =
    let pieces = pieces_at c.in-Some-Switch.pieces in
    let listed = c.in-Ok.ensures in
    let files = as_many_files c.in-Ok.lists pieces listed in
    let count = ap (λ xs. length xs) c.deref.ensures.value ∙ files in
    omega (arith, count, listed.few)
