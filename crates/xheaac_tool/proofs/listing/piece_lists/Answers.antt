use Rattle.std.proofs.Common.{◌++◌, ap, sym, ◌∙◌}
use Rattle.std.proofs.lemmas.List.{append-nil}
use Rattle.std.specs.Prelude.{string_bytes}
use Rattle.xheaac_tool.specs.Numbers.{number_of}
use Rattle.xheaac_tool.specs.Words.{pairs_of, files_of, positions_of, texts}
use Rattle.xheaac_tool.specs.Asked.{pieces_at}
use Rattle.xheaac_tool.specs.Listed.{texts_at}
use Rattle.xheaac_tool.proofs.PairLemmas.{few_of, taken, no_piece}
use Rattle.xheaac_tool.proofs.ListedLemmas.{file_more, position_more}
use Rattle.xheaac_tool.proofs.listing.piece_lists.Goals as goal

pub loop-later-init : goal.loop-later-init
loop-later-init c =
    let pieces = pieces_at c.args.pairs in
    let few = few_of (pairs_of (texts c.words-later.result.now)) pieces c.words-later.ensures in
    (pieces, few.are, ap (λ names. texts_at names ++ files_of pieces) c.new-files.ensures.items, ap (λ ns. ns ++ positions_of pieces) c.new-positions.ensures.items)

pub loop-later-preserved : goal.loop-later-preserved
loop-later-preserved c =
    let held = c.loop-later.invariant in
    let file = c.file-item.result in
    let position = c.in-Some.position in
    let number = sym c.in-Some.is ∙ c.read_number.ensures ∙ ap number_of c.as_str.ensures.value in
    let t = taken c.loop-later.later.now held.0 file c.position-item.result position c.in-len2-up.len_at_least c.file-item.is c.position-item.is held.1 number in
    let files = file_more c.loop-later.files.items c.as_str-in-len2-up.result (string_bytes file) position held.0 t.later _ c.as_str-in-len2-up.ensures.value t.whole held.2 in
    let positions = position_more c.loop-later.positions.items (string_bytes file) position held.0 t.later _ t.whole held.3 in
    (t.later, t.are, ap (λ names. texts_at names ++ files_of t.later) c.in_ok-push.ensures.items ∙ files, ap (λ ns. ns ++ positions_of t.later) c.in_ok-push-2.ensures.items ∙ positions)

pub returns : goal.returns
returns c =
    let pieces = pieces_at c.args.pairs in
    let few = few_of (pairs_of (texts c.words-later.result.now)) pieces c.words-later.ensures in
    let held = c.loop-later.invariant in
    let end = no_piece c.loop-later.later.now held.0 c.in_default.len_below held.1 in
    record {
      files = sym (append-nil _) ∙ (ap (λ more. texts_at c.loop-later.files.items ++ files_of more) (sym end) ∙ held.2);
      positions = sym (append-nil _) ∙ (ap (λ more. c.loop-later.positions.items ++ positions_of more) (sym end) ∙ held.3);
      some = few.some;
      few = few.few;
    }
