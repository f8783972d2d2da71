use Rattle.std.proofs.Common.{◌≡◌, ◌+◌, ◌/◌, sym, arith, ◌∙◌, get_or}
use Rattle.std.proofs.lemmas.List.{get_or_past}
use Rattle.bit_core.proofs.PeekLemmas.{peeks}
use Rattle.bit_core.proofs.slices.peek.Goals as goal
use Rattle.bit_core.proofs.slices.peek.Goals.{then-bytes-byte-gt8, else-bytes-byte-gt8}

pub returns : goal.returns
returns c =
    let is : c.if-bytes-byte-gt8.next ≡ get_or c.args.bytes.now (c.args.at / 8 + 8) 0 = elim c.if-bytes-byte-gt8.branch [
      | then-bytes-byte-gt8 w ↦ w.next-is
      | else-bytes-byte-gt8 w ↦ w.next-is ∙ sym (get_or_past c.args.bytes.now (c.args.at / 8 + 8) 0 (omega arith))
    ] in
    let byte : c.from.result ≡ get_or c.args.bytes.now (c.args.at / 8 + 8) 0 = c.from.ensures ∙ is in
    peeks c.args.bytes.now c.args.at c.window-word.result c.from.result (rw byte (c.type_inv.bytes (c.args.at / 8 + 8)).fits) byte c.window-word.ensures
