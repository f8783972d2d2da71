use Rattle.std.proofs.lemmas.Result.{on_ok_weaker}
use Rattle.latm.proofs.PartWrites.{behind_parts}
use Rattle.latm.proofs.writing.write_fields.Goals as goal

pub returns-clause-ok : goal.returns-clause-ok
returns-clause-ok c = on_ok_weaker c.write_last.result
    (behind_parts _ _ _ _ _ _ _ _ _ _ _ _ _ c.in_ok-write_head.ensures.ok c.in_ok-write_length.ensures.ok c.in_ok-write_asc.ensures.ok c.in_ok-put_small.ensures.ok c.in_ok-put_small-2.ensures.ok)
    c.write_last.ensures.ok
