use Rattle.std.proofs.Common.{true, false, sym, ◌∙◌}
use Rattle.usac_frame.specs.declared.part.ExtPart.TheVariants.{Absent}
use Rattle.ipf_frame.proofs.WrittenFrames.{written_fits}
use Rattle.ipf_frame.proofs.StrippedFrames.{text_whole, read_immediate, undo_may, undo_fits, undo_bytes, keep_may, keep_bytes}
use Rattle.ipf_frame.proofs.stripping.without_preroll.Goals as goal

pub spare_bits-spare-requires-clause-whole : goal.spare_bits-spare-requires-clause-whole
spare_bits-spare-requires-clause-whole c = text_whole c.args.config.now c.args.au.now c.in_ok-frame.frame c.in_ok-frame.ensures

pub spare_bits-spare-requires-clause-immediate : goal.spare_bits-spare-requires-clause-immediate
spare_bits-spare-requires-clause-immediate c = read_immediate c.args.config.now c.args.au.now c.in_ok-frame.frame c.in_ok-frame.ensures c.requires.is

pub returns-then-not-ends_in_zeros : goal.returns-then-not-ends_in_zeros
returns-then-not-ends_in_zeros c =
    undo_may c.args.tail c.args.config.now c.args.au.now c.in_ok-frame.frame c.with_part-bare.result c.spare_bits-spare.result c.in_ok-frame.ensures c.with_part-bare.ensures
    false c.in-Undo.is c.spare_bits-spare.ensures (sym c.if-not-ends_in_zeros.true ∙ c.ends_in_zeros.ensures)

pub frame_bytes-requires : goal.frame_bytes-requires
frame_bytes-requires c =
    undo_fits c.args.tail c.args.config.now c.args.au.now c.in_ok-frame.frame c.with_part-bare.result c.spare_bits-spare.result c.in_ok-frame.ensures c.with_part-bare.ensures
    c.spare_bits-spare.ensures c.in_ok-short-in-Undo.short c.in_ok-short-in-Undo.ensures

pub frame_bytes-requires-in-Keep : goal.frame_bytes-requires-in-Keep
frame_bytes-requires-in-Keep c = written_fits c.args.config.now c.in_ok-frame.frame c.with_part-bare.result Absent (λ e. tt) c.in_ok-frame.ensures.fits c.with_part-bare.ensures

pub returns-in_ok-bytes-in-Undo : goal.returns-in_ok-bytes-in-Undo
returns-in_ok-bytes-in-Undo c =
    let may = undo_may c.args.tail c.args.config.now c.args.au.now c.in_ok-frame.frame c.with_part-bare.result c.spare_bits-spare.result c.in_ok-frame.ensures c.with_part-bare.ensures true c.in-Undo.is c.spare_bits-spare.ensures (sym c.if-not-ends_in_zeros.false ∙ c.ends_in_zeros.ensures) in
    let bytes = undo_bytes c.args.tail c.args.config.now c.args.au.now c.in_ok-frame.frame c.with_part-bare.result c.spare_bits-spare.result c.in_ok-frame.ensures c.with_part-bare.ensures c.in-Undo.is c.spare_bits-spare.ensures c.in_ok-short-in-Undo.short c.in_ok-bytes-in-Undo.bytes c.in_ok-short-in-Undo.ensures c.in_ok-bytes-in-Undo.ensures in
    (may, bytes)

pub returns-in_ok-bytes-in-Keep : goal.returns-in_ok-bytes-in-Keep
returns-in_ok-bytes-in-Keep c =
    let may = keep_may c.args.tail c.args.config.now c.args.au.now c.in_ok-frame.frame c.with_part-bare.result c.spare_bits-spare.result c.in_ok-frame.ensures c.with_part-bare.ensures c.in-Keep.is in
    let bytes = keep_bytes c.args.tail c.args.config.now c.args.au.now c.in_ok-frame.frame c.with_part-bare.result c.spare_bits-spare.result c.in_ok-frame.ensures c.with_part-bare.ensures c.in-Keep.is c.in_ok-bytes-in-Keep.bytes c.in_ok-bytes-in-Keep.ensures in
    (may, bytes)
