use Rattle.std.proofs.Common.{ℕ, List, ap, ◌∙◌}
use Rattle.std.specs.Io.KnownBytes.{append_known}
use Rattle.std.proofs.lemmas.Result.{err_from_is_err_and}
use Rattle.editing.proofs.Written.{frame_there, some_bytes, nothing_yet, device_stopped, less_of}
use Rattle.editing.proofs.elements.give_element.Goals as goal

pub returns-in_err-frame-clause-writes : goal.returns-in_err-frame-clause-writes
returns-in_err-frame-clause-writes g c =
    let p = err_from_is_err_and c.from_residual.result c.from_residual.ensures.1 in
    rw (p.1, p.2) (nothing_yet _ _ (some_bytes c.args.element.now))

pub returns-in_err-give_all-clause-writes : goal.returns-in_err-give_all-clause-writes
returns-in_err-give_all-clause-writes g c =
    let p = err_from_is_err_and c.from_residual-in_err-give_all.result c.from_residual-in_err-give_all.ensures.1 in
    let same = c.in_range.ensures.same ∙ c.as_slice.ensures in
    let is = frame_there c.args.element.now c.in_ok-frame.frame c.in_range.result.now same c.requires.whole c.in_range.ensures.range c.in_ok-frame.ensures in
    rw (p.1, p.2) (device_stopped c.in_err-give_all.field-0.0 _ _ _ (less_of _ _ c.in_range.result.now _ is c.in_err-give_all.ensures.err))

pub returns-clause-writes : goal.returns-clause-writes
returns-clause-writes g c =
    let same = c.in_range.ensures.same ∙ c.as_slice.ensures in
    let is = frame_there c.args.element.now c.in_ok-frame.frame c.in_range.result.now same c.requires.whole c.in_range.ensures.range c.in_ok-frame.ensures in
    c.in_ok-give_all.ensures.ok ∙ ap (λ (bytes : List ℕ). append_known (g.K.Sink.written c.args.out.now) bytes) is
