use Rattle.std.proofs.Common.{ℕ, List, rules, arith, None, subst, Err}
use Rattle.au_stream.specs.Gathering.{Adds}
use Rattle.std.proofs.lemmas.Result.{err_from_is_err_and}
use Rattle.au_stream.proofs.FrameCounts.{frames_few}
use Rattle.au_stream.proofs.Gathering.{gathers-next, whole-end, whole-unread, whole-refused, well_formed}
use Rattle.au_stream.proofs.whole.read_stream.Goals as goal

pub returns-in_err-length-clause-reads : goal.returns-in_err-length-clause-reads
returns-in_err-length-clause-reads g c =
    let p = err_from_is_err_and c.from_residual.result c.from_residual.ensures.1 in
    rw (p.1, p.2) (whole-refused _ _ _ _ _ _ _ c.frames.invariant.gathers c.in_err-length.ensures.takes c.in_err-length.ensures.limit)

pub read-requires-clause-room : goal.read-requires-clause-room
read-requires-clause-room g c =
    let s = c.frames.invariant.gathers in
    omega (arith, s.few, frames_few None s.got c.frames.gathered c.frames.frames.held s.carried)

pub returns-in_err-read-clause-reads : goal.returns-in_err-read-clause-reads
returns-in_err-read-clause-reads g c =
    let next = rw c.in-Some.is at c.in_ok-length.ensures in
    let p = err_from_is_err_and c.from_residual-in_err-read.result c.from_residual-in_err-read.ensures.1 in
    let bad = subst (λ (x : List ℕ). Adds x c.frames.gathered c.read.new.self (Err c.in_err-read.field-0.0)) c.body.ensures c.in_err-read.ensures in
    rw (p.1, p.2) (whole-unread _ _ _ _ c.read.new.self _ c.next.new.self c.in-Some.length c.in_err-read.field-0.0 c.frames.invariant.gathers next.takes next.limit bad)

pub frames-preserved : goal.frames-preserved
frames-preserved g c =
    let next = rw c.in-Some.is at c.in_ok-length.ensures in
    let adds = rw c.body.ensures at c.in_ok-read.ensures in
    record {
      gathers = rw c.pass.ensures (gathers-next _ _ _ _ _ _ _ _ c.frames.invariant.gathers next.takes next.limit adds);
      faults = search rules;
      other = search rules;
      calm = search rules;
    }

pub returns-clause-reads : goal.returns-clause-reads
returns-clause-reads g c =
    let next = rw c.in_default.is at c.in_ok-length.ensures in
    rw c.into_elements.ensures (whole-end _ _ _ _ _ _ c.frames.invariant.gathers next.takes next.limit)

pub returns-clause-well_formed : goal.returns-clause-well_formed
returns-clause-well_formed g c =
    let s = c.frames.invariant.gathers in
    rw c.into_elements.ensures (well_formed s.got (record { elements = c.frames.gathered }) c.frames.frames.held s.carried s.few)
