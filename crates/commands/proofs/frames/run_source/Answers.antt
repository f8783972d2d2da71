use Rattle.std.proofs.Common.{List, ◌<◌, length, arith, refl, sym, ◌∙◌, ap, subst}
use Rattle.layout.proofs.Layouts.{failed}
use Rattle.commands.specs.declared.frame_end.FrameEnd.{FrameEnd}
use Rattle.au_stream.specs.declared.event.Event.{Event}
use Rattle.au_stream.specs.Frames.{Frame}
use Rattle.au_stream.specs.Reading.{Reading}
use Rattle.au_stream.specs.Giving.{weight}
use Rattle.au_stream.specs.Views.{after_next}
use Rattle.commands.specs.Doing.{GoesOn}
use Rattle.commands.proofs.Endings.{frame_of_file}
use Rattle.commands.proofs.Going.{starts, shown, in_force_there, next_frame, no_frame, given_fed, goes_on, done, ended, stopped, becomes_core, close_caused, handled_few}
use Rattle.commands.proofs.frames.run_source.Goals as goal

pub frames-init : goal.frames-init
frames-init g c = record {
  so_far = λ at stands. starts (g.T.Task.command at g.C.Core.does) (c.is_command.ensures.command at) (λ frames. g.T.Task.Stands g.C.Core.does at frames c.args.task.now (g.C.Core.meaning c.args.core.now).ready) _ _ _ _ c.new-reader.ensures stands;
  few = omega (arith, c.new-reader.ensures.holds.counted);
  source_faults = refl;
  out_faults = refl;
  core_faults = refl;
  other = refl;
  calm_source = λ h. h;
  calm_out = λ h. h;
  calm_core = λ h. h;
  untouched = λ h. refl;
}

pub close-requires : goal.close-requires
close-requires g c =
    let st = c.requires.stands in
    let s = c.frames.invariant.so_far st.0 st.1 in
    record { stands = (st.0, s.given, (g.C.Core.meaning c.frames.core).ready, s.holds) }

pub returns-in-Ok-None-clause-does : goal.returns-in-Ok-None-clause-does
returns-in-Ok-None-clause-does g c = λ at stands.
    let s = c.frames.invariant.so_far at stands in
    let found = rw c.in-Ok-None.field-0-is at c.in-Ok-None.ensures in
    done (g.T.Task.command at g.C.Core.does) (λ frames. g.T.Task.Stands g.C.Core.does at frames c.frames.task (g.C.Core.meaning c.frames.core).ready) _ _ _ _ _ _ _ _ _ _ _ _ c.close.result _ c.within-within.result s (found.finds s.got s.given s.read) (c.close.ensures.closes at s.given _ s.holds) (c.within-within.ensures at s.given _ s.holds) c.closed_by.ensures

pub returns-in-Err-clause-does : goal.returns-in-Err-clause-does
returns-in-Err-clause-does g c = λ at stands.
    let s = c.frames.invariant.so_far at stands in
    let H = λ (frames : List Frame). g.T.Task.Stands g.C.Core.does at frames c.frames.task (g.C.Core.meaning c.frames.core).ready in
    ended (g.T.Task.command at g.C.Core.does) H H _ _ _ _ _ _ _ _ _ _ _ c.in-Err.fault _ c.within.result s (c.in-Err.ensures.finds s.got s.given s.read) (c.within.ensures at s.given _ s.holds) c.ended_by.ensures

pub unreachable-requires : goal.unreachable-requires
unreachable-requires g c =
    let st = c.requires.stands in
    let s = c.frames.invariant.so_far st.0 st.1 in
    let found = rw c.in-Ok-Some.field-0-is at c.in-Ok-Some.ensures in
    let p = found.finds s.got s.given s.read in
    no_frame _ _ _ (after_next c.find.new.self) _ _ _ p (in_force_there _ c.find.new.self _ (rw c.in_default.is at c.mux.ensures.in_force) refl)

pub handle-requires-clause-size : goal.handle-requires-clause-size
handle-requires-clause-size g c =
    let st = c.requires.stands in
    let s = c.frames.invariant.so_far st.0 st.1 in
    let found = rw c.in-Ok-Some.field-0-is at c.in-Ok-Some.ensures in
    omega (arith, found.small s.got s.given s.read, ap (λ (e : Event). length e.au) c.view.ensures)

pub handle-requires-clause-fed : goal.handle-requires-clause-fed
handle-requires-clause-fed g c =
    let st = c.requires.stands in
    let s = c.frames.invariant.so_far st.0 st.1 in
    omega (arith, given_fed (g.T.Task.command st.0 g.C.Core.does) (c.is_command.ensures.command st.0) (λ frames. g.T.Task.Stands g.C.Core.does st.0 frames c.frames.task (g.C.Core.meaning c.frames.core).ready) _ _ _ _ _ _ _ s, c.frames.invariant.few, c.requires.fed)

pub handle-requires-clause-few : goal.handle-requires-clause-few
handle-requires-clause-few g c =
    let st = c.requires.stands in
    let s = c.frames.invariant.so_far st.0 st.1 in
    let found = rw c.in-Ok-Some.field-0-is at c.in-Ok-Some.ensures in
    let k = (shown _ _ _ c.find.new.self (after_next c.find.new.self) _ _ _ c.view.result c.view.ensures refl (found.finds s.got s.given s.read)).leaves in
    omega (arith, k.1.number, s.read.holds.counted, c.frames.invariant.few)

pub handle-requires-clause-stands : goal.handle-requires-clause-stands
handle-requires-clause-stands g c =
    let st = c.requires.stands in
    let s = c.frames.invariant.so_far st.0 st.1 in
    let found = rw c.in-Ok-Some.field-0-is at c.in-Ok-Some.ensures in
    let k = (shown _ _ _ c.find.new.self (after_next c.find.new.self) _ _ _ c.view.result c.view.ensures refl (found.finds s.got s.given s.read)).leaves in
    (st.0, s.given, sym k.1.number, s.holds)

pub returns-in-Err-handle-clause-does : goal.returns-in-Err-handle-clause-does
returns-in-Err-handle-clause-does g c = λ at stands.
    let s = c.frames.invariant.so_far at stands in
    let found = rw c.in-Ok-Some.field-0-is at c.in-Ok-Some.ensures in
    let p = shown _ _ _ c.find.new.self (after_next c.find.new.self) _ _ _ c.view.result c.view.ensures refl (found.finds s.got s.given s.read) in
    let n = next_frame _ _ _ _ _ _ c.view.result c.in-Some.mux.now p (in_force_there _ c.find.new.self (after_next c.find.new.self) (rw c.in-Some.is at c.mux.ensures.in_force) refl) in
    let handled = c.in-Err-handle.ensures.handles at s.given n.frame n.is n.mux_is s.holds in
    stopped (g.T.Task.command at g.C.Core.does) (λ frames. g.T.Task.Stands g.C.Core.does at frames c.frames.task (g.C.Core.meaning c.frames.core).ready) (λ frames. g.T.Task.Stands g.C.Core.does at frames c.handle.new.self (g.C.Core.meaning c.handle.new.core).ready)
    _ _ _ _ _ _ _ _ _ _ _ _ _ c.view.result c.in-Some.mux.now c.in-Err-handle.end _ c.within-within-in-frames.result s p n handled (c.within-within-in-frames.ensures at s.given _ s.holds) c.stopped_by.ensures

pub returns-in-Err-handle-clause-calm_decodes : goal.returns-in-Err-handle-clause-calm_decodes
returns-in-Err-handle-clause-calm_decodes g c = λ at stands text here served calm core_fault.
    let is_core = becomes_core _ _ _ c.stopped_by.ensures core_fault in
    let job = g.T.Task.command at g.C.Core.does in
    let H = λ (frames : List Frame). g.T.Task.Stands g.C.Core.does at frames c.frames.task (g.C.Core.meaning c.frames.core).ready in
    let s = subst (λ left. GoesOn job H (g.C.Core.meaning c.args.core.now) (g.C.Core.meaning c.frames.core) left (g.S.Source.left c.frames.source) (g.K.Sink.written c.args.out.now) (g.K.Sink.written c.frames.out) c.frames.reader) here (c.frames.invariant.so_far at stands) in
    let found = rw c.in-Ok-Some.field-0-is at c.in-Ok-Some.ensures in
    let p = shown _ _ _ c.find.new.self (after_next c.find.new.self) _ _ _ c.view.result c.view.ensures refl (found.finds s.got s.given s.read) in
    let n = next_frame _ _ _ _ _ _ c.view.result c.in-Some.mux.now p (in_force_there _ c.find.new.self (after_next c.find.new.self) (rw c.in-Some.is at c.mux.ensures.in_force) refl) in
    let each = frame_of_file job H job.Serves _ _ text _ _ _ _ _ _ _ _ c.view.result c.in-Some.mux.now s p n served in
    c.in-Err-handle.ensures.calm_decodes at s.given n.frame n.is n.mux_is s.holds (c.frames.invariant.calm_core calm) each (ap (λ (e : FrameEnd). failed {A = Unit {0}} e) is_core)

pub returns-in-Err-handle-clause-no_core : goal.returns-in-Err-handle-clause-no_core
returns-in-Err-handle-clause-no_core g c = λ unfed core_fault.
    let is_core = becomes_core _ _ _ c.stopped_by.ensures core_fault in
    c.in-Err-handle.ensures.no_core unfed (ap (λ (e : FrameEnd). failed {A = Unit {0}} e) is_core)

pub frames-smaller : goal.frames-smaller
frames-smaller g c =
    let found = rw c.in-Ok-Some.field-0-is at c.in-Ok-Some.ensures in
    subst (λ (r : Reading). weight r < weight c.frames.reader) (sym c.pass.ensures.passed) found.falls

pub frames-preserved : goal.frames-preserved
frames-preserved g c =
    let found = rw c.in-Ok-Some.field-0-is at c.in-Ok-Some.ensures in
    record {
      so_far = λ at stands.
          let s = c.frames.invariant.so_far at stands in
          let p = shown _ _ _ c.find.new.self c.pass.new.self _ _ _ c.view.result c.view.ensures c.pass.ensures.passed (found.finds s.got s.given s.read) in
          let n = next_frame _ _ _ _ _ _ c.view.result c.in-Some.mux.now p (in_force_there _ c.find.new.self c.pass.new.self (rw c.in-Some.is at c.mux.ensures.in_force) c.pass.ensures.passed) in
          goes_on (g.T.Task.command at g.C.Core.does) (λ frames. g.T.Task.Stands g.C.Core.does at frames c.frames.task (g.C.Core.meaning c.frames.core).ready) (λ frames. g.T.Task.Stands g.C.Core.does at frames c.handle.new.self (g.C.Core.meaning c.handle.new.core).ready)
          _ _ _ _ _ _ _ _ _ _ _ _ _ c.view.result c.in-Some.mux.now s p n (c.in-Ok.ensures.handles at s.given n.frame n.is n.mux_is s.holds) (c.in-Ok.ensures.stands at s.given n.frame n.is n.mux_is s.holds);
      few = c.pass.ensures.few;
      source_faults = found.caused ∙ c.frames.invariant.source_faults;
      out_faults = c.in-Ok.ensures.caused.0 ∙ c.frames.invariant.out_faults;
      core_faults = c.in-Ok.ensures.caused.1 ∙ c.frames.invariant.core_faults;
      other = found.other ∙ c.frames.invariant.other;
      calm_source = λ h. found.calm (c.frames.invariant.calm_source h);
      calm_out = λ h. c.in-Ok.ensures.calm_out (c.frames.invariant.calm_out h);
      calm_core = λ h. c.in-Ok.ensures.calm_core (c.frames.invariant.calm_core h);
      untouched = λ h. c.in-Ok.ensures.untouched h ∙ c.frames.invariant.untouched h;
    }

pub returns-in-Ok-None-clause-caused : goal.returns-in-Ok-None-clause-caused
returns-in-Ok-None-clause-caused g c =
    let next = rw c.in-Ok-None.field-0-is at c.in-Ok-None.ensures in
    let i = c.frames.invariant in
    close_caused _ _ _ _ _ _ _ _ c.close.result _ (next.caused ∙ i.source_faults) i.out_faults i.core_faults (c.close.ensures.caused _) c.closed_by.ensures

pub returns-in-Ok-None-clause-few : goal.returns-in-Ok-None-clause-few
returns-in-Ok-None-clause-few g c =
    let st = c.requires.stands in
    omega (arith, given_fed (g.T.Task.command st.0 g.C.Core.does) (c.is_command.ensures.command st.0) (λ frames. g.T.Task.Stands g.C.Core.does st.0 frames c.frames.task (g.C.Core.meaning c.frames.core).ready) _ _ _ _ _ _ _ (c.frames.invariant.so_far st.0 st.1), c.frames.invariant.few)

pub returns-in-Err-clause-few : goal.returns-in-Err-clause-few
returns-in-Err-clause-few g c =
    let st = c.requires.stands in
    omega (arith, given_fed (g.T.Task.command st.0 g.C.Core.does) (c.is_command.ensures.command st.0) (λ frames. g.T.Task.Stands g.C.Core.does st.0 frames c.frames.task (g.C.Core.meaning c.frames.core).ready) _ _ _ _ _ _ _ (c.frames.invariant.so_far st.0 st.1), c.frames.invariant.few)

pub returns-in-Err-handle-clause-few : goal.returns-in-Err-handle-clause-few
returns-in-Err-handle-clause-few g c =
    let st = c.requires.stands in
    let H = λ (frames : List Frame). g.T.Task.Stands g.C.Core.does st.0 frames c.frames.task (g.C.Core.meaning c.frames.core).ready in
    let s = c.frames.invariant.so_far st.0 st.1 in
    let found = rw c.in-Ok-Some.field-0-is at c.in-Ok-Some.ensures in
    let p = shown _ _ _ c.find.new.self (after_next c.find.new.self) _ _ _ c.view.result c.view.ensures refl (found.finds s.got s.given s.read) in
    let n = next_frame _ _ _ _ _ _ c.view.result c.in-Some.mux.now p (in_force_there _ c.find.new.self (after_next c.find.new.self) (rw c.in-Some.is at c.mux.ensures.in_force) refl) in
    let handled = c.in-Err-handle.ensures.handles st.0 s.given n.frame n.is n.mux_is s.holds in
    let laws = c.is_command.ensures.command st.0 in
    omega (arith, handled_few (g.T.Task.command st.0 g.C.Core.does) laws s.given n.frame _ _ _ _ c.in-Err-handle.end handled, given_fed (g.T.Task.command st.0 g.C.Core.does) laws H _ _ _ _ _ _ _ s, c.frames.invariant.few)
