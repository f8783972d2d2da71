use Rattle.std.proofs.Common.{get_or, ◌∙◌, refl, subst, ap, [], ℕ, arith, rules}
use Rattle.commands.specs.declared.outcome.Outcome.TheVariants as is
use Rattle.commands.specs.Doing.{DoesSource}
use Rattle.commands.specs.OnInputs.{EndsAt}
use Rattle.commands.proofs.Endings.{left_of_others}
use Rattle.commands.proofs.Files.{told_start}
use Rattle.commands.proofs.FilesCalled.{names_all, names_next, names_done, names_end, all_passed, not_begun, stopped_here, passed_here}
use Rattle.commands.proofs.inputs.run_files.Goals as goal

pub loop-name-init : goal.loop-name-init
loop-name-init g c = record {
  so_far = λ from ready. (
    from,
    ready,
    record {
      taken = [];
      number = refl;
      taken_of = tt;
      begun = omega arith;
      told = λ texts held. told_start _ _ _ _ texts _ _ held;
      alone = (refl, record { written = refl; fed = refl });
      held = λ tells. tt;
      first = λ none. (refl, refl);
      faults = refl;
      keeps = record { names = refl; tells = refl; others = λ id lt. refl; calm_shelf = λ h. h; calm_out = λ h. h; calm_core = λ h. h };
      untouched = λ h. refl;
      fed = omega arith;
    },
  );
}

pub returns : goal.returns
returns g c =
    let from = g.I.Inputs.first c.args.inputs.now in
    let start = c.requires.ready in
    let i = c.loop-name.name-index in
    let so = c.loop-name.invariant.so_far from start in
    all_passed (g.I.Inputs.does g.C.Core.does) _ _ _ _ _ _ _ (names_all (λ name. name.now) c.args.names.now i) so.2 (names_end (λ name. name.now) c.args.names.now i (omega (arith, c.loop-name-test.false)))

pub returns-in-Err-Failed : goal.returns-in-Err-Failed
returns-in-Err-Failed g c =
    let from = g.I.Inputs.first c.args.inputs.now in
    let start = c.requires.ready in
    let i = c.loop-name.name-index in
    let so = c.loop-name.invariant.so_far from start in
    let b = c.in-Err-Failed.ensures in
    not_begun (g.I.Inputs.does g.C.Core.does) _ _ _ _ _ _ _ (names_all (λ name. name.now) c.args.names.now i) so.2 (get_or c.args.names.now i (record { ref_ptr = (0, 0); now = [] })).now _ _ _ (names_next (λ name. name.now) c.args.names.now i (record { ref_ptr = (0, 0); now = [] }) c.loop-name-test.true) tt refl refl refl b.refused
    (record {
      names = b.names;
      tells = b.tells;
      others = b.others;
      calm_shelf = b.calm;
      calm_out = λ h. h;
      calm_core = λ h. h;
    }) (search rules) (search rules)

pub returns-in-Err-Memory : goal.returns-in-Err-Memory
returns-in-Err-Memory g c =
    let from = g.I.Inputs.first c.args.inputs.now in
    let start = c.requires.ready in
    let i = c.loop-name.name-index in
    let so = c.loop-name.invariant.so_far from start in
    let b = c.in-Err-Memory.ensures in
    not_begun (g.I.Inputs.does g.C.Core.does) _ _ _ _ _ _ _ (names_all (λ name. name.now) c.args.names.now i) so.2 (get_or c.args.names.now i (record { ref_ptr = (0, 0); now = [] })).now _ _ _ (names_next (λ name. name.now) c.args.names.now i (record { ref_ptr = (0, 0); now = [] }) c.loop-name-test.true) tt refl refl refl b.refused
    (record {
      names = b.names;
      tells = b.tells;
      others = b.others;
      calm_shelf = b.calm;
      calm_out = λ h. h;
      calm_core = λ h. h;
    }) (search rules) (search rules)

pub returns-in_default : goal.returns-in_default
returns-in_default g c =
    let from = g.I.Inputs.first c.args.inputs.now in
    let start = c.requires.ready in
    let i = c.loop-name.name-index in
    let so = c.loop-name.invariant.so_far from start in
    let b = c.in-Ok.ensures in
    let r = c.run_next.ensures in
    let leads = r.does so.0 so.1 in
    let id-is = b.number in
    stopped_here (g.I.Inputs.does g.C.Core.does) _ _ _ _ _ _ _ (names_all (λ name. name.now) c.args.names.now i) so.2 _ _ _ _ _ (names_next (λ name. name.now) c.args.names.now i (record { ref_ptr = (0, 0); now = [] }) c.loop-name-test.true) (search rules)
    (record {
      left = g.H.Shelf.left c.begin.new.self c.in-Ok.id;
      start = ap (g.H.Shelf.left c.begin.new.self) id-is ∙ b.start;
      does = subst (λ (n : ℕ). DoesSource (EndsAt (g.I.Inputs.does g.C.Core.does) so.0 leads.next) (g.H.Shelf.left c.begin.new.self c.in-Ok.id) (g.H.Shelf.left c.run_next.new.shelf n) (record { written_before = g.K.Sink.written c.loop-name.out; written_after = g.K.Sink.written c.run_next.new.out; fed_before = (g.C.Core.meaning c.loop-name.core).fed; fed_after = (g.C.Core.meaning c.run_next.new.core).fed }) c.run_next.result) id-is leads.does;
      begun = r.begun ∙ b.begun;
      held = b.held;
      caused = search rules;
      keeps = record {
        names = r.names ∙ b.names;
        tells = r.tells ∙ b.tells;
        others = λ id lt. left_of_others c.in-Ok.id (g.H.Shelf.begun c.loop-name.shelf) id (g.H.Shelf.left c.loop-name.shelf) (g.H.Shelf.left c.begin.new.self) (g.H.Shelf.left c.run_next.new.shelf) id-is lt (b.others id lt) r.others;
        calm_shelf = search rules;
        calm_out = search rules;
        calm_core = search rules;
      };
      few = r.few;
      untouched = r.untouched;
      calm_reads = λ calm. r.calm_reads (b.calm calm);
      calm_writes = r.calm_writes;
      calm_decodes = λ text here served calm. r.calm_decodes so.0 so.1 text (ap (g.H.Shelf.left c.begin.new.self) id-is ∙ b.start ∙ here) served calm;
      no_core = r.no_core;
    })

pub loop-name-preserved : goal.loop-name-preserved
loop-name-preserved g c =
    let i = c.loop-name.name-index in
    let b = c.in-Ok.ensures in
    let r = c.in-Done.ensures in
    let id-is = b.number in
    let lt = c.loop-name-test.true in
    record {
      so_far = λ from start.
          let so = c.loop-name.invariant.so_far from start in
          let leads = r.does so.0 so.1 in (
            leads.next,
            leads.ready refl,
            rw (names_done (λ name. name.now) c.args.names.now i (record { ref_ptr = (0, 0); now = [] }) lt) (passed_here (g.I.Inputs.does g.C.Core.does) _ _ _ _ _ _ _ (names_all (λ name. name.now) c.args.names.now i) so.2 _ _ _ _ (names_next (λ name. name.now) c.args.names.now i (record { ref_ptr = (0, 0); now = [] }) lt)
                (record {
                  left = g.H.Shelf.left c.begin.new.self c.in-Ok.id;
                  start = ap (g.H.Shelf.left c.begin.new.self) id-is ∙ b.start;
                  does = subst (λ (n : ℕ). DoesSource (EndsAt (g.I.Inputs.does g.C.Core.does) so.0 leads.next) (g.H.Shelf.left c.begin.new.self c.in-Ok.id) (g.H.Shelf.left c.run_next.new.shelf n) (record { written_before = g.K.Sink.written c.loop-name.out; written_after = g.K.Sink.written c.run_next.new.out; fed_before = (g.C.Core.meaning c.loop-name.core).fed; fed_after = (g.C.Core.meaning c.run_next.new.core).fed }) is.Done) id-is leads.does;
                  begun = r.begun ∙ b.begun;
                  held = b.held;
                  caused = search rules;
                  keeps = record {
                    names = r.names ∙ b.names;
                    tells = r.tells ∙ b.tells;
                    others = λ id lt. left_of_others c.in-Ok.id (g.H.Shelf.begun c.loop-name.shelf) id (g.H.Shelf.left c.loop-name.shelf) (g.H.Shelf.left c.begin.new.self) (g.H.Shelf.left c.run_next.new.shelf) id-is lt (b.others id lt) r.others;
                    calm_shelf = search rules;
                    calm_out = search rules;
                    calm_core = search rules;
                  };
                  few = r.few;
                  untouched = r.untouched;
                  calm_reads = λ calm. r.calm_reads (b.calm calm);
                  calm_writes = r.calm_writes;
                  calm_decodes = λ text here served calm. r.calm_decodes so.0 so.1 text (ap (g.H.Shelf.left c.begin.new.self) id-is ∙ b.start ∙ here) served calm;
                  no_core = r.no_core;
                })),
          );
    }
