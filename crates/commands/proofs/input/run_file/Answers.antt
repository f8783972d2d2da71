use Rattle.std.proofs.Common.{◌∷◌, [], ap, ◌∙◌, refl, arith, rules}
use Rattle.commands.proofs.Endings.{left_of_others}
use Rattle.commands.proofs.OneInput.{one_taken, one_does, one_accounts}
use Rattle.commands.proofs.input.run_file.Goals as goal

pub returns : goal.returns
returns g c =
    let does = g.I.Input.does c.args.input.now g.C.Core.does in
    let p = c.run_begun.ensures.does in
    let id-is = c.in-Ok.ensures.number in
    let start = ap (g.H.Shelf.left c.begin.new.self) id-is ∙ c.in-Ok.ensures.start in
    record {
      taken = p.taken ∷ [];
      from = one_taken does (g.H.Shelf.bytes c.args.shelf.now) (g.H.Shelf.left c.run_begun.new.shelf) c.args.name.now _ c.in-Ok.id _ _ _ start id-is p;
      begun = c.run_begun.ensures.begun ∙ c.in-Ok.ensures.begun;
      all_begun = λ done. refl;
      does = one_does does (g.H.Shelf.bytes c.args.shelf.now) c.args.name.now _ _ _ _ start p;
      accounts = one_accounts does _ _ _ _ p;
      held = λ tells. (c.in-Ok.ensures.held tells, tt);
      nothing = λ some none. absurd cc;
      caused = search rules;
      keeps = record {
        names = c.run_begun.ensures.names ∙ c.in-Ok.ensures.names;
        tells = c.run_begun.ensures.tells ∙ c.in-Ok.ensures.tells;
        others = λ id lt. left_of_others c.in-Ok.id (g.H.Shelf.begun c.args.shelf.now) id (g.H.Shelf.left c.args.shelf.now) (g.H.Shelf.left c.begin.new.self) (g.H.Shelf.left c.run_begun.new.shelf) id-is lt (c.in-Ok.ensures.others id lt) c.run_begun.ensures.others;
        calm_shelf = search rules;
        calm_out = search rules;
        calm_core = search rules;
      };
      calm_reads = search rules;
      calm_writes = search rules;
      calm_decodes = elim [
        | [] ↦ λ held. absurd held
        | text ∷ texts ↦ λ held served calm. c.run_begun.ensures.calm_decodes text (start ∙ held.0) served calm
      ];
      no_core = c.run_begun.ensures.no_core;
      untouched = c.run_begun.ensures.untouched;
    }

pub returns-in-Err-Failed : goal.returns-in-Err-Failed
returns-in-Err-Failed g c = record {
  taken = [];
  from = tt;
  begun = omega (arith, c.in-Err-Failed.ensures.refused);
  all_begun = search rules;
  does = λ texts held. (tt, record { written = refl; fed = refl });
  accounts = (tt, record { written = refl; fed = refl });
  held = λ tells. tt;
  nothing = λ some none. (refl, refl);
  caused = search rules;
  keeps = record {
    names = c.in-Err-Failed.ensures.names;
    tells = c.in-Err-Failed.ensures.tells;
    others = c.in-Err-Failed.ensures.others;
    calm_shelf = search rules;
    calm_out = search rules;
    calm_core = search rules;
  };
  calm_reads = search rules;
  calm_writes = search rules;
  calm_decodes = search rules;
  no_core = search rules;
  untouched = search rules;
}

pub returns-in-Err-Memory : goal.returns-in-Err-Memory
returns-in-Err-Memory g c = record {
  taken = [];
  from = tt;
  begun = omega (arith, c.in-Err-Memory.ensures.refused);
  all_begun = search rules;
  does = λ texts held. (tt, record { written = refl; fed = refl });
  accounts = (tt, record { written = refl; fed = refl });
  held = λ tells. tt;
  nothing = λ some none. (refl, refl);
  caused = search rules;
  keeps = record {
    names = c.in-Err-Memory.ensures.names;
    tells = c.in-Err-Memory.ensures.tells;
    others = c.in-Err-Memory.ensures.others;
    calm_shelf = search rules;
    calm_out = search rules;
    calm_core = search rules;
  };
  calm_reads = search rules;
  calm_writes = search rules;
  calm_decodes = search rules;
  no_core = search rules;
  untouched = search rules;
}
