use Rattle.std.proofs.Common.{[], refl, arith}
use Rattle.commands.proofs.alone.run_none.Goals as goal

pub returns : goal.returns
returns g c =
    let r = c.run.ensures in
    record {
      taken = [];
      from = tt;
      begun = omega arith;
      all_begun = λ done. refl;
      does = λ texts held. r.does;
      accounts = r.does;
      held = λ tells. tt;
      nothing = λ some none. absurd (omega (arith, some));
      caused = r.caused _;
      keeps = record {
        names = refl;
        tells = refl;
        others = λ id lt. refl;
        calm_shelf = λ h. h;
        calm_out = r.calm_out;
        calm_core = r.calm_core;
      };
      calm_reads = λ calm held. r.no_read;
      calm_writes = r.calm_writes;
      calm_decodes = λ texts held served calm. r.calm_decodes served calm;
      no_core = r.no_core;
      untouched = r.untouched;
    }
