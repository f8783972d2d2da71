use Rattle.std.proofs.Common.{◌≡◌, rules, refl, Ok, Err, Some, None}
use Rattle.std.proofs.lemmas.Result.{err_from_is_err_and}
use Rattle.loas.specs.declared.fault.LoasFault.TheVariants.{SyncLost}
use Rattle.loas.proofs.Given.{gives, takes-frame, one_due}
use Rattle.loas.proofs.framer.Loas.next.Goals as goal

pub returns-in_err-element-in-Frame-clause-gives : goal.returns-in_err-element-in-Frame-clause-gives
returns-in_err-element-in-Frame-clause-gives c = λ text given bodies rest h l.
    let p = err_from_is_err_and c.from_residual.result c.from_residual.ensures.1 in
    rw (p.1, p.2) (one_due text given bodies rest c.args.self.now.framer c.in-Frame.length h l c.in-Frame.ensures.stands)

pub returns-in_ok-element-in-Frame-clause-gives : goal.returns-in_ok-element-in-Frame-clause-gives
returns-in_ok-element-in-Frame-clause-gives c = λ text given bodies rest h l.
    let at : c.self.inside.passed ≡ c.args.self.now.framer.passed = search rules in
    let e = c.in_ok-element-in-Frame.ensures in
    gives text given bodies rest c.args.self.now.framer _ (Ok (Some (record { at = c.self.inside.passed; element = c.in_ok-element-in-Frame.element })))
    (takes-frame c.in-Frame.length c.args.self.now.framer _ c.in-Frame.ensures.stands at (search rules)) h l

pub returns-in-Part-clause-gives : goal.returns-in-Part-clause-gives
returns-in-Part-clause-gives c = λ text given bodies rest h l.
    gives text given bodies rest c.args.self.now.framer c.args.self.now.framer (Ok None) (refl, c.in-Part.ensures.stands) h l

pub returns-in-Lost-clause-gives : goal.returns-in-Lost-clause-gives
returns-in-Lost-clause-gives c = λ text given bodies rest h l.
    let byte : c.self.inside.passed ≡ c.args.self.now.framer.passed = search rules in
    gives text given bodies rest c.args.self.now.framer c.args.self.now.framer (Err (SyncLost c.self.inside.passed)) (refl, c.in-Lost.ensures.stands, byte) h l
