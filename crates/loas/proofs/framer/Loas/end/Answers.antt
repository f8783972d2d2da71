use Rattle.std.proofs.Common.{◌≡◌, ◌<◌, length, rules, Ok, Err, inl, inr, []}
use Rattle.loas.specs.declared.fault.LoasFault.TheVariants.{SyncLost, Truncated}
use Rattle.loas.proofs.Given.{ends, some_bytes}
use Rattle.loas.proofs.framer.Loas.end.Goals as goal

pub returns-in-Lost-clause-answers : goal.returns-in-Lost-clause-answers
returns-in-Lost-clause-answers c = λ text given bodies rest h l.
    let byte : c.self.inside.passed ≡ c.args.self.now.framer.passed = search rules in
    ends text given bodies rest c.args.self.now.framer (Err (SyncLost c.self.inside.passed)) (c.in-Lost.ensures.stands, byte) h l

pub returns-in-Part-clause-answers : goal.returns-in-Part-clause-answers
returns-in-Part-clause-answers c = λ text given bodies rest h l.
    let byte : c.self.inside.passed ≡ c.args.self.now.framer.passed = search rules in
    let some : 0 < length c.args.self.now.framer.held = some_bytes c.is_empty.result c.args.self.now.framer.held c.is_empty.ensures c.if-not-is_empty.true in
    ends text given bodies rest c.args.self.now.framer (Err (Truncated c.self.inside.passed)) (c.in-Part.ensures.stands, some, byte) h l

pub returns-in-Part-2-clause-answers : goal.returns-in-Part-2-clause-answers
returns-in-Part-2-clause-answers c = λ text given bodies rest h l.
    let none : c.args.self.now.framer.held ≡ [] = search rules in
    ends text given bodies rest c.args.self.now.framer (Ok tt) (inl none) h l

pub returns-in-Frame-clause-answers : goal.returns-in-Frame-clause-answers
returns-in-Frame-clause-answers c = λ text given bodies rest h l.
    ends text given bodies rest c.args.self.now.framer (Ok tt) (inr (_, c.in-Frame.ensures.stands)) h l
