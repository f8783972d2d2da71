use Rattle.std.proofs.Common.{◌≡◌, ℕ, List, [], length, ap, ◌∙◌, arith}
use Rattle.std.proofs.lemmas.Grind.{common_steps}
use Rattle.preroll.proofs.Configs.{one_config, none_in_none}
use Rattle.preroll.proofs.carrying.check_config.Goals as goal

pub returns-then-is_left_out-clause-same : goal.returns-then-is_left_out-clause-same
returns-then-is_left_out-clause-same c other =
    let none : c.args.bytes.now ≡ [] = grind (arith, common_steps) in
    none_in_none c.args.bytes.now other.0 (ap (λ (x : List ℕ). length x) none) other.1

pub returns-clause-same : goal.returns-clause-same
returns-clause-same c other = other.2 (one_config c.args.bytes.now other.0 c.in_ok-own.own other.1 c.in_ok-own.ensures.found ∙ grind (arith, common_steps))
