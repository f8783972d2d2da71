use Rattle.std.proofs.Common.{◌≡◌, ◌<◌, ◌≤◌, ℕ, [], length, get_or, take, drop}
use Rattle.ipf_insert.specs.Rules.{element_of, targets_rule}
use Rattle.ipf_insert.specs.Steps.{settled, AreKept, IsFrom, AreFramable}
use Rattle.ipf_insert.proofs.target_rules.check_targets.Given as goal

abbrev pub invariant-loop-place : goal.invariant-loop-place
invariant-loop-place l = record {
  so_far : targets_rule (settled l.fn.sources) l.fn.elements (take l.place l.fn.targets) (drop l.place l.fn.targets) ≡ targets_rule (settled l.fn.sources) l.fn.elements [] l.fn.targets;
  kept : AreKept (settled l.fn.sources) (take l.place l.fn.targets);
  there : (t : ℕ) → l.first ≤ t → element_of t 0 l.fn.elements ≡ element_of t l.first l.rest;
  from : IsFrom (settled l.fn.sources).aus l.first l.rest;
  framable : AreFramable l.rest;
  next : (t : ℕ) → l.place ≤ t → t < length l.fn.targets → l.first ≤ get_or l.fn.targets t 0;
}
