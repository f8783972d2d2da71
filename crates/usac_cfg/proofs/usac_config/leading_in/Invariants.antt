use Rattle.std.proofs.Common.{◌≡◌, ◌+◌, drop}
use Rattle.usac_cfg.specs.UsacConfig.{leading_of}
use Rattle.usac_cfg.proofs.usac_config.leading_in.Given as goal

abbrev pub invariant-loop-element : goal.invariant-loop-element
invariant-loop-element l = record {
  counted : l.count ≡ l.element-index;
  rest : l.count + leading_of (drop l.element-index l.elements) ≡ leading_of l.elements;
}
