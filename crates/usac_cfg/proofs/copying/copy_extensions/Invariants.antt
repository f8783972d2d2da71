use Rattle.std.proofs.Common.{◌≡◌, take}
use Rattle.usac_cfg.proofs.copying.copy_extensions.Given as goal

abbrev pub invariant-loop-extension : goal.invariant-loop-extension
invariant-loop-extension l = l.copied ≡ take l.extension-index l.extensions
