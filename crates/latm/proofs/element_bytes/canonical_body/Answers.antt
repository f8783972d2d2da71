use Rattle.std.proofs.Common.{subst, sym}
use Rattle.std.specs.Option.{option_copied}
use Rattle.layout.specs.Layout.{FitsOption}
use Rattle.latm.specs.MuxConfig.{IsWellFormed}
use Rattle.latm.proofs.FrameWrites.{canonical_well}
use Rattle.latm.proofs.element_bytes.canonical_body.Goals as goal

pub write_single-requires : goal.write_single-requires
write_single-requires c = subst (λ m. FitsOption IsWellFormed m) (sym c.in_ok-config.ensures) (canonical_well (option_copied c.args.asc) c.requires)
