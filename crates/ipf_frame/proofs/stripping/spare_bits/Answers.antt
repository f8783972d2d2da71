use Rattle.std.proofs.Common.{Some, true, false, sym, ap, ◌∙◌}
use Rattle.std.specs.Option.{option_copied}
use Rattle.ipf_frame.proofs.Spares.{seen_spare}
use Rattle.ipf_frame.proofs.stripping.spare_bits.Goals as goal

pub returns-in-Some-Ext : goal.returns-in-Some-Ext
returns-in-Some-Ext c =
    let seen = sym c.get.ensures ∙ ap option_copied c.in-Some-Ext.is ∙ ap Some c.in-Some-Ext.field-0-is in
    sym (seen_spare c.args.config.now c.args.frame.now c.in-Some-Ext.ext true c.requires.fits c.requires.whole c.requires.immediate seen c.if-ext.true)

pub returns-in_default : goal.returns-in_default
returns-in_default c =
    let seen = sym c.get.ensures ∙ ap option_copied c.in-Some-Ext.is ∙ ap Some c.in-Some-Ext.field-0-is in
    sym (seen_spare c.args.config.now c.args.frame.now c.in-Some-Ext.ext false c.requires.fits c.requires.whole c.requires.immediate seen c.if-ext.false)
