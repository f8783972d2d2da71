use Rattle.std.proofs.Common.{ℕ, List, refl, ap, subst, ◌∙◌}
use Rattle.layout.specs.Text.{bits_of}
use Rattle.usac_frame.specs.declared.fault.FrameFault.TheVariants as faults
use Rattle.usac_frame.specs.Frame.{FrameFaults}
use Rattle.tool_text.specs.declared.refusal.Place.TheVariants as places
use Rattle.tool_text.specs.declared.refusal.Reason.TheVariants as reasons
use Rattle.xheaac_tool.proofs.unit_frame.read_unit_frame.Goals as goal

pub returns-in-Err-Short-clause-reads : goal.returns-in-Err-Short-clause-reads
returns-in-Err-Short-clause-reads c =
    let at = c.in-Err-Short.at in
    let bad = (rw c.in-Err-Short.field-0-is at c.in-Err-Short.ensures).fault refl in
    rw c.too_short.ensures
    (at, subst (λ (b : List ℕ). FrameFaults c.args.config.now (faults.Short at) (bits_of b)) (c.as_slice.ensures ∙ c.in_ok-au.ensures) bad, ap (λ (n : ℕ). record { place = places.FrameBit n at; reason = reasons.FrameTooShort }) c.frame.ensures)
