use Rattle.std.proofs.Common.{List, length, sym, ap, subst, ◌∙◌, arith}
use Rattle.std.specs.Prelude.{map}
use Rattle.std.specs.List.{AllByRecursion}
use Rattle.std.proofs.lemmas.List.{length-map}
use Rattle.usac_frame.specs.declared.frame.Frame.{Frame}
use Rattle.usac_frame.specs.Frame.{FitsConfig}
use Rattle.usac_frame.specs.Units.{UnitValue, unit_of}
use Rattle.preroll.proofs.UnitFrames.{all_fit, as_many}
use Rattle.preroll.proofs.Tried.{is_well_formed, carries}
use Rattle.preroll.proofs.carrying.carried.Goals as goal

pub units_of-requires : goal.units_of-requires
units_of-requires c =
    let config = c.args.config.now in
    subst (λ (x : List Frame). AllByRecursion (FitsConfig config) x) (sym c.as_slice.ensures) (all_fit config c.in_ok-preroll.preroll.units c.in_ok-frames.frames c.in_ok-frames.ensures.found.frames)

pub invariant_of-result : goal.invariant_of-result
invariant_of-result c =
    let config = c.args.config.now in
    let preroll = c.in_ok-preroll.preroll in
    let w = is_well_formed config c.args.frame.now preroll c.in_ok-preroll.ensures.found in
    let many = as_many config preroll.units c.in_ok-frames.frames c.in_ok-frames.ensures.found.frames in
    record { few = omega (arith, w.few, many, ap (λ (x : List UnitValue). length x) c.in_ok-units.ensures, length-map c.as_slice.result.now (unit_of config), ap (λ (x : List Frame). length x) c.as_slice.ensures) }

pub returns-clause-found : goal.returns-clause-found
returns-clause-found c =
    let config = c.args.config.now in
    carries config c.args.frame.now c.in_ok-preroll.preroll c.in_ok-frames.frames c.in_ok-units.units c.in_ok-preroll.ensures.found c.in_ok-frames.ensures.found (c.in_ok-units.ensures ∙ ap (λ (x : List Frame). map (unit_of config) x) c.as_slice.ensures)
