use Rattle.std.proofs.Common.{◌≡◌, false, true, ℕ, List, length, sym, ap, subst, ◌∙◌, arith}
use Rattle.std.specs.List.{AllByRecursion}
use Rattle.std.proofs.lemmas.Result.{err_from_is_err_and}
use Rattle.usac_frame.specs.declared.frame.Frame.{Frame}
use Rattle.preroll.specs.PreRoll.{HasBytes}
use Rattle.preroll.specs.Steps.{IsConfigFault, IsUnitFault, AreFrames, HaveNoPreRoll, IsNestedFault, first_independent}
use Rattle.preroll.proofs.UnitFrames.{as_many}
use Rattle.preroll.proofs.Tried.{is_well_formed, pass_6_at, pass_7, pass_8, pass_9, config_first, unit_first, nested_first, dependent_first, are_carried}
use Rattle.preroll.proofs.carrying.read_frames.Goals as goal

pub check_config-requires : goal.check_config-requires
check_config-requires c =
    let w = is_well_formed c.args.config.now c.args.frame.now c.args.preroll.now c.requires in
    omega (arith, w.config.0, ap (λ (x : List ℕ). length x) c.as_slice.ensures)

pub returns-in_err-check_config-clause-refused : goal.returns-in_err-check_config-clause-refused
returns-in_err-check_config-clause-refused c =
    let p = err_from_is_err_and c.from_residual.result c.from_residual.ensures.1 in
    let config = c.args.config.now in
    let e = c.in_err-check_config.field-0.0 in
    rw (p.1, p.2) (λ want. config_first config c.args.frame.now c.args.preroll.now e c.requires (subst (λ (x : List ℕ). IsConfigFault config x e) c.as_slice.ensures (c.in_err-check_config.ensures.bad want)))

pub read_units-requires-clause-few : goal.read_units-requires-clause-few
read_units-requires-clause-few c =
    let w = is_well_formed c.args.config.now c.args.frame.now c.args.preroll.now c.requires in
    omega (arith, w.few, ap (λ (x : List (List ℕ)). length x) c.as_slice-2.ensures)

pub read_units-requires-clause-bytes : goal.read_units-requires-clause-bytes
read_units-requires-clause-bytes c =
    let w = is_well_formed c.args.config.now c.args.frame.now c.args.preroll.now c.requires in
    subst (λ (x : List (List ℕ)). AllByRecursion (HasBytes 131070) x) (sym c.as_slice-2.ensures) w.units

pub returns-in_err-frames-clause-refused : goal.returns-in_err-frames-clause-refused
returns-in_err-frames-clause-refused c =
    let p = err_from_is_err_and c.from_residual-in_err-frames.result c.from_residual-in_err-frames.ensures.1 in
    let config = c.args.config.now in
    let frame = c.args.frame.now in
    let preroll = c.args.preroll.now in
    let e = c.in_err-frames.field-0.0 in
    let ok = c.in_ok-check_config.ensures in
    let tried = pass_6_at config frame preroll c.as_slice.result.now c.requires c.as_slice.ensures ok.good ok.same in
    rw (p.1, p.2) (λ want. unit_first config frame preroll e c.requires tried (subst (λ (x : List (List ℕ)). IsUnitFault config x e) c.as_slice-2.ensures (c.in_err-frames.ensures.bad want)))

pub check_nested-requires : goal.check_nested-requires
check_nested-requires c =
    let w = is_well_formed c.args.config.now c.args.frame.now c.args.preroll.now c.requires in
    let many = as_many c.args.config.now c.as_slice-2.result.now c.in_ok-frames.frames c.in_ok-frames.ensures.found in
    omega (arith, w.few, many, ap (λ (x : List (List ℕ)). length x) c.as_slice-2.ensures, ap (λ (x : List Frame). length x) c.as_slice-3.ensures)

pub returns-in_err-check_nested-clause-refused : goal.returns-in_err-check_nested-clause-refused
returns-in_err-check_nested-clause-refused c =
    let p = err_from_is_err_and c.from_residual-in_err-check_nested.result c.from_residual-in_err-check_nested.ensures.1 in
    let config = c.args.config.now in
    let frame = c.args.frame.now in
    let preroll = c.args.preroll.now in
    let frames = c.in_ok-frames.frames in
    let e = c.in_err-check_nested.field-0.0 in
    let ok = c.in_ok-check_config.ensures in
    let are : AreFrames config preroll.units frames = subst (λ (x : List (List ℕ)). AreFrames config x frames) c.as_slice-2.ensures c.in_ok-frames.ensures.found in
    let tried = pass_7 config frame preroll frames c.requires (pass_6_at config frame preroll c.as_slice.result.now c.requires c.as_slice.ensures ok.good ok.same) are in
    rw (p.1, p.2) (λ want. nested_first config frame preroll frames e c.requires tried are (subst (λ (x : List Frame). IsNestedFault config x e) c.as_slice-3.ensures c.in_err-check_nested.ensures.bad))

pub returns-then-not-first_is_independent-clause-refused : goal.returns-then-not-first_is_independent-clause-refused
returns-then-not-first_is_independent-clause-refused c =
    let config = c.args.config.now in
    let frame = c.args.frame.now in
    let preroll = c.args.preroll.now in
    let frames = c.in_ok-frames.frames in
    let ok = c.in_ok-check_config.ensures in
    let are : AreFrames config preroll.units frames = subst (λ (x : List (List ℕ)). AreFrames config x frames) c.as_slice-2.ensures c.in_ok-frames.ensures.found in
    let none : HaveNoPreRoll config frames = subst (λ (x : List Frame). HaveNoPreRoll config x) c.as_slice-3.ensures c.in_ok-check_nested.ensures.ok in
    let first : first_independent frame frames ≡ false = ap (λ (x : List Frame). first_independent frame x) (sym c.as_slice-4.ensures) ∙ sym c.if-not-first_is_independent.ensures in
    let tried = pass_8 config frame preroll frames c.requires (pass_7 config frame preroll frames c.requires (pass_6_at config frame preroll c.as_slice.result.now c.requires c.as_slice.ensures ok.good ok.same) are) are none in
    λ want. dependent_first config frame preroll frames c.requires tried are first

pub returns-clause-found : goal.returns-clause-found
returns-clause-found c =
    let config = c.args.config.now in
    let frame = c.args.frame.now in
    let preroll = c.args.preroll.now in
    let frames = c.in_ok-frames.frames in
    let ok = c.in_ok-check_config.ensures in
    let are : AreFrames config preroll.units frames = subst (λ (x : List (List ℕ)). AreFrames config x frames) c.as_slice-2.ensures c.in_ok-frames.ensures.found in
    let none : HaveNoPreRoll config frames = subst (λ (x : List Frame). HaveNoPreRoll config x) c.as_slice-3.ensures c.in_ok-check_nested.ensures.ok in
    let first : first_independent frame frames ≡ true = ap (λ (x : List Frame). first_independent frame x) (sym c.as_slice-4.ensures) ∙ sym c.if-not-first_is_independent.ensures in
    let tried = pass_8 config frame preroll frames c.requires (pass_7 config frame preroll frames c.requires (pass_6_at config frame preroll c.as_slice.result.now c.requires c.as_slice.ensures ok.good ok.same) are) are none in
    are_carried config frame preroll frames (pass_9 config frame preroll frames c.requires tried are first) are
