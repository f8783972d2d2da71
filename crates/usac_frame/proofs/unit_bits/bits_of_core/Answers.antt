use Rattle.std.proofs.Common.{◌≤◌, ◌++◌, Bool, List, length, sym, ap, ◌∙◌, drop, arith}
use Rattle.std.proofs.lemmas.Result.{IfOk-weaker}
use Rattle.usac_frame.specs.Frame.{leading_exts}
use Rattle.usac_frame.specs.Units.{preroll_parts}
use Rattle.usac_frame.proofs.PartLists.{no_text}
use Rattle.usac_frame.proofs.unit_bits.bits_of_core.Goals as goal

pub returns-then-parts-first : goal.returns-then-parts-first
returns-then-parts-first c =
    let k = preroll_parts c.args.config.now in
    let f = c.args.frame.now in
    let le : length f.leading ≤ k = omega (arith, c.if-parts-first.true, c.preroll_parts-first.ensures, ap (λ xs. length xs) c.as_slice-parts.ensures) in
    IfOk-weaker c.copy.result _ _ (λ bits e. e ∙ sym (ap (λ (t : List Bool). t ++ f.rest) (no_text (drop k (leading_exts c.args.config.now)) f.leading k le))) c.copy.ensures
