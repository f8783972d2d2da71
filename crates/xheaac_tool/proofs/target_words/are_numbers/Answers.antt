use Rattle.std.proofs.Common.{ℕ, List, Option, Some, None, is_some, ap, sym, ◌∙◌, rules}
use Rattle.xheaac_tool.proofs.TargetLemmas.{first_word, no_first, some_first, one_is_some}
use Rattle.xheaac_tool.proofs.target_words.are_numbers.Goals as goal

pub returns-then-is_none : goal.returns-then-is_none
returns-then-is_none c =
    let later = c.loop-number.later.now in
    let first = first_word later (Some (c.in-Some.number, c.in-Some.others)) c.in-Some.ensures.cases in
    let none = no_first later c.in-Some.number.now c.in-Some.others.now c.read_number.result first c.read_number.ensures c.if-is_none.ensures in
    sym (ap (λ (ns : Option (List ℕ)). is_some ns) none) ∙ c.loop-number.invariant.1

pub loop-number-preserved : goal.loop-number-preserved
loop-number-preserved c =
    let later = c.loop-number.later.now in
    let first = first_word later (Some (c.in-Some.number, c.in-Some.others)) c.in-Some.ensures.cases in
    (search rules, some_first later c.in-Some.number.now c.in-Some.others.now c.read_number.result first c.read_number.ensures c.if-is_none.ensures ∙ c.loop-number.invariant.1)

pub returns : goal.returns
returns c =
    let later = c.loop-number.later.now in
    c.is_some.ensures ∙ (one_is_some later c.read_number-2.result (first_word later None c.in_default.ensures.cases) c.read_number-2.ensures ∙ c.loop-number.invariant.1)
