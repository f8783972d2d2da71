use Rattle.std.proofs.Common.{ℕ, List, [], ◌∷◌, ◌++◌, Option, Some, None, ap, sym, ◌∙◌, refl, rules}
use Rattle.std.specs.Option.{option_map}
use Rattle.xheaac_tool.specs.TargetWords.{numbers_of, between_commas}
use Rattle.xheaac_tool.proofs.TargetLemmas.{first_word, no_first, one_number, taken_number}
use Rattle.xheaac_tool.proofs.target_words.read_numbers.Goals as goal

pub returns-in_default-read_number : goal.returns-in_default-read_number
returns-in_default-read_number c =
    let later = c.loop-number.later.now in
    let first = first_word later (Some (c.in-Some.number, c.in-Some.others)) c.in-Some.ensures.cases in
    let none = no_first later c.in-Some.number.now c.in-Some.others.now None first (sym c.in_default-read_number.is ∙ c.read_number.ensures) refl in
    sym (ap (λ (ns : Option (List ℕ)). option_map (λ more. c.loop-number.numbers.items ++ more) ns) none) ∙ c.loop-number.invariant.1

pub loop-number-preserved : goal.loop-number-preserved
loop-number-preserved c =
    let later = c.loop-number.later.now in
    let first = first_word later (Some (c.in-Some.number, c.in-Some.others)) c.in-Some.ensures.cases in
    let number = c.in-Some-read_number.number in
    let more = taken_number later c.in-Some.number.now c.in-Some.others.now number c.loop-number.numbers.items first (sym c.in-Some-read_number.is ∙ c.read_number.ensures) in
    (search rules, ap (λ (read : List ℕ). option_map (λ more. read ++ more) (numbers_of (between_commas c.in-Some.others.now))) c.in_ok-push.ensures.items ∙ (more ∙ c.loop-number.invariant.1))

pub returns-in_default-read_number-2 : goal.returns-in_default-read_number-2
returns-in_default-read_number-2 c =
    let later = c.loop-number.later.now in
    let none = one_number later None (first_word later None c.in_default.ensures.cases) (sym c.in_default-read_number-2.is ∙ c.read_number-2.ensures) in
    sym (ap (λ (ns : Option (List ℕ)). option_map (λ more. c.loop-number.numbers.items ++ more) ns) none) ∙ c.loop-number.invariant.1

pub returns : goal.returns
returns c =
    let later = c.loop-number.later.now in
    let last = c.in-Some-read_number-2.last in
    let one = one_number later (Some last) (first_word later None c.in_default.ensures.cases) (sym c.in-Some-read_number-2.is ∙ c.read_number-2.ensures) in
    ap (λ (ns : List ℕ). Some ns) (c.from_vec.ensures ∙ c.in_ok-push-2.ensures.items)
    ∙ (sym (ap (λ (ns : Option (List ℕ)). option_map (λ more. c.loop-number.numbers.items ++ more) ns) one) ∙ c.loop-number.invariant.1)
