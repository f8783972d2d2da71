-- Numbers joined by commas.
use Rattle.std.proofs.Common.{◌≡◌, ℕ, ◌+◌, ◌<◌, Bool, true, false, List, [], ◌∷◌, ◌++◌, Option, Some, None, is_some, length, get_or, drop, eqb, nat_eq, arith, refl, ap, sym, ◌∙◌}
use Rattle.std.specs.Prelude.{codes, unwrap_or, if◌then◌else◌}
use Rattle.std.specs.Borrow.{Bor}
use Rattle.std.specs.List.{slice_split, starts_with, after_first}
use Rattle.std.specs.Option.{MatchOption, option_map}
use Rattle.std.proofs.lemmas.Bool.{ne_eqb}
use Rattle.std.proofs.lemmas.List.{append_assoc, get_or_default}
use Rattle.std.proofs.lemmas.List.Splits.{slice_split_none, slice_split_first}
use Rattle.std.proofs.lemmas.Str.Pattern.{IsSplitOnceResult, split_parts, split_once_first}
use Rattle.xheaac_tool.specs.Numbers.{number_of}
use Rattle.editing.specs.declared.targets.Targets.TheVariants.{Each, Every}
use Rattle.xheaac_tool.specs.TargetWords.{number_before, numbers_of, between_commas, step_of, targets_of}

-- a word is what stands before its first comma, and what stands behind it
pub first_word : (word : List ℕ) (r : Option (Bor (List ℕ) × Bor (List ℕ))) → IsSplitOnceResult 44 word r → MatchOption r (between_commas word ≡ word ∷ []) (λ parts. between_commas word ≡ parts.0.now ∷ between_commas parts.1.now)
first_word word None h =
    slice_split_none (λ code. eqb code 44) word
    (λ k d within.
    ne_eqb (get_or word k d) 44
    (λ e. split_parts 44 word None h (omega arith) k within (get_or_default word k 0 d within ∙ e)))
first_word word (Some parts) h =
    let first = split_once_first 44 word (Some parts) h (omega arith) in
    slice_split_first (λ code. eqb code 44) word 44 first.0 ∙ (ap (λ xs. xs ∷ between_commas (after_first (λ code. eqb code 44) word)) (sym first.1) ∙ ap (λ xs. parts.0.now ∷ between_commas xs) (sym first.2))

-- the numbers of words, where the first of them is none
before_none : (number : Option ℕ) (numbers : Option (List ℕ)) → is_some number ≡ false → number_before number numbers ≡ None
before_none None numbers none = refl
before_none (Some number) numbers none = cc

before_some : (number : Option ℕ) (numbers : Option (List ℕ)) → is_some number ≡ true → is_some (number_before number numbers) ≡ is_some numbers
before_some None numbers some = cc
before_some (Some number) None some = refl
before_some (Some number) (Some numbers) some = refl

before_more : (number : ℕ) (numbers : Option (List ℕ)) (read : List ℕ) → option_map (λ more. (read ++ number ∷ []) ++ more) numbers ≡ option_map (λ more. read ++ more) (number_before (Some number) numbers)
before_more number None read = refl
before_more number (Some numbers) read = ap (λ (xs : List ℕ). Some xs) (append_assoc read (number ∷ []) numbers)

-- A word that begins with a word that is no number is none; else it is numbers where the rest is.
module _ (word number others : List ℕ) (read : Option ℕ) (are : between_commas word ≡ number ∷ between_commas others) (is : read ≡ number_of number) where
  numbers_here : numbers_of (between_commas word) ≡ number_before read (numbers_of (between_commas others))
  numbers_here = ap (λ words. numbers_of words) are ∙ ap (λ n. number_before n (numbers_of (between_commas others))) (sym is)

  pub no_first : is_some read ≡ false → numbers_of (between_commas word) ≡ None
  no_first none = numbers_here ∙ before_none read (numbers_of (between_commas others)) none

  pub some_first : is_some read ≡ true → is_some (numbers_of (between_commas others)) ≡ is_some (numbers_of (between_commas word))
  some_first some = sym (ap (λ (ns : Option (List ℕ)). is_some ns) numbers_here ∙ before_some read (numbers_of (between_commas others)) some)

-- one number more was read
pub taken_number : (word first others : List ℕ) (number : ℕ) (read : List ℕ) → between_commas word ≡ first ∷ between_commas others → Some number ≡ number_of first
    → option_map (λ more. (read ++ number ∷ []) ++ more) (numbers_of (between_commas others)) ≡ option_map (λ more. read ++ more) (numbers_of (between_commas word))
taken_number word first others number read are is =
    before_more number (numbers_of (between_commas others)) read ∙ ap (λ (ns : Option (List ℕ)). option_map (λ more. read ++ more) ns) (sym (numbers_here word first others (Some number) are is))

-- the same of a word without a comma
pub one_number : (word : List ℕ) (read : Option ℕ) → between_commas word ≡ word ∷ [] → read ≡ number_of word → numbers_of (between_commas word) ≡ number_before read (Some [])
one_number word read are is = ap (λ words. numbers_of words) are ∙ ap (λ n. number_before n (Some [])) (sym is)

pub one_is_some : (word : List ℕ) (read : Option ℕ) → between_commas word ≡ word ∷ [] → read ≡ number_of word → is_some read ≡ is_some (numbers_of (between_commas word))
one_is_some word None are is = sym (ap (λ (ns : Option (List ℕ)). is_some ns) (one_number word None are is))
one_is_some word (Some number) are is = sym (ap (λ (ns : Option (List ℕ)). is_some ns) (one_number word (Some number) are is))

-- ---- targets

pub as_many : {A B : Type 0} (of : A → B) (numbers : Option A) → is_some numbers ≡ is_some (option_map of numbers)
as_many of None = refl
as_many of (Some numbers) = refl

-- a word that does not begin with `every:` is targets where it is numbers
pub without_every : (word : List ℕ) → false ≡ starts_with nat_eq word (codes "every:") → is_some (numbers_of (between_commas word)) ≡ is_some (targets_of word)
without_every word other = as_many Each (numbers_of (between_commas word)) ∙ ap (λ (b : Bool). is_some (if b then option_map Every (step_of (drop 6 word)) else option_map Each (numbers_of (between_commas word)))) other

pub no_targets : {A : Type 0} (targets : Option A) → is_some targets ≡ false → None ≡ targets
no_targets None none = refl
no_targets (Some targets) none = cc

pub some_targets : {A : Type 0} (other : A) (targets : Option A) → is_some targets ≡ true → Some (unwrap_or targets other) ≡ targets
some_targets other None some = cc
some_targets other (Some targets) some = refl
