-- Lists that are added one behind another.
use Rattle.std.proofs.Common.{◌≡◌, List, [], ◌∷◌, ◌++◌, ap, ◌∙◌, append_assoc}

-- an item, and a list behind it
pub one_and_list : {X : Type 0} (before mid after rest : List X) (x y : X) → x ≡ y → mid ≡ before ++ x ∷ [] → after ≡ mid ++ rest → after ≡ before ++ (y ∷ rest)
one_and_list before mid after rest x y same one more =
    more ∙ ap (λ t. t ++ rest) one ∙ append_assoc before (x ∷ []) rest ∙ ap (λ z. before ++ (z ∷ rest)) same

-- three lists
pub three_lists : {X : Type 0} (before one two three a b c : List X) → one ≡ before ++ a → two ≡ one ++ b → three ≡ two ++ c → three ≡ before ++ (a ++ (b ++ c))
three_lists before one two three a b c first second third =
    third ∙ ap (λ t. t ++ c) (second ∙ ap (λ t. t ++ b) first) ∙ append_assoc (before ++ a) b c ∙ append_assoc before a (b ++ c)
