-- Of lists: what holds of each element, by its number; and what is shown.
use Rattle.std.proofs.Common.{◌≡◌, ℕ, zero, suc, ◌<◌, List, [], ◌∷◌, length, map, Some, refl, subst, arith}
use Rattle.std.specs.Prelude.{slice_get, All}
use Rattle.std.specs.Option.{option_map}
use Rattle.std.proofs.lemmas.List.Elements.{All-nil, All-cons, All-get_or}
use Rattle.std.proofs.lemmas.Option.{slice_get_within, get_or_from_slice_get}

pub all_by_number : {A : Type 0} (P : A → Type 0) (xs : List A) → ((n : ℕ) (x : A) → slice_get xs n ≡ Some x → P x) → All P xs
all_by_number {A} P [] h = All-nil P
all_by_number {A} P (x ∷ xs) h = All-cons P x xs (h 0 x refl) (all_by_number P xs (λ n y e. h (suc n) y e))

pub one_of_all : {A : Type 0} (P : A → Type 0) (xs : List A) (n : ℕ) (x : A) → All P xs → slice_get xs n ≡ Some x → P x
one_of_all {A} P xs n x h e = subst P (get_or_from_slice_get xs n x x e) (All-get_or P xs n x (slice_get_within xs n x e) h)

pub there : {A : Type 0} (xs : List A) (n : ℕ) → n < length xs → (x : A) × (slice_get xs n ≡ Some x)
there {A} [] n lt = absurd (omega (arith, lt))
there {A} (x ∷ xs) zero lt = (x, refl)
there {A} (x ∷ xs) (suc n) lt = there xs n (omega (arith, lt))

pub get_mapped : {A B : Type 0} (f : A → B) (xs : List A) (n : ℕ) → slice_get (map f xs) n ≡ option_map f (slice_get xs n)
get_mapped {A} {B} f [] n = refl
get_mapped {A} {B} f (x ∷ xs) zero = refl
get_mapped {A} {B} f (x ∷ xs) (suc n) = get_mapped f xs n

pub some_same : {A : Type 0} (x y : A) → Some x ≡ Some y → x ≡ y
some_same {A} x y e = cc
