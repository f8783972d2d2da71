-- Lemmas on the frames of a stream.
use Rattle.std.proofs.Common.{◌≡◌, ℕ, zero, suc, ◌+◌, ◌-◌, ◌<◌, ◌≤◌, List, [], ◌∷◌, ◌++◌, length, drop, get_or, Option, refl, sym, ap, ◌∙◌, arith}
use Rattle.std.specs.Prelude.{slice_get}
use Rattle.usac_cfg.specs.declared.usac_config.UsacConfig.{UsacConfig}
use Rattle.latm.specs.declared.mux_config.MuxConfig.{MuxConfig}
use Rattle.latm.specs.declared.mux_element.MuxElement.{MuxElement}
use Rattle.latm.specs.MuxElement.{then_in_force}
use Rattle.latm.specs.Stream.{slots_under, slots_from}

get_left : {X : Type 0} (xs ys : List X) (i : ℕ) → i < length xs → slice_get (xs ++ ys) i ≡ slice_get xs i
get_left [] ys i lt = absurd (omega arith)
get_left (x ∷ xs) ys zero lt = refl
get_left (x ∷ xs) ys (suc i) lt = get_left xs ys i (omega arith)

get_right : {X : Type 0} (xs ys : List X) (i n : ℕ) → n ≡ length xs + i → slice_get (xs ++ ys) n ≡ slice_get ys i
get_right [] ys i n e = ap (λ (k : ℕ). slice_get ys k) (let same : n ≡ i = omega (arith, e) in same)
get_right (x ∷ xs) ys i zero e = absurd (omega (arith, e))
get_right (x ∷ xs) ys i (suc n) e = get_right xs ys i n (omega (arith, e))

-- the frames from an element on: its own, and those behind it
from_element : (before : Option MuxConfig) (elements : List MuxElement) (i : ℕ) (e : MuxElement) → i < length elements → e ≡ get_or elements i e
    → slots_from before (drop i elements) ≡ slots_under (then_in_force before e.config) e.slots ++ slots_from (then_in_force before e.config) (drop (suc i) elements)
from_element before [] i e lt is = absurd (omega arith)
from_element before (x ∷ elements) zero e lt is = ap (λ (y : MuxElement). slots_under (then_in_force before y.config) y.slots ++ slots_from (then_in_force before y.config) elements) (sym is)
from_element before (x ∷ elements) (suc i) e lt is = from_element before elements i e (omega arith) is

-- its own frames, by what the code has of them
own_frames : (before own : Option MuxConfig) (e : MuxElement) (slots : List (List ℕ)) → own ≡ then_in_force before e.config → slots ≡ e.slots → slots_under own slots ≡ slots_under (then_in_force before e.config) e.slots
own_frames before own e slots force of_e = ap (λ (m : Option MuxConfig). slots_under m slots) force ∙ ap (λ (xs : List (List ℕ)). slots_under (then_in_force before e.config) xs) of_e

next : (before own : Option MuxConfig) (elements : List MuxElement) (i : ℕ) (e : MuxElement) (slots : List (List ℕ)) → i < length elements → e ≡ get_or elements i e → own ≡ then_in_force before e.config → slots ≡ e.slots
    → slots_from before (drop i elements) ≡ slots_under own slots ++ slots_from own (drop (suc i) elements)
next before own elements i e slots lt is force of_e =
    from_element before elements i e lt is
    ∙ ap (λ (fs : List (UsacConfig × List ℕ)). fs ++ slots_from (then_in_force before e.config) (drop (suc i) elements)) (sym (own_frames before own e slots force of_e))
    ∙ ap (λ (m : Option MuxConfig). slots_under own slots ++ slots_from m (drop (suc i) elements)) (sym force)

-- the frame stands in this element
pub here : (before own : Option MuxConfig) (elements : List MuxElement) (i : ℕ) (e : MuxElement) (slots : List (List ℕ)) (n count : ℕ) → i < length elements → e ≡ get_or elements i e → own ≡ then_in_force before e.config → slots ≡ e.slots
    → count ≡ length (slots_under own slots) → n < count → slice_get (slots_under own slots) n ≡ slice_get (slots_from before (drop i elements)) n
here before own elements i e slots n count lt is force of_e counted below =
    sym (ap (λ (fs : List (UsacConfig × List ℕ)). slice_get fs n) (next before own elements i e slots lt is force of_e) ∙ get_left (slots_under own slots) (slots_from own (drop (suc i) elements)) n (omega (arith, counted, below)))

-- it stands behind this element
pub behind : (before own : Option MuxConfig) (elements : List MuxElement) (i j : ℕ) (e : MuxElement) (slots : List (List ℕ)) (n count : ℕ) → i < length elements → e ≡ get_or elements i e → own ≡ then_in_force before e.config → slots ≡ e.slots
    → count ≡ length (slots_under own slots) → count ≤ n → j ≡ suc i → slice_get (slots_from own (drop j elements)) (n - count) ≡ slice_get (slots_from before (drop i elements)) n
behind before own elements i j e slots n count lt is force of_e counted above after =
    ap (λ (k : ℕ). slice_get (slots_from own (drop k elements)) (n - count)) after
    ∙ sym (ap (λ (fs : List (UsacConfig × List ℕ)). slice_get fs n) (next before own elements i e slots lt is force of_e) ∙ get_right (slots_under own slots) (slots_from own (drop (suc i) elements)) (n - count) n (omega (arith, counted, above)))
