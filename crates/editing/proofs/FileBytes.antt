-- The bytes of a file are those that its elements are written as.
use Rattle.std.proofs.Common.{◌≡◌, ℕ, zero, suc, ◌<◌, ◌≤◌, List, [], ◌∷◌, ◌++◌, length, take, Option, None, All, refl, ap, subst, ◌∙◌, arith}
use Rattle.std.specs.List.{AllByRecursion}
use Rattle.std.proofs.lemmas.List.Elements.{recursion_from_All, All-from_recursion}
use Rattle.loas.specs.Framing.{header, framed}
use Rattle.latm.specs.declared.mux_config.MuxConfig.{MuxConfig}
use Rattle.latm.specs.declared.mux_element.MuxElement.{MuxElement}
use Rattle.latm.specs.declared.stream.Stream.{Stream}
use Rattle.latm.specs.MuxElement.{then_in_force}
use Rattle.latm.specs.Written.{element_text}
use Rattle.latm.proofs.ByteTexts.{bytes_back}
use Rattle.au_stream.specs.Elements.{IsElement, Carries}
use Rattle.au_stream.specs.Script.{most_bytes}
use Rattle.au_stream.specs.Whole.{IsStream}
use Rattle.editing.specs.Runs.{frame_of, run_of}

abbrev AreBytes : List ℕ → Type 0
AreBytes xs = AllByRecursion (λ byte. byte < 256) xs

behind_of : (xs ys : List ℕ) → AreBytes (xs ++ ys) → AreBytes ys
behind_of [] ys h = h
behind_of (x ∷ xs) ys h = behind_of xs ys h.1

front_of : (xs ys : List ℕ) → AreBytes (xs ++ ys) → AreBytes xs
front_of [] ys h = tt
front_of (x ∷ xs) ys h = (h.0, front_of xs ys h.1)

frame_is : (before : Option MuxConfig) (e : MuxElement) (body : List ℕ) → AreBytes body → IsElement before e body → framed body ≡ frame_of e
unfolding frame_of
frame_is before e body small is = ap framed (bytes_back body (element_text e) (All-from_recursion (λ byte. byte < 256) body small) is.spelled)

run_is : (before : Option MuxConfig) (text : List ℕ) (es : List MuxElement) → AreBytes text → Carries before text es [] → text ≡ run_of es
run_is before text [] small is = is
run_is before text (e ∷ es) small (body, behind, few, split, own, more) =
    let all : AreBytes (framed body ++ behind) = subst AreBytes split small in
    let of_body : AreBytes body = behind_of (header (length body)) body (front_of (framed body) behind all) in
    split
    ∙ ap (λ (xs : List ℕ). xs ++ behind) (frame_is before e body of_body own)
    ∙ ap (λ (xs : List ℕ). frame_of e ++ xs) (run_is (then_in_force before e.config) behind es (behind_of (framed body) behind all) more)

take_all : (n : ℕ) (xs : List ℕ) → length xs ≤ n → take n xs ≡ xs
take_all zero [] le = refl
take_all (suc n) [] le = refl
take_all zero (x ∷ xs) le = absurd (omega (arith, le))
take_all (suc n) (x ∷ xs) le = ap (λ (ys : List ℕ). x ∷ ys) (take_all n xs (omega (arith, le)))

pub file_is : (text : List ℕ) (stream : Stream) → All (λ byte. byte < 256) text → IsStream text stream → text ≡ run_of stream.elements
file_is text stream small is =
    let whole = take_all most_bytes text is.script.ends.1 in
    run_is None text stream.elements (recursion_from_All (λ byte. byte < 256) text small) (subst (λ (xs : List ℕ). Carries None xs stream.elements []) whole is.longest.carried)
