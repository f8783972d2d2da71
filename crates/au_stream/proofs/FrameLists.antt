-- The frames of lists of elements.
use Rattle.std.proofs.Common.{◌≡◌, List, [], ◌∷◌, ◌++◌, length, Option, Some, refl, sym, ap, ◌∙◌, append_assoc, arith, inl, inr}
use Rattle.std.specs.Prelude.{◌⊎◌}
use Rattle.std.specs.Prelude.{is_some}
use Rattle.std.proofs.lemmas.List.{append-nil, length-append}
use Rattle.latm.specs.declared.mux_config.MuxConfig.{MuxConfig}
use Rattle.latm.specs.declared.mux_element.MuxElement.{MuxElement}
use Rattle.latm.specs.MuxElement.{then_in_force}
use Rattle.au_stream.specs.Elements.{in_force_behind}
use Rattle.au_stream.specs.Frames.{Frame, frames_under, frames_from, last_of}

pub frames-append : (before : Option MuxConfig) (es fs : List MuxElement) → frames_from before (es ++ fs) ≡ frames_from before es ++ frames_from (in_force_behind before es) fs
frames-append before [] fs = refl
frames-append before (e ∷ es) fs =
    let here = frames_under (then_in_force before e.config) (is_some e.config) e.slots in
    ap (λ (x : List Frame). here ++ x) (frames-append (then_in_force before e.config) es fs)
    ∙ sym (append_assoc here (frames_from (then_in_force before e.config) es) (frames_from (in_force_behind (then_in_force before e.config) es) fs))

pub frames-push : (before : Option MuxConfig) (es : List MuxElement) (e : MuxElement)
    → frames_from before (es ++ e ∷ []) ≡ frames_from before es ++ frames_under (then_in_force (in_force_behind before es) e.config) (is_some e.config) e.slots
frames-push before es e =
    let m = in_force_behind before es in
    frames-append before es (e ∷ []) ∙ ap (λ (x : List Frame). frames_from before es ++ x) (append-nil (frames_under (then_in_force m e.config) (is_some e.config) e.slots))

pub last-push : (fs : List Frame) (f : Frame) → last_of (fs ++ f ∷ []) ≡ Some f
last-push [] f = refl
last-push (g ∷ []) f = refl
last-push (g ∷ h ∷ fs) f = last-push (h ∷ fs) f

-- ---- all elements but the last

apart : (ys : List MuxElement) (x b y : MuxElement) → x ∷ [] ≡ b ∷ (ys ++ y ∷ []) → ⊥
apart ys x b y e = omega (arith, ap (λ (l : List MuxElement). length l) e, length-append ys (y ∷ []))

pub front_is : (xs ys : List MuxElement) (x y : MuxElement) → xs ++ x ∷ [] ≡ ys ++ y ∷ [] → xs ≡ ys
front_is [] [] x y e = refl
front_is [] (b ∷ ys) x y e = absurd (apart ys x b y e)
front_is (a ∷ xs) [] x y e = absurd (apart xs y a x (sym e))
front_is (a ∷ xs) (b ∷ ys) x y e =
    let first : a ≡ b = cc e in
    let behind : xs ++ x ∷ [] ≡ ys ++ y ∷ [] = cc e in
    ap (λ (c : MuxElement). c ∷ xs) first ∙ ap (λ (l : List MuxElement). b ∷ l) (front_is xs ys x y behind)

pub last_split : (xs : List MuxElement) → (xs ≡ []) ⊎ ((front : List MuxElement) × (x : MuxElement) × (xs ≡ front ++ x ∷ []))
last_split [] = inl refl
last_split (a ∷ xs) = elim (last_split xs) [ inl none ↦ inr ([], a, ap (λ (l : List MuxElement). a ∷ l) none) | inr k ↦ inr (a ∷ k.0, k.1, ap (λ (l : List MuxElement). a ∷ l) k.2) ]
