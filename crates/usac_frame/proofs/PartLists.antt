-- The parts of a frame beside the elements that they are of, and what is left of both from a place on.
use Rattle.std.proofs.Common.{◌≡◌, ℕ, ◌+◌, ◌<◌, ◌≤◌, Bool, List, [], ◌∷◌, ◌++◌, length, get_or, drop, refl, sym, ap, subst, ◌∙◌, append-nil, inl, inr}
use Rattle.std.proofs.lemmas.Bool.{cases_lt}
use Rattle.std.proofs.lemmas.List.{drop_more, drop_all}
use Rattle.usac_cfg.specs.declared.element_config.ElementConfig.{ElementConfig}
use Rattle.usac_cfg.specs.declared.element_config.ElementConfig.TheVariants.{Single, Pair, Lfe, Ext}
use Rattle.usac_cfg.specs.declared.extension_element.ExtConfig.{ExtConfig}
use Rattle.usac_frame.specs.declared.part.ExtPart.{ExtPart}
use Rattle.usac_frame.specs.declared.part.ExtPart.TheVariants.{Absent}
use Rattle.usac_frame.specs.Frame.{leading, FitParts, parts_text}
use Rattle.usac_frame.specs.FrameExact.{no_parts}

-- the element of a part is an extension
is_ext : (e : ElementConfig) (es : List ElementConfig) (p : ExtPart) (ps : List ExtPart) → FitParts (leading (e ∷ es)) (p ∷ ps) → (x : ExtConfig) × (e ≡ Ext x)
is_ext (Single core s) es p ps h = absurd h
is_ext (Pair core s n m) es p ps h = absurd h
is_ext Lfe es p ps h = absurd h
is_ext (Ext x) es p ps h = (x, refl)

pub inside : (es : List ElementConfig) (ps : List ExtPart) (i : ℕ) → i < length ps → FitParts (leading (drop i es)) (drop i ps) → i < length es
inside es ps i lt h =
    elim (cases_lt i (length es)) [
      | inl in_es ↦ in_es
      | inr le ↦
          let none : FitParts [] (drop i ps) = subst (λ (xs : List ElementConfig). FitParts (leading xs) (drop i ps)) (drop_all i es le) h in
          absurd (subst (λ (qs : List ExtPart). FitParts [] qs) (drop_more ps i Absent lt) none)
    ]

pub here : (es : List ElementConfig) (ps : List ExtPart) (i : ℕ) (e : ElementConfig) → i < length es → i < length ps → e ≡ get_or es i e → FitParts (leading (drop i es)) (drop i ps) → (x : ExtConfig) × (e ≡ Ext x)
here es ps i e in_es in_ps is h =
    let at : FitParts (leading (get_or es i e ∷ drop (i + 1) es)) (drop i ps) = subst (λ (xs : List ElementConfig). FitParts (leading xs) (drop i ps)) (drop_more es i e in_es) h in
    let both : FitParts (leading (e ∷ drop (i + 1) es)) (get_or ps i Absent ∷ drop (i + 1) ps) =
    subst (λ (x : ElementConfig). FitParts (leading (x ∷ drop (i + 1) es)) (get_or ps i Absent ∷ drop (i + 1) ps)) (sym is) (subst (λ (qs : List ExtPart). FitParts (leading (get_or es i e ∷ drop (i + 1) es)) qs) (drop_more ps i Absent in_ps) at) in
    is_ext e (drop (i + 1) es) (get_or ps i Absent) (drop (i + 1) ps) both

-- no part is left
pub no_text : (exts : List ExtConfig) (ps : List ExtPart) (i : ℕ) → length ps ≤ i → parts_text exts (drop i ps) ≡ []
no_text exts ps i le = ap (λ (qs : List ExtPart). parts_text exts qs) (drop_all i ps le) ∙ no_parts exts

pub all_written : (es : List ElementConfig) (ps : List ExtPart) (i : ℕ) (old total : List Bool) → length ps ≤ i → old ++ parts_text (leading (drop i es)) (drop i ps) ≡ total → old ≡ total
all_written es ps i old total le so_far = sym (ap (λ (t : List Bool). old ++ t) (no_text (leading (drop i es)) ps i le) ∙ append-nil old) ∙ so_far
