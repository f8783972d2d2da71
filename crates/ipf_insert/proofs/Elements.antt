-- What the elements of a well formed stream give.
use Rattle.std.proofs.Common.{◌≡◌, ℕ, List, [], ◌∷◌, ◌++◌, map, Option, Some, None, refl, ap, ◌∙◌}
use Rattle.std.specs.List.{AllByRecursion}
use Rattle.layout.specs.Layout.{FitsOption}
use Rattle.usac_cfg.specs.declared.usac_config.UsacConfig.{UsacConfig}
use Rattle.usac_cfg.specs.UsacConfig.{IsWellFormed as IsConfig}
use Rattle.latm.specs.declared.mux_config.MuxConfig.{MuxConfig}
use Rattle.latm.specs.declared.mux_element.MuxElement.{MuxElement}
use Rattle.latm.specs.MuxConfig.{IsWellFormed as IsMux}
use Rattle.latm.specs.MuxElement.{then_in_force}
use Rattle.latm.specs.Stream.{slots_under, slots_from, IsElementOf, AreElements, au_in}
use Rattle.stream_edit.proofs.Elements.{in_force_of, in_force_fits, small_slots}
use Rattle.ipf_frame.specs.Laws.{AreSlots}
use Rattle.ipf_insert.specs.Steps.{slots_of, IsFramable, AreFramable}

-- ---- one element

pub framable : (before : Option MuxConfig) (e : MuxElement) → IsElementOf before e → IsFramable e
framable before e is = record { config = is.fits.0.1.1; whole = is.whole }

-- ---- several

pub all_framable : (before : Option MuxConfig) (es : List MuxElement) → AreElements before es → AreFramable es
all_framable before [] h = tt
all_framable before (e ∷ es) h = (framable before e h.0, all_framable (then_in_force before e.config) es h.1)

slots_both : (xs ys : List (List ℕ)) → AreSlots xs → AreSlots ys → AreSlots (xs ++ ys)
slots_both [] ys h k = k
slots_both (x ∷ xs) ys h k = (h.0, slots_both xs ys h.1 k)

pub all_small : (before : Option MuxConfig) (es : List MuxElement) → AreElements before es → AreSlots (slots_of es)
all_small before [] h = tt
all_small before (e ∷ es) h = slots_both e.slots (slots_of es) (small_slots before e h.0) (all_small (then_in_force before e.config) es h.1)

-- the access units of the frames are the slots
pub map_both : (xs ys : List (UsacConfig × List ℕ)) → map au_in (xs ++ ys) ≡ map au_in xs ++ map au_in ys
map_both [] ys = refl
map_both (x ∷ xs) ys = ap (λ (aus : List (List ℕ)). au_in x ∷ aus) (map_both xs ys)

aus_under : (m : MuxConfig) (slots : List (List ℕ)) → map au_in (slots_under (Some m) slots) ≡ slots
aus_under m [] = refl
aus_under m (au ∷ slots) = ap (λ (aus : List (List ℕ)). au ∷ aus) (aus_under m slots)

pub aus_of : (before : Option MuxConfig) (es : List MuxElement) → AreElements before es → map au_in (slots_from before es) ≡ slots_of es
aus_of before [] h = refl
aus_of before (e ∷ es) h =
    let m = in_force_of before e h.0 in
    map_both (slots_under (then_in_force before e.config) e.slots) (slots_from (then_in_force before e.config) es)
    ∙ ap (λ (o : Option MuxConfig). map au_in (slots_under o e.slots) ++ map au_in (slots_from (then_in_force before e.config) es)) m.1
    ∙ ap (λ (aus : List (List ℕ)). aus ++ map au_in (slots_from (then_in_force before e.config) es)) (aus_under m.0 e.slots)
    ∙ ap (λ (aus : List (List ℕ)). e.slots ++ aus) (aus_of (then_in_force before e.config) es h.1)

-- the configurations of the frames are well formed
abbrev pub AreConfigs : List (UsacConfig × List ℕ) → Type 0
AreConfigs fs = AllByRecursion (λ f. IsConfig f.0) fs

configs_both : (xs ys : List (UsacConfig × List ℕ)) → AreConfigs xs → AreConfigs ys → AreConfigs (xs ++ ys)
configs_both [] ys h k = k
configs_both (x ∷ xs) ys h k = (h.0, configs_both xs ys h.1 k)

configs_under : (o : Option MuxConfig) (slots : List (List ℕ)) → FitsOption IsMux o → AreConfigs (slots_under o slots)
configs_under None slots h = tt
configs_under (Some m) [] h = tt
configs_under (Some m) (au ∷ slots) h = (h.asc.usac, configs_under (Some m) slots h)

pub configs_of : (before : Option MuxConfig) (es : List MuxElement) → FitsOption IsMux before → AreElements before es → AreConfigs (slots_from before es)
configs_of before [] fits h = tt
configs_of before (e ∷ es) fits h =
    let after = in_force_fits before e fits h.0 in
    configs_both (slots_under (then_in_force before e.config) e.slots) (slots_from (then_in_force before e.config) es) (configs_under (then_in_force before e.config) e.slots after) (configs_of (then_in_force before e.config) es after h.1)
