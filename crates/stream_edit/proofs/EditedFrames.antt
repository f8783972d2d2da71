-- The frames of a changed stream: as many as before, each with its configuration and its own slot.
use Rattle.std.proofs.Common.{◌≡◌, ℕ, zero, suc, ◌+◌, List, [], ◌∷◌, ◌++◌, length, map, Option, Some, None, refl, sym, ap, ◌∙◌, arith}
use Rattle.std.specs.Prelude.{slice_get}
use Rattle.std.proofs.lemmas.List.{length-map}
use Rattle.usac_cfg.specs.declared.usac_config.UsacConfig.{UsacConfig}
use Rattle.latm.specs.declared.mux_config.MuxConfig.{MuxConfig}
use Rattle.latm.specs.declared.mux_element.MuxElement.{MuxElement}
use Rattle.latm.specs.MuxElement.{then_in_force}
use Rattle.latm.specs.Stream.{slots_under, slots_from, AreElements, config_in, au_in}
use Rattle.stream_edit.specs.Edited.{slot_in, slots_in, elements_in}
use Rattle.stream_edit.proofs.Elements.{in_force_of}

abbrev Pair : Type 0
Pair = UsacConfig × List ℕ

-- the frames from frame t on, with their new slots
abbrev pub frames_in : (ℕ → List ℕ → List ℕ) → List ℕ → ℕ → List (UsacConfig × List ℕ) → List (UsacConfig × List ℕ)
frames_in make targets t [] = []
frames_in make targets t (f ∷ fs) = (config_in f, slot_in make targets t (au_in f)) ∷ frames_in make targets (suc t) fs

module _ (make : ℕ → List ℕ → List ℕ) (targets : List ℕ) where
  in_both : (t : ℕ) (xs ys : List Pair) → frames_in make targets t (xs ++ ys) ≡ frames_in make targets t xs ++ frames_in make targets (t + length xs) ys
  in_both t [] ys = ap (λ (k : ℕ). frames_in make targets k ys) (let k : t ≡ t + 0 = omega arith in k)
  in_both t (x ∷ xs) ys =
      let x_new : Pair = (config_in x, slot_in make targets t (au_in x)) in
      ap (λ (fs : List Pair). x_new ∷ fs) (in_both (suc t) xs ys ∙ ap (λ (k : ℕ). frames_in make targets (suc t) xs ++ frames_in make targets k ys) (let k : suc t + length xs ≡ t + suc (length xs) = omega arith in k))

  in_under : (t : ℕ) (m : MuxConfig) (slots : List (List ℕ)) → slots_under (Some m) (slots_in make targets t slots) ≡ frames_in make targets t (slots_under (Some m) slots)
  in_under t m [] = refl
  in_under t m (au ∷ slots) =
      let x_new : Pair = (m.asc.usac, slot_in make targets t au) in
      ap (λ (fs : List Pair). x_new ∷ fs) (in_under (suc t) m slots)

  pub frames_are : (t : ℕ) (before : Option MuxConfig) (es : List MuxElement) → AreElements before es → slots_from before (elements_in make targets t es) ≡ frames_in make targets t (slots_from before es)
  frames_are t before [] h = refl
  frames_are t before (e ∷ es) h =
      let m = in_force_of before e h.0 in
      let own = then_in_force before e.config in
      let behind = slots_from own (elements_in make targets (t + length e.slots) es) in
      let long : length (slots_under (Some m.0) e.slots) ≡ length e.slots = length-map e.slots _ in
      ap (λ (o : Option MuxConfig). slots_under o (slots_in make targets t e.slots) ++ behind) m.1
      ∙ ap (λ (fs : List Pair). fs ++ behind) (in_under t m.0 e.slots)
      ∙ ap (λ (fs : List Pair). frames_in make targets t (slots_under (Some m.0) e.slots) ++ fs) (frames_are (t + length e.slots) own es h.1)
      ∙ ap (λ (k : ℕ). frames_in make targets t (slots_under (Some m.0) e.slots) ++ frames_in make targets (t + k) (slots_from own es)) (sym long)
      ∙ sym (in_both t (slots_under (Some m.0) e.slots) (slots_from own es))
      ∙ ap (λ (o : Option MuxConfig). frames_in make targets t (slots_under o e.slots ++ slots_from own es)) (sym m.1)

  pub in_length : (t : ℕ) (fs : List Pair) → length (frames_in make targets t fs) ≡ length fs
  in_length t [] = refl
  in_length t (f ∷ fs) = ap (λ (n : ℕ). suc n) (in_length (suc t) fs)

  pub in_configs : (t : ℕ) (fs : List Pair) → map config_in (frames_in make targets t fs) ≡ map config_in fs
  in_configs t [] = refl
  in_configs t (f ∷ fs) = ap (λ (cs : List UsacConfig). config_in f ∷ cs) (in_configs (suc t) fs)

  abbrev pub frame_new : ℕ → Pair → Pair
  frame_new t f = (config_in f, slot_in make targets t (au_in f))

  -- the frame with a number
  pub in_at : (first n : ℕ) (fs : List Pair) (f : Pair) → slice_get fs n ≡ Some f → slice_get (frames_in make targets first fs) n ≡ Some (frame_new (first + n) f)
  in_at first n [] f e = absurd (let never : None ≡ Some f = e in cc)
  in_at first zero (x ∷ fs) f e =
      let same : x ≡ f = (let s : Some x ≡ Some f = e in cc) in
      ap (λ (y : Pair). Some (frame_new first y)) same ∙ ap (λ (k : ℕ). Some (frame_new k f)) (let k : first ≡ first + 0 = omega arith in k)
  in_at first (suc n) (x ∷ fs) f e = in_at (suc first) n fs f e ∙ ap (λ (k : ℕ). Some (frame_new k f)) (let k : suc first + n ≡ first + suc n = omega arith in k)
