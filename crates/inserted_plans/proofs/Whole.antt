-- A whole stream stays one behind an insertion.
use Rattle.std.proofs.Common.{◌≡◌, ℕ, Bool, true, false, List, [], ◌∷◌, Some, None, refl, sym, subst, ◌∙◌}
use Rattle.std.specs.Prelude.{slice_get, All}
use Rattle.usac_cfg.specs.UsacConfig.{IsWellFormed as IsConfig}
use Rattle.plans.specs.Coded.{Coded, IsCoded}
use Rattle.plans.specs.WholeStream.{IsWholeStream, OpensStream}
use Rattle.stream_edit.specs.Targets.{is_target}
use Rattle.inserted_plans.specs.Insertion.{Insertion, IsAllowed, old_frames, new_frames}
use Rattle.inserted_plans.specs.Laws.{StaysWhole}
use Rattle.inserted_plans.proofs.Lists.{all_by_number, one_of_all, some_same}
use Rattle.inserted_plans.proofs.Inserted.{stays, config, config_fits, config_behind, target_carries}
use Rattle.inserted_plans.proofs.Alike.{first_stays}

module _ (i : Insertion) (w : IsAllowed i) where
  -- the frame behind the insertion is one too
  coded_behind : All IsCoded (old_frames i) → (t : ℕ) (g : Coded) → slice_get (new_frames i) t ≡ Some g → IsCoded g
  coded_behind coded t g e = by_target (is_target i.targets t) refl
    where
      by_target : (b : Bool) → is_target i.targets t ≡ b → IsCoded g
      by_target true is =
          let k = target_carries i w t g is e in
          record { config = subst IsConfig (sym (config_behind i w t g e)) (config_fits i w); frame = k.frame; is = k.is }
      by_target false is = one_of_all IsCoded (old_frames i) t g coded (sym (stays i w t is) ∙ e)

  whole_of : (old new : List Coded) → old ≡ old_frames i → new ≡ new_frames i → slice_get new 0 ≡ slice_get old 0 → IsWholeStream old → All IsCoded new → All (λ g. g.config ≡ config i w) new → IsWholeStream new
  whole_of [] new o n first h coded same = absurd h
  whole_of (f ∷ fs) [] o n first h coded same = absurd (let never : None ≡ Some f = first in cc)
  whole_of (f ∷ fs) (g ∷ gs) o n first h coded same =
      let is : g ≡ f = some_same g f first in
      let own : g.config ≡ config i w = one_of_all (λ (x : Coded). x.config ≡ config i w) (g ∷ gs) 0 g same refl in (
        all_by_number (λ (x : Coded). x.config ≡ g.config) (g ∷ gs) (λ k x e. one_of_all (λ (x : Coded). x.config ≡ config i w) (g ∷ gs) k x same e ∙ sym own),
        coded,
        subst OpensStream (sym is) h.2,
      )

  coded_before : (old : List Coded) → IsWholeStream old → All IsCoded old
  coded_before [] h = absurd h
  coded_before (f ∷ fs) h = h.1

  pub whole_behind : IsWholeStream (old_frames i) → IsWholeStream (new_frames i)
  whole_behind h =
      whole_of (old_frames i) (new_frames i) refl refl (first_stays i w) h
      (all_by_number IsCoded (new_frames i) (λ t g e. coded_behind (coded_before (old_frames i) h) t g e))
      (all_by_number (λ (x : Coded). x.config ≡ config i w) (new_frames i) (λ t g e. config_behind i w t g e))

pub streams_stay_whole : StaysWhole
streams_stay_whole i w h = whole_behind i w h
