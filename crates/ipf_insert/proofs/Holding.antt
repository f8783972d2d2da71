-- What is known of an insertion that no rule refuses.
use Rattle.std.proofs.Common.{◌≡◌, ℕ, Bool, List, [], ◌∷◌, map, Option, Some, None, refl, sym, subst, ◌∙◌}
use Rattle.std.specs.List.{AllByRecursion}
use Rattle.usac_cfg.specs.declared.usac_config.UsacConfig.{UsacConfig}
use Rattle.usac_cfg.specs.UsacConfig.{IsWellFormed as IsConfig}
use Rattle.latm.specs.declared.stream.Stream.{Stream}
use Rattle.latm.specs.Stream.{IsWellFormed, frames_of, config_in, au_in}
use Rattle.stream_edit.specs.Edited.{elements_in}
use Rattle.stream_edit.specs.Giving.{IsWritable}
use Rattle.ipf_frame.specs.Laws.{AreFrames, AreSlots}
use Rattle.ipf_insert.specs.declared.fault.InsertFault.TheVariants.{NotDeclared}
use Rattle.ipf_insert.specs.Inserting.{Settled, settled_of, target_slot}
use Rattle.ipf_insert.specs.Rules.{frames_rule, list_rule, targets_rule, settled_rule, insert_fault}
use Rattle.ipf_insert.specs.Steps.{AreKept, IsFrom}
use Rattle.ipf_insert.proofs.Elements.{AreConfigs, all_small, aus_of}
use Rattle.ipf_insert.proofs.Frames.{all_frames, all_first}
use Rattle.ipf_insert.proofs.Standing.{configs_in, IsListed, listed}
use Rattle.ipf_insert.proofs.Targets.{passed}
use Rattle.ipf_insert.proofs.Writable.{writable_from, all_kept}

abbrev Pair : Type 0
Pair = UsacConfig × List ℕ

pub record Holds (s : Stream) (i : Settled) (targets : List ℕ) : Type 0 where
  pub aus : i.aus ≡ map au_in (frames_of s)
  pub config : IsConfig i.config
  pub same : AllByRecursion (λ f. i.config ≡ config_in f) (frames_of s)
  pub frames : AreFrames i.config i.aus
  pub slots : AreSlots i.aus
  pub listed : IsListed i targets
  pub kept : AreKept i targets
  pub from : IsFrom i.aus 0 s.elements
  pub writable : AllByRecursion IsWritable (elements_in (target_slot i) targets 0 s.elements)

-- by the rules, of which each passed
holds_of : (s : Stream) (i : Settled) (targets : List ℕ) → IsWellFormed s → i.aus ≡ map au_in (frames_of s) → IsConfig i.config → settled_rule (Some i) (frames_of s) s.elements targets ≡ None → Holds s i targets
holds_of s i targets w aus config e =
    let p = passed (frames_rule i.config 0 (frames_of s)) _ e in
    let q = passed (list_rule i targets) (targets_rule i s.elements [] targets) p.1 in
    let l = listed i targets q.0 in
    let from = aus ∙ aus_of None s.elements w.elements in
    record {
      aus = aus;
      config = config;
      same = all_first i.config 0 (frames_of s) config (configs_in s w) p.0;
      frames = subst (λ (xs : List (List ℕ)). AreFrames i.config xs) (sym aus) (all_frames i.config 0 (frames_of s) config (configs_in s w) p.0);
      slots = subst AreSlots (sym from) (all_small None s.elements w.elements);
      listed = l;
      kept = all_kept i s.elements [] targets l.places.below q.1;
      from = from;
      writable = writable_from i s.elements targets None [] s.elements q.1 refl w.elements;
    }

-- there is a first frame, whose configuration is that of the insertion
settled_there : (fs : List Pair) (s : Stream) (count : ℕ) (fade : Bool) (targets : List ℕ) → AreConfigs fs → settled_rule (settled_of fs count fade) (frames_of s) s.elements targets ≡ None
    → (c : UsacConfig) × IsConfig c × (settled_of fs count fade ≡ Some (record { config = c; aus = map au_in fs; count = count; fade = fade }))
settled_there [] s count fade targets h e = absurd (let never : Some NotDeclared ≡ None = e in cc)
settled_there (f ∷ fs) s count fade targets h e = (f.0, h.0, refl)

-- an insertion that passed, with what it shares
pub record Passed (s : Stream) (count : ℕ) (fade : Bool) (targets : List ℕ) : Type 0 where
  pub shared : Settled
  pub count_is : shared.count ≡ count
  pub fade_is : shared.fade ≡ fade
  pub found : settled_of (frames_of s) count fade ≡ Some shared
  pub holds : Holds s shared targets

pub passed_all : (s : Stream) (count : ℕ) (fade : Bool) (targets : List ℕ) → IsWellFormed s → insert_fault s count fade targets ≡ None → Passed s count fade targets
passed_all s count fade targets w e =
    let there = settled_there (frames_of s) s count fade targets (configs_in s w) e in
    let i : Settled = record { config = there.0; aus = map au_in (frames_of s); count = count; fade = fade } in
    record {
      shared = i;
      count_is = refl;
      fade_is = refl;
      found = there.2;
      holds = holds_of s i targets w refl there.1 (subst (λ (o : Option Settled). settled_rule o (frames_of s) s.elements targets ≡ None) there.2 e);
    }
