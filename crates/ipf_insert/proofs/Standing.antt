-- What is known of a stream where the rules hold.
use Rattle.std.proofs.Common.{◌≡◌, ℕ, ◌≤◌, Bool, true, false, List, [], ◌∷◌, length, map, Option, Some, None, refl, sym, ap, subst, ◌∙◌, arith}
use Rattle.std.specs.Prelude.{◌||◌, ◌==◌, nat_lt, not, slice_get}
use Rattle.std.specs.Option.{option_map}
use Rattle.std.specs.Borrow.{Bor}
use Rattle.std.proofs.lemmas.List.{length-map}
use Rattle.std.proofs.lemmas.Bool.Decides.{nat_tests}
use Rattle.usac_cfg.specs.declared.usac_config.UsacConfig.{UsacConfig}
use Rattle.usac_cfg.specs.UsacConfig.{IsWellFormed as IsConfig, declares_preroll}
use Rattle.latm.specs.declared.stream.Stream.{Stream}
use Rattle.latm.specs.Stream.{IsWellFormed, frames_of, config_in, au_in}
use Rattle.ipf_frame.specs.Payload.{config_bytes}
use Rattle.ipf_frame.specs.Laws.{AreFrames, AreSlots}
use Rattle.ipf_insert.specs.declared.fault.InsertFault.{InsertFault}
use Rattle.ipf_insert.specs.declared.fault.InsertFault.TheVariants.{NotDeclared, ConfigTooLong, BadCount}
use Rattle.ipf_insert.specs.declared.sources.Sources.{Sources}
use Rattle.ipf_insert.specs.Inserting.{Settled, settled_of, stream_in, inserted}
use Rattle.ipf_insert.specs.Rules.{or_then, fault_if, frames_rule, places_rule, list_rule, targets_rule, settled_rule, insert_fault}
use Rattle.ipf_insert.specs.Steps.{IfRule, settled, refs, IsReady}
use Rattle.ipf_insert.proofs.Elements.{AreConfigs, configs_of, all_small, aus_of}
use Rattle.ipf_insert.proofs.Frames.{all_frames}
use Rattle.stream_edit.specs.Targets.{misplaced}
use Rattle.stream_edit.proofs.Placed.{neither, ArePlaced}
use Rattle.ipf_insert.proofs.Targets.{on_rule, passed, unset, list_passed, well_listed}

abbrev Pair : Type 0
Pair = UsacConfig × List ℕ

-- ---- the configuration of frame 0

pub first_config : (fs : List Pair) (c : UsacConfig) → Some c ≡ option_map config_in (slice_get fs 0) → AreConfigs fs → IsConfig c
first_config [] c e h = absurd (let never : Some c ≡ None = e in cc)
first_config (f ∷ fs) c e h = let is : c ≡ f.0 = (let s : Some c ≡ Some f.0 = e in cc) in subst IsConfig (sym is) h.0

pub configs_in : (s : Stream) → IsWellFormed s → AreConfigs (frames_of s)
configs_in s w = configs_of None s.elements tt w.elements

pub settled_is : (fs : List Pair) (c : UsacConfig) (aus : List (List ℕ)) (count : ℕ) (fade : Bool) → Some c ≡ option_map config_in (slice_get fs 0) → aus ≡ map au_in fs
    → settled_of fs count fade ≡ Some (record { config = c; aus = aus; count = count; fade = fade })
settled_is [] c aus count fade e is = absurd (let never : Some c ≡ None = e in cc)
settled_is (f ∷ fs) c aus count fade e is =
    let same : c ≡ f.0 = (let s : Some c ≡ Some f.0 = e in cc) in
    ap (λ (d : UsacConfig). let i : Settled = record { config = d; aus = map au_in (f ∷ fs); count = count; fade = fade } in Some i) (sym same)
    ∙ ap (λ (xs : List (List ℕ)). let i : Settled = record { config = c; aus = xs; count = count; fade = fade } in Some i) (sym is)

-- ---- the rules in their order

module _ (s : Stream) (i : Settled) (targets : List ℕ) (found : settled_of (frames_of s) i.count i.fade ≡ Some i) where
  pub rule_is : insert_fault s i.count i.fade targets ≡ or_then (frames_rule i.config 0 (frames_of s)) (or_then (list_rule i targets) (targets_rule i s.elements [] targets))
  rule_is = ap (λ (o : Option Settled). settled_rule o (frames_of s) s.elements targets) found

  pub behind_frames : frames_rule i.config 0 (frames_of s) ≡ None → insert_fault s i.count i.fade targets ≡ or_then (list_rule i targets) (targets_rule i s.elements [] targets)
  behind_frames e = rule_is ∙ ap (λ (o : Option InsertFault). or_then o (or_then (list_rule i targets) (targets_rule i s.elements [] targets))) e

  pub behind_list : frames_rule i.config 0 (frames_of s) ≡ None → list_rule i targets ≡ None → insert_fault s i.count i.fade targets ≡ targets_rule i s.elements [] targets
  behind_list e l = behind_frames e ∙ ap (λ (o : Option InsertFault). or_then o (targets_rule i s.elements [] targets)) l

  pub inserted_is : inserted s i.count i.fade targets ≡ stream_in (Some i) targets s
  inserted_is = ap (λ (o : Option Settled). stream_in o targets s) found

  pub passes : (count : ℕ) → i.count ≡ count → frames_rule i.config 0 (frames_of s) ≡ None → list_rule i targets ≡ None → targets_rule i s.elements [] targets ≡ None → insert_fault s count i.fade targets ≡ None
  passes count e pass list kept = subst (λ (n : ℕ). insert_fault s n i.fade targets ≡ None) e (behind_list pass list ∙ kept)

  pub list_refused : (count : ℕ) → i.count ≡ count → frames_rule i.config 0 (frames_of s) ≡ None → (f : InsertFault) → IfRule f (list_rule i targets ≡ Some f) → IfRule f (insert_fault s count i.fade targets ≡ Some f)
  list_refused count e pass f h = subst (λ (n : ℕ). IfRule f (insert_fault s n i.fade targets ≡ Some f)) e
      (on_rule f (list_rule i targets ≡ Some f) (insert_fault s i.count i.fade targets ≡ Some f) (λ q. behind_frames pass ∙ ap (λ (o : Option InsertFault). or_then o (targets_rule i s.elements [] targets)) q) h)

  pub targets_refused : (count : ℕ) → i.count ≡ count → frames_rule i.config 0 (frames_of s) ≡ None → list_rule i targets ≡ None → (f : InsertFault) → IfRule f (targets_rule i s.elements [] targets ≡ Some f) → IfRule f (insert_fault s count i.fade targets ≡ Some f)
  targets_refused count e pass list f h = subst (λ (n : ℕ). IfRule f (insert_fault s n i.fade targets ≡ Some f)) e
      (on_rule f (targets_rule i s.elements [] targets ≡ Some f) (insert_fault s i.count i.fade targets ≡ Some f) (λ q. behind_list pass list ∙ q) h)

-- ---- what the rules give

pub record IsListed (i : Settled) (targets : List ℕ) : Type 0 where
  pub declared : declares_preroll i.config ≡ true
  pub short : length (config_bytes i.config) ≤ 285
  pub some : 1 ≤ i.count
  pub count : i.count ≤ 18
  pub placed : misplaced (length i.aus) targets ≡ None
  pub places : ArePlaced (length i.aus) 0 targets

pub listed : (i : Settled) (targets : List ℕ) → list_rule i targets ≡ None → IsListed i targets
listed i targets e =
    let p = passed (fault_if (not (declares_preroll i.config)) NotDeclared) _ e in
    let q = passed (fault_if (nat_lt 285 (length (config_bytes i.config))) ConfigTooLong) _ p.1 in
    let r = passed (fault_if ((i.count == 0) || nat_lt 18 i.count) BadCount) (places_rule (length i.aus) targets) q.1 in
    let long : nat_lt 285 (length (config_bytes i.config)) ≡ false = unset _ ConfigTooLong q.0 in
    let bad = neither (i.count == 0) (nat_lt 18 i.count) (unset _ BadCount r.0) in
    record {
      declared = set (declares_preroll i.config) (unset _ NotDeclared p.0);
      short = grind (arith, long, nat_tests);
      some = grind (arith, bad.0, nat_tests);
      count = grind (arith, bad.1, nat_tests);
      placed = list_passed (length i.aus) targets r.1;
      places = well_listed (length i.aus) targets r.1;
    }
  where
    set : (b : Bool) → not b ≡ false → b ≡ true
    set true q = refl
    set false q = absurd (let never : true ≡ false = q in cc)

pub ready : (s : Stream) (x : Sources) (targets : List ℕ) → IsWellFormed s → IsConfig x.config.now → refs x.aus.items ≡ map au_in (frames_of s) → x.bytes ≡ config_bytes x.config.now
    → frames_rule x.config.now 0 (frames_of s) ≡ None → list_rule (settled x) targets ≡ None → IsReady x
ready s x targets w c aus bytes pass list =
    let l = listed (settled x) targets list in
    let few = w.frames in
    record {
      config = c;
      frames = subst (λ (xs : List (List ℕ)). AreFrames x.config.now xs) (sym aus) (all_frames x.config.now 0 (frames_of s) c (configs_in s w) pass);
      slots = subst AreSlots (sym (aus ∙ aus_of None s.elements w.elements)) (all_small None s.elements w.elements);
      few = omega (arith, few, length-map x.aus.items (λ (r : Bor (List ℕ)). r.now), length-map (frames_of s) au_in, ap (λ (xs : List (List ℕ)). length xs) aus);
      bytes = bytes;
      short = omega (arith, l.short, ap (λ (xs : List ℕ). length xs) bytes);
      some = l.some;
      count = l.count;
    }
