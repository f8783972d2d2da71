use Rattle.std.proofs.Common.{◌≡◌, ℕ, zero, suc, ◌+◌, ◌≤◌, ◌++◌, List, [], ◌∷◌, length, take, refl, ap, sym, ◌∙◌, arith, slice_index_or}
use Rattle.std.proofs.lemmas.Grind.{common_steps}
use Rattle.usac_cfg.specs.declared.usac_config.UsacConfig.{UsacConfig}
use Rattle.usac_cfg.specs.UsacConfig.{channels, frame_length}
use Rattle.usac_frame.specs.Units.{UnitValue}
use Rattle.core_iface.specs.Answering.{running, emitted}
use Rattle.core_iface.specs.Folding.{fold_core, warm_of, value_of, weighted, ramp}
use Rattle.core_iface.proofs.fold.FoldCoreCore.step.Goals as goal

take_twice : (n : ℕ) (xs : List ℕ) → take n (take n xs) ≡ take n xs
take_twice zero xs = refl
take_twice (suc n) [] = refl
take_twice (suc n) (x ∷ xs) = ap (λ ys. x ∷ ys) (take_twice n xs)

-- of three values at most two go on behind a new one
behind_new : (n v : ℕ) (past : List ℕ) → n ≤ 3 → length past ≡ 3 → take n (v ∷ slice_index_or past 0 0 ∷ slice_index_or past 1 0 ∷ []) ≡ take n (v ∷ take n past)
behind_new zero v past h l = refl
behind_new (suc n) v past h l = ap (λ ys. v ∷ ys) (two n past (omega arith) l)
  where
    two : (n : ℕ) (past : List ℕ) → n ≤ 2 → length past ≡ 3 → take n (slice_index_or past 0 0 ∷ slice_index_or past 1 0 ∷ []) ≡ take n (take (suc n) past)
    two n past h l = grind (arith, common_steps)

-- the block that is emitted is the ramp from the unit's value and the values that tell
block : (c : UsacConfig) (context v w count times : ℕ) (past : List ℕ) (u : UnitValue)
    → v ≡ value_of (context ∷ past) u → w ≡ weighted 2 (take (warm_of c) past) → count ≡ channels c → times ≡ frame_length c
    → ramp (v + w) count times ≡ emitted fold_core (running c (context ∷ take (warm_of c) past)) u
block c context v w count times past u value sum channels_are times_are =
    let x = value_of (context ∷ past) u + weighted 2 (take (warm_of c) (take (warm_of c) past)) in
    ap (λ n. ramp (n + w) count times) value
    ∙ (ap (λ n. ramp (value_of (context ∷ past) u + n) count times) (sum ∙ ap (weighted 2) (sym (take_twice (warm_of c) past)))
    ∙ (ap (λ n. ramp x n times) channels_are ∙ ap (λ n. ramp x (channels c) n) times_are))

pub returns-clause-answers : goal.returns-clause-answers
returns-clause-answers c =
    let config = c.in-Some.config in
    let context = c.self.inside.context in
    let past = c.self.inside.past in
    let value = c.value_behind-value.ensures past in
    let warm = warm_of config in
    let few : warm ≤ 3 = rw (← c.values_told.ensures.same) c.values_told.ensures.few in
    let sum = c.weighted_sum.ensures.sum ∙ ap (λ n. weighted 2 (take n past)) c.values_told.ensures.same in
    rw (← c.self.view_is, c.in-Some.is) record {
      ready = ap (λ ps. running config (c.value_behind-value.result ∷ ps)) (behind_new warm c.value_behind-value.result past few c.self.told)
          ∙ ap (λ v. running config (v ∷ take warm (v ∷ take warm past))) value;
      fed = refl;
      samples = c.in_default-append_ramp.ensures.ok
          ∙ ap (λ xs. c.args.out.now.items ++ xs) (block config context c.from.result c.weighted_sum.result c.channels.result c.frame_length.result past c.args.unit.now (c.from.ensures ∙ value) sum c.channels.ensures c.frame_length.ensures);
    }
