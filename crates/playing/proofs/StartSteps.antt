-- One frame of `start`.
use Rattle.std.proofs.Common.{◌≡◌, ℕ, ◌+◌, ◌<◌, ◌≤◌, Bool, true, false, List, [], ◌∷◌, ◌++◌, length, drop, Option, None, ℤ, refl, sym, ap, subst, ◌∙◌, arith}
use Rattle.std.specs.Prelude.{nat_lt, ◌&&◌, ◌==◌, if◌then◌else◌}
use Rattle.std.proofs.lemmas.Bool.{eqb-true}
use Rattle.std.proofs.lemmas.Bool.Decides.{nat_tests}
use Rattle.std.proofs.lemmas.List.{append-nil, length-append, drop_all, drop-append-le}
use Rattle.usac_cfg.specs.declared.usac_config.UsacConfig.{UsacConfig}
use Rattle.usac_cfg.specs.UsacConfig.{IsWellFormed}
use Rattle.core_iface.specs.Decoding.{Definitions}
use Rattle.core_iface.specs.Answering.{Running, Meaning}
use Rattle.core_iface.specs.Samples.{sample_bytes}
use Rattle.switch_player.specs.declared.fault.PlayFault.{PlayFault}
use Rattle.switch_player.specs.PlayerValue.{PlayerValue}
use Rattle.switch_player.specs.Playing.{played_block, before_it}
use Rattle.switch_player.specs.Feeding.{IsPlayed}
use Rattle.tool_text.specs.declared.refusal.Refusal.{Refusal}
use Rattle.au_stream.specs.Frames.{Frame, config_of}
use Rattle.commands.specs.Commands.{IsCommand, Takes}
use Rattle.commands.specs.OneFrame.{DidFrame}
use Rattle.commands.proofs.Going.{append-none}
use Rattle.playing.specs.declared.frame_player.Entry.{Entry}
use Rattle.playing.specs.declared.frame_player.Entry.TheVariants.{Next, Within}
use Rattle.playing.specs.PlayedFrame.{PlayerRefuses}
use Rattle.playing.specs.Playing.{play_shown, play_units, last_config, output}
use Rattle.playing.specs.Standing.{PlayerStands}
use Rattle.playing.specs.Starting.{is_skipped, entry_at, RefusesUnless, PlayedRefuses, starting, start_units}
use Rattle.playing.proofs.Growing.{play_grows, play_command}
use Rattle.playing.proofs.PlayerSteps.{Follows}
use Rattle.playing.proofs.PlaySteps.{rules_here, rules_there, stands_more}

pub start_command : (d : Definitions) (first : ℕ) → IsCommand (starting d first)
start_command d first = record { nothing = ap (output d) (drop_all first [] (omega arith)); few = λ before f. by_test before f (is_skipped first before) }
  where
    by_test : (before : List Frame) (f : Frame) (b : Bool) → (if b then 0 else play_units (drop first before) f) ≤ 19
    by_test before f true = omega arith
    by_test before f false = (play_command d []).few (drop first before) f

-- ---- which frames are skipped, and at which the player starts

pub skipped : (first : ℕ) (before : List Frame) → length before < first → is_skipped first before ≡ true
skipped first before lt = grind (arith, nat_tests)

pub not_skipped : (first : ℕ) (before : List Frame) → first ≤ length before → is_skipped first before ≡ false
not_skipped first before le = grind (arith, nat_tests)

within_is : (first number : ℕ) → entry_at first number ≡ Within → number ≡ first
within_is first number e = eqb-true number first (by_test (nat_lt 0 first) (number == first) e)
  where
    by_test : (a b : Bool) → (if a && b then Within else Next) ≡ Within → b ≡ true
    by_test true true e = refl
    by_test true false e = cc
    by_test false b e = cc

-- nothing was played before the player starts
pub none_before : (first number : ℕ) (before : List Frame) (last : Option UsacConfig) → length before ≡ number → last ≡ last_config (drop first before) → entry_at first number ≡ Within → last ≡ None
none_before first number before last n is e = let at = within_is first number e in is ∙ ap last_config (drop_all first before (omega (arith, n, at)))

-- ---- a skipped frame

none_yet : (first : ℕ) (before : List Frame) (f : Frame) → length before < first → drop first (before ++ f ∷ []) ≡ drop first before
none_yet first before f lt =
    let len = length-append before (f ∷ []) in
    drop_all first (before ++ f ∷ []) (omega (arith, len, lt)) ∙ sym (drop_all first before (omega (arith, lt)))

pub skipped_takes : (d : Definitions) (first : ℕ) (before : List Frame) (f : Frame) → length before < first → Takes (starting d first) before f
skipped_takes d first before f lt = λ r h. subst (λ (b : Bool). RefusesUnless b d first before f r) (skipped first before lt) h

pub start_skipped : (d : Definitions) (first : ℕ) (before : List Frame) (f : Frame) (m : Meaning) (w : Option (List ℕ)) → length before < first → DidFrame (starting d first) before f m m w w
start_skipped d first before f m w lt =
    let none : start_units first before f ≡ 0 = ap (λ (b : Bool). if b then 0 else play_units (drop first before) f) (skipped first before lt) in
    record {
      takes = skipped_takes d first before f lt;
      fed = omega (arith, none);
      bytes = [];
      grows = ap (output d) (none_yet first before f lt) ∙ sym (append-nil (output d (drop first before)));
      written = append-none w;
    }

pub stands_skipped : (d : Definitions) (first : ℕ) (before : List Frame) (f : Frame) (p : PlayerValue) (ready : Option Running) → length before < first → PlayerStands d (drop first before) p ready → PlayerStands d (drop first (before ++ f ∷ [])) p ready
stands_skipped d first before f p ready lt st = subst (λ (x : List Frame). PlayerStands d x p ready) (sym (none_yet first before f lt)) st

-- ---- a frame that is played

module _ (d : Definitions) (first : ℕ) (before : List Frame) (f : Frame) (config : UsacConfig) (au : List ℕ) (p : PlayerValue) (le : first ≤ length before) (fits : IsWellFormed config) (ce : config ≡ config_of f) (ae : au ≡ f.au) where
  more : drop first (before ++ f ∷ []) ≡ drop first before ++ f ∷ []
  more = drop-append-le first before (f ∷ []) le

  -- `start` follows its player
  pub start_follows : (entry : Entry) (k : Meaning) → entry ≡ entry_at first (length before) → PlayerStands d (drop first before) p k.ready → Follows (PlayerRefuses entry d p.last config au) d (starting d first) before f config au p k
  start_follows entry k is st =
      let now = last_config (drop first before) in
      let skip = not_skipped first before le in
      let here : (e : PlayFault) → PlayerRefuses entry d p.last config au e → PlayerRefuses (entry_at first (length before)) d now (config_of f) f.au e = λ e h.
      subst (λ (y : Entry). PlayerRefuses y d now (config_of f) f.au e) is (rules_here d f entry p.last now config au e st.last ce ae h) in
      let there : (e : PlayFault) → PlayerRefuses (entry_at first (length before)) d now (config_of f) f.au e → PlayerRefuses entry d p.last config au e = λ e h.
      rules_there d f entry p.last now config au e st.last ce ae (subst (λ (y : Entry). PlayerRefuses y d now (config_of f) f.au e) (sym is) h) in
      let played : (r : Refusal) → RefusesUnless (is_skipped first before) d first before f r → PlayedRefuses d first before f r = λ r h. subst (λ (b : Bool). RefusesUnless b d first before f r) skip h in
      record {
        fits = fits;
        config_is = ce;
        au_is = ae;
        takes = λ accepts r h. (let x = played r h in accepts x.0 (there x.0 x.1));
        refuses = λ e r h why. subst (λ (b : Bool). RefusesUnless b d first before f r) (sym skip) (e, here e h, why);
        silent = refl;
        units = ap (λ (b : Bool). if b then 0 else play_units (drop first before) f) skip ∙ ap (λ (o : Option UsacConfig). before_it o (play_shown f) + 1) (sym st.last);
        grows = ap (output d) more
            ∙ (play_grows d [] (drop first before) f
            ∙ ap (λ (x : Option Running). output d (drop first before) ++ sample_bytes (played_block d x (play_shown f))) (sym st.behind));
      }

  pub start_stands : (R : PlayFault → Type 0) (q : PlayerValue) (k m : Meaning) (s t : List ℤ) → PlayerStands d (drop first before) p k.ready → IsPlayed R d config au p q k m s t → PlayerStands d (drop first (before ++ f ∷ [])) q m.ready
  start_stands R q k m s t st h = subst (λ (x : List Frame). PlayerStands d x q m.ready) (sym more) (stands_more R d (drop first before) f config au p q k m s t fits ce ae st h)

-- ---- before the first frame

pub stands_new : (d : Definitions) (first : ℕ) (p : PlayerValue) (ready : Option Running) → p ≡ record { last = None; stopped = false } → PlayerStands d (drop first []) p ready
stands_new d first p ready is =
    subst (λ (x : List Frame). PlayerStands d x p ready) (sym (drop_all first [] (omega arith)))
    (subst (λ (x : PlayerValue). PlayerStands d [] x ready) (sym is) (record { last = refl; going = refl; in_step = tt; behind = refl }))
