-- One frame of `play`.
use Rattle.std.proofs.Common.{◌≡◌, ℕ, ◌+◌, List, [], ◌∷◌, ◌++◌, Option, Some, ℤ, refl, sym, ap, subst, ◌∙◌, append_assoc}
use Rattle.usac_cfg.specs.declared.usac_config.UsacConfig.{UsacConfig}
use Rattle.usac_cfg.specs.UsacConfig.{IsWellFormed}
use Rattle.core_iface.specs.Decoding.{Definitions}
use Rattle.core_iface.specs.Answering.{Running, Meaning}
use Rattle.core_iface.specs.Samples.{sample_bytes}
use Rattle.switch_player.specs.declared.fault.PlayFault.{PlayFault}
use Rattle.switch_player.specs.PlayerValue.{PlayerValue}
use Rattle.switch_player.specs.Playing.{played_block, played_state, standing, before_it}
use Rattle.switch_player.specs.Rules.{Refuses, TakesBy}
use Rattle.switch_player.specs.Feeding.{IsInStep, IsPlayed}
use Rattle.au_stream.specs.Frames.{Frame, config_of}
use Rattle.commands.specs.Commands.{Takes}
use Rattle.playing.specs.declared.frame_player.Entry.{Entry}
use Rattle.playing.specs.declared.frame_player.Entry.TheVariants.{Next}
use Rattle.playing.specs.PlayedFrame.{PlayerRefuses}
use Rattle.playing.specs.Playing.{playing, play_shown, last_config}
use Rattle.playing.specs.Standing.{PlayerStands, state_behind}
use Rattle.playing.proofs.Growing.{last_config-push, state_push, play_grows}
use Rattle.playing.proofs.PlayerSteps.{Follows, shown_here}

-- the player's rules at a frame are those of its configuration and access unit, behind the last configuration
module _ (d : Definitions) (f : Frame) (entry : Entry) (last now : Option UsacConfig) (config : UsacConfig) (au : List ℕ) (e : PlayFault) (le : last ≡ now) (ce : config ≡ config_of f) (ae : au ≡ f.au) where
  pub rules_here : PlayerRefuses entry d last config au e → PlayerRefuses entry d now (config_of f) f.au e
  rules_here h =
      subst (λ (o : Option UsacConfig). PlayerRefuses entry d o (config_of f) f.au e) le (subst (λ (a : List ℕ). PlayerRefuses entry d last (config_of f) a e) ae (subst (λ (c : UsacConfig). PlayerRefuses entry d last c au e) ce h))

  -- and the other way
  pub rules_there : PlayerRefuses entry d now (config_of f) f.au e → PlayerRefuses entry d last config au e
  rules_there h =
      subst (λ (o : Option UsacConfig). PlayerRefuses entry d o config au e) (sym le) (subst (λ (a : List ℕ). PlayerRefuses entry d now config a e) (sym ae) (subst (λ (c : UsacConfig). PlayerRefuses entry d now c f.au e) (sym ce) h))

-- `play` follows its player
pub play_follows : (d : Definitions) (earlier before : List Frame) (f : Frame) (config : UsacConfig) (au : List ℕ) (p : PlayerValue) (k : Meaning) → IsWellFormed config → config ≡ config_of f → au ≡ f.au → PlayerStands d (earlier ++ before) p k.ready
    → Follows (Refuses d p.last config au) d (playing d earlier) before f config au p k
play_follows d earlier before f config au p k fits ce ae st =
    let now = last_config (earlier ++ before) in
    let here : (e : PlayFault) → Refuses d p.last config au e → Refuses d now (config_of f) f.au e = λ e h. rules_here d f Next p.last now config au e st.last ce ae h in
    let takes : TakesBy (Refuses d p.last config au) → Takes (playing d earlier) before f = λ accepts r h. accepts h.0 (rules_there d f Next p.last now config au h.0 st.last ce ae h.1) in
    record {
      fits = fits;
      config_is = ce;
      au_is = ae;
      takes = takes;
      refuses = λ e r h is. (e, here e h, is);
      silent = refl;
      units = ap (λ (o : Option UsacConfig). before_it o (play_shown f) + 1) (sym st.last);
      grows = play_grows d earlier before f ∙ ap (λ (x : Option Running). (playing d earlier).output before ++ sample_bytes (played_block d x (play_shown f))) (sym st.behind);
    }

-- the player holds one frame more
pub stands_more : (R : PlayFault → Type 0) (d : Definitions) (all : List Frame) (f : Frame) (config : UsacConfig) (au : List ℕ) (p q : PlayerValue) (k m : Meaning) (s t : List ℤ) → IsWellFormed config → config ≡ config_of f → au ≡ f.au → PlayerStands d all p k.ready
    → IsPlayed R d config au p q k m s t → PlayerStands d (all ++ f ∷ []) q m.ready
stands_more R d all f config au p q k m s t fits ce ae st h =
    let last : q.last ≡ Some config = ap (λ (x : PlayerValue). x.last) h.player in
    let same = shown_here f config au h.frame fits ce ae h.shows in
    record {
      last = last ∙ (ap (λ (x : UsacConfig). Some x) ce ∙ sym (last_config-push all f));
      going = ap (λ (x : PlayerValue). x.stopped) h.player;
      in_step = subst (λ (o : Option UsacConfig). IsInStep d o m.ready) (sym last) h.in_step;
      behind = ap (λ (o : Option UsacConfig). standing o m.ready) last
          ∙ (h.state ∙ (ap (λ (x : Option Running). played_state d x h.frame) st.behind ∙ (ap (played_state d (state_behind d all)) same ∙ sym (state_push d all f))));
    }

pub play_stands : (R : PlayFault → Type 0) (d : Definitions) (earlier before : List Frame) (f : Frame) (config : UsacConfig) (au : List ℕ) (p q : PlayerValue) (k m : Meaning) (s t : List ℤ) → IsWellFormed config → config ≡ config_of f → au ≡ f.au
    → PlayerStands d (earlier ++ before) p k.ready → IsPlayed R d config au p q k m s t → PlayerStands d (earlier ++ (before ++ f ∷ [])) q m.ready
play_stands R d earlier before f config au p q k m s t fits ce ae st h =
    subst (λ (x : List Frame). PlayerStands d x q m.ready) (append_assoc earlier before (f ∷ [])) (stands_more R d (earlier ++ before) f config au p q k m s t fits ce ae st h)
