-- The cut of a sound plan has one block for each frame of what it splices.
use Rattle.std.proofs.Common.{◌≡◌, ℕ, suc, ◌+◌, ◌-◌, ◌*◌, Bool, true, false, List, [], ◌∷◌, length, map, Option, Some, None, ℤ, refl, ap, sym, subst, ◌∙◌}
use Rattle.std.specs.Prelude.{All, if◌then◌else◌}
use Rattle.std.specs.List.{AllZip}
use Rattle.std.proofs.lemmas.List.Elements.{All-nil, All-head, All-tail, All-weaker, All-append, All-take, All-drop}
use Rattle.usac_cfg.specs.declared.usac_config.UsacConfig.{UsacConfig}
use Rattle.usac_cfg.specs.UsacConfig.{IsWellFormed, channels, frame_length}
use Rattle.usac_cfg.specs.Same.{same}
use Rattle.usac_cfg.specs.SameFound.{same_true}
use Rattle.preroll.specs.Carrying.{Shown, fades_in}
use Rattle.core_iface.specs.Decoding.{Definitions}
use Rattle.core_iface.specs.Laws.{StaysSound, EmitsBlocks, WarmsUp}
use Rattle.core_iface.specs.Answering.{Running, stepped, emitted, drained}
use Rattle.plans.specs.Coded.{Coded, coded_shown, IsCoded}
use Rattle.plans.specs.WholeStream.{IsWholeStream, stream_config}
use Rattle.plans.specs.Parts.{Part, IsPart, part_frames, spliced}
use Rattle.plans.specs.SoundPlan.{AreJoined, IsSoundPlan}
use Rattle.switch_player.specs.Blending.{blend_from, blended}
use Rattle.switch_player.specs.Cuts.{cut, cut_plan}
use Rattle.switch_player.specs.Playing.{begun, begun_state, joined_block, played, played_block, played_state}
use Rattle.switch_player.specs.Feeding.{IsInStep}
use Rattle.switch_player.specs.Splices.{IsBlockOf}
use Rattle.switch_player.specs.Laws.{CutsEachFrame}
use Rattle.switch_player.specs.SegmentedFound.{plays_segments}
use Rattle.switch_player.proofs.Lengths.{begun_long, begun_in_step}
use Rattle.switch_player.proofs.PartsShown.{own_shown}
use Rattle.switch_player.proofs.Converging.{splices_converge}

-- ---- configurations are well formed

abbrev IsFine : Coded → Type 0
IsFine f = IsWellFormed f.config

stream_fine : (fs : List Coded) → IsWholeStream fs → All IsFine fs
stream_fine [] s = absurd s
stream_fine (f ∷ fs) s = All-weaker IsCoded IsFine (λ g i. i.config) (f ∷ fs) s.1

part_fine : (p : Part) → IsPart p → All IsFine (part_frames p)
part_fine p h = All-take IsFine (p.to - p.from) _ (All-drop IsFine p.from p.stream (stream_fine p.stream h.stream))

joined_fine : (d : Definitions) (b : Option UsacConfig) (ps : List Part) → AreJoined d.warm b ps → All IsFine (spliced ps)
joined_fine d b [] h = All-nil IsFine
joined_fine d b (p ∷ ps) h = All-append IsFine (part_frames p) (spliced ps) (part_fine p h.0) (joined_fine d (stream_config p.stream) ps h.3)

plan_fine : (d : Definitions) (ps : List Part) → IsSoundPlan d.warm ps → All IsFine (spliced ps)
plan_fine d [] h = All-nil IsFine
plan_fine d (p ∷ ps) h = All-append IsFine (part_frames p) (spliced ps) (part_fine p h.0) (joined_fine d (stream_config p.stream) ps h.2)

-- ---- blocks are as long as frames

length-blend : (channels i : ℕ) (os xs : List ℤ) → length (blend_from channels i os xs) ≡ length xs
length-blend channels i [] xs = refl
length-blend channels i (o ∷ os) [] = refl
length-blend channels i (o ∷ os) (x ∷ xs) = ap (λ (n : ℕ). suc n) (length-blend channels (i + 1) os xs)

-- a core that stands somewhere is in a sound state
abbrev IsReady : Definitions → Option Running → Type 0
IsReady d None = Unit {0}
IsReady d (Some r) = IsWellFormed r.config × d.sound r.config r.state

ready_of : (d : Definitions) (c : UsacConfig) (at : Option Running) → IsInStep d (Some c) at → IsReady d at
ready_of d c None h = absurd h
ready_of d c (Some r) h = let e : c ≡ r.config = sym h.0 in (subst IsWellFormed e h.1, subst (λ (x : UsacConfig). d.sound x r.state) e h.2)

module _ (d : Definitions) (stays : StaysSound d) (emits : EmitsBlocks d) where
  joined_long : (at : Option Running) (f : Shown) → IsWellFormed f.config → length (joined_block d at f) ≡ channels f.config * frame_length f.config
  joined_long at f w = by_fade (fades_in f.carried)
    where
      by_fade : (b : Bool) → length (if b then blended (channels f.config) (drained d at) (begun d f) else begun d f) ≡ channels f.config * frame_length f.config
      by_fade true = length-blend (channels f.config) 0 (drained d at) (begun d f) ∙ begun_long d stays f w emits
      by_fade false = begun_long d stays f w emits

  block_long : (at : Option Running) (f : Shown) → IsWellFormed f.config → IsReady d at → length (played_block d at f) ≡ channels f.config * frame_length f.config
  block_long None f w h = begun_long d stays f w emits
  block_long (Some r) f w h = by_test (same r.config f.config) refl
    where
      by_test : (b : Bool) → same r.config f.config ≡ b → length (if b then emitted d (Some r) f.unit else joined_block d (Some r) f) ≡ channels f.config * frame_length f.config
      by_test true e = (emits.block r.config r.state f.unit h.0 h.1).0 ∙ ap (λ (c : UsacConfig). channels c * frame_length c) (same_true r.config f.config h.0 w e)
      by_test false e = joined_long (Some r) f w

  state_ready : (at : Option Running) (f : Shown) → IsWellFormed f.config → IsReady d at → IsReady d (played_state d at f)
  state_ready None f w h = ready_of d f.config (begun_state d f) (begun_in_step d stays f w)
  state_ready (Some r) f w h = by_test (same r.config f.config)
    where
      by_test : (b : Bool) → IsReady d (if b then stepped d (Some r) f.unit else begun_state d f)
      by_test true = (h.0, stays.step r.config r.state f.unit h.0 h.1)
      by_test false = ready_of d f.config (begun_state d f) (begun_in_step d stays f w)

  each_block : (at : Option Running) (fs : List Coded) → IsReady d at → All IsFine fs → AllZip IsBlockOf fs (played d at (map coded_shown fs))
  each_block at [] h w = tt
  each_block at (f ∷ fs) h w =
      let fine = All-head IsFine f fs w in
      (block_long at (coded_shown f) fine h, each_block (played_state d at (coded_shown f)) fs (state_ready at (coded_shown f) fine h) (All-tail IsFine f fs w))

  pub cuts_each_frame : WarmsUp d → CutsEachFrame d
  cuts_each_frame warms plan sound =
      let fs = spliced plan in
      let e : played d None (map coded_shown fs) ≡ cut_plan d plan = plays_segments d (map coded_shown fs) ∙ (ap (cut d) (sym (own_shown fs)) ∙ splices_converge d stays warms plan sound) in
      subst (AllZip IsBlockOf fs) e (each_block None fs tt (plan_fine d plan sound))
