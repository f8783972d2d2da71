-- A frame that was judged to be played breaks no rule.
use Rattle.std.proofs.Common.{◌≡◌, ℕ, ◌≤◌, List, length, Option, Some, None, sym, ap, subst, ◌∙◌, arith}
use Rattle.usac_cfg.specs.declared.usac_config.UsacConfig.{UsacConfig}
use Rattle.usac_frame.specs.declared.frame.Frame.{Frame}
use Rattle.usac_frame.specs.AccessUnit.{IsFrame}
use Rattle.usac_frame.specs.FrameExact.{spelled_once, decided}
use Rattle.usac_frame.specs.Units.{UnitValue}
use Rattle.preroll.specs.declared.carried_units.CarriedUnits.{CarriedUnits}
use Rattle.preroll.specs.Carried.{IsFirst, Carries}
use Rattle.preroll.proofs.OneRule.{judged_once}
use Rattle.plans.specs.Level.{IsLevel}
use Rattle.core_iface.specs.Decoding.{Definitions}
use Rattle.switch_player.specs.declared.turn.Turn.{Turn}
use Rattle.switch_player.specs.declared.turn.Turn.TheVariants.{GoesOn, Start, Join}
use Rattle.switch_player.specs.declared.fault.PlayFault.{PlayFault}
use Rattle.switch_player.specs.declared.fault.PlayFault.TheVariants.{FrameFault, NotIndependent, RateChanged, ChannelsChanged, Carry, TooFew, CoreFault, Memory, Stopped}
use Rattle.switch_player.specs.Rules.{IsShortOf, RefusesRead, Refuses, RefusesAt, TakesBy}
use Rattle.switch_player.specs.Turns.{IsTurn, IsTurnAt, Judges, JudgesAt}

not_short : (d : Definitions) (c : UsacConfig) (g : Frame) (k : CarriedUnits) (have need : ℕ) → Carries c g k.fade k.units → d.warm c ≤ length k.units → IsShortOf d c g have need → ⊥
not_short d c g k have need carries enough x =
    let one = judged_once.one_list c g x.fade k.fade x.units k.units x.carries carries in
    omega (arith, x.few, x.have_is, x.need_is, enough, ap (λ (us : List UnitValue). length us) one.1)

not_refused : (d : Definitions) (c : UsacConfig) (g : Frame) (p : Option UsacConfig) (t : Turn) → IsTurn d p c g t → (e : PlayFault) → RefusesRead d p c g e → ⊥
not_refused d c g None GoesOn h e r = absurd h
not_refused d c g None (Start None) h (FrameFault at) r = r
not_refused d c g None (Start None) h NotIndependent r = cc
not_refused d c g None (Start None) h RateChanged r = r
not_refused d c g None (Start None) h ChannelsChanged r = r
not_refused d c g None (Start None) h (Carry e) r = omega (arith, h.0, r.0)
not_refused d c g None (Start None) h (TooFew have need) r = r
not_refused d c g None (Start None) h CoreFault r = r
not_refused d c g None (Start None) h (Memory e) r = r
not_refused d c g None (Start None) h Stopped r = r
not_refused d c g None (Start (Some k)) h (FrameFault at) r = r
not_refused d c g None (Start (Some k)) h NotIndependent r = omega (arith, h.0, r.0)
not_refused d c g None (Start (Some k)) h RateChanged r = r
not_refused d c g None (Start (Some k)) h ChannelsChanged r = r
not_refused d c g None (Start (Some k)) h (Carry e) r = h.1.keeps e r.1.breaks
not_refused d c g None (Start (Some k)) h (TooFew have need) r = r
not_refused d c g None (Start (Some k)) h CoreFault r = r
not_refused d c g None (Start (Some k)) h (Memory e) r = r
not_refused d c g None (Start (Some k)) h Stopped r = r
not_refused d c g None (Join k) h e r = absurd h
not_refused d c g (Some b) GoesOn h (FrameFault at) r = r
not_refused d c g (Some b) GoesOn h NotIndependent r = r
not_refused d c g (Some b) GoesOn h RateChanged r = r.0 h
not_refused d c g (Some b) GoesOn h ChannelsChanged r = r.0 h
not_refused d c g (Some b) GoesOn h (Carry e) r = r.0.other h
not_refused d c g (Some b) GoesOn h (TooFew have need) r = r.0.other h
not_refused d c g (Some b) GoesOn h CoreFault r = r
not_refused d c g (Some b) GoesOn h (Memory e) r = r
not_refused d c g (Some b) GoesOn h Stopped r = r
not_refused d c g (Some b) (Start k) h e r = absurd h
not_refused d c g (Some b) (Join k) h (FrameFault at) r = r
not_refused d c g (Some b) (Join k) h NotIndependent r = r
not_refused d c g (Some b) (Join k) h RateChanged r = r.1 h.0.rate
not_refused d c g (Some b) (Join k) h ChannelsChanged r = r.2 h.0.channels
not_refused d c g (Some b) (Join k) h (Carry e) r = h.1.0.keeps e r.1.breaks
not_refused d c g (Some b) (Join k) h (TooFew have need) r = not_short d c g k have need h.1.0 h.1.1 r.1
not_refused d c g (Some b) (Join k) h CoreFault r = r
not_refused d c g (Some b) (Join k) h (Memory e) r = r
not_refused d c g (Some b) (Join k) h Stopped r = r

-- a frame of another configuration that is refused for what it carries
pub carried_refused : (d : Definitions) (b c : UsacConfig) (g : Frame) (e : PlayFault) → IsLevel b c → JudgesAt d c g e → Judges d (Some b) c g e
carried_refused d b c g (FrameFault at) l h = absurd h
carried_refused d b c g NotIndependent l h = absurd h
carried_refused d b c g RateChanged l h = absurd h
carried_refused d b c g ChannelsChanged l h = absurd h
carried_refused d b c g (Carry e) l h = (l, h)
carried_refused d b c g (TooFew have need) l h = (l, h)
carried_refused d b c g CoreFault l h = absurd h
carried_refused d b c g (Memory e) l h = tt
carried_refused d b c g Stopped l h = absurd h

-- an access unit is one frame
pub one_frame : (c : UsacConfig) (au : List ℕ) (g h : Frame) → IsFrame c au g → IsFrame c au h → h ≡ g
one_frame c au g h i j = spelled_once c h g j.fits i.fits (sym j.spelled ∙ i.spelled)

module _ (d : Definitions) (c : UsacConfig) (au : List ℕ) (g : Frame) (t : Turn) (i : IsFrame c au g) where
  taken : (p : Option UsacConfig) → IsTurn d p c g t → TakesBy (Refuses d p c au)
  taken p h (FrameFault at) r = (decided c).not_both _ _ (g, i.fits, i.spelled) r
  taken p h NotIndependent r = not_refused d c g p t h NotIndependent (subst (λ (x : Frame). RefusesRead d p c x NotIndependent) (one_frame c au g r.0 i r.1) r.2)
  taken p h RateChanged r = not_refused d c g p t h RateChanged (subst (λ (x : Frame). RefusesRead d p c x RateChanged) (one_frame c au g r.0 i r.1) r.2)
  taken p h ChannelsChanged r = not_refused d c g p t h ChannelsChanged (subst (λ (x : Frame). RefusesRead d p c x ChannelsChanged) (one_frame c au g r.0 i r.1) r.2)
  taken p h (Carry e) r = not_refused d c g p t h (Carry e) (subst (λ (x : Frame). RefusesRead d p c x (Carry e)) (one_frame c au g r.0 i r.1) r.2)
  taken p h (TooFew have need) r = not_refused d c g p t h (TooFew have need) (subst (λ (x : Frame). RefusesRead d p c x (TooFew have need)) (one_frame c au g r.0 i r.1) r.2)
  taken p h CoreFault r = r
  taken p h (Memory e) r = r
  taken p h Stopped r = r

  -- as the frame at which a player starts within a stream
  carried_at : (k : CarriedUnits) → Carries c g k.fade k.units → d.warm c ≤ length k.units → TakesBy (RefusesAt d c au)
  carried_at k h enough (FrameFault at) r = (decided c).not_both _ _ (g, i.fits, i.spelled) r
  carried_at k h enough NotIndependent r = r
  carried_at k h enough RateChanged r = r
  carried_at k h enough ChannelsChanged r = r
  carried_at k h enough (Carry e) r = h.keeps e (let first = subst (λ (x : Frame). IsFirst c x e) (one_frame c au g r.0 i r.1) r.2 in first.breaks)
  carried_at k h enough (TooFew have need) r = not_short d c g k have need h enough (subst (λ (y : Frame). IsShortOf d c y have need) (one_frame c au g r.0 i r.1) r.2)
  carried_at k h enough CoreFault r = r
  carried_at k h enough (Memory e) r = r
  carried_at k h enough Stopped r = r

pub frame_taken : (d : Definitions) (c : UsacConfig) (au : List ℕ) (g : Frame) (t : Turn) (p : Option UsacConfig) → IsFrame c au g → IsTurn d p c g t → TakesBy (Refuses d p c au)
frame_taken d c au g t p i h = taken d c au g t i p h

pub start_taken : (d : Definitions) (c : UsacConfig) (au : List ℕ) (g : Frame) (t : Turn) → IsFrame c au g → IsTurnAt d c g t → TakesBy (RefusesAt d c au)
start_taken d c au g GoesOn i h = absurd h
start_taken d c au g (Start None) i h = absurd h
start_taken d c au g (Start (Some k)) i h = carried_at d c au g (Start (Some k)) i k h.0 h.1
start_taken d c au g (Join k) i h = absurd h
