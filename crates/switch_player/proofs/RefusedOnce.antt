-- A frame breaks one rule first.
use Rattle.std.proofs.Common.{◌≡◌, ℕ, List, Option, Some, None, refl, sym, ap, subst, ◌∙◌, arith, length}
use Rattle.usac_cfg.specs.declared.usac_config.UsacConfig.{UsacConfig}
use Rattle.usac_frame.specs.declared.frame.Frame.{Frame}
use Rattle.usac_frame.specs.declared.fault.FrameFault.{FrameFault as FrameError}
use Rattle.usac_frame.specs.declared.fault.FrameFault.TheVariants as frames
use Rattle.usac_frame.specs.AccessUnit.{IsFrame}
use Rattle.usac_frame.specs.Frame.{FrameFaults}
use Rattle.usac_frame.specs.FrameExact.{decided}
use Rattle.usac_frame.specs.Units.{UnitValue}
use Rattle.layout.specs.Text.{bits_of}
use Rattle.preroll.specs.declared.fault.CarryFault.{CarryFault}
use Rattle.preroll.specs.Carried.{IsFirst}
use Rattle.preroll.proofs.OneRule.{judged_once}
use Rattle.core_iface.specs.Decoding.{Definitions}
use Rattle.switch_player.specs.declared.fault.PlayFault.{PlayFault}
use Rattle.switch_player.specs.declared.fault.PlayFault.TheVariants.{FrameFault, NotIndependent, RateChanged, ChannelsChanged, Carry, TooFew, CoreFault, Memory, Stopped}
use Rattle.switch_player.specs.Rules.{IsShortOf, RefusesRead, Refuses, RefusesAt}
use Rattle.switch_player.specs.Laws.{IsRefusedOnce}
use Rattle.switch_player.proofs.Taken.{one_frame}

abbrev bit_in : FrameError → ℕ
bit_in (frames.Short at) = at
bit_in (frames.Memory e) = 0

one_short : (c : UsacConfig) (au : List ℕ) (m n : ℕ) → FrameFaults c (frames.Short m) (bits_of au) → FrameFaults c (frames.Short n) (bits_of au) → m ≡ n
one_short c au m n a b = ap bit_in ((decided c).one_fault (bits_of au) (frames.Short m) (frames.Short n) a b)

no_frame : (c : UsacConfig) (au : List ℕ) (n : ℕ) (g : Frame) → IsFrame c au g → FrameFaults c (frames.Short n) (bits_of au) → ⊥
no_frame c au n g i bad = (decided c).not_both (bits_of au) (frames.Short n) (g, i.fits, i.spelled) bad

one_carry : (c : UsacConfig) (g : Frame) (e f : CarryFault) → IsFirst c g e → IsFirst c g f → Carry e ≡ Carry f
one_carry c g e f a b = ap (λ (x : CarryFault). Carry x) (judged_once.one_fault c g e f a b)

-- too few units are no fault of the preroll
no_carry : (d : Definitions) (c : UsacConfig) (g : Frame) (e : CarryFault) (have need : ℕ) → IsShortOf d c g have need → IsFirst c g e → ⊥
no_carry d c g e have need a b = a.carries.keeps e b.breaks

one_count : (d : Definitions) (c : UsacConfig) (g : Frame) (h n k m : ℕ) → IsShortOf d c g h n → IsShortOf d c g k m → TooFew h n ≡ TooFew k m
one_count d c g h n k m a b =
    let one = judged_once.one_list c g a.fade b.fade a.units b.units a.carries b.carries in
    let same : h ≡ k = a.have_is ∙ ap (λ (us : List UnitValue). length us) one.1 ∙ sym b.have_is in
    ap (λ (x : ℕ). TooFew x n) same ∙ ap (λ (x : ℕ). TooFew k x) (a.need_is ∙ sym b.need_is)

read_once : (d : Definitions) (last : Option UsacConfig) (c : UsacConfig) (g : Frame) (e f : PlayFault) → RefusesRead d last c g e → RefusesRead d last c g f → e ≡ f
read_once d None c g (FrameFault at1) f r s = absurd r
read_once d None c g NotIndependent (FrameFault at2) r s = absurd s
read_once d None c g NotIndependent NotIndependent r s = refl
read_once d None c g NotIndependent RateChanged r s = absurd s
read_once d None c g NotIndependent ChannelsChanged r s = absurd s
read_once d None c g NotIndependent (Carry e2) r s = absurd (omega (arith, r.0, s.0))
read_once d None c g NotIndependent (TooFew h2 n2) r s = absurd s
read_once d None c g NotIndependent CoreFault r s = absurd s
read_once d None c g NotIndependent (Memory e2) r s = absurd s
read_once d None c g NotIndependent Stopped r s = absurd s
read_once d None c g RateChanged f r s = absurd r
read_once d None c g ChannelsChanged f r s = absurd r
read_once d None c g (Carry e1) (FrameFault at2) r s = absurd s
read_once d None c g (Carry e1) NotIndependent r s = absurd (omega (arith, r.0, s.0))
read_once d None c g (Carry e1) RateChanged r s = absurd s
read_once d None c g (Carry e1) ChannelsChanged r s = absurd s
read_once d None c g (Carry e1) (Carry e2) r s = one_carry c g e1 e2 r.1 s.1
read_once d None c g (Carry e1) (TooFew h2 n2) r s = absurd s
read_once d None c g (Carry e1) CoreFault r s = absurd s
read_once d None c g (Carry e1) (Memory e2) r s = absurd s
read_once d None c g (Carry e1) Stopped r s = absurd s
read_once d None c g (TooFew h1 n1) f r s = absurd r
read_once d None c g CoreFault f r s = absurd r
read_once d None c g (Memory e1) f r s = absurd r
read_once d None c g Stopped f r s = absurd r
read_once d (Some b) c g (FrameFault at1) f r s = absurd r
read_once d (Some b) c g NotIndependent f r s = absurd r
read_once d (Some b) c g RateChanged (FrameFault at2) r s = absurd s
read_once d (Some b) c g RateChanged NotIndependent r s = absurd s
read_once d (Some b) c g RateChanged RateChanged r s = refl
read_once d (Some b) c g RateChanged ChannelsChanged r s = absurd (r.1 s.1)
read_once d (Some b) c g RateChanged (Carry e2) r s = absurd (r.1 s.0.rate)
read_once d (Some b) c g RateChanged (TooFew h2 n2) r s = absurd (r.1 s.0.rate)
read_once d (Some b) c g RateChanged CoreFault r s = absurd s
read_once d (Some b) c g RateChanged (Memory e2) r s = absurd s
read_once d (Some b) c g RateChanged Stopped r s = absurd s
read_once d (Some b) c g ChannelsChanged (FrameFault at2) r s = absurd s
read_once d (Some b) c g ChannelsChanged NotIndependent r s = absurd s
read_once d (Some b) c g ChannelsChanged RateChanged r s = absurd (s.1 r.1)
read_once d (Some b) c g ChannelsChanged ChannelsChanged r s = refl
read_once d (Some b) c g ChannelsChanged (Carry e2) r s = absurd (r.2 s.0.channels)
read_once d (Some b) c g ChannelsChanged (TooFew h2 n2) r s = absurd (r.2 s.0.channels)
read_once d (Some b) c g ChannelsChanged CoreFault r s = absurd s
read_once d (Some b) c g ChannelsChanged (Memory e2) r s = absurd s
read_once d (Some b) c g ChannelsChanged Stopped r s = absurd s
read_once d (Some b) c g (Carry e1) (FrameFault at2) r s = absurd s
read_once d (Some b) c g (Carry e1) NotIndependent r s = absurd s
read_once d (Some b) c g (Carry e1) RateChanged r s = absurd (s.1 r.0.rate)
read_once d (Some b) c g (Carry e1) ChannelsChanged r s = absurd (s.2 r.0.channels)
read_once d (Some b) c g (Carry e1) (Carry e2) r s = one_carry c g e1 e2 r.1 s.1
read_once d (Some b) c g (Carry e1) (TooFew h2 n2) r s = absurd (no_carry d c g e1 h2 n2 s.1 r.1)
read_once d (Some b) c g (Carry e1) CoreFault r s = absurd s
read_once d (Some b) c g (Carry e1) (Memory e2) r s = absurd s
read_once d (Some b) c g (Carry e1) Stopped r s = absurd s
read_once d (Some b) c g (TooFew h1 n1) (FrameFault at2) r s = absurd s
read_once d (Some b) c g (TooFew h1 n1) NotIndependent r s = absurd s
read_once d (Some b) c g (TooFew h1 n1) RateChanged r s = absurd (s.1 r.0.rate)
read_once d (Some b) c g (TooFew h1 n1) ChannelsChanged r s = absurd (s.2 r.0.channels)
read_once d (Some b) c g (TooFew h1 n1) (Carry e2) r s = absurd (no_carry d c g e2 h1 n1 r.1 s.1)
read_once d (Some b) c g (TooFew h1 n1) (TooFew h2 n2) r s = one_count d c g h1 n1 h2 n2 r.1 s.1
read_once d (Some b) c g (TooFew h1 n1) CoreFault r s = absurd s
read_once d (Some b) c g (TooFew h1 n1) (Memory e2) r s = absurd s
read_once d (Some b) c g (TooFew h1 n1) Stopped r s = absurd s
read_once d (Some b) c g CoreFault f r s = absurd r
read_once d (Some b) c g (Memory e1) f r s = absurd r
read_once d (Some b) c g Stopped f r s = absurd r

module _ (d : Definitions) (c : UsacConfig) (au : List ℕ) where
  -- two rules that a frame breaks, by the frame that each names
  read_both : (last : Option UsacConfig) (e f : PlayFault) → (g : Frame) × IsFrame c au g × RefusesRead d last c g e → (g : Frame) × IsFrame c au g × RefusesRead d last c g f → e ≡ f
  read_both last e f r s = read_once d last c r.0 e f r.2 (subst (λ (x : Frame). RefusesRead d last c x f) (one_frame c au r.0 s.0 r.1 s.1) s.2)

  feed_once : (last : Option UsacConfig) (e f : PlayFault) → Refuses d last c au e → Refuses d last c au f → e ≡ f
  feed_once last (FrameFault at1) (FrameFault at2) r s = ap (λ (x : ℕ). FrameFault x) (one_short c au at1 at2 r s)
  feed_once last (FrameFault at1) NotIndependent r s = absurd (no_frame c au at1 s.0 s.1 r)
  feed_once last (FrameFault at1) RateChanged r s = absurd (no_frame c au at1 s.0 s.1 r)
  feed_once last (FrameFault at1) ChannelsChanged r s = absurd (no_frame c au at1 s.0 s.1 r)
  feed_once last (FrameFault at1) (Carry e2) r s = absurd (no_frame c au at1 s.0 s.1 r)
  feed_once last (FrameFault at1) (TooFew h2 n2) r s = absurd (no_frame c au at1 s.0 s.1 r)
  feed_once last (FrameFault at1) CoreFault r s = absurd s
  feed_once last (FrameFault at1) (Memory e2) r s = absurd s
  feed_once last (FrameFault at1) Stopped r s = absurd s
  feed_once last NotIndependent (FrameFault at2) r s = absurd (no_frame c au at2 r.0 r.1 s)
  feed_once last NotIndependent NotIndependent r s = read_both last NotIndependent NotIndependent r s
  feed_once last NotIndependent RateChanged r s = read_both last NotIndependent RateChanged r s
  feed_once last NotIndependent ChannelsChanged r s = read_both last NotIndependent ChannelsChanged r s
  feed_once last NotIndependent (Carry e2) r s = read_both last NotIndependent (Carry e2) r s
  feed_once last NotIndependent (TooFew h2 n2) r s = read_both last NotIndependent (TooFew h2 n2) r s
  feed_once last NotIndependent CoreFault r s = absurd s
  feed_once last NotIndependent (Memory e2) r s = absurd s
  feed_once last NotIndependent Stopped r s = absurd s
  feed_once last RateChanged (FrameFault at2) r s = absurd (no_frame c au at2 r.0 r.1 s)
  feed_once last RateChanged NotIndependent r s = read_both last RateChanged NotIndependent r s
  feed_once last RateChanged RateChanged r s = read_both last RateChanged RateChanged r s
  feed_once last RateChanged ChannelsChanged r s = read_both last RateChanged ChannelsChanged r s
  feed_once last RateChanged (Carry e2) r s = read_both last RateChanged (Carry e2) r s
  feed_once last RateChanged (TooFew h2 n2) r s = read_both last RateChanged (TooFew h2 n2) r s
  feed_once last RateChanged CoreFault r s = absurd s
  feed_once last RateChanged (Memory e2) r s = absurd s
  feed_once last RateChanged Stopped r s = absurd s
  feed_once last ChannelsChanged (FrameFault at2) r s = absurd (no_frame c au at2 r.0 r.1 s)
  feed_once last ChannelsChanged NotIndependent r s = read_both last ChannelsChanged NotIndependent r s
  feed_once last ChannelsChanged RateChanged r s = read_both last ChannelsChanged RateChanged r s
  feed_once last ChannelsChanged ChannelsChanged r s = read_both last ChannelsChanged ChannelsChanged r s
  feed_once last ChannelsChanged (Carry e2) r s = read_both last ChannelsChanged (Carry e2) r s
  feed_once last ChannelsChanged (TooFew h2 n2) r s = read_both last ChannelsChanged (TooFew h2 n2) r s
  feed_once last ChannelsChanged CoreFault r s = absurd s
  feed_once last ChannelsChanged (Memory e2) r s = absurd s
  feed_once last ChannelsChanged Stopped r s = absurd s
  feed_once last (Carry e1) (FrameFault at2) r s = absurd (no_frame c au at2 r.0 r.1 s)
  feed_once last (Carry e1) NotIndependent r s = read_both last (Carry e1) NotIndependent r s
  feed_once last (Carry e1) RateChanged r s = read_both last (Carry e1) RateChanged r s
  feed_once last (Carry e1) ChannelsChanged r s = read_both last (Carry e1) ChannelsChanged r s
  feed_once last (Carry e1) (Carry e2) r s = read_both last (Carry e1) (Carry e2) r s
  feed_once last (Carry e1) (TooFew h2 n2) r s = read_both last (Carry e1) (TooFew h2 n2) r s
  feed_once last (Carry e1) CoreFault r s = absurd s
  feed_once last (Carry e1) (Memory e2) r s = absurd s
  feed_once last (Carry e1) Stopped r s = absurd s
  feed_once last (TooFew h1 n1) (FrameFault at2) r s = absurd (no_frame c au at2 r.0 r.1 s)
  feed_once last (TooFew h1 n1) NotIndependent r s = read_both last (TooFew h1 n1) NotIndependent r s
  feed_once last (TooFew h1 n1) RateChanged r s = read_both last (TooFew h1 n1) RateChanged r s
  feed_once last (TooFew h1 n1) ChannelsChanged r s = read_both last (TooFew h1 n1) ChannelsChanged r s
  feed_once last (TooFew h1 n1) (Carry e2) r s = read_both last (TooFew h1 n1) (Carry e2) r s
  feed_once last (TooFew h1 n1) (TooFew h2 n2) r s = read_both last (TooFew h1 n1) (TooFew h2 n2) r s
  feed_once last (TooFew h1 n1) CoreFault r s = absurd s
  feed_once last (TooFew h1 n1) (Memory e2) r s = absurd s
  feed_once last (TooFew h1 n1) Stopped r s = absurd s
  feed_once last CoreFault f r s = absurd r
  feed_once last (Memory e1) f r s = absurd r
  feed_once last Stopped f r s = absurd r

  start_once : (e f : PlayFault) → RefusesAt d c au e → RefusesAt d c au f → e ≡ f
  start_once (FrameFault at1) (FrameFault at2) r s = ap (λ (x : ℕ). FrameFault x) (one_short c au at1 at2 r s)
  start_once (FrameFault at1) NotIndependent r s = absurd s
  start_once (FrameFault at1) RateChanged r s = absurd s
  start_once (FrameFault at1) ChannelsChanged r s = absurd s
  start_once (FrameFault at1) (Carry e2) r s = absurd (no_frame c au at1 s.0 s.1 r)
  start_once (FrameFault at1) (TooFew h2 n2) r s = absurd (no_frame c au at1 s.0 s.1 r)
  start_once (FrameFault at1) CoreFault r s = absurd s
  start_once (FrameFault at1) (Memory e2) r s = absurd s
  start_once (FrameFault at1) Stopped r s = absurd s
  start_once NotIndependent f r s = absurd r
  start_once RateChanged f r s = absurd r
  start_once ChannelsChanged f r s = absurd r
  start_once (Carry e1) (FrameFault at2) r s = absurd (no_frame c au at2 r.0 r.1 s)
  start_once (Carry e1) NotIndependent r s = absurd s
  start_once (Carry e1) RateChanged r s = absurd s
  start_once (Carry e1) ChannelsChanged r s = absurd s
  start_once (Carry e1) (Carry e2) r s = one_carry c r.0 e1 e2 r.2 (subst (λ (x : Frame). IsFirst c x e2) (one_frame c au r.0 s.0 r.1 s.1) s.2)
  start_once (Carry e1) (TooFew h2 n2) r s = absurd (no_carry d c r.0 e1 h2 n2 (subst (λ (x : Frame). IsShortOf d c x h2 n2) (one_frame c au r.0 s.0 r.1 s.1) s.2) r.2)
  start_once (Carry e1) CoreFault r s = absurd s
  start_once (Carry e1) (Memory e2) r s = absurd s
  start_once (Carry e1) Stopped r s = absurd s
  start_once (TooFew h1 n1) (FrameFault at2) r s = absurd (no_frame c au at2 r.0 r.1 s)
  start_once (TooFew h1 n1) NotIndependent r s = absurd s
  start_once (TooFew h1 n1) RateChanged r s = absurd s
  start_once (TooFew h1 n1) ChannelsChanged r s = absurd s
  start_once (TooFew h1 n1) (Carry e2) r s = absurd (no_carry d c r.0 e2 h1 n1 r.2 (subst (λ (x : Frame). IsFirst c x e2) (one_frame c au r.0 s.0 r.1 s.1) s.2))
  start_once (TooFew h1 n1) (TooFew h2 n2) r s = one_count d c r.0 h1 n1 h2 n2 r.2 (subst (λ (x : Frame). IsShortOf d c x h2 n2) (one_frame c au r.0 s.0 r.1 s.1) s.2)
  start_once (TooFew h1 n1) CoreFault r s = absurd s
  start_once (TooFew h1 n1) (Memory e2) r s = absurd s
  start_once (TooFew h1 n1) Stopped r s = absurd s
  start_once CoreFault f r s = absurd r
  start_once (Memory e1) f r s = absurd r
  start_once Stopped f r s = absurd r

pub refused_once : (d : Definitions) → IsRefusedOnce d
refused_once d = record { feed = λ last c au. feed_once d c au last; start = λ c au. start_once d c au }
