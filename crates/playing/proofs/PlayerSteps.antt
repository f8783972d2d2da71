-- One frame of a command that feeds it to a player.
use Rattle.std.proofs.Common.{◌≡◌, ℕ, ◌+◌, ◌≤◌, ◌⊎◌, Bool, true, false, List, [], ◌++◌, length, Option, Some, None, Result, Ok, Err, ℤ, refl, sym, ap, subst, ◌∙◌, arith, inl, inr}
use Rattle.std.specs.Prelude.{OnOk}
use Rattle.std.specs.Io.KnownBytes.{append_known}
use Rattle.std.specs.declared.alloc.AllocError.{AllocError}
use Rattle.causes.specs.Counts.{HasCause}
use Rattle.usac_cfg.specs.declared.usac_config.UsacConfig.{UsacConfig}
use Rattle.usac_cfg.specs.UsacConfig.{IsWellFormed}
use Rattle.preroll.specs.Carrying.{Shown, shown, Shows}
use Rattle.preroll.proofs.Judging.{shown_once}
use Rattle.core_iface.specs.Decoding.{Definitions}
use Rattle.core_iface.specs.Answering.{Meaning}
use Rattle.core_iface.specs.Samples.{sample_bytes}
use Rattle.outside.specs.declared.fault.DeviceFault.{DeviceFault}
use Rattle.outside.specs.declared.fault.DeviceFault.TheVariants as devices
use Rattle.switch_player.specs.declared.fault.PlayFault.{PlayFault}
use Rattle.switch_player.specs.declared.fault.PlayFault.TheVariants as plays
use Rattle.switch_player.specs.PlayerValue.{PlayerValue}
use Rattle.switch_player.specs.Playing.{played_block, standing, before_it}
use Rattle.switch_player.specs.Rules.{TakesBy}
use Rattle.switch_player.specs.Faults.{is_core_fault}
use Rattle.switch_player.specs.Feeding.{IsPlayed, IsRefused, FedUpTo, Answered}
use Rattle.tool_text.specs.declared.refusal.Refusal.{Refusal}
use Rattle.au_stream.specs.Frames.{Frame, config_of}
use Rattle.commands.specs.declared.frame_end.FrameEnd.{FrameEnd}
use Rattle.commands.specs.declared.frame_end.FrameEnd.TheVariants as ends
use Rattle.commands.specs.Commands.{Command, Takes, Grows}
use Rattle.commands.specs.Handing.{WrotePart, WroteLess}
use Rattle.commands.proofs.Handing.{less_part}
use Rattle.commands.specs.OneFrame.{CausedBy, Handles, DidFrame, DidPart, DidSome, from_device}
use Rattle.commands.proofs.Going.{append-none}
use Rattle.playing.specs.Playing.{play_shown}
use Rattle.playing.specs.PlayFaults.{refusal_of_play, IsEndOf}
use Rattle.playing.specs.PlayedFrame.{PlaysFrame, WroteUntil, StopsPlaying, StopsWriting}

-- A command calls its player with the frame's configuration and access unit, where the player refuses by these rules. It takes what
-- the player takes, and refuses by the player's rules; it writes nothing before that; and its units and its bytes are the player's.
pub record Follows (R : PlayFault → Type 0) (d : Definitions) (c : Command) (before : List Frame) (f : Frame) (config : UsacConfig) (au : List ℕ) (p : PlayerValue) (k : Meaning) : Type 0 where
  pub fits : IsWellFormed config
  pub config_is : config ≡ config_of f
  pub au_is : au ≡ f.au
  pub takes : TakesBy R → Takes c before f
  pub refuses : (e : PlayFault) (r : Refusal) → R e → refusal_of_play (length before) e ≡ Some r → c.Refuses before f r
  pub silent : c.opening before f ≡ []
  pub units : c.units before f ≡ before_it p.last (play_shown f) + 1
  pub grows : Grows c before f (sample_bytes (played_block d (standing p.last k.ready) (play_shown f)))

-- The frame was fed, and these bytes are its own.
pub record Fed (c : Command) (before : List Frame) (f : Frame) (k m : Meaning) (bytes : List ℕ) : Type 0 where
  pub takes : Takes c before f
  pub fed : m.fed ≡ k.fed + c.units before f
  pub grows : Grows c before f bytes

-- ---- a frame that was fed

-- a part of its bytes was written
pub fed_part : (c : Command) (before : List Frame) (f : Frame) (k m : Meaning) (w0 w1 : Option (List ℕ)) (bytes written : List ℕ) → Fed c before f k m bytes → written ≡ bytes → WrotePart w0 w1 written → DidPart c before f k m w0 w1
fed_part c before f k m w0 w1 bytes written h is part = record {
  takes = h.takes;
  fed = h.fed;
  bytes = bytes;
  grows = h.grows;
  written = subst (λ (x : List ℕ). WrotePart w0 w1 x) is part;
}

-- a write failed
pub fed_stopped : (c : Command) (before : List Frame) (f : Frame) (k m : Meaning) (w0 w1 : Option (List ℕ)) (bytes written : List ℕ) (fault : DeviceFault) → Fed c before f k m bytes → written ≡ bytes → WroteUntil fault w0 w1 written
    → Handles c before f k m w0 w1 (Err (from_device fault))
fed_stopped c before f k m w0 w1 bytes written devices.Failed h is part = inl (record { takes = h.takes; fed = h.fed; bytes = bytes; grows = h.grows; written = subst (λ (x : List ℕ). WroteLess w0 w1 x) is part })
fed_stopped c before f k m w0 w1 bytes written (devices.Memory e) h is part = inl (fed_part c before f k m w0 w1 bytes written h is part)

-- memory ran out before anything was written
pub fed_unwritten : (c : Command) (before : List Frame) (f : Frame) (k m : Meaning) (w : Option (List ℕ)) (bytes : List ℕ) → Fed c before f k m bytes → DidPart c before f k m w w ⊎ DidSome c before f k m w w
fed_unwritten c before f k m w bytes h = inl (fed_part c before f k m w w bytes bytes h refl (0, append-none w))

-- all was written
pub fed_did : (c : Command) (before : List Frame) (f : Frame) (k m : Meaning) (w0 w1 : Option (List ℕ)) (bytes written : List ℕ) → Fed c before f k m bytes → written ≡ bytes → w1 ≡ append_known w0 written → DidFrame c before f k m w0 w1
fed_did c before f k m w0 w1 bytes written h is wrote = record {
  takes = h.takes;
  fed = h.fed;
  bytes = bytes;
  grows = h.grows;
  written = wrote ∙ ap (λ (x : List ℕ). append_known w0 x) is;
}

-- ---- a call of the player

-- what the access unit of a frame shows
pub shown_here : (f : Frame) (config : UsacConfig) (au : List ℕ) (x : Shown) → IsWellFormed config → config ≡ config_of f → au ≡ f.au → Shows config au x → x ≡ play_shown f
shown_here f config au x fits ce ae h = shown_once config au x fits h ∙ (ap (λ (c : UsacConfig). shown c au) ce ∙ ap (λ (a : List ℕ). shown (config_of f) a) ae)

-- it played the frame
pub fed_frame : (R : PlayFault → Type 0) (d : Definitions) (c : Command) (before : List Frame) (f : Frame) (config : UsacConfig) (au : List ℕ) (p q : PlayerValue) (k m : Meaning) (s t : List ℤ)
    → Follows R d c before f config au p k → s ≡ [] → IsPlayed R d config au p q k m s t → Fed c before f k m (sample_bytes t)
fed_frame R d c before f config au p q k m s t call none h =
    let at = standing p.last k.ready in
    let same = shown_here f config au h.frame call.fits call.config_is call.au_is h.shows in
    let block : t ≡ played_block d at (play_shown f) = h.block ∙ (ap (λ (xs : List ℤ). xs ++ played_block d at h.frame) none ∙ ap (played_block d at) same) in
    let units : before_it p.last h.frame ≡ before_it p.last (play_shown f) = ap (before_it p.last) same in
    record {
      takes = call.takes h.takes;
      fed = omega (arith, h.fed, units, call.units);
      grows = call.grows ∙ ap (λ (xs : List ℤ). c.output before ++ sample_bytes xs) (sym block);
    }

-- ---- it answered a fault

-- a fault that is a refusal is no fault of the core
plain_refusal : (number : ℕ) (e : PlayFault) (r : Refusal) → refusal_of_play number e ≡ Some r → is_core_fault (Err e) ≡ false
plain_refusal number (plays.FrameFault at) r is = refl
plain_refusal number plays.NotIndependent r is = refl
plain_refusal number plays.RateChanged r is = refl
plain_refusal number plays.ChannelsChanged r is = refl
plain_refusal number (plays.Carry fault) r is = refl
plain_refusal number (plays.TooFew have need) r is = refl
plain_refusal number plays.CoreFault r is = absurd (cc)
plain_refusal number (plays.Memory e) r is = refl
plain_refusal number plays.Stopped r is = refl

no_refusal : (o : Option Refusal) (r : Refusal) → o ≡ None → o ≡ Some r → ⊥
no_refusal o r none some = cc

core_fault : true ≡ false → ⊥
core_fault e = cc

-- whose count rose
pub ended_caused : (number : ℕ) (e : PlayFault) (end : FrameEnd) (out faults_old faults_new : ℕ) → IsEndOf number e end → HasCause (is_core_fault (Err e)) faults_old faults_new → CausedBy out out faults_old faults_new (Err end)
ended_caused number e (ends.Refused r) out old new is h = (refl, (subst (λ (b : Bool). HasCause b old new) (plain_refusal number e r is) h).counted)
ended_caused number e ends.WriteFault out old new is h = absurd is
ended_caused number e ends.CoreFault out old new is h = (refl, (subst (λ (b : Bool). HasCause b old new) is h).counted)
ended_caused number e (ends.Memory a) out old new is h = (refl, (subst (λ (b : Bool). HasCause b old new) is.1 h).counted)

module _ (R : PlayFault → Type 0) (d : Definitions) (c : Command) (before : List Frame) (f : Frame) (config : UsacConfig) (au : List ℕ) (p q : PlayerValue) (k m : Meaning) (s t : List ℤ) (w : Option (List ℕ)) (number : ℕ) (call : Follows R d c before f config au p k) (n : number ≡ length before) where
  refused : (e : PlayFault) (end : FrameEnd) → is_core_fault (Err e) ≡ false → IsRefused R e p q k m s t → IsEndOf number e end → Handles c before f k m w w (Err end)
  refused e (ends.Refused r) plain h is = record {
    refuses = call.refuses e r h.refuses (ap (λ (i : ℕ). refusal_of_play i e) (sym n) ∙ is);
    fed = ap (λ (x : Meaning). x.fed) h.same.core;
    written = append-none w ∙ ap (λ (x : List ℕ). append_known w x) (sym call.silent);
  }
  refused e ends.WriteFault plain h is = absurd is
  refused e ends.CoreFault plain h is = absurd (core_fault (sym is ∙ plain))
  refused e (ends.Memory a) plain h is = inr (record { fed = omega (arith, ap (λ (x : Meaning). x.fed) h.same.core); written = (0, append-none w) })

  -- so many units were fed at most
  fed_most : (more : ℕ) (h : FedUpTo more config au p.last k m) → m.fed + 1 ≤ k.fed + (c.units before f + more)
  fed_most more h =
      let units : before_it p.last h.frame ≡ before_it p.last (play_shown f) = ap (before_it p.last) (shown_here f config au h.frame call.fits call.config_is call.au_is h.shows) in
      omega (arith, h.at_most, units, call.units)

  fed_little : (m.fed ≡ k.fed) ⊎ FedUpTo 1 config au p.last k m → m.fed ≤ k.fed + c.units before f
  fed_little (inl same) = omega (arith, same)
  fed_little (inr h) = omega (arith, fed_most 1 h)

  pub ended : (e : PlayFault) (end : FrameEnd) → p.stopped ≡ false → Answered (Err e) R d config au p q k m s t → IsEndOf number e end → Handles c before f k m w w (Err end)
  ended (plays.FrameFault at) end going h is = refused (plays.FrameFault at) end refl h is
  ended plays.NotIndependent end going h is = refused plays.NotIndependent end refl h is
  ended plays.RateChanged end going h is = refused plays.RateChanged end refl h is
  ended plays.ChannelsChanged end going h is = refused plays.ChannelsChanged end refl h is
  ended (plays.Carry fault) end going h is = refused (plays.Carry fault) end refl h is
  ended (plays.TooFew have need) end going h is = refused (plays.TooFew have need) end refl h is
  ended plays.CoreFault (ends.Refused r) going h is = absurd (no_refusal None r refl is)
  ended plays.CoreFault ends.WriteFault going h is = absurd is
  ended plays.CoreFault ends.CoreFault going h is = record {
    takes = call.takes h.1;
    at_least = h.3.at_least;
    fewer = omega (arith, fed_most 0 h.3);
    written = append-none w ∙ ap (λ (x : List ℕ). append_known w x) (sym call.silent);
  }
  ended plays.CoreFault (ends.Memory a) going h is = absurd (core_fault is.1)
  ended (plays.Memory x) (ends.Refused r) going h is = absurd (no_refusal None r refl is)
  ended (plays.Memory x) ends.WriteFault going h is = absurd is
  ended (plays.Memory x) ends.CoreFault going h is = absurd (core_fault (sym is))
  ended (plays.Memory x) (ends.Memory a) going h is = inr (record { fed = fed_little h.1; written = (0, append-none w) })
  ended plays.Stopped end going h is = absurd (core_fault (sym h.0 ∙ going))

  -- a frame at which the core failed was taken
  failed_taken : (e : PlayFault) → Answered (Err e) R d config au p q k m s t → is_core_fault (Err e) ≡ true → Takes c before f
  failed_taken (plays.FrameFault at) h failed = absurd (core_fault (sym failed))
  failed_taken plays.NotIndependent h failed = absurd (core_fault (sym failed))
  failed_taken plays.RateChanged h failed = absurd (core_fault (sym failed))
  failed_taken plays.ChannelsChanged h failed = absurd (core_fault (sym failed))
  failed_taken (plays.Carry fault) h failed = absurd (core_fault (sym failed))
  failed_taken (plays.TooFew have need) h failed = absurd (core_fault (sym failed))
  failed_taken plays.CoreFault h failed = call.takes h.1
  failed_taken (plays.Memory y) h failed = absurd (core_fault (sym failed))
  failed_taken plays.Stopped h failed = absurd (core_fault (sym failed))

-- ---- what the call for a frame did

module _ (R : PlayFault → Type 0) (d : Definitions) (config : UsacConfig) (au : List ℕ) (p q : PlayerValue) (k m : Meaning) (s t : List ℤ) (none : s ≡ []) where
  -- the player answered a fault
  pub stops_playing : (number : ℕ) (w : Option (List ℕ)) (e : PlayFault) (end : FrameEnd) → Answered (Err e) R d config au p q k m s t → IsEndOf number e end → StopsPlaying number R d config au p q k m t w w end
  stops_playing number w e end h is = record { fault = e; answered = subst (λ (x : List ℤ). Answered (Err e) R d config au p q k m x t) none h; ends = is; written = refl }

  played_anew : IsPlayed R d config au p q k m s t → IsPlayed R d config au p q k m [] t
  played_anew h = subst (λ (x : List ℤ). IsPlayed R d config au p q k m x t) none h

  -- a write failed
  pub stops_writing : (w0 w1 : Option (List ℕ)) (written : List ℕ) (fault : DeviceFault) → IsPlayed R d config au p q k m s t → written ≡ sample_bytes t → WroteLess w0 w1 written → StopsWriting R d config au p q k m t w0 w1 (from_device fault)
  stops_writing w0 w1 written fault h is part = record { played = played_anew h; fault = fault; ends = refl; written = by_fault fault (subst (λ (x : List ℕ). WroteLess w0 w1 x) is part) }
    where
      by_fault : (x : DeviceFault) → WroteLess w0 w1 (sample_bytes t) → WroteUntil x w0 w1 (sample_bytes t)
      by_fault devices.Failed less = less
      by_fault (devices.Memory e) less = less_part w0 w1 (sample_bytes t) less

  -- memory ran out before anything was written
  pub stops_unwritten : (w : Option (List ℕ)) (e : AllocError) → IsPlayed R d config au p q k m s t → StopsWriting R d config au p q k m t w w (ends.Memory e)
  stops_unwritten w e h = record { played = played_anew h; fault = devices.Memory e; ends = refl; written = (0, append-none w) }

  -- all was written
  pub plays_all : (w0 w1 : Option (List ℕ)) (written : List ℕ) → IsPlayed R d config au p q k m s t → written ≡ sample_bytes t → w1 ≡ append_known w0 written → IsPlayed R d config au p q k m [] t × (w1 ≡ append_known w0 (sample_bytes t))
  plays_all w0 w1 written h is wrote = (played_anew h, wrote ∙ ap (append_known w0) is)

-- a fault of the core alone ends so
pub no_core_end : (number : ℕ) (e : PlayFault) (end : FrameEnd) → IsEndOf number e end → is_core_fault (Err e) ≡ false → end ≡ ends.CoreFault → ⊥
no_core_end number e end is plain here = core_fault (sym (subst (λ (x : FrameEnd). IsEndOf number e x) here is) ∙ plain)

-- ---- what was done with the frame

not_from_device : (fault : DeviceFault) → ends.CoreFault ≡ from_device fault → ⊥
not_from_device devices.Failed e = cc
not_from_device (devices.Memory a) e = cc

module _ (R : PlayFault → Type 0) (d : Definitions) (c : Command) (before : List Frame) (f : Frame) (config : UsacConfig) (au : List ℕ) (p q : PlayerValue) (k m : Meaning) (t : List ℤ) (w0 w1 : Option (List ℕ)) (number : ℕ) (call : Follows R d c before f config au p k) (n : number ≡ length before) where
  pub handled : (result : Result (Unit {0}) FrameEnd) → p.stopped ≡ false → PlaysFrame result number R d config au p q k m t w0 w1 → Handles c before f k m w0 w1 result
  handled (Ok x) going h = fed_did c before f k m w0 w1 (sample_bytes t) (sample_bytes t) (fed_frame R d c before f config au p q k m [] t call refl h.0) refl h.1
  handled (Err end) going (inl h) =
      subst (λ (w : Option (List ℕ)). Handles c before f k m w0 w (Err end)) (sym h.written) (ended R d c before f config au p q k m [] t w0 number call n h.fault end going h.answered h.ends)
  handled (Err end) going (inr h) =
      subst (λ (e : FrameEnd). Handles c before f k m w0 w1 (Err e)) (sym h.ends)
      (fed_stopped c before f k m w0 w1 (sample_bytes t) (sample_bytes t) h.fault (fed_frame R d c before f config au p q k m [] t call refl h.played) refl h.written)

  failed_of : PlaysFrame (Err ends.CoreFault) number R d config au p q k m t w0 w1 → Takes c before f
  failed_of (inl h) = failed_taken R d c before f config au p q k m [] t w0 number call n h.fault h.answered h.ends
  failed_of (inr h) = absurd (not_from_device h.fault h.ends)

  -- a calm core does not fail at a frame whose configuration it serves
  pub handled_calm : (result : Result (Unit {0}) FrameEnd) → PlaysFrame result number R d config au p q k m t w0 w1 → (Takes c before f → d.serves (config_of f)) → (d.serves config → result ≡ Err ends.CoreFault → ⊥) → result ≡ Err ends.CoreFault → ⊥
  handled_calm result h served calm failed =
      let taken = failed_of (subst (λ (r : Result (Unit {0}) FrameEnd). PlaysFrame r number R d config au p q k m t w0 w1) failed h) in
      calm (subst (λ (x : UsacConfig). d.serves x) (sym call.config_is) (served taken)) failed

  -- what holds where it was played
  pub where_played : {P : Type 0} (result : Result (Unit {0}) FrameEnd) → (IsPlayed R d config au p q k m [] t → P) → PlaysFrame result number R d config au p q k m t w0 w1 → OnOk result P
  where_played (Ok x) holds h = holds h.0
  where_played (Err end) holds h = tt
