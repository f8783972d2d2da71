-- A command on a whole stream, to its end.
use Rattle.std.proofs.Common.{◌≡◌, ℕ, List, ◌++◌, Option, Some, None, Result, Ok, Err, refl, sym, ap, subst, ◌∙◌, inl, inr}
use Rattle.loas.specs.declared.fault.LoasFault.TheVariants as loas
use Rattle.latm.specs.declared.stream.Stream.{Stream}
use Rattle.tool_text.specs.declared.refusal.Refusal.{Refusal}
use Rattle.tool_text.specs.RefusalText.{refusal_text}
use Rattle.au_stream.specs.declared.fault.StreamFault.{StreamFault}
use Rattle.au_stream.specs.declared.fault.StreamFault.TheVariants as streams
use Rattle.au_stream.specs.Frames.{Frame}
use Rattle.au_stream.specs.Script.{Mark, SyncLost, BadElement, Truncated, IsScript}
use Rattle.au_stream.specs.Taking.{Seen}
use Rattle.au_stream.specs.Whole.{IsStream, AnswersWhole, ReadsWhole}
use Rattle.commands.specs.declared.frame_end.FrameEnd.{FrameEnd}
use Rattle.commands.specs.declared.frame_end.FrameEnd.TheVariants as ends
use Rattle.commands.specs.declared.outcome.Outcome.{Outcome}
use Rattle.commands.specs.declared.outcome.Outcome.TheVariants as is
use Rattle.commands.specs.Ending.{Traces, IsIdle, refusal_of_mark}
use Rattle.commands.specs.OneFrame.{HandlesEnd}
use Rattle.commands.specs.Doing.{DoesSource, IsRefusedBy, Becomes, BecomesOfEnd}
use Rattle.commands.specs.Wholes.{WholeCommand, EndsWhole}
use Rattle.commands.proofs.Going.{traces}

idle : (w w' : Option (List ℕ)) (fed : ℕ) → w' ≡ w → IsIdle (traces w w' fed fed)
idle w w' fed e = record { written = e; fed = refl }

-- ---- a stream was read

refused : (c : WholeCommand) (text taken : List ℕ) (stream : Stream) (r : Refusal) (t : Traces) (o : Outcome) → IsStream text stream → c.Refuses stream r → IsRefusedBy None (Some r) o → IsIdle t → EndsWhole c text taken t o
refused c text taken stream r t is.Done s k b i = absurd b
refused c text taken stream r t (is.Refused words) s k b i =
    let same : r ≡ b.0 = cc b.1 in
    (r, inl (record { stream = stream; is = s; refuses = k }), b.2 ∙ ap (refusal_text None) (sym same), i)
refused c text taken stream r t is.ReadFault s k b i = absurd b
refused c text taken stream r t is.WriteFault s k b i = absurd b
refused c text taken stream r t is.CoreFault s k b i = absurd b
refused c text taken stream r t (is.Memory e) s k b i = inl i
refused c text taken stream r t is.TooLarge s k b i = absurd b

given : (c : WholeCommand) (text taken : List ℕ) (stream : Stream) (w w' : Option (List ℕ)) (fed : ℕ) (answer : Result (Unit {0}) FrameEnd) (o : Outcome) → IsStream text stream → HandlesEnd (c.Refuses stream) (c.Writes stream) w w' answer → BecomesOfEnd None answer o
    → EndsWhole c text taken (traces w w' fed fed) o
given c text taken stream w w' fed (Ok u) o s h b = subst (λ (x : Outcome). EndsWhole c text taken (traces w w' fed fed) x) (sym b) (record { stream = stream; is = s; did = h; fed = refl })
given c text taken stream w w' fed (Err (ends.Refused r)) o s h b = refused c text taken stream r (traces w w' fed fed) o s h.0 b (idle w w' fed h.1)
given c text taken stream w w' fed (Err ends.WriteFault) o s h b = subst (λ (x : Outcome). EndsWhole c text taken (traces w w' fed fed) x) (sym b) (record { stream = stream; is = s; did = h; fed = refl })
given c text taken stream w w' fed (Err ends.CoreFault) o s h b = absurd h
given c text taken stream w w' fed (Err (ends.Memory e)) o s h b =
    subst (λ (x : Outcome). EndsWhole c text taken (traces w w' fed fed) x) (sym b)
    (elim h [
      | inl part ↦ inr (record { stream = stream; is = s; did = part; fed = refl })
      | inr same ↦ inl (idle w w' fed same)
    ])

pub whole_given : (c : WholeCommand) (before now : Seen) (stream : Stream) (w w' : Option (List ℕ)) (fed : ℕ) (answer : Result (Unit {0}) FrameEnd) (o : Outcome) → ReadsWhole before now (Ok stream) → HandlesEnd (c.Refuses stream) (c.Writes stream) w w' answer → BecomesOfEnd None answer o
    → DoesSource (EndsWhole c) before.left now.left (traces w w' fed fed) o
whole_given c before now stream w w' fed answer o p h b = record {
  taken = p.got;
  from = p.from;
  within = p.within;
  ended = p.ended;
  at_end = p.at_end;
  ends = λ rest e. given c (p.got ++ rest) p.got stream w w' fed answer o (p.answers rest e) h b;
}

-- ---- none was read

marked : (c : WholeCommand) (text taken : List ℕ) (fs : List Frame) (mark : Mark) (r : Option Refusal) (t : Traces) (o : Outcome) → IsScript text fs mark → refusal_of_mark mark ≡ r → IsRefusedBy None r o → IsIdle t → EndsWhole c text taken t o
marked c text taken fs mark r t is.Done s m b i = absurd b
marked c text taken fs mark r t (is.Refused words) s m b i = (b.0, inr (record { frames = fs; mark = mark; script = s; refusal = m ∙ b.1 }), b.2, i)
marked c text taken fs mark r t is.ReadFault s m b i = absurd b
marked c text taken fs mark r t is.WriteFault s m b i = absurd b
marked c text taken fs mark r t is.CoreFault s m b i = absurd b
marked c text taken fs mark r t (is.Memory e) s m b i = inl i
marked c text taken fs mark r t is.TooLarge s m b i = absurd b

unread : (c : WholeCommand) (text taken : List ℕ) (fault : StreamFault) (t : Traces) (o : Outcome) → AnswersWhole text taken (Err fault) → Becomes None fault o → IsIdle t → EndsWhole c text taken t o
unread c text taken streams.ReadFault t o a b i = subst (λ (x : Outcome). EndsWhole c text taken t x) (sym b) (a, i)
unread c text taken streams.TooLarge t o a b i = subst (λ (x : Outcome). EndsWhole c text taken t x) (sym b) (a.0, a.1, i)
unread c text taken (streams.Loas (loas.SyncLost byte)) t o a b i = marked c text taken a.0 (SyncLost byte) _ t o a.1 refl b i
unread c text taken (streams.Loas (loas.Truncated byte)) t o a b i = marked c text taken a.0 (Truncated byte) _ t o a.1 refl b i
unread c text taken (streams.Loas (loas.Memory e)) t o a b i = absurd a.1
unread c text taken (streams.Mux frame fault) t o a b i = marked c text taken a.0 (BadElement frame fault) _ t o a.1 refl b i
unread c text taken (streams.Memory e) t o a b i = subst (λ (x : Outcome). EndsWhole c text taken t x) (sym b) (inl i)

pub whole_unread : (c : WholeCommand) (before now : Seen) (fault : StreamFault) (w : Option (List ℕ)) (fed : ℕ) (o : Outcome) → ReadsWhole before now (Err fault) → Becomes None fault o → DoesSource (EndsWhole c) before.left now.left (traces w w fed fed) o
whole_unread c before now fault w fed o p b = record {
  taken = p.got;
  from = p.from;
  within = p.within;
  ended = p.ended;
  at_end = p.at_end;
  ends = λ rest e. unread c (p.got ++ rest) p.got fault (traces w w fed fed) o (p.answers rest e) b (idle w w fed refl);
}
