-- A command on a source, from frame to frame and to its end.
use Rattle.std.proofs.Common.{◌≡◌, ℕ, ◌+◌, ◌*◌, ◌≤◌, true, List, [], ◌∷◌, ◌++◌, length, take, Option, Some, None, Result, Ok, Err, refl, sym, ap, subst, ◌∙◌, append_assoc, arith, inl, inr}
use Rattle.std.specs.Prelude.{◌⊎◌}
use Rattle.std.specs.Option.{option_map}
use Rattle.std.proofs.lemmas.List.{append-nil, take_all}
use Rattle.std.proofs.Math.Seq.{take-append-add}
use Rattle.std.specs.Io.KnownBytes.{prepend_known, append_known}
use Rattle.causes.specs.Counts.{Rose}
use Rattle.core_iface.specs.Answering.{Meaning}
use Rattle.latm.specs.declared.mux_config.MuxConfig.{MuxConfig}
use Rattle.loas.specs.declared.fault.LoasFault.TheVariants as loas
use Rattle.tool_text.specs.declared.refusal.Refusal.{Refusal}
use Rattle.tool_text.specs.declared.refusal.Within.{Within}
use Rattle.tool_text.specs.RefusalText.{refusal_text}
use Rattle.tool_text.specs.Faults.{refusal_of_loas, refusal_of_mux}
use Rattle.au_stream.specs.declared.event.Event.{Event}
use Rattle.au_stream.specs.declared.fault.StreamFault.{StreamFault}
use Rattle.au_stream.specs.declared.fault.StreamFault.TheVariants as streams
use Rattle.au_stream.specs.Frames.{Frame, last_of}
use Rattle.au_stream.specs.Script.{Mark, End, SyncLost, BadElement, Truncated, HasFrames, IsScript}
use Rattle.au_stream.specs.Reading.{Reading, HasRead}
use Rattle.au_stream.specs.Taking.{Seen}
use Rattle.au_stream.specs.Events.{IsEvent, Answers, Reads}
use Rattle.au_stream.specs.declared.event.EventHead.{EventHead}
use Rattle.au_stream.specs.Views.{next_event, after_next}
use Rattle.au_stream.proofs.FrameLists.{last-push}
use Rattle.au_stream.proofs.Scripts.{frames_of_script}
use Rattle.au_stream.proofs.Near.{reads_near}
use Rattle.au_stream.proofs.Steps.{read_frames}
use Rattle.commands.specs.declared.frame_end.FrameEnd.{FrameEnd}
use Rattle.commands.specs.declared.frame_end.FrameEnd.TheVariants as frames
use Rattle.commands.specs.declared.outcome.Outcome.{Outcome}
use Rattle.commands.specs.declared.outcome.Outcome.TheVariants as is
use Rattle.commands.specs.Commands.{Command, IsCommand, Takes, TakesAll, TakesEnd, units_over, work, most_units}
use Rattle.commands.specs.OneFrame.{Handles, DidFrame, DidPart, CausedBy, HandlesEnd}
use Rattle.commands.specs.Handing.{WrotePart, WroteLess}
use Rattle.commands.specs.Ending.{Traces, WroteAll, WroteFront, WroteClosed, WroteClosedFront, WroteWithin, WroteOpening, Reaches, WroteOpened, TakesFirst, Passes, Ends, refusal_of_mark}
use Rattle.commands.specs.Causes.{Counts, Caused}
use Rattle.commands.specs.Doing.{GoesOn, DoesSource, IsRefusedBy, Becomes, BecomesOf, BecomesOfEnd, Handed, EndsHanding, DoesFrames}
use Rattle.commands.proofs.Handing.{append-append, into_of}

pub prepend-none : (known : Option (List ℕ)) → known ≡ prepend_known [] known
prepend-none None = refl
prepend-none (Some bytes) = refl

pub prepend-prepend : (a b : List ℕ) (known : Option (List ℕ)) → prepend_known a (prepend_known b known) ≡ prepend_known (a ++ b) known
prepend-prepend a b None = refl
prepend-prepend a b (Some xs) = ap Some (sym (append_assoc a b xs))

pub append-none : (known : Option (List ℕ)) → known ≡ append_known known []
append-none None = refl
append-none (Some bytes) = ap Some (sym (append-nil bytes))

-- ---- units that are fed

units_push : (c : Command) (before fs : List Frame) (f : Frame) → units_over c before (fs ++ f ∷ []) ≡ units_over c before fs + c.units (before ++ fs) f
units_push c before [] f = omega (arith, ap (λ (x : List Frame). c.units x f) (append-nil before))
units_push c before (g ∷ fs) f = omega (arith, units_push c (before ++ g ∷ []) fs f, ap (λ (x : List Frame). c.units x f) (append_assoc before (g ∷ []) fs))

-- the work of one frame more
pub work_more : (c : Command) (fs : List Frame) (f : Frame) → work c (fs ++ f ∷ []) ≡ work c fs + c.units fs f
work_more c fs f = units_push c [] fs f

units_few : (j : Command) (laws : IsCommand j) (before fs : List Frame) → units_over j before fs ≤ most_units * length fs
units_few j laws before [] = omega arith
units_few j laws before (f ∷ fs) = omega (arith, laws.few before f, units_few j laws (before ++ f ∷ []) fs)

-- ---- one more frame

pub takes_push : (c : Command) (before fs : List Frame) (f : Frame) → TakesAll c before fs → Takes c (before ++ fs) f → TakesAll c before (fs ++ f ∷ [])
takes_push c before [] f h t = (subst (λ (x : List Frame). Takes c x f) (append-nil before) t, tt)
takes_push c before (g ∷ fs) f h t = (h.0, takes_push c (before ++ g ∷ []) fs f h.1 (subst (λ (x : List Frame). Takes c x f) (sym (append_assoc before (g ∷ []) fs)) t))

pub starts : (j : Command) (laws : IsCommand j) (H : List Frame → Type 0) (old : Meaning) (left before : Option (List ℕ)) (reader : Reading) → HasRead [] [] reader → H [] → GoesOn j H old old left left before before reader
starts j laws H old left before reader read none = record {
  given = [];
  got = [];
  from = prepend-none left;
  read = read;
  takes = tt;
  holds = none;
  fed = omega arith;
  output = append-none before ∙ ap (λ (x : List ℕ). append_known before x) (sym laws.nothing);
}

-- a frame that was found, by its event and the reader behind it
pub shown : (got : List ℕ) (given : List Frame) (old new behind : Reading) (before now : Seen) (head : EventHead) (event : Event) → event ≡ next_event new head → behind ≡ after_next new
    → Reads got given old (after_next new) before now (Ok (Some (next_event new head))) → Reads got given old behind before now (Ok (Some event))
shown got given old new behind before now head event is passed reads = rw (is, passed) reads

-- the configuration in force is that of the last frame, behind the frame that was found
pub in_force_there : (mux : Option MuxConfig) (new behind : Reading) → mux ≡ new.in_force → behind ≡ after_next new → (taken : List ℕ) (fs : List Frame) → HasRead taken fs behind → mux ≡ option_map (λ (f : Frame). f.mux) (last_of fs)
in_force_there mux new behind is passed taken fs read = is ∙ sym (ap (λ (r : Reading). r.in_force) passed) ∙ read.last

-- the frame of an event
pub record Next (got : List ℕ) (given : List Frame) (new : Reading) (event : Event) (mux : MuxConfig) : Type 0 where
  pub frame : Frame
  pub is : IsEvent given frame event
  pub read : HasRead got (given ++ frame ∷ []) new
  pub mux_is : mux ≡ frame.mux

pub next_frame : (got : List ℕ) (given : List Frame) (old new : Reading) (before now : Seen) (event : Event) (mux : MuxConfig) → (p : Reads got given old new before now (Ok (Some event)))
    → ((taken : List ℕ) (fs : List Frame) → HasRead taken fs new → Some mux ≡ option_map (λ (f : Frame). f.mux) (last_of fs)) → Next (got ++ p.more) given new event mux
next_frame got given old new before now event mux p last =
    let k = p.leaves in
    let e : Some mux ≡ Some k.0.mux = last (got ++ p.more) (given ++ k.0 ∷ []) k.2 ∙ ap (λ (l : Option Frame). option_map (λ (f : Frame). f.mux) l) (last-push given k.0) in
    record { frame = k.0; is = k.1; read = k.2; mux_is = cc }

-- behind a frame a configuration is in force
pub no_frame : (got : List ℕ) (given : List Frame) (old new : Reading) (before now : Seen) (event : Event) → (p : Reads got given old new before now (Ok (Some event)))
    → ((taken : List ℕ) (fs : List Frame) → HasRead taken fs new → None ≡ option_map (λ (f : Frame). f.mux) (last_of fs)) → ⊥
no_frame got given old new before now event p last =
    let k = p.leaves in
    let e : None ≡ Some k.0.mux = last (got ++ p.more) (given ++ k.0 ∷ []) k.2 ∙ ap (λ (l : Option Frame). option_map (λ (f : Frame). f.mux) l) (last-push given k.0) in
    cc

-- how many units were fed
pub given_fed : (j : Command) (laws : IsCommand j) (H : List Frame → Type 0) (old now : Meaning) (left0 left1 before w1 : Option (List ℕ)) (r : Reading) → GoesOn j H old now left0 left1 before w1 r → now.fed ≤ old.fed + most_units * r.count
given_fed j laws H old now left0 left1 before w1 r s = omega (arith, s.fed, units_few j laws [] s.given, s.read.holds.counted)

-- the output for the frames before a frame, and bytes of its own
output_front : (j : Command) (given : List Frame) (before w1 w2 : Option (List ℕ)) (bytes : List ℕ) → w1 ≡ append_known before (j.output given) → w2 ≡ append_known w1 bytes → w2 ≡ append_known before (j.output given ++ bytes)
output_front j given before w1 w2 bytes one two = two ∙ ap (λ (w : Option (List ℕ)). append_known w bytes) one ∙ append-append before (j.output given) bytes

-- one frame more was handled
pub goes_on : (j : Command) (H K : List Frame → Type 0) (old mid now : Meaning) (left0 left1 left2 before w1 w2 : Option (List ℕ)) (r1 r2 : Reading) (f1 f2 : ℕ) (event : Event) (mux : MuxConfig)
    → (s : GoesOn j H old mid left0 left1 before w1 r1) → (p : Reads s.got s.given r1 r2 (record { left = left1; faults = f1 }) (record { left = left2; faults = f2 }) (Ok (Some event)))
    → (n : Next (s.got ++ p.more) s.given r2 event mux) → DidFrame j s.given n.frame mid now w1 w2 → K (s.given ++ n.frame ∷ []) → GoesOn j K old now left0 left2 before w2 r2
goes_on j H K old mid now left0 left1 left2 before w1 w2 r1 r2 f1 f2 event mux s p n d held = record {
  given = s.given ++ n.frame ∷ [];
  got = s.got ++ p.more;
  from = s.from ∙ ap (prepend_known s.got) p.from ∙ prepend-prepend s.got p.more left2;
  read = n.read;
  takes = takes_push j [] s.given n.frame s.takes d.takes;
  holds = held;
  fed = omega (arith, d.fed, s.fed, work_more j s.given n.frame);
  output = output_front j s.given before w1 w2 d.bytes s.output d.written ∙ ap (λ (x : List ℕ). append_known before x) (sym d.grows);
}

-- ---- the end

abbrev pub traces : Option (List ℕ) → Option (List ℕ) → ℕ → ℕ → Traces
traces before after fed_before fed_after = record { written_before = before; written_after = after; fed_before = fed_before; fed_after = fed_after }

-- what was written between two frames
pub wrote_all : (j : Command) (H : List Frame → Type 0) (old mid : Meaning) (left0 left1 before w1 : Option (List ℕ)) (r : Reading) (s : GoesOn j H old mid left0 left1 before w1 r) → WroteAll j s.given (traces before w1 old.fed mid.fed)
wrote_all j H old mid left0 left1 before w1 r s = record { written = s.output; fed = s.fed }

pub all_front : (c : Command) (fs : List Frame) (t : Traces) → WroteAll c fs t → WroteFront c fs t
all_front c fs t w =
    let xs = c.output fs in
    record { written = (length xs, w.written ∙ ap (λ (x : List ℕ). append_known t.written_before x) (sym (take_all (length xs) xs (omega arith)))); fed = omega (arith, w.fed) }

-- the same where nothing more was done
same_all : (c : Command) (fs : List Frame) (before w1 w2 : Option (List ℕ)) (fed0 fed1 fed2 : ℕ) → WroteAll c fs (traces before w1 fed0 fed1) → w2 ≡ w1 → fed2 ≡ fed1 → WroteAll c fs (traces before w2 fed0 fed2)
same_all c fs before w1 w2 fed0 fed1 fed2 w same fed = record { written = same ∙ w.written; fed = fed ∙ w.fed }

-- a front of the bytes of one more frame
part_front : (j : Command) (H : List Frame → Type 0) (old mid now : Meaning) (left0 left1 before w1 w2 : Option (List ℕ)) (r : Reading) (s : GoesOn j H old mid left0 left1 before w1 r) (f : Frame) → DidPart j s.given f mid now w1 w2
    → WroteFront j (s.given ++ f ∷ []) (traces before w2 old.fed now.fed)
part_front j H old mid now left0 left1 before w1 w2 r s f d =
    let xs = j.output s.given in
    let count = d.written.0 in
    record {
      written = (length xs + count, output_front j s.given before w1 w2 (take count d.bytes) s.output d.written.1 ∙ ap (λ (x : List ℕ). append_known before x) (sym (take-append-add xs d.bytes count) ∙ ap (λ (x : List ℕ). take (length xs + count) x) (sym d.grows)));
      fed = omega (arith, d.fed, s.fed, work_more j s.given f);
    }

-- how the command ended, by how it ends on all bytes of the source
stop : (E : List ℕ → List ℕ → Traces → Outcome → Type 0) (got : List ℕ) (given : List Frame) (r1 r2 : Reading) (left0 left1 left2 : Option (List ℕ)) (f1 f2 : ℕ) (answer : Result (Option Event) StreamFault) (t : Traces) (outcome : Outcome) → left0 ≡ prepend_known got left1
    → (p : Reads got given r1 r2 (record { left = left1; faults = f1 }) (record { left = left2; faults = f2 }) answer)
    → ((rest : List ℕ) → (p.ended ≡ true → rest ≡ []) → E ((got ++ p.more) ++ rest) (got ++ p.more) t outcome) → DoesSource E left0 left2 t outcome
stop E got given r1 r2 left0 left1 left2 f1 f2 answer t outcome from p ends = record {
  taken = got ++ p.more;
  from = from ∙ ap (prepend_known got) p.from ∙ prepend-prepend got p.more left2;
  within = p.within;
  ended = p.ended;
  at_end = p.at_end;
  ends = ends;
}

-- the end of the stream, and what is written there
closed_all : (c : Command) (fs : List Frame) (before w1 w2 : Option (List ℕ)) (fed0 fed1 : ℕ) (closing : List ℕ) → WroteAll c fs (traces before w1 fed0 fed1) → TakesEnd c fs → c.Closes fs closing → w2 ≡ append_known w1 closing → WroteClosed c fs (traces before w2 fed0 fed1)
closed_all c fs before w1 w2 fed0 fed1 closing w takes closes more = record {
  takes = takes;
  closing = closing;
  closes = closes;
  written = more ∙ ap (λ (x : Option (List ℕ)). append_known x closing) w.written ∙ append-append before (c.output fs) closing;
  fed = w.fed;
}

closed_part : (c : Command) (fs : List Frame) (before w1 w2 : Option (List ℕ)) (fed0 fed1 : ℕ) (closing : List ℕ) → WroteAll c fs (traces before w1 fed0 fed1) → TakesEnd c fs → c.Closes fs closing → WroteLess w1 w2 closing → WroteClosedFront c fs (traces before w2 fed0 fed1)
closed_part c fs before w1 w2 fed0 fed1 closing w takes closes part =
    record { takes = takes; closing = closing; closes = closes; written = into_of before w1 w2 (c.output fs) closing w.written part; fed = w.fed }

all_first : (c : Command) (text : List ℕ) (fs : List Frame) → Passes c text fs End → TakesFirst c text fs
all_first c text fs p = record { later = []; of_file = subst (λ (x : List Frame). HasFrames text x) (sym (append-nil fs)) (frames_of_script text fs End p.script); takes = p.takes }

-- all frames are taken, and the end is refused
ends_end : (c : Command) (text taken : List ℕ) (fs : List Frame) (r : Refusal) (t : Traces) (outcome : Outcome) → IsRefusedBy c.within (Some r) outcome → Passes c text fs End → c.RefusesEnd fs r → WroteAll c fs t → Ends c text taken t outcome
ends_end c text taken fs r t is.Done b p k w = absurd b
ends_end c text taken fs r t (is.Refused words) b p k w =
    let same : r ≡ b.0 = cc b.1 in
    (fs, r, inr (inr (record { passes = p; refuses = k; wrote = w })), b.2 ∙ ap (refusal_text c.within) (sym same))
ends_end c text taken fs r t is.ReadFault b p k w = absurd b
ends_end c text taken fs r t is.WriteFault b p k w = absurd b
ends_end c text taken fs r t is.CoreFault b p k w = absurd b
ends_end c text taken fs r t (is.Memory e) b p k w = (fs, inl (inl (all_first c text fs p, all_front c fs t w)))
ends_end c text taken fs r t is.TooLarge b p k w = absurd b

-- the command goes on behind no refusal and no fault
refused_more : (within : Option Within) (r : Option Refusal) (outcome : Outcome) → IsRefusedBy within r outcome → outcome ≡ is.Done → ⊥
refused_more within r is.Done b e = b
refused_more within r (is.Refused words) b e = cc
refused_more within r is.ReadFault b e = b
refused_more within r is.WriteFault b e = b
refused_more within r is.CoreFault b e = b
refused_more within r (is.Memory x) b e = cc
refused_more within r is.TooLarge b e = b

becomes_more : (within : Option Within) (end : FrameEnd) (outcome : Outcome) → BecomesOf within end outcome → outcome ≡ is.Done → ⊥
becomes_more within (frames.Refused r) outcome b e = refused_more within (Some r) outcome b e
becomes_more within frames.WriteFault outcome b e = let never : is.WriteFault ≡ is.Done = sym b ∙ e in cc
becomes_more within frames.CoreFault outcome b e = let never : is.CoreFault ≡ is.Done = sym b ∙ e in cc
becomes_more within (frames.Memory x) outcome b e = let never : is.Memory x ≡ is.Done = sym b ∙ e in cc

fault_more : (within : Option Within) (fault : StreamFault) (outcome : Outcome) → Becomes within fault outcome → outcome ≡ is.Done → ⊥
fault_more within streams.ReadFault outcome b e = let never : is.ReadFault ≡ is.Done = sym b ∙ e in cc
fault_more within streams.TooLarge outcome b e = let never : is.TooLarge ≡ is.Done = sym b ∙ e in cc
fault_more within (streams.Loas x) outcome b e = refused_more within (refusal_of_loas x) outcome b e
fault_more within (streams.Mux frame x) outcome b e = refused_more within (refusal_of_mux frame x) outcome b e
fault_more within (streams.Memory x) outcome b e = let never : is.Memory x ≡ is.Done = sym b ∙ e in cc

pub done : (j : Command) (H : List Frame → Type 0) (old mid : Meaning) (left0 left1 left2 before w1 w2 : Option (List ℕ)) (r1 r2 : Reading) (f1 f2 : ℕ) (answer : Result (Unit {0}) FrameEnd) (outcome : Outcome) (within : Option Within)
    → (s : GoesOn j H old mid left0 left1 before w1 r1) → Reads s.got s.given r1 r2 (record { left = left1; faults = f1 }) (record { left = left2; faults = f2 }) (Ok None) → HandlesEnd (j.RefusesEnd s.given) (j.Closes s.given) w1 w2 answer → within ≡ j.within → BecomesOfEnd within answer outcome
    → DoesFrames j H left0 left2 (traces before w2 old.fed mid.fed) outcome
done j H old mid left0 left1 left2 before w1 w2 r1 r2 f1 f2 answer outcome within s p closed same becomes = record {
  frames = s.given;
  holds = λ e. s.holds;
  does = stop (EndsHanding j s.given) s.got s.given r1 r2 left0 left1 left2 f1 f2 (Ok None) (traces before w2 old.fed mid.fed) outcome s.from p
      (λ rest e.
      let passes : Passes j ((s.got ++ p.more) ++ rest) s.given End = record { script = p.answers rest e; takes = s.takes } in
      (by_answer ((s.got ++ p.more) ++ rest) (s.got ++ p.more) answer passes closed (subst (λ (x : Option Within). BecomesOfEnd x answer outcome) same becomes), handed ((s.got ++ p.more) ++ rest) answer passes closed becomes));
}
  where
    w : WroteAll j s.given (traces before w1 old.fed mid.fed)
    w = wrote_all j H old mid left0 left1 before w1 r1 s

    by_answer : (text taken : List ℕ) (a : Result (Unit {0}) FrameEnd) → Passes j text s.given End → HandlesEnd (j.RefusesEnd s.given) (j.Closes s.given) w1 w2 a → BecomesOfEnd j.within a outcome → Ends j text taken (traces before w2 old.fed mid.fed) outcome
    by_answer text taken (Ok u) passes c b =
        subst (λ (o : Outcome). Ends j text taken (traces before w2 old.fed mid.fed) o) (sym b) (s.given, passes, closed_all j s.given before w1 w2 old.fed mid.fed c.closing w c.takes c.closes c.written)
    by_answer text taken (Err (frames.Refused r)) passes c b = ends_end j text taken s.given r (traces before w2 old.fed mid.fed) outcome b passes c.0 (same_all j s.given before w1 w2 old.fed mid.fed mid.fed w c.1 refl)
    by_answer text taken (Err frames.WriteFault) passes c b =
        subst (λ (o : Outcome). Ends j text taken (traces before w2 old.fed mid.fed) o) (sym b) (s.given, inr (passes, closed_part j s.given before w1 w2 old.fed mid.fed c.closing w c.takes c.closes c.written))
    by_answer text taken (Err frames.CoreFault) passes c b = absurd c
    by_answer text taken (Err (frames.Memory x)) passes c b =
        subst (λ (o : Outcome). Ends j text taken (traces before w2 old.fed mid.fed) o) (sym b)
        (elim c [
          | inl part ↦ (s.given, inl (inr (passes, closed_part j s.given before w1 w2 old.fed mid.fed part.closing w part.takes part.closes part.written)))
          | inr same ↦ (s.given, inl (inl (all_first j text s.given passes, all_front j s.given (traces before w2 old.fed mid.fed) (same_all j s.given before w1 w2 old.fed mid.fed mid.fed w same refl))))
        ])

    handed : (text : List ℕ) (a : Result (Unit {0}) FrameEnd) → Passes j text s.given End → HandlesEnd (j.RefusesEnd s.given) (j.Closes s.given) w1 w2 a → BecomesOfEnd within a outcome → outcome ≡ is.Done → Handed j s.given text
    handed text (Ok u) passes c b e = record { passes = passes; takes = c.takes }
    handed text (Err end) passes c b e = absurd (becomes_more within end outcome b e)

-- all frames are taken, and the mark is a refusal
ends_mark : (c : Command) (text taken : List ℕ) (fs : List Frame) (mark : Mark) (r : Option Refusal) (t : Traces) (outcome : Outcome) → IsRefusedBy c.within r outcome → refusal_of_mark mark ≡ r → IsScript text fs mark → TakesAll c [] fs → WroteAll c fs t → Ends c text taken t outcome
ends_mark c text taken fs mark r t is.Done b m s h w = absurd b
ends_mark c text taken fs mark r t (is.Refused words) b m s h w = (fs, b.0, inr (inl (record { mark = mark; script = s; takes = h; refuses = m ∙ b.1; wrote = w })), b.2)
ends_mark c text taken fs mark r t is.ReadFault b m s h w = absurd b
ends_mark c text taken fs mark r t is.WriteFault b m s h w = absurd b
ends_mark c text taken fs mark r t is.CoreFault b m s h w = absurd b
ends_mark c text taken fs mark r t (is.Memory e) b m s h w = (fs, inl (inl (record { later = []; of_file = subst (λ (x : List Frame). HasFrames text x) (sym (append-nil fs)) (frames_of_script text fs mark s); takes = h }, all_front c fs t w)))
ends_mark c text taken fs mark r t is.TooLarge b m s h w = absurd b

pub ended : (j : Command) (H K : List Frame → Type 0) (old mid : Meaning) (left0 left1 left2 before w1 : Option (List ℕ)) (r1 r2 : Reading) (f1 f2 : ℕ) (fault : StreamFault) (outcome : Outcome) (within : Option Within)
    → (s : GoesOn j H old mid left0 left1 before w1 r1) → Reads s.got s.given r1 r2 (record { left = left1; faults = f1 }) (record { left = left2; faults = f2 }) (Err fault) → within ≡ j.within → Becomes within fault outcome
    → DoesFrames j K left0 left2 (traces before w1 old.fed mid.fed) outcome
ended j H K old mid left0 left1 left2 before w1 r1 r2 f1 f2 fault outcome within s p same becomes = record {
  frames = s.given;
  holds = λ e. absurd (fault_more within fault outcome becomes e);
  does = stop (EndsHanding j s.given) s.got s.given r1 r2 left0 left1 left2 f1 f2 (Err fault) (traces before w1 old.fed mid.fed) outcome s.from p (λ rest e. (by_fault fault rest (p.answers rest e) (subst (λ (x : Option Within). Becomes x fault outcome) same becomes), λ done. absurd (fault_more within fault outcome becomes done)));
}
  where
    t : Traces
    t = traces before w1 old.fed mid.fed

    w : WroteAll j s.given (traces before w1 old.fed mid.fed)
    w = wrote_all j H old mid left0 left1 before w1 r1 s

    by_fault : (f : StreamFault) (rest : List ℕ) → Answers ((s.got ++ p.more) ++ rest) (s.got ++ p.more) s.given (Err f) → Becomes j.within f outcome → Ends j ((s.got ++ p.more) ++ rest) (s.got ++ p.more) (traces before w1 old.fed mid.fed) outcome
    by_fault streams.ReadFault rest a b =
        subst (λ (o : Outcome). Ends j ((s.got ++ p.more) ++ rest) (s.got ++ p.more) (traces before w1 old.fed mid.fed) o) (sym b) (s.given, a.0, record { script = a.1; takes = s.takes }, a.2, w)
    by_fault streams.TooLarge rest a b =
        subst (λ (o : Outcome). Ends j ((s.got ++ p.more) ++ rest) (s.got ++ p.more) (traces before w1 old.fed mid.fed) o) (sym b) (s.given, record { script = a; takes = s.takes }, w)
    by_fault (streams.Loas (loas.SyncLost byte)) rest a b = ends_mark j ((s.got ++ p.more) ++ rest) (s.got ++ p.more) s.given (SyncLost byte) _ (traces before w1 old.fed mid.fed) outcome b refl a s.takes w
    by_fault (streams.Loas (loas.Truncated byte)) rest a b = ends_mark j ((s.got ++ p.more) ++ rest) (s.got ++ p.more) s.given (Truncated byte) _ (traces before w1 old.fed mid.fed) outcome b refl a s.takes w
    by_fault (streams.Loas (loas.Memory x)) rest a b = absurd a
    by_fault (streams.Mux frame x) rest a b = ends_mark j ((s.got ++ p.more) ++ rest) (s.got ++ p.more) s.given (BadElement frame x) _ (traces before w1 old.fed mid.fed) outcome b refl a s.takes w
    by_fault (streams.Memory x) rest a b =
        subst (λ (o : Outcome). Ends j ((s.got ++ p.more) ++ rest) (s.got ++ p.more) (traces before w1 old.fed mid.fed) o) (sym b) (s.given, inl (inl (record { later = a.0; of_file = a.1; takes = s.takes }, all_front j s.given (traces before w1 old.fed mid.fed) w)))

-- the frames up to one more are the first of the source
first_more : (c : Command) (got rest : List ℕ) (given : List Frame) (f : Frame) (r : Reading) → HasRead got (given ++ f ∷ []) r → TakesAll c [] given → Takes c given f → TakesFirst c (got ++ rest) (given ++ f ∷ [])
first_more c got rest given f r read h k =
    let a = read_frames got rest (given ++ f ∷ []) r read in
    record { later = a.0; of_file = a.1; takes = takes_push c [] given f h k }

-- a frame is refused
ends_frame : (c : Command) (text taken : List ℕ) (fs : List Frame) (f : Frame) (r : Refusal) (t : Traces) (outcome : Outcome) → IsRefusedBy c.within (Some r) outcome → Reaches c text fs f → c.Refuses fs f r → WroteOpened c fs f t → Ends c text taken t outcome
ends_frame c text taken fs f r t is.Done b a k w = absurd b
ends_frame c text taken fs f r t (is.Refused words) b a k w =
    let same : r ≡ b.0 = cc b.1 in
    (fs, r, inl (record { frame = f; later = a.later; of_file = a.of_file; takes = a.takes; refuses = k; wrote = w }), b.2 ∙ ap (refusal_text c.within) (sym same))
ends_frame c text taken fs f r t is.ReadFault b a k w = absurd b
ends_frame c text taken fs f r t is.WriteFault b a k w = absurd b
ends_frame c text taken fs f r t is.CoreFault b a k w = absurd b
ends_frame c text taken fs f r t (is.Memory e) b a k w =
    let xs = c.output fs ++ c.opening fs f in
    (fs, inr (record { next = f; reaches = a; written = (length xs, w.written ∙ ap (λ (x : List ℕ). append_known t.written_before x) (sym (take_all (length xs) xs (omega arith)))); fed = omega (arith, w.fed, work_more c fs f) }))
ends_frame c text taken fs f r t is.TooLarge b a k w = absurd b

pub stopped : (j : Command) (H K : List Frame → Type 0) (old mid now : Meaning) (left0 left1 left2 before w1 w2 : Option (List ℕ)) (r1 r2 : Reading) (f1 f2 : ℕ) (event : Event) (mux : MuxConfig) (end : FrameEnd) (outcome : Outcome) (within : Option Within)
    → (s : GoesOn j H old mid left0 left1 before w1 r1) → (p : Reads s.got s.given r1 r2 (record { left = left1; faults = f1 }) (record { left = left2; faults = f2 }) (Ok (Some event)))
    → (n : Next (s.got ++ p.more) s.given r2 event mux) → Handles j s.given n.frame mid now w1 w2 (Err end) → within ≡ j.within → BecomesOf within end outcome
    → DoesFrames j K left0 left2 (traces before w2 old.fed now.fed) outcome
stopped j H K old mid now left0 left1 left2 before w1 w2 r1 r2 f1 f2 event mux end outcome within s p n d same becomes = record {
  frames = s.given;
  holds = λ e. absurd (becomes_more within end outcome becomes e);
  does = stop (EndsHanding j s.given) s.got s.given r1 r2 left0 left1 left2 f1 f2 (Ok (Some event)) (traces before w2 old.fed now.fed) outcome s.from p (λ rest e. (by_end end rest d (subst (λ (x : Option Within). BecomesOf x end outcome) same becomes), λ done. absurd (becomes_more within end outcome becomes done)));
}
  where
    w : WroteAll j s.given (traces before w1 old.fed mid.fed)
    w = wrote_all j H old mid left0 left1 before w1 r1 s

    xs : List ℕ
    xs = j.output s.given

    -- bytes behind the output of the frames before
    behind : (bytes : List ℕ) → w2 ≡ append_known w1 bytes → w2 ≡ append_known before (j.output s.given ++ bytes)
    behind bytes more = output_front j s.given before w1 w2 bytes s.output more

    front : WrotePart w1 w2 (j.opening s.given n.frame) → WrotePart before w2 (j.output s.given ++ j.opening s.given n.frame)
    front part = (length xs + part.0, behind (take part.0 (j.opening s.given n.frame)) part.1 ∙ ap (λ (x : List ℕ). append_known before x) (sym (take-append-add xs (j.opening s.given n.frame) part.0)))

    reaches : (rest : List ℕ) → Reaches j ((s.got ++ p.more) ++ rest) s.given n.frame
    reaches rest =
        let a = read_frames (s.got ++ p.more) rest (s.given ++ n.frame ∷ []) r2 n.read in
        record {
          later = a.0;
          of_file = subst (λ (x : List Frame). HasFrames ((s.got ++ p.more) ++ rest) x) (append_assoc s.given (n.frame ∷ []) a.0) a.1;
          takes = s.takes;
        }

    part_of : (rest : List ℕ) → DidPart j s.given n.frame mid now w1 w2 → TakesFirst j ((s.got ++ p.more) ++ rest) (s.given ++ n.frame ∷ []) × WroteFront j (s.given ++ n.frame ∷ []) (traces before w2 old.fed now.fed)
    part_of rest part = (first_more j (s.got ++ p.more) rest s.given n.frame r2 n.read s.takes part.takes, part_front j H old mid now left0 left1 before w1 w2 r1 s n.frame part)

    stops : (rest : List ℕ) → WroteWithin j s.given n.frame (traces before w2 old.fed now.fed) ⊎ WroteOpening j s.given n.frame (traces before w2 old.fed now.fed) → Ends j ((s.got ++ p.more) ++ rest) (s.got ++ p.more) (traces before w2 old.fed now.fed) is.WriteFault
    stops rest wrote = (s.given, inl (record { next = n.frame; reaches = reaches rest; wrote = wrote; near = reads_near (s.got ++ p.more) s.given n.frame r2 n.read }))

    by_end : (x : FrameEnd) (rest : List ℕ) → Handles j s.given n.frame mid now w1 w2 (Err x) → BecomesOf j.within x outcome → Ends j ((s.got ++ p.more) ++ rest) (s.got ++ p.more) (traces before w2 old.fed now.fed) outcome
    by_end (frames.Refused refusal) rest d b =
        ends_frame j ((s.got ++ p.more) ++ rest) (s.got ++ p.more) s.given n.frame refusal (traces before w2 old.fed now.fed) outcome b (reaches rest) d.refuses (record { written = behind (j.opening s.given n.frame) d.written; fed = d.fed ∙ w.fed })
    by_end frames.WriteFault rest d b =
        subst (λ (o : Outcome). Ends j ((s.got ++ p.more) ++ rest) (s.got ++ p.more) (traces before w2 old.fed now.fed) o) (sym b)
        (elim d [
          | inl part ↦ stops rest (inl (record { takes = part.takes; bytes = part.bytes; grows = part.grows; written = into_of before w1 w2 xs part.bytes w.written part.written; fed = omega (arith, part.fed, s.fed, work_more j s.given n.frame) }))
          | inr opening ↦ stops rest (inr (record { written = into_of before w1 w2 xs (j.opening s.given n.frame) w.written opening.written; fed = opening.fed ∙ w.fed }))
        ])
    by_end frames.CoreFault rest d b =
        subst (λ (o : Outcome). Ends j ((s.got ++ p.more) ++ rest) (s.got ++ p.more) (traces before w2 old.fed now.fed) o) (sym b)
        (s.given, n.frame, first_more j (s.got ++ p.more) rest s.given n.frame r2 n.read s.takes d.takes, record { written = behind (j.opening s.given n.frame) d.written; fed = omega (arith, d.at_least, w.fed); less = omega (arith, d.fewer, w.fed, work_more j s.given n.frame) })
    by_end (frames.Memory x) rest d b =
        subst (λ (o : Outcome). Ends j ((s.got ++ p.more) ++ rest) (s.got ++ p.more) (traces before w2 old.fed now.fed) o) (sym b)
        (elim d [
          | inl part ↦ (s.given ++ n.frame ∷ [], inl (inl (part_of rest part)))
          | inr some ↦ (s.given, inr (record { next = n.frame; reaches = reaches rest; written = front some.written; fed = omega (arith, some.fed, w.fed, work_more j s.given n.frame) }))
        ])

-- a core fault comes of a core fault
pub becomes_core : (within : Option Within) (end : FrameEnd) (outcome : Outcome) → BecomesOf within end outcome → outcome ≡ is.CoreFault → end ≡ frames.CoreFault
becomes_core within (frames.Refused r) is.CoreFault b e = absurd b
becomes_core within (frames.Refused r) is.Done b e = absurd b
becomes_core within (frames.Refused r) (is.Refused words) b e = absurd cc
becomes_core within (frames.Refused r) is.ReadFault b e = absurd b
becomes_core within (frames.Refused r) is.WriteFault b e = absurd b
becomes_core within (frames.Refused r) (is.Memory x) b e = absurd cc
becomes_core within (frames.Refused r) is.TooLarge b e = absurd b
becomes_core within frames.WriteFault outcome b e = absurd cc
becomes_core within frames.CoreFault outcome b e = refl
becomes_core within (frames.Memory x) outcome b e = absurd cc

-- ---- the end of the file, by its outcome

pub close_core : (within : Option Within) (R : Refusal → Type 0) (W : List ℕ → Type 0) (w1 w2 : Option (List ℕ)) (answer : Result (Unit {0}) FrameEnd) (outcome : Outcome) → HandlesEnd R W w1 w2 answer → BecomesOfEnd within answer outcome → outcome ≡ is.CoreFault → ⊥
close_core within R W w1 w2 (Ok u) outcome h b e = let never : is.Done ≡ is.CoreFault = sym b ∙ e in cc
close_core within R W w1 w2 (Err end) outcome h b e = subst (λ (x : FrameEnd). HandlesEnd R W w1 w2 (Err x)) (becomes_core within end outcome b e) h

abbrev counts_of : ℕ → ℕ → ℕ → Counts
counts_of shelf out core = record { shelf = shelf; out = out; core = core }

same_counts : (a b c i j k : ℕ) → i ≡ a → j ≡ b → k ≡ c → counts_of i j k ≡ counts_of a b c
same_counts a b c i j k d e f = ap (λ (n : ℕ). counts_of n j k) d ∙ ap (λ (n : ℕ). counts_of a n k) e ∙ ap (λ (n : ℕ). counts_of a b n) f

-- which counts rose
pub close_caused : (within : Option Within) (shelf shelf_now out mid out_now core core_now : ℕ) (answer : Result (Unit {0}) FrameEnd) (outcome : Outcome) → shelf_now ≡ shelf → mid ≡ out → core_now ≡ core → CausedBy mid out_now core_now core_now answer → BecomesOfEnd within answer outcome
    → Caused (counts_of shelf out core) (counts_of shelf_now out_now core_now) outcome
close_caused within shelf shelf_now out mid out_now core core_now answer outcome s o c h b = by_answer answer h b
  where
    by_refusal : (r : Option Refusal) (x : Outcome) → IsRefusedBy within r x → out_now ≡ mid → Caused (counts_of shelf out core) (counts_of shelf_now out_now core_now) x
    by_refusal r is.Done b e = absurd b
    by_refusal r (is.Refused words) b e = same_counts shelf out core shelf_now out_now core_now s (e ∙ o) c
    by_refusal r is.ReadFault b e = absurd b
    by_refusal r is.WriteFault b e = absurd b
    by_refusal r is.CoreFault b e = absurd b
    by_refusal r (is.Memory x) b e = same_counts shelf out core shelf_now out_now core_now s (e ∙ o) c
    by_refusal r is.TooLarge b e = absurd b

    by_answer : (a : Result (Unit {0}) FrameEnd) → CausedBy mid out_now core_now core_now a → BecomesOfEnd within a outcome → Caused (counts_of shelf out core) (counts_of shelf_now out_now core_now) outcome
    by_answer (Ok u) h b = subst (λ (x : Outcome). Caused (counts_of shelf out core) (counts_of shelf_now out_now core_now) x) (sym b) (same_counts shelf out core shelf_now out_now core_now s (h.0 ∙ o) c)
    by_answer (Err (frames.Refused r)) h b = by_refusal (Some r) outcome b h.0
    by_answer (Err frames.WriteFault) h b = subst (λ (x : Outcome). Caused (counts_of shelf out core) (counts_of shelf_now out_now core_now) x) (sym b) (s, subst (λ (n : ℕ). Rose n out_now) o h.0, c)
    by_answer (Err frames.CoreFault) h b = subst (λ (x : Outcome). Caused (counts_of shelf out core) (counts_of shelf_now out_now core_now) x) (sym b) (s, h.0 ∙ o, subst (λ (n : ℕ). Rose n core_now) c h.1)
    by_answer (Err (frames.Memory x)) h b = subst (λ (x : Outcome). Caused (counts_of shelf out core) (counts_of shelf_now out_now core_now) x) (sym b) (same_counts shelf out core shelf_now out_now core_now s (h.0 ∙ o) c)

-- what was held is let go
pub let_go : (c : Command) (H : List Frame → Type 0) (left0 left1 : Option (List ℕ)) (t : Traces) (outcome : Outcome) → DoesFrames c H left0 left1 t outcome → DoesSource (Ends c) left0 left1 t outcome
let_go c H left0 left1 t outcome q = let p = q.does in record { taken = p.taken; from = p.from; within = p.within; ended = p.ended; at_end = p.at_end; ends = λ rest e. (p.ends rest e).0 }

-- few units are fed for a frame that is not handled
pub handled_few : (j : Command) (laws : IsCommand j) (before : List Frame) (f : Frame) (old new : Meaning) (w0 w1 : Option (List ℕ)) (end : FrameEnd) → Handles j before f old new w0 w1 (Err end) → new.fed ≤ old.fed + most_units
handled_few j laws before f old new w0 w1 (frames.Refused r) h = omega (arith, h.fed)
handled_few j laws before f old new w0 w1 frames.WriteFault h = elim h [
  | inl part ↦ omega (arith, part.fed, laws.few before f)
  | inr opening ↦ omega (arith, opening.fed)
]
handled_few j laws before f old new w0 w1 frames.CoreFault h = omega (arith, h.fewer, laws.few before f)
handled_few j laws before f old new w0 w1 (frames.Memory x) h = elim h [
  | inl part ↦ omega (arith, part.fed, laws.few before f)
  | inr some ↦ omega (arith, some.fed, laws.few before f)
]
