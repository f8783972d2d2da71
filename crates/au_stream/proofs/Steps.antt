-- What a reader has given, from call to call.
use Rattle.std.proofs.Common.{◌≡◌, ℕ, ◌+◌, ◌<◌, ◌≤◌, Bool, true, false, List, [], ◌∷◌, ◌++◌, length, take, drop, Option, Some, None, Result, Ok, Err, refl, sym, ap, subst, ◌∙◌, append_assoc, append-nil, arith, inl}
use Rattle.std.specs.Prelude.{is_some, IsTrue, IsErr, ◌↔◌}
use Rattle.std.specs.Option.{option_map}
use Rattle.std.specs.Io.KnownBytes.{prepend_known}
use Rattle.std.proofs.lemmas.List.{length-append, length-drop}
use Rattle.layout.specs.Text.{bits_of}
use Rattle.loas.specs.Framing.{BeginsWithFrame}
use Rattle.loas.specs.Framer.{Framer, grown, pushed}
use Rattle.loas.specs.declared.fault.LoasFault.TheVariants as loas
use Rattle.loas.proofs.Given.{begins-fits, begins-length}
use Rattle.latm.specs.declared.fault.MuxFault.{MuxFault}
use Rattle.latm.specs.declared.fault.MuxFault.TheVariants as mux
use Rattle.latm.specs.Faults.{is_memory}
use Rattle.latm.specs.declared.mux_config.MuxConfig.{MuxConfig}
use Rattle.latm.specs.declared.mux_element.MuxElement.{MuxElement}
use Rattle.latm.specs.MuxElement.{element, then_in_force}
use Rattle.au_stream.specs.declared.event.Event.{Event}
use Rattle.au_stream.specs.declared.fault.StreamFault.{StreamFault}
use Rattle.au_stream.specs.declared.fault.StreamFault.TheVariants.{ReadFault, TooLarge, Loas, Mux, Memory}
use Rattle.au_stream.specs.Elements.{IsElement, Carries, in_force_behind}
use Rattle.au_stream.specs.Frames.{Frame, config_of, frames_under, frames_from, last_of, TellsChange}
use Rattle.au_stream.specs.Script.{most_bytes, Mark, End, SyncLost, BadElement, Truncated, HasFrames, IsScript, IsOpen}
use Rattle.au_stream.specs.Reading.{Reading, pending_frames, KnowsChange, Holds, HasRead}
use Rattle.au_stream.specs.Giving.{Tells, refused_element, TookElement, Unread, Gave, weight}
use Rattle.au_stream.specs.Taking.{Seen, Takes}
use Rattle.au_stream.specs.Events.{IsEvent, Answers, GivenBy, Reads}
use Rattle.au_stream.proofs.Ahead.{ahead_next}
use Rattle.au_stream.proofs.Counting.{some_in_force, slots_fit}
use Rattle.au_stream.proofs.FrameLists.{frames-push, last-push, front_is}
use Rattle.au_stream.proofs.Runs.{carries_more, carries_push, in_force-push}
use Rattle.au_stream.proofs.Scripts.{script_end, script_truncated, script_lost, script_bad, script_large, script_open, frames_begin}

-- no access unit, no frame
no_pending : (m : Option MuxConfig) (opens : Bool) (slots : List (List ℕ)) → slots ≡ [] → frames_under m opens slots ≡ []
no_pending None opens slots e = refl
no_pending (Some m) opens slots e = ap (λ (x : List (List ℕ)). frames_under (Some m) opens x) e

-- ---- more bytes

pub held_more : (got more : List ℕ) (given : List Frame) (r : Reading) (framer : Framer) → Holds got given r → framer ≡ grown r.framer more → pushed framer ≤ most_bytes → Holds (got ++ more) given (record r { framer = framer })
held_more got more given r framer h e le =
    let all : pushed framer ≡ length (got ++ more) = omega (arith, ap (λ (f : Framer). f.passed) e, ap (λ (f : Framer). length f.held) e, length-append r.framer.held more, length-append got more, h.pushed) in
    record {
      elements = h.elements;
      carried = subst (λ (t : List ℕ). Carries None (got ++ more) h.elements t) (sym (ap (λ (f : Framer). f.held) e)) (carries_more None got h.elements r.framer.held more h.carried);
      in_force = h.in_force;
      some = h.some;
      frames = h.frames;
      change = h.change;
      counted = h.counted;
      pushed = all;
      few = omega (arith, all, le);
      going = h.going;
    }

-- ---- an element

-- how the first frame of an element changes what is in force
changes_first : (before own : Option MuxConfig) (m : MuxConfig) (last : Option Frame) (f : Frame) (changed : Bool) → then_in_force before own ≡ Some m → f.mux ≡ m → before ≡ option_map (λ (g : Frame). g.mux) last
    → Tells changed before own → TellsChange changed last f
changes_first None None m last f changed there is e c = absurd (let never : None ≡ Some m = there in cc)
changes_first None (Some own) m None f changed there is e c = c
changes_first None (Some own) m (Some g) f changed there is e c = absurd cc
changes_first (Some b) None m None f changed there is e c = absurd cc
changes_first (Some b) None m (Some g) f changed there is e c =
    let b-is : b ≡ m = cc in
    let g-is : b ≡ g.mux = cc in
    let same : config_of g ≡ config_of f = ap (λ (x : MuxConfig). x.asc.usac) (sym g-is ∙ b-is ∙ sym is) in
    (λ t. absurd (c.0 t), λ e. same)
changes_first (Some b) (Some own) m None f changed there is e c = absurd cc
changes_first (Some b) (Some own) m (Some g) f changed there is e c =
    let own-is : own ≡ m = cc in
    let g-is : b ≡ g.mux = cc in
    let before : b.asc.usac ≡ config_of g = ap (λ (x : MuxConfig). x.asc.usac) g-is in
    let now : own.asc.usac ≡ config_of f = ap (λ (x : MuxConfig). x.asc.usac) (own-is ∙ sym is) in
    (λ t same. c.0 t (before ∙ same ∙ sym now), λ e. sym before ∙ c.1 e ∙ now)

change_known : (before own in_force : Option MuxConfig) (m : MuxConfig) (opens : Bool) (last : Option Frame) (slots : List (List ℕ)) (changed : Bool) → in_force ≡ then_in_force before own → then_in_force before own ≡ Some m
    → before ≡ option_map (λ (g : Frame). g.mux) last → Tells changed before own → KnowsChange last (frames_under in_force opens slots) changed
change_known before own None m opens last slots changed is there e c = tt
change_known before own (Some n) m opens last [] changed is there e c = tt
change_known before own (Some n) m opens last (au ∷ slots) changed is there e c =
    let same : n ≡ m = cc in
    changes_first before own m last (record { mux = n; opens = opens; au = au }) changed there same e c

-- the elements before the last have no more frames than were given
abbrev pub AreNotMore : List MuxElement → List Frame → Type 0
AreNotMore es given = (front : List MuxElement) (e : MuxElement) → es ≡ front ++ e ∷ [] → length (frames_from None front) ≤ length given

-- an element was read
pub took : (got : List ℕ) (given : List Frame) (n : ℕ) (r new : Reading) → Holds got given r → r.in_force ≡ option_map (λ f. f.mux) (last_of given) → r.pending ≡ [] → BeginsWithFrame n r.framer.held → TookElement n r new → (h : Holds got given new) × (0 < length new.pending) × AreNotMore h.elements given
took got given n r new s last none b t =
    let e = t.element in
    let body = take n (drop 3 r.framer.held) in
    let behind = drop (3 + n) r.framer.held in
    let es = s.elements ++ e ∷ [] in
    let there = some_in_force r.in_force e body t.is in
    let is_here : IsElement (in_force_behind None s.elements) e body = subst (λ (m : Option MuxConfig). IsElement m e body) s.in_force t.is in
    let carried : Carries None got es behind = carries_push None got s.elements r.framer.held e body behind s.carried (begins-fits n r.framer.held b) b.spelled is_here in
    let force_is : new.in_force ≡ then_in_force r.in_force e.config = ap (λ (x : Reading). x.in_force) t.held in
    let opens_is : new.opens ≡ is_some e.config = ap (λ (x : Reading). x.opens) t.held in
    let pending_is : new.pending ≡ e.slots = ap (λ (x : Reading). x.pending) t.held in
    let held_is : new.framer.held ≡ behind = ap (λ (x : Reading). x.framer.held) t.held in
    let passed_is : new.framer.passed ≡ r.framer.passed + (3 + n) = ap (λ (x : Reading). x.framer.passed) t.held in
    let new_frames : frames_under (then_in_force (in_force_behind None s.elements) e.config) (is_some e.config) e.slots ≡ pending_frames new =
    ap (λ (m : Option MuxConfig). frames_under (then_in_force m e.config) (is_some e.config) e.slots) (sym s.in_force)
    ∙ ap (λ (m : Option MuxConfig). frames_under m (is_some e.config) e.slots) (sym force_is)
    ∙ ap (λ (o : Bool). frames_under new.in_force o e.slots) (sym opens_is)
    ∙ ap (λ (x : List (List ℕ)). frames_under new.in_force new.opens x) (sym pending_is) in
    let old_frames : frames_from None s.elements ≡ given = s.frames ∙ ap (λ (x : List Frame). given ++ x) (no_pending r.in_force r.opens r.pending none) ∙ append-nil given in (
      record {
        elements = es;
        carried = subst (λ (x : List ℕ). Carries None got es x) (sym held_is) carried;
        in_force = force_is ∙ ap (λ (m : Option MuxConfig). then_in_force m e.config) s.in_force ∙ sym (in_force-push None s.elements e);
        some = λ never. absurd (let x : None ≡ Some there.0 = sym never ∙ force_is ∙ there.1 in cc);
        frames = frames-push None s.elements e ∙ ap (λ (x : List Frame). x ++ frames_under (then_in_force (in_force_behind None s.elements) e.config) (is_some e.config) e.slots) old_frames ∙ ap (λ (x : List Frame). given ++ x) new_frames;
        change = change_known r.in_force e.config new.in_force there.0 new.opens (last_of given) new.pending new.changed force_is there.1 last t.changed;
        counted = ap (λ (x : Reading). x.count) t.held ∙ s.counted;
        pushed = omega (arith, passed_is, ap (λ (x : List ℕ). length x) held_is, length-drop (3 + n) r.framer.held, b.long, s.pushed);
        few = s.few;
        going = ap (λ (x : Reading). x.failed) t.held ∙ s.going;
      },
      omega (arith, ap (λ (x : List (List ℕ)). length x) pending_is, there.2),
      λ front own is. omega (arith, ap (λ (x : List MuxElement). length (frames_from None x)) (front_is front s.elements own e (sym is)), ap (λ (x : List Frame). length x) old_frames),
    )

-- ---- an access unit

-- what a call gave
pub record Given (got : List ℕ) (given : List Frame) (r new : Reading) (event : Event) : Type 0 where
  pub frame : Frame
  pub is : IsEvent given frame event
  pub read : HasRead got (given ++ frame ∷ []) new
  pub behind : List Frame
  pub all : frames_from None read.holds.elements ≡ given ++ frame ∷ behind

pub gives : (got : List ℕ) (given : List Frame) (r new : Reading) (event : Event) → (h : Holds got given r) → length r.framer.held < 8192 → AreNotMore h.elements given → Gave r new event → Given got given r new event
gives got given r new event h ahead few g = go r.in_force refl
  where
    none_left : (m : MuxConfig) (f : Frame) (slots : List (List ℕ)) → f.mux ≡ m → KnowsChange (Some f) (frames_under (Some m) false slots) false
    none_left m f [] is = tt
    none_left m f (au ∷ slots) is = (λ t. absurd (let x : false ≡ true = t in cc), λ e. ap (λ (x : MuxConfig). x.asc.usac) is)

    go : (o : Option MuxConfig) → r.in_force ≡ o → Given got given r new event
    go None e = absurd (let none = h.some e in let never : event.au ∷ g.rest ≡ [] = sym g.pending ∙ none in cc)
    go (Some m) e =
        let f : Frame = record { mux = m; opens = r.opens; au = event.au } in
        let first : pending_frames r ≡ f ∷ frames_under (Some m) false g.rest =
        ap (λ (x : Option MuxConfig). frames_under x r.opens r.pending) e ∙ ap (λ (x : List (List ℕ)). frames_under (Some m) r.opens x) g.pending in
        let force_is : new.in_force ≡ Some m = ap (λ (x : Reading). x.in_force) g.left ∙ e in
        let left_is : pending_frames new ≡ frames_under (Some m) false g.rest =
        ap (λ (x : Option MuxConfig). frames_under x new.opens new.pending) force_is
        ∙ ap (λ (o : Bool). frames_under (Some m) o new.pending) (ap (λ (x : Reading). x.opens) g.left)
        ∙ ap (λ (x : List (List ℕ)). frames_under (Some m) false x) (ap (λ (x : Reading). x.pending) g.left) in
        let changed_is : new.changed ≡ false = ap (λ (x : Reading). x.changed) g.left in
        let all : frames_from None h.elements ≡ given ++ f ∷ frames_under (Some m) false g.rest = h.frames ∙ ap (λ (x : List Frame). given ++ x) first in
        record {
          frame = f;
          is = record {
            number = g.number ∙ h.counted;
            changed = subst (λ (c : Bool). TellsChange c (last_of given) f) (sym g.changed) (subst (λ (x : List Frame). KnowsChange (last_of given) x r.changed) first h.change);
            opens = g.opens;
            au = refl;
          };
          read = record {
            holds = record {
              elements = h.elements;
              carried = subst (λ (x : List ℕ). Carries None got h.elements x) (sym (ap (λ (x : Reading). x.framer.held) g.left)) h.carried;
              in_force = ap (λ (x : Reading). x.in_force) g.left ∙ h.in_force;
              some = λ never. absurd (let x : None ≡ Some m = sym never ∙ force_is in cc);
              frames = all ∙ sym (append_assoc given (f ∷ []) (frames_under (Some m) false g.rest)) ∙ ap (λ (x : List Frame). (given ++ f ∷ []) ++ x) (sym left_is);
              change = subst (λ (l : Option Frame). KnowsChange l (pending_frames new) new.changed) (sym (last-push given f))
                  (subst (λ (x : List Frame). KnowsChange (Some f) x new.changed) (sym left_is) (subst (λ (c : Bool). KnowsChange (Some f) (frames_under (Some m) false g.rest) c) (sym changed_is) (none_left m f g.rest refl)));
              counted = omega (arith, ap (λ (x : Reading). x.count) g.left, h.counted, length-append given (f ∷ []));
              pushed = ap (λ (x : Reading). pushed x.framer) g.left ∙ h.pushed;
              few = h.few;
              going = ap (λ (x : Reading). x.failed) g.left ∙ h.going;
            };
            last = force_is ∙ sym (ap (λ (l : Option Frame). option_map (λ (x : Frame). x.mux) l) (last-push given f));
            ahead = omega (arith, ahead, ap (λ (x : Reading). length x.framer.held) g.left);
            newest = λ front e is. omega (arith, few front e is, length-append given (f ∷ []));
          };
          behind = frames_under (Some m) false g.rest;
          all = all;
        }

-- ---- a call

prepend-none : (known : Option (List ℕ)) → known ≡ prepend_known [] known
prepend-none None = refl
prepend-none (Some bytes) = refl

-- the next frame is one of the source's
next_is : (got rest : List ℕ) (given : List Frame) (r new : Reading) (event : Event) → Given got given r new event → Answers (got ++ rest) got given (Ok (Some event))
next_is got rest given r new event g =
    let s = g.read.holds in
    let f = frames_begin got rest s.elements new.framer.held s.few s.carried in
    (g.frame, g.behind ++ f.0, subst (λ (x : List Frame). HasFrames (got ++ rest) x) (ap (λ (x : List Frame). x ++ f.0) g.all ∙ append_assoc given (g.frame ∷ g.behind) f.0) f.1, g.is)

-- an access unit of the element that was read before
pub reads_pending : (got : List ℕ) (given : List Frame) (r new : Reading) (at : Seen) (event : Event) → HasRead got given r → Gave r new event → Reads got given r new at at (Ok (Some event))
reads_pending got given r new at event h g =
    let p = gives got given r new event h.holds h.ahead (λ front e is. omega (arith, h.newest front e is)) g in
    record {
      more = [];
      from = prepend-none at.left;
      within = omega (arith, h.holds.few, length-append got []);
      needed = inl refl;
      ended = false;
      at_end = λ never. absurd (let x : false ≡ true = never in cc);
      answers = λ rest e. subst (λ (x : List ℕ). Answers (x ++ rest) x given (Ok (Some event))) (sym (append-nil got)) (next_is got rest given r new event p);
      leaves = subst (λ (x : List ℕ). GivenBy (Ok (Some event)) x given new) (sym (append-nil got)) (p.frame, p.is, p.read);
    }

-- the first access unit of the next element
pub reads_next : (got : List ℕ) (given : List Frame) (r mid new : Reading) (framer : Framer) (before now : Seen) (n : ℕ) (event : Event) → HasRead got given r → r.pending ≡ [] → Takes most_bytes r.framer framer before now (Ok (Some n)) → pushed framer ≤ most_bytes
    → TookElement n (record r { framer = framer }) mid → Gave mid new event → Reads got given r new before now (Ok (Some event))
reads_next got given r mid new framer before now n event h none t limit took_is g =
    let more = t.got in
    let here = held_more got more given r framer h.holds t.answered.0 limit in
    let k = took (got ++ more) given n (record r { framer = framer }) mid here h.last none t.answered.1 took_is in
    let held_is : framer.held ≡ r.framer.held ++ more = ap (λ (x : Framer). x.held) t.answered.0 in
    let behind : length (drop (3 + n) (r.framer.held ++ more)) < 8192 = ahead_next r.framer.held more n t.needed h.ahead (subst (λ (x : List ℕ). BeginsWithFrame n x) held_is t.answered.1) in
    let ahead : length mid.framer.held < 8192 = omega (arith, behind, ap (λ (x : Reading). length x.framer.held) took_is.held, ap (λ (x : List ℕ). length (drop (3 + n) x)) held_is) in
    let p = gives (got ++ more) given mid new event k.0 ahead k.2 g in
    record {
      more = more;
      from = t.from;
      within = omega (arith, t.within, h.holds.pushed, length-append got more);
      needed = t.needed;
      ended = false;
      at_end = λ never. absurd (let x : false ≡ true = never in cc);
      answers = λ rest e. next_is (got ++ more) rest given mid new event p;
      leaves = (p.frame, p.is, p.read);
    }

-- where nothing is pending the frames that were given are all of the elements
all_given : (got : List ℕ) (given : List Frame) (r : Reading) (h : Holds got given r) → r.pending ≡ [] → frames_from None h.elements ≡ given
all_given got given r h none = h.frames ∙ ap (λ (x : List Frame). given ++ x) (no_pending r.in_force r.opens r.pending none) ∙ append-nil given

-- the end
pub reads_end : (got : List ℕ) (given : List Frame) (r : Reading) (framer : Framer) (before now : Seen) → HasRead got given r → r.pending ≡ [] → Takes most_bytes r.framer framer before now (Ok None) → pushed framer ≤ most_bytes
    → Reads got given r (record r { framer = framer }) before now (Ok None)
unfolding held_more
reads_end got given r framer before now h none t limit =
    let more = t.got in
    let s = held_more got more given r framer h.holds t.answered.0 limit in
    let end : IsScript (got ++ more) given End = subst (λ (x : List Frame). IsScript (got ++ more) x End) (all_given (got ++ more) given (record r { framer = framer }) s none) (script_end (got ++ more) s.elements framer.held s.few s.carried t.answered.1) in
    record {
      more = more;
      from = t.from;
      within = omega (arith, t.within, h.holds.pushed, length-append got more);
      needed = t.needed;
      ended = true;
      at_end = λ e. t.answered.2;
      answers = λ rest e. subst (λ (x : List ℕ). IsScript x given End) (sym (ap (λ (y : List ℕ). (got ++ more) ++ y) (e refl) ∙ append-nil (got ++ more))) end;
      leaves = record { holds = s; last = h.last; ahead = omega (arith, ap (λ (x : List ℕ). length x) t.answered.1); newest = h.newest };
    }

-- a fault of the element
pub reads_bad : (got : List ℕ) (given : List Frame) (r new : Reading) (framer : Framer) (before now : Seen) (n frame : ℕ) (fault : MuxFault) → HasRead got given r → r.pending ≡ [] → Takes most_bytes r.framer framer before now (Ok (Some n)) → pushed framer ≤ most_bytes
    → Unread n (record r { framer = framer }) (Mux frame fault) → Reads got given r new before now (Err (Mux frame fault))
reads_bad got given r new framer before now n frame fault h none t limit bad =
    let more = t.got in
    let s = held_more got more given r framer h.holds t.answered.0 limit in
    let b = t.answered.1 in
    let body = take n (drop 3 framer.held) in
    let all = all_given (got ++ more) given (record r { framer = framer }) s none in
    let fails : (let L = element (in_force_behind None s.elements) in L.Faults 0 fault (bits_of body)) = subst (λ (m : Option MuxConfig). let L = element m in L.Faults 0 fault (bits_of body)) s.in_force bad.1 in
    let number : frame ≡ length (frames_from None s.elements) = bad.0 ∙ s.counted ∙ ap (λ (x : List Frame). length x) (sym all) in
    record {
      more = more;
      from = t.from;
      within = omega (arith, t.within, h.holds.pushed, length-append got more);
      needed = t.needed;
      ended = false;
      at_end = λ never. absurd (let x : false ≡ true = never in cc);
      answers = λ rest e. subst (λ (x : List Frame). IsScript ((got ++ more) ++ rest) x (BadElement frame fault)) all
          (script_bad (got ++ more) rest s.elements framer.held body (drop (3 + n) framer.held) frame fault s.few s.carried (begins-fits n framer.held b) b.spelled fails number);
      leaves = tt;
    }

-- out of memory for the element
pub reads_no_memory : (got : List ℕ) (given : List Frame) (r new : Reading) (framer : Framer) (before now : Seen) (n : ℕ) (error : Rattle.std.specs.declared.alloc.AllocError.AllocError) → HasRead got given r → Takes most_bytes r.framer framer before now (Ok (Some n)) → pushed framer ≤ most_bytes
    → Reads got given r new before now (Err (Memory error))
reads_no_memory got given r new framer before now n error h t limit =
    let more = t.got in
    let s = held_more got more given r framer h.holds t.answered.0 limit in
    record {
      more = more;
      from = t.from;
      within = omega (arith, t.within, h.holds.pushed, length-append got more);
      needed = t.needed;
      ended = false;
      at_end = λ never. absurd (let x : false ≡ true = never in cc);
      answers = λ rest e. begun (got ++ more) rest s.elements framer.held s;
      leaves = tt;
    }
  where
    begun : (whole rest : List ℕ) (es : List MuxElement) (held : List ℕ) → Holds whole given (record r { framer = framer }) → (later : List Frame) × HasFrames (whole ++ rest) (given ++ later)
    begun whole rest es held s =
        let f = frames_begin whole rest s.elements framer.held s.few s.carried in
        let p = pending_frames r in
        (p ++ f.0, subst (λ (x : List Frame). HasFrames (whole ++ rest) x) (ap (λ (x : List Frame). x ++ f.0) s.frames ∙ append_assoc given p f.0) f.1)

-- the source gives no frame
pub reads_refused : (got : List ℕ) (given : List Frame) (r new : Reading) (framer : Framer) (before now : Seen) (fault : StreamFault) → HasRead got given r → r.pending ≡ [] → Takes most_bytes r.framer framer before now (Err fault) → pushed framer ≤ most_bytes
    → Reads got given r new before now (Err fault)
reads_refused got given r new framer before now ReadFault h none t limit =
    let more = t.got in
    let s = held_more got more given r framer h.holds t.answered.0 limit in
    let all = all_given (got ++ more) given (record r { framer = framer }) s none in
    let undecided = script_open (got ++ more) s.elements framer.held framer.passed s.few s.carried t.answered.1 s.pushed in
    record {
      more = more;
      from = t.from;
      within = omega (arith, t.within, h.holds.pushed, length-append got more);
      needed = t.needed;
      ended = false;
      at_end = λ never. absurd (let x : false ≡ true = never in cc);
      answers = λ rest e. (undecided.0, subst (λ (x : List Frame). IsScript (got ++ more) x undecided.0) all undecided.1, undecided.2);
      leaves = tt;
    }
reads_refused got given r new framer before now TooLarge h none t limit =
    let a = t.answered in
    let s = held_more got a.0 given r framer h.holds a.3 limit in
    let all = all_given (got ++ a.0) given (record r { framer = framer }) s none in
    let full : length (got ++ a.0) ≡ most_bytes = sym s.pushed ∙ a.5 in
    record {
      more = t.got;
      from = t.from;
      within = omega (arith, t.within, h.holds.pushed, length-append got t.got);
      needed = t.needed;
      ended = false;
      at_end = λ never. absurd (let x : false ≡ true = never in cc);
      answers = λ rest e.
          let parts : (got ++ a.0) ++ (a.1 ∷ rest) ≡ (got ++ t.got) ++ rest =
          sym (append_assoc (got ++ a.0) (a.1 ∷ []) rest) ∙ ap (λ (x : List ℕ). x ++ rest) (append_assoc got a.0 (a.1 ∷ []) ∙ ap (λ (x : List ℕ). got ++ x) (sym a.2)) in
          subst (λ (x : List ℕ). IsScript x given Rattle.au_stream.specs.Script.TooLarge) parts
          (subst (λ (x : List Frame). IsScript ((got ++ a.0) ++ (a.1 ∷ rest)) x Rattle.au_stream.specs.Script.TooLarge) all
          (script_large (got ++ a.0) (a.1 ∷ rest) s.elements framer.held full s.carried a.4 (omega arith)));
      leaves = tt;
    }
reads_refused got given r new framer before now (Loas (loas.SyncLost byte)) h none t limit =
    let more = t.got in
    let s = held_more got more given r framer h.holds t.answered.0 limit in
    let all = all_given (got ++ more) given (record r { framer = framer }) s none in
    let place : byte + length framer.held ≡ length (got ++ more) = omega (arith, t.answered.2, s.pushed) in
    record {
      more = more;
      from = t.from;
      within = omega (arith, t.within, h.holds.pushed, length-append got more);
      needed = t.needed;
      ended = false;
      at_end = λ never. absurd (let x : false ≡ true = never in cc);
      answers = λ rest e. subst (λ (x : List Frame). IsScript ((got ++ more) ++ rest) x (SyncLost byte)) all (script_lost (got ++ more) rest s.elements framer.held byte s.few s.carried t.answered.1 place);
      leaves = tt;
    }
reads_refused got given r new framer before now (Loas (loas.Truncated byte)) h none t limit =
    let more = t.got in
    let s = held_more got more given r framer h.holds t.answered.0 limit in
    let all = all_given (got ++ more) given (record r { framer = framer }) s none in
    let place : byte + length framer.held ≡ length (got ++ more) = omega (arith, t.answered.4, s.pushed) in
    let cut : IsScript (got ++ more) given (Truncated byte) = subst (λ (x : List Frame). IsScript (got ++ more) x (Truncated byte)) all (script_truncated (got ++ more) s.elements framer.held byte s.few s.carried t.answered.1 t.answered.2 place) in
    record {
      more = more;
      from = t.from;
      within = omega (arith, t.within, h.holds.pushed, length-append got more);
      needed = t.needed;
      ended = true;
      at_end = λ e. t.answered.3;
      answers = λ rest e. subst (λ (x : List ℕ). IsScript x given (Truncated byte)) (sym (ap (λ (y : List ℕ). (got ++ more) ++ y) (e refl) ∙ append-nil (got ++ more))) cut;
      leaves = tt;
    }
reads_refused got given r new framer before now (Loas (loas.Memory error)) h none t limit = absurd t.answered
reads_refused got given r new framer before now (Mux frame fault) h none t limit = absurd t.answered
reads_refused got given r new framer before now (Memory error) h none t limit =
    let a = t.answered in
    let s = held_more got a.0 given r framer h.holds a.3 limit in
    let all = all_given (got ++ a.0) given (record r { framer = framer }) s none in
    record {
      more = t.got;
      from = t.from;
      within = omega (arith, t.within, h.holds.pushed, length-append got t.got);
      needed = t.needed;
      ended = false;
      at_end = λ never. absurd (let x : false ≡ true = never in cc);
      answers = λ rest e.
          let parts : (got ++ a.0) ++ (a.1 ++ rest) ≡ (got ++ t.got) ++ rest =
          sym (append_assoc (got ++ a.0) a.1 rest) ∙ ap (λ (x : List ℕ). x ++ rest) (append_assoc got a.0 a.1 ∙ ap (λ (x : List ℕ). got ++ x) (sym a.2)) in
          let f = frames_begin (got ++ a.0) (a.1 ++ rest) s.elements framer.held s.few s.carried in
          (f.0, subst (λ (x : List ℕ). HasFrames x (given ++ f.0)) parts (subst (λ (x : List Frame). HasFrames ((got ++ a.0) ++ (a.1 ++ rest)) (x ++ f.0)) all f.1));
      leaves = tt;
    }

-- an element that was not read
pub reads_untaken : (got : List ℕ) (given : List Frame) (r new : Reading) (framer : Framer) (before now : Seen) (n : ℕ) (fault : StreamFault) → HasRead got given r → r.pending ≡ [] → Takes most_bytes r.framer framer before now (Ok (Some n)) → pushed framer ≤ most_bytes
    → Unread n (record r { framer = framer }) fault → Reads got given r new before now (Err fault)
reads_untaken got given r new framer before now n ReadFault h none t limit bad = absurd bad
reads_untaken got given r new framer before now n TooLarge h none t limit bad = absurd bad
reads_untaken got given r new framer before now n (Loas fault) h none t limit bad = absurd bad
reads_untaken got given r new framer before now n (Mux frame fault) h none t limit bad = reads_bad got given r new framer before now n frame fault h none t limit bad
reads_untaken got given r new framer before now n (Memory error) h none t limit bad = reads_no_memory got given r new framer before now n error h t limit

-- why an element was not read
pub untaken : (n : ℕ) (r : Reading) (fault : MuxFault) → (is_memory fault ≡ false → (let L = element r.in_force in L.Faults 0 fault (bits_of (take n (drop 3 r.framer.held))))) → Unread n r (refused_element r.count fault)
untaken n r mux.NoConfig bad = (refl, bad refl)
untaken n r (mux.OutOfProfile at field) bad = (refl, bad refl)
untaken n r (mux.Short at) bad = (refl, bad refl)
untaken n r (mux.Asc fault) bad = (refl, bad refl)
untaken n r (mux.Memory error) bad = tt

-- a call that was refused fails the reader
pub reads_marked : (got : List ℕ) (given : List Frame) (r mid : Reading) (failed : Bool) (before now : Seen) (result : Result (Option Event) StreamFault) → Reads got given r mid before now result → mid.failed ≡ false → (IsTrue failed ↔ IsErr result) → Reads got given r (record mid { failed = failed }) before now result
reads_marked got given r mid failed before now result p going e = record {
  more = p.more;
  from = p.from;
  within = p.within;
  needed = p.needed;
  ended = p.ended;
  at_end = p.at_end;
  answers = p.answers;
  leaves = left result e p.leaves;
}
  where
    same : failed ≡ false → mid ≡ record mid { failed = failed }
    same e = let f : mid.failed ≡ failed = going ∙ sym e in ap (λ (b : Bool). record mid { failed = b }) f

    known : (b : Bool) → (b ≡ true → ⊥) → b ≡ false
    known true never = absurd (never refl)
    known false never = refl

    left : (result : Result (Option Event) StreamFault) → (IsTrue failed ↔ IsErr result) → GivenBy result (got ++ p.more) given mid → GivenBy result (got ++ p.more) given (record mid { failed = failed })
    left (Ok x) e g = subst (λ (q : Reading). GivenBy (Ok x) (got ++ p.more) given q) (same (known failed (λ t. let never : false ≡ true = e.0 t in cc))) g
    left (Err fault) e g = tt

-- ---- what is left

pub falls_pending : (r new : Reading) (event : Event) → Gave r new event → weight new < weight r
falls_pending r new event g =
    omega (arith, ap (λ (x : Reading). weight x) g.left, ap (λ (x : List (List ℕ)). length x) g.pending)

pub falls_next : (r mid new : Reading) (framer : Framer) (before now : Seen) (n : ℕ) (event : Event) → r.pending ≡ [] → Takes most_bytes r.framer framer before now (Ok (Some n)) → pushed framer ≤ most_bytes
    → TookElement n (record r { framer = framer }) mid → Gave mid new event → weight new < weight r
falls_next r mid new framer before now n event none t limit took_is g =
    let body = take n (drop 3 framer.held) in
    let few = slots_fit r.in_force took_is.element body took_is.is in
    let long : length body ≡ n = begins-length n framer.held t.answered.1 in
    let grew = t.answered.0 in
    omega (
      arith,
      falls_pending mid new event g,
      ap (λ (x : Reading). weight x) took_is.held,
      few,
      long,
      length-drop (3 + n) framer.held,
      t.answered.1.long,
      limit,
      ap (λ (f : Framer). f.passed) grew,
      ap (λ (f : Framer). length f.held) grew,
      length-append r.framer.held t.got,
    )

-- the frames that were given are the first of the source's
pub read_frames : (got rest : List ℕ) (given : List Frame) (r : Reading) → HasRead got given r → (later : List Frame) × HasFrames (got ++ rest) (given ++ later)
read_frames got rest given r h =
    let s = h.holds in
    let p = pending_frames r in
    let f = frames_begin got rest s.elements r.framer.held s.few s.carried in
    (p ++ f.0, subst (λ (x : List Frame). HasFrames (got ++ rest) x) (ap (λ (x : List Frame). x ++ f.0) s.frames ∙ append_assoc given p f.0) f.1)

-- out of memory for an access unit
pub reads_no_copy : (got : List ℕ) (given : List Frame) (r new : Reading) (at : Seen) (error : Rattle.std.specs.declared.alloc.AllocError.AllocError) → HasRead got given r → Reads got given r new at at (Err (Memory error))
reads_no_copy got given r new at error h = record {
  more = [];
  from = prepend-none at.left;
  within = omega (arith, h.holds.few, length-append got []);
  needed = inl refl;
  ended = false;
  at_end = λ never. absurd (let x : false ≡ true = never in cc);
  answers = λ rest e. subst (λ (x : List ℕ). (later : List Frame) × HasFrames (x ++ rest) (given ++ later)) (sym (append-nil got)) (read_frames got rest given r h);
  leaves = tt;
}
