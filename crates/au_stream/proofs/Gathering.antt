-- The elements of a source that is read whole, from one to the next.
use Rattle.std.proofs.Common.{◌≡◌, ℕ, zero, suc, ◌+◌, ◌-◌, ◌*◌, ◌≤◌, Bool, true, false, List, [], ◌∷◌, ◌++◌, length, take, drop, Option, Some, None, Ok, Err, refl, sym, ap, subst, ◌∙◌, append_assoc, append-nil, arith, inl, inr}
use Rattle.std.specs.Prelude.{is_some, slice_get}
use Rattle.std.specs.Io.KnownBytes.{prepend_known}
use Rattle.std.proofs.lemmas.List.{length-append, length-drop, length-take, take-append-drop}
use Rattle.layout.specs.Text.{bits_of}
use Rattle.causes.specs.Counts.{Rose}
use Rattle.loas.specs.Framing.{IsFrameBody, IsPartial, BeginsWithFrame}
use Rattle.loas.specs.Framer.{Framer, grown, pushed, past_frame}
use Rattle.loas.specs.declared.fault.LoasFault.TheVariants as loas
use Rattle.loas.proofs.Given.{begins-fits}
use Rattle.latm.specs.declared.fault.MuxFault.{MuxFault}
use Rattle.latm.specs.declared.fault.MuxFault.TheVariants as mux
use Rattle.latm.specs.Faults.{is_memory}
use Rattle.latm.specs.declared.mux_config.MuxConfig.{MuxConfig}
use Rattle.latm.specs.declared.mux_element.MuxElement.{MuxElement}
use Rattle.latm.specs.declared.stream.Stream.{Stream}
use Rattle.latm.specs.MuxElement.{element, then_in_force}
use Rattle.latm.specs.Stream.{IsElementOf, AreElements, IsWellFormed}
use Rattle.latm.specs.Written.{element_text}
use Rattle.layout.proofs.TextLemmas.{length-bits_of}
use Rattle.au_stream.specs.declared.fault.StreamFault.{StreamFault}
use Rattle.au_stream.specs.declared.fault.StreamFault.TheVariants.{ReadFault, TooLarge, Loas, Mux, Memory}
use Rattle.au_stream.specs.Elements.{IsElement, Carries, in_force_behind}
use Rattle.au_stream.specs.Frames.{Frame, frames_under, frames_from}
use Rattle.au_stream.specs.Script.{most_bytes, Mark, End, SyncLost, BadElement, Truncated, IsScript, IsOpen}
use Rattle.au_stream.specs.Taking.{Seen, Takes, IsNeeded, Caused}
use Rattle.au_stream.specs.Giving.{refused_element}
use Rattle.au_stream.specs.Gathering.{own_config, config_at, Adds}
use Rattle.au_stream.specs.Whole.{IsStream, MayGoOn, IsNeededWhole, ReadsWhole}
use Rattle.au_stream.proofs.Counting.{some_in_force}
use Rattle.au_stream.proofs.FrameLists.{frames-push}
use Rattle.au_stream.proofs.FrameCounts.{length-frames_under, length-pairs, frames_few}
use Rattle.au_stream.proofs.Pieces.{prepend-prepend}
use Rattle.au_stream.proofs.Runs.{carries_more, carries_push}
use Rattle.au_stream.proofs.Scripts.{script_end, script_truncated, script_lost, script_bad, script_large, script_open, all_longest, partial-empty}

-- ---- the configuration in force

get_last : (es : List MuxElement) (e : MuxElement) (place : ℕ) → place ≡ length es → slice_get (es ++ e ∷ []) place ≡ Some e
get_last [] e zero is = refl
get_last [] e (suc place) is = absurd (omega arith)
get_last (x ∷ es) e zero is = absurd (omega arith)
get_last (x ∷ es) e (suc place) is = get_last es e place (omega arith)

-- the last element's own configuration
pub config_at-own : (es : List MuxElement) (e : MuxElement) (place : ℕ) → place ≡ length es → config_at (es ++ e ∷ []) (Some place) ≡ e.config
config_at-own es e place is = ap own_config (get_last es e place is)

-- an element that has none changes nothing
kept_at : (es : List MuxElement) (e : MuxElement) (place : ℕ) → e.config ≡ None → own_config (slice_get (es ++ e ∷ []) place) ≡ own_config (slice_get es place)
kept_at [] e zero none = none
kept_at [] e (suc place) none = refl
kept_at (x ∷ es) e zero none = refl
kept_at (x ∷ es) e (suc place) none = kept_at es e place none

pub config_at-kept : (es : List MuxElement) (e : MuxElement) (latest : Option ℕ) → e.config ≡ None → config_at (es ++ e ∷ []) latest ≡ config_at es latest
config_at-kept es e None none = refl
config_at-kept es e (Some place) none = kept_at es e place none

-- ---- one element more

-- why an element was not read
pub unread : (body : List ℕ) (old new : List MuxElement) (fault : MuxFault) → (is_memory fault ≡ false → (let L = element (in_force_behind None old) in L.Faults 0 fault (bits_of body)))
    → Adds body old new (Err (refused_element (length (frames_from None old)) fault))
unread body old new mux.NoConfig bad = (refl, bad refl)
unread body old new (mux.OutOfProfile at field) bad = (refl, bad refl)
unread body old new (mux.Short at) bad = (refl, bad refl)
unread body old new (mux.Asc fault) bad = (refl, bad refl)
unread body old new (mux.Memory error) bad = tt

-- ---- how many frames

-- an element's frames are its slots
pub frames-added : (es : List MuxElement) (e : MuxElement) (body : List ℕ) → IsElement (in_force_behind None es) e body → length (frames_from None (es ++ e ∷ [])) ≡ length (frames_from None es) + length e.slots
frames-added es e body is =
    let m = some_in_force (in_force_behind None es) e body is in
    let own = frames_under (then_in_force (in_force_behind None es) e.config) (is_some e.config) e.slots in
    let long : length own ≡ length e.slots = ap (λ (o : Option MuxConfig). length (frames_under o (is_some e.config) e.slots)) m.1 ∙ length-frames_under m.0 (is_some e.config) e.slots in
    ap (λ (fs : List Frame). length fs) (frames-push None es e) ∙ length-append (frames_from None es) own ∙ ap (λ (n : ℕ). length (frames_from None es) + n) long

-- an element that bytes spell makes whole bytes
element_of : (before : Option MuxConfig) (e : MuxElement) (body : List ℕ) → IsFrameBody body → IsElement before e body → IsElementOf before e
element_of before e body few is =
    let long : 8 * length body ≡ length (element_text e) = sym (length-bits_of body) ∙ ap (λ (t : List Bool). length t) is.spelled in
    record { fits = is.fits; whole = omega (arith, long); few = omega (arith, long, few) }

-- each element is one
carries_are : (before : Option MuxConfig) (text : List ℕ) (es : List MuxElement) (rest : List ℕ) → Carries before text es rest → AreElements before es
carries_are before text [] rest c = tt
carries_are before text (e ∷ es) rest c = (element_of before e c.0 c.2 c.4, carries_are (then_in_force before e.config) c.1 es rest c.5)

pub well_formed : (text : List ℕ) (stream : Stream) (rest : List ℕ) → Carries None text stream.elements rest → length text ≤ most_bytes → IsWellFormed stream
well_formed text stream rest c le = record {
  elements = carries_are None text stream.elements rest c;
  frames = omega (arith, length-pairs None stream.elements, frames_few None text stream.elements rest c);
}

-- ---- from one element to the next

-- These elements were read off the source, and those bytes behind them are held.
pub record Gathers (before now : Seen) (es : List MuxElement) (framer : Framer) : Type 0 where
  pub got : List ℕ
  pub from : before.left ≡ prepend_known got now.left
  pub carried : Carries None got es framer.held
  pub pushed : pushed framer ≡ length got
  pub few : length got ≤ most_bytes
  pub needed : IsNeededWhole got

prepend-none : (known : Option (List ℕ)) → known ≡ prepend_known [] known
prepend-none None = refl
prepend-none (Some bytes) = refl

pub gathers-none : (before : Seen) → Gathers before before [] (record { passed = 0; held = [] })
gathers-none before = record {
  got = [];
  from = prepend-none before.left;
  carried = refl;
  pushed = refl;
  few = omega arith;
  needed = inl refl;
}

-- a front of less than a frame is less than a frame
partial_front : (text more : List ℕ) → IsPartial (text ++ more) → IsPartial text
partial_front text more p = record {
  body = p.body;
  more = more ++ p.more;
  fits = p.fits;
  proper = omega (arith, p.proper, length-append more p.more);
  spelled = sym (append_assoc text more p.more) ∙ p.spelled;
}

-- where less than a frame is held more may follow
may_go_on : (got : List ℕ) (es : List MuxElement) (held : List ℕ) → Carries None got es held → length got ≤ most_bytes → IsPartial held → MayGoOn got
may_go_on got es held c le p =
    let o = script_open got es held (length got - length held) le c p (omega (arith, frames_few None got es held c)) in
    record { frames = frames_from None es; mark = o.0; script = o.1; open_mark = o.2 }

-- a piece more was read only where more could follow
needed-on : (got more : List ℕ) (es : List MuxElement) (held : List ℕ) → Carries None got es held → length got ≤ most_bytes → length (got ++ more) ≤ most_bytes + 1 → IsNeededWhole got → IsNeeded held more → IsNeededWhole (got ++ more)
needed-on got more es held c le within before (inl none) = subst IsNeededWhole (sym (ap (λ (x : List ℕ). got ++ x) none ∙ append-nil got)) before
needed-on got more es held c le within before (inr (sooner, piece, parts, p, short)) =
    let room = most_bytes - length got in
    let front = take room sooner in
    let behind = drop room sooner in
    let split : front ++ behind ≡ sooner = take-append-drop room sooner in
    let part : IsPartial (held ++ front) = partial_front (held ++ front) behind (subst IsPartial (sym (append_assoc held front behind ∙ ap (λ (x : List ℕ). held ++ x) split)) p) in
    let all : got ++ more ≡ (got ++ front) ++ (behind ++ piece) =
    ap (λ (x : List ℕ). got ++ x) (parts ∙ ap (λ (x : List ℕ). x ++ piece) (sym split) ∙ append_assoc front behind piece) ∙ sym (append_assoc got front (behind ++ piece)) in
    inr (
      got ++ front,
      behind ++ piece,
      all,
      may_go_on (got ++ front) es (held ++ front) (carries_more None got es held front c) (omega (arith, le, length-append got front, length-take room sooner)) part,
      omega (arith, within, short, length-append got more, ap (λ (x : List ℕ). length x) parts, length-append sooner piece, length-append behind piece, length-drop room sooner),
    )

-- more bytes are held
pub gathers-more : (before mid now : Seen) (es : List MuxElement) (old new : Framer) (more : List ℕ) → Gathers before mid es old → mid.left ≡ prepend_known more now.left → IsNeeded old.held more → new ≡ grown old more → pushed new ≤ most_bytes
    → Gathers before now es new
gathers-more before mid now es old new more g from needed grew limit =
    let long : pushed new ≡ length (g.got ++ more) = omega (arith, ap (λ (f : Framer). f.passed) grew, ap (λ (f : Framer). length f.held) grew, length-append old.held more, length-append g.got more, g.pushed) in
    record {
      got = g.got ++ more;
      from = g.from ∙ ap (prepend_known g.got) from ∙ prepend-prepend g.got more now.left;
      carried = subst (λ (x : List ℕ). Carries None (g.got ++ more) es x) (sym (ap (λ (f : Framer). f.held) grew)) (carries_more None g.got es old.held more g.carried);
      pushed = long;
      few = omega (arith, long, limit);
      needed = needed-on g.got more es old.held g.carried g.few (omega (arith, long, limit)) g.needed needed;
    }

-- the element of the frame at the front was read, and the frame passed
pub gathers-element : (before now : Seen) (es all : List MuxElement) (framer : Framer) (n : ℕ) → Gathers before now es framer → BeginsWithFrame n framer.held → Adds (take n (drop 3 framer.held)) es all (Ok tt)
    → Gathers before now all (past_frame n framer)
gathers-element before now es all framer n g b adds =
    let behind = drop (3 + n) framer.held in
    record {
      got = g.got;
      from = g.from;
      carried = subst (λ (x : List MuxElement). Carries None g.got x behind) (sym adds.2) (carries_push None g.got es framer.held adds.0 (take n (drop 3 framer.held)) behind g.carried (begins-fits n framer.held b) b.spelled adds.1);
      pushed = omega (arith, length-drop (3 + n) framer.held, b.long, g.pushed);
      few = g.few;
      needed = g.needed;
    }

pub gathers-next : (before mid now : Seen) (es all : List MuxElement) (old framer : Framer) (n : ℕ) → Gathers before mid es old → Takes most_bytes old framer mid now (Ok (Some n)) → pushed framer ≤ most_bytes → Adds (take n (drop 3 framer.held)) es all (Ok tt)
    → Gathers before now all (past_frame n framer)
gathers-next before mid now es all old framer n g t limit adds =
    gathers-element before now es all framer n (gathers-more before mid now es old framer t.got g t.from t.needed t.answered.0 limit) t.answered.1 adds

-- ---- the answers

-- the end
pub whole-end : (before mid now : Seen) (es : List MuxElement) (old framer : Framer) → Gathers before mid es old → Takes most_bytes old framer mid now (Ok None) → pushed framer ≤ most_bytes
    → ReadsWhole before now (Ok (record { elements = es }))
whole-end before mid now es old framer g t limit =
    let s = gathers-more before mid now es old framer t.got g t.from t.needed t.answered.0 limit in
    let none : framer.held ≡ [] = t.answered.1 in
    let script = script_end s.got es framer.held s.few s.carried none in
    let longest = all_longest s.got es framer.held s.few s.carried (subst IsPartial (sym none) partial-empty) in
    record {
      got = s.got;
      from = s.from;
      within = omega (arith, s.few);
      needed = s.needed;
      ended = true;
      at_end = λ e. t.answered.2;
      answers = λ rest e.
          subst (λ (x : List ℕ). IsStream x (record { elements = es })) (sym (ap (λ (y : List ℕ). s.got ++ y) (e refl) ∙ append-nil s.got)) (record {
            longest = subst (λ (x : List ℕ). Rattle.au_stream.specs.Elements.IsLongest (take most_bytes s.got) es x) none longest;
            script = script;
            well_formed = well_formed s.got (record { elements = es }) framer.held s.carried s.few;
          });
    }

never_ended : false ≡ true → ⊥
never_ended e = cc

-- an element that was not read
pub whole-unread : (before mid now : Seen) (es all : List MuxElement) (old framer : Framer) (n : ℕ) (fault : StreamFault) → Gathers before mid es old → Takes most_bytes old framer mid now (Ok (Some n)) → pushed framer ≤ most_bytes
    → Adds (take n (drop 3 framer.held)) es all (Err fault) → ReadsWhole before now (Err fault)
whole-unread before mid now es all old framer n ReadFault g t limit bad = absurd bad
whole-unread before mid now es all old framer n TooLarge g t limit bad = absurd bad
whole-unread before mid now es all old framer n (Loas fault) g t limit bad = absurd bad
whole-unread before mid now es all old framer n (Mux frame fault) g t limit bad =
    let s = gathers-more before mid now es old framer t.got g t.from t.needed t.answered.0 limit in
    let b = t.answered.1 in
    let body = take n (drop 3 framer.held) in
    record {
      got = s.got;
      from = s.from;
      within = omega (arith, s.few);
      needed = s.needed;
      ended = false;
      at_end = λ e. absurd (never_ended e);
      answers = λ rest e. (
        frames_from None es,
        script_bad s.got rest es framer.held body (drop (3 + n) framer.held) frame fault s.few s.carried (begins-fits n framer.held b) b.spelled bad.1 bad.0,
      );
    }
whole-unread before mid now es all old framer n (Memory error) g t limit bad =
    let s = gathers-more before mid now es old framer t.got g t.from t.needed t.answered.0 limit in
    record {
      got = s.got;
      from = s.from;
      within = omega (arith, s.few);
      needed = s.needed;
      ended = false;
      at_end = λ e. absurd (never_ended e);
      answers = λ rest e. tt;
    }

-- the source gives no frame
pub whole-refused : (before mid now : Seen) (es : List MuxElement) (old framer : Framer) (fault : StreamFault) → Gathers before mid es old → Takes most_bytes old framer mid now (Err fault) → pushed framer ≤ most_bytes
    → ReadsWhole before now (Err fault)
whole-refused before mid now es old framer ReadFault g t limit =
    let s = gathers-more before mid now es old framer t.got g t.from t.needed t.answered.0 limit in
    record {
      got = s.got;
      from = s.from;
      within = omega (arith, s.few);
      needed = s.needed;
      ended = false;
      at_end = λ e. absurd (never_ended e);
      answers = λ rest e. may_go_on s.got es framer.held s.carried s.few t.answered.1;
    }
whole-refused before mid now es old framer TooLarge g t limit =
    let a = t.answered in
    let whole = g.got ++ a.0 in
    let held_is : framer.held ≡ old.held ++ a.0 = ap (λ (f : Framer). f.held) a.3 in
    let full : length whole ≡ most_bytes = omega (arith, a.5, ap (λ (f : Framer). f.passed) a.3, ap (λ (x : List ℕ). length x) held_is, length-append old.held a.0, length-append g.got a.0, g.pushed) in
    let carried : Carries None whole es framer.held = subst (λ (x : List ℕ). Carries None whole es x) (sym held_is) (carries_more None g.got es old.held a.0 g.carried) in
    let got = g.got ++ t.got in
    let within : length got ≤ most_bytes + 1 = omega (arith, t.within, g.pushed, length-append g.got t.got) in
    record {
      got = got;
      from = g.from ∙ ap (prepend_known g.got) t.from ∙ prepend-prepend g.got t.got now.left;
      within = within;
      needed = needed-on g.got t.got es old.held g.carried g.few within g.needed t.needed;
      ended = false;
      at_end = λ e. absurd (never_ended e);
      answers = λ rest e.
          let parts : whole ++ (a.1 ∷ rest) ≡ got ++ rest =
          sym (append_assoc whole (a.1 ∷ []) rest) ∙ ap (λ (x : List ℕ). x ++ rest) (append_assoc g.got a.0 (a.1 ∷ []) ∙ ap (λ (x : List ℕ). g.got ++ x) (sym a.2)) in (
            frames_from None es,
            subst (λ (x : List ℕ). IsScript x (frames_from None es) Rattle.au_stream.specs.Script.TooLarge) parts (script_large whole (a.1 ∷ rest) es framer.held full carried a.4 (omega arith)),
          );
    }
whole-refused before mid now es old framer (Loas (loas.SyncLost byte)) g t limit =
    let s = gathers-more before mid now es old framer t.got g t.from t.needed t.answered.0 limit in
    record {
      got = s.got;
      from = s.from;
      within = omega (arith, s.few);
      needed = s.needed;
      ended = false;
      at_end = λ e. absurd (never_ended e);
      answers = λ rest e. (frames_from None es, script_lost s.got rest es framer.held byte s.few s.carried t.answered.1 (omega (arith, t.answered.2, s.pushed)));
    }
whole-refused before mid now es old framer (Loas (loas.Truncated byte)) g t limit =
    let s = gathers-more before mid now es old framer t.got g t.from t.needed t.answered.0 limit in
    let cut : IsScript s.got (frames_from None es) (Truncated byte) = script_truncated s.got es framer.held byte s.few s.carried t.answered.1 t.answered.2 (omega (arith, t.answered.4, s.pushed)) in
    record {
      got = s.got;
      from = s.from;
      within = omega (arith, s.few);
      needed = s.needed;
      ended = true;
      at_end = λ e. t.answered.3;
      answers = λ rest e. (frames_from None es, subst (λ (x : List ℕ). IsScript x (frames_from None es) (Truncated byte)) (sym (ap (λ (y : List ℕ). s.got ++ y) (e refl) ∙ append-nil s.got)) cut);
    }
whole-refused before mid now es old framer (Loas (loas.Memory error)) g t limit = absurd t.answered
whole-refused before mid now es old framer (Mux frame fault) g t limit = absurd t.answered
whole-refused before mid now es old framer (Memory error) g t limit =
    let got = g.got ++ t.got in
    let within : length got ≤ most_bytes + 1 = omega (arith, t.within, g.pushed, length-append g.got t.got) in
    record {
      got = got;
      from = g.from ∙ ap (prepend_known g.got) t.from ∙ prepend-prepend g.got t.got now.left;
      within = within;
      needed = needed-on g.got t.got es old.held g.carried g.few within g.needed t.needed;
      ended = false;
      at_end = λ e. absurd (never_ended e);
      answers = λ rest e. tt;
    }

-- ---- the count of faults

pub unread_caused : (body : List ℕ) (es all : List MuxElement) (fault : StreamFault) (before now : ℕ) → Adds body es all (Err fault) → now ≡ before → Caused {T = Stream} before now (Err fault)
unread_caused body es all ReadFault before now bad same = absurd bad
unread_caused body es all TooLarge before now bad same = absurd bad
unread_caused body es all (Loas fault) before now bad same = absurd bad
unread_caused body es all (Mux frame fault) before now bad same = same
unread_caused body es all (Memory error) before now bad same = same

pub refused_caused : (fault : StreamFault) (before mid now : ℕ) → mid ≡ before → Caused {T = Option ℕ} mid now (Err fault) → Caused {T = Stream} before now (Err fault)
refused_caused ReadFault before mid now e rose = subst (λ (k : ℕ). Rose k now) e rose
refused_caused TooLarge before mid now e same = same ∙ e
refused_caused (Loas fault) before mid now e same = same ∙ e
refused_caused (Mux frame fault) before mid now e same = same ∙ e
refused_caused (Memory error) before mid now e same = same ∙ e
