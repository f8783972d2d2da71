-- The script of a text, by the elements that a part of it carries and what stands behind them.
use Rattle.std.proofs.Common.{◌≡◌, ℕ, ◌+◌, ◌-◌, ◌<◌, ◌≤◌, List, [], ◌∷◌, ◌++◌, length, take, None, refl, sym, ap, subst, ◌∙◌, append_assoc, arith}
use Rattle.std.proofs.lemmas.List.{length-append, append-nil, take_all}
use Rattle.std.proofs.Math.Seq.{take-append-add}
use Rattle.layout.specs.Text.{bits_of}
use Rattle.loas.specs.Framing.{framed, IsFrameBody, IsPartial, HasWrongSync}
use Rattle.loas.proofs.Frames.{partial_is}
use Rattle.latm.specs.declared.fault.MuxFault.{MuxFault}
use Rattle.latm.specs.declared.mux_element.MuxElement.{MuxElement}
use Rattle.latm.specs.MuxElement.{element}
use Rattle.au_stream.specs.Elements.{Carries, IsLongest, in_force_behind}
use Rattle.au_stream.specs.Frames.{Frame, frames_from}
use Rattle.au_stream.specs.Script.{most_bytes, Mark, End, SyncLost, BadElement, Truncated, TooLarge, IsMark, HasFrames, IsScript, IsOpen}
use Rattle.au_stream.proofs.Runs.{carries_more, stuck_longest, first_of_longest, exists_longest, partial_none, wrong_none, wrong_more, faulty_none}
use Rattle.au_stream.proofs.FrameLists.{frames-append}

-- the bytes that count, of which a front is known
pub counted : (whole more : List ℕ) → length whole ≤ most_bytes → take most_bytes (whole ++ more) ≡ whole ++ take (most_bytes - length whole) more
counted whole more le =
    let k : length whole + (most_bytes - length whole) ≡ most_bytes = omega arith in
    ap (λ (n : ℕ). take n (whole ++ more)) (sym k) ∙ take-append-add whole more (most_bytes - length whole)

pub all_counted : (text : List ℕ) → length text ≤ most_bytes → take most_bytes text ≡ text
all_counted text le = take_all most_bytes text le

carried_on : (whole more : List ℕ) (es : List MuxElement) (held : List ℕ) → length whole ≤ most_bytes → Carries None whole es held
    → Carries None (take most_bytes (whole ++ more)) es (held ++ take (most_bytes - length whole) more)
carried_on whole more es held le c =
    let x = take (most_bytes - length whole) more in
    subst (λ (t : List ℕ). Carries None t es (held ++ x)) (sym (counted whole more le)) (carries_more None whole es held x c)

-- the elements of the whole text, behind which none stands
pub all_longest : (whole : List ℕ) (es : List MuxElement) (held : List ℕ) → length whole ≤ most_bytes → Carries None whole es held → IsPartial held → IsLongest (take most_bytes whole) es held
all_longest whole es held le c p =
    subst (λ (t : List ℕ). IsLongest t es held) (sym (all_counted whole le)) (stuck_longest whole es held c (partial_none (in_force_behind None es) held p))

pub partial-empty : IsPartial []
partial-empty = partial_is [] refl

pub script_end : (whole : List ℕ) (es : List MuxElement) (held : List ℕ) → length whole ≤ most_bytes → Carries None whole es held → held ≡ [] → IsScript whole (frames_from None es) End
script_end whole es held le c none = record {
  elements = es;
  rest = held;
  longest = all_longest whole es held le c (subst IsPartial (sym none) partial-empty);
  each = refl;
  ends = (none, le);
}

pub script_truncated : (whole : List ℕ) (es : List MuxElement) (held : List ℕ) (byte : ℕ) → length whole ≤ most_bytes → Carries None whole es held → IsPartial held → 0 < length held → byte + length held ≡ length whole
    → IsScript whole (frames_from None es) (Truncated byte)
script_truncated whole es held byte le c p some place = record {
  elements = es;
  rest = held;
  longest = all_longest whole es held le c p;
  each = refl;
  ends = (p, some, le, place);
}

pub script_lost : (whole more : List ℕ) (es : List MuxElement) (held : List ℕ) (byte : ℕ) → length whole ≤ most_bytes → Carries None whole es held → HasWrongSync held → byte + length held ≡ length whole
    → IsScript (whole ++ more) (frames_from None es) (SyncLost byte)
script_lost whole more es held byte le c wrong place =
    let x = take (most_bytes - length whole) more in
    let there = wrong_more held x wrong in
    record {
      elements = es;
      rest = held ++ x;
      longest = stuck_longest (take most_bytes (whole ++ more)) es (held ++ x) (carried_on whole more es held le c) (wrong_none (in_force_behind None es) (held ++ x) there);
      each = refl;
      ends = (there, omega (arith, place, length-append held x, ap (λ (t : List ℕ). length t) (counted whole more le), length-append whole x));
    }

pub script_bad : (whole more : List ℕ) (es : List MuxElement) (held body behind : List ℕ) (frame : ℕ) (fault : MuxFault) → length whole ≤ most_bytes → Carries None whole es held → IsFrameBody body → held ≡ framed body ++ behind
    → (let L = element (in_force_behind None es) in L.Faults 0 fault (bits_of body)) → frame ≡ length (frames_from None es) → IsScript (whole ++ more) (frames_from None es) (BadElement frame fault)
script_bad whole more es held body behind frame fault le c fits is bad number =
    let x = take (most_bytes - length whole) more in
    let there : held ++ x ≡ framed body ++ (behind ++ x) = ap (λ (t : List ℕ). t ++ x) is ∙ append_assoc (framed body) behind x in
    record {
      elements = es;
      rest = held ++ x;
      longest = stuck_longest (take most_bytes (whole ++ more)) es (held ++ x) (carried_on whole more es held le c) (faulty_none (in_force_behind None es) (held ++ x) body (behind ++ x) fault fits there bad);
      each = refl;
      ends = (body, behind ++ x, fits, there, bad, number);
    }

pub script_large : (whole more : List ℕ) (es : List MuxElement) (held : List ℕ) → length whole ≡ most_bytes → Carries None whole es held → IsPartial held → 0 < length more → IsScript (whole ++ more) (frames_from None es) TooLarge
script_large whole more es held full c p some =
    let none : most_bytes - length whole ≡ 0 = omega arith in
    let all : take most_bytes (whole ++ more) ≡ whole = counted whole more (omega arith) ∙ ap (λ (n : ℕ). whole ++ take n more) none ∙ append-nil whole in
    record {
      elements = es;
      rest = held;
      longest = subst (λ (t : List ℕ). IsLongest t es held) (sym all) (stuck_longest whole es held c (partial_none (in_force_behind None es) held p));
      each = refl;
      ends = (p, omega (arith, full, some, length-append whole more));
    }

-- what was taken may go on
pub script_open : (whole : List ℕ) (es : List MuxElement) (held : List ℕ) (byte : ℕ) → length whole ≤ most_bytes → Carries None whole es held → IsPartial held → byte + length held ≡ length whole
    → (mark : Mark) × IsScript whole (frames_from None es) mark × IsOpen mark
script_open whole es [] byte le c p place = (End, script_end whole es [] le c refl, tt)
script_open whole es (b ∷ held) byte le c p place = (Truncated byte, script_truncated whole es (b ∷ held) byte le c p (omega arith) place, tt)

-- the frames of a part are the first of all
pub frames_begin : (whole more : List ℕ) (es : List MuxElement) (held : List ℕ) → length whole ≤ most_bytes → Carries None whole es held → (later : List Frame) × HasFrames (whole ++ more) (frames_from None es ++ later)
frames_begin whole more es held le c =
    let all = exists_longest (take most_bytes (whole ++ more)) in
    let x = take (most_bytes - length whole) more in
    let first = first_of_longest (take most_bytes (whole ++ more)) es (held ++ x) all.0 all.1 (carried_on whole more es held le c) all.2 in
    let later = frames_from (in_force_behind None es) first.0 in
    (later, record { elements = all.0; rest = all.1; longest = all.2; each = sym (frames-append None es first.0) ∙ ap (λ (fs : List MuxElement). frames_from None fs) (sym first.1) })

pub frames_of_script : (text : List ℕ) (frames : List Frame) (mark : Mark) → IsScript text frames mark → HasFrames text frames
frames_of_script text frames mark s = record { elements = s.elements; rest = s.rest; longest = s.longest; each = s.each }

-- the frames of what was taken of a source are the first of its frames
pub frames_of_front : (taken more : List ℕ) (frames : List Frame) (mark : Mark) → IsScript taken frames mark → IsOpen mark → (later : List Frame) × HasFrames (taken ++ more) (frames ++ later)
frames_of_front taken more frames mark s open_is =
    let le = short mark s.ends open_is in
    let c : Carries None taken s.elements s.rest = subst (λ (t : List ℕ). Carries None t s.elements s.rest) (all_counted taken le) s.longest.carried in
    let f = frames_begin taken more s.elements s.rest le c in
    (f.0, subst (λ (x : List Frame). HasFrames (taken ++ more) (x ++ f.0)) (sym s.each) f.1)
  where
    short : (m : Mark) → IsMark taken (in_force_behind None s.elements) (length frames) s.rest m → IsOpen m → length taken ≤ most_bytes
    short End e o = e.1
    short (SyncLost byte) e o = absurd o
    short (BadElement frame fault) e o = absurd o
    short (Truncated byte) e o = e.2
    short TooLarge e o = absurd o

pub some_frames : (text : List ℕ) → (frames : List Frame) × HasFrames text frames
some_frames text =
    let all = exists_longest (take most_bytes text) in
    (frames_from None all.0, record { elements = all.0; rest = all.1; longest = all.2; each = refl })
