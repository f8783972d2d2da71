-- An input has one script.
use Rattle.std.proofs.Common.{◌≡◌, ℕ, ◌+◌, ◌-◌, ◌<◌, ◌≤◌, Bool, List, [], ◌∷◌, ◌++◌, length, take, drop, Option, None, refl, sym, ap, subst, ◌∙◌, arith, inl, inr, All}
use Rattle.std.proofs.lemmas.Bool.{cases_lt}
use Rattle.std.proofs.lemmas.List.{length-append}
use Rattle.std.proofs.lemmas.List.Elements.{All-take, All-drop}
use Rattle.std.proofs.Math.Seq.{drop-append_seam}
use Rattle.layout.specs.Text.{bits_of}
use Rattle.layout.specs.Reader.{Reader}
use Rattle.layout.proofs.Layouts.{err_is}
use Rattle.loas.specs.Framing.{framed, IsPartial, HasWrongSync, BeginsWithFrame}
use Rattle.loas.proofs.Frames.{same_frame, some_front}
use Rattle.loas.proofs.Given.{begins-fits, partial-not_wrong, frame-not_partial, frame-not_wrong}
use Rattle.latm.specs.declared.fault.MuxFault.{MuxFault}
use Rattle.latm.specs.declared.mux_config.MuxConfig.{MuxConfig}
use Rattle.latm.specs.declared.mux_element.MuxElement.{MuxElement}
use Rattle.latm.specs.MuxElement.{element, then_in_force}
use Rattle.latm.specs.MuxElementExact.{element_exact}
use Rattle.au_stream.specs.Elements.{Carries, IsLongest, in_force_behind}
use Rattle.au_stream.specs.Frames.{Frame, frames_from}
use Rattle.au_stream.specs.Script.{most_bytes, Mark, End, SyncLost, BadElement, Truncated, TooLarge, IsMark, HasFrames, IsScript}
use Rattle.au_stream.proofs.FrameCounts.{frames_few}
use Rattle.au_stream.proofs.Runs.{decided, carries_push, exists_longest, one_longest}

-- ---- one mark

-- bytes have one fault at most
one_fault : (in_force : Option MuxConfig) (f g : MuxFault) (t : List Bool) → (let L = element in_force in L.Faults 0 f t) → (let L = element in_force in L.Faults 0 g t) → f ≡ g
one_fault in_force f g t bad worse =
    let a = (element_exact in_force).only (record { text = t; at = 0 }) f bad in
    let b = (element_exact in_force).only (record { text = t; at = 0 }) g worse in
    err_is {A = MuxElement × Reader} f g (sym a ∙ b)

-- a place is told by what stands behind it
one_place : (a b rest whole : ℕ) → a + rest ≡ whole → b + rest ≡ whole → a ≡ b
one_place a b rest whole p q = omega arith

not_wrong : (rest : List ℕ) → rest ≡ [] → HasWrongSync rest → ⊥
not_wrong rest e wrong = subst HasWrongSync e wrong

not_frame : (rest body behind : List ℕ) → rest ≡ [] → rest ≡ framed body ++ behind → ⊥
not_frame rest body behind e f = let never : [] ≡ framed body ++ behind = sym e ∙ f in cc

not_some : (rest : List ℕ) → rest ≡ [] → 0 < length rest → ⊥
not_some rest e some = omega (arith, ap (λ (t : List ℕ). length t) e)

pub one_mark : (text : List ℕ) (in_force : Option MuxConfig) (n : ℕ) (rest : List ℕ) (a b : Mark) → IsMark text in_force n rest a → IsMark text in_force n rest b → a ≡ b
one_mark text m n rest End End p q = refl
one_mark text m n rest End (SyncLost byte) p q = absurd (not_wrong rest p.0 q.0)
one_mark text m n rest End (BadElement frame fault) p q = absurd (not_frame rest q.0 q.1 p.0 q.3)
one_mark text m n rest End (Truncated byte) p q = absurd (not_some rest p.0 q.1)
one_mark text m n rest End TooLarge p q = absurd (omega (arith, p.1, q.1))
one_mark text m n rest (SyncLost byte) End p q = absurd (not_wrong rest q.0 p.0)
one_mark text m n rest (SyncLost byte) (SyncLost other) p q = ap SyncLost (one_place byte other (length rest) (length (take most_bytes text)) p.1 q.1)
one_mark text m n rest (SyncLost byte) (BadElement frame fault) p q = absurd (frame-not_wrong rest q.0 q.1 q.2 q.3 p.0)
one_mark text m n rest (SyncLost byte) (Truncated other) p q = absurd (partial-not_wrong rest q.0 p.0)
one_mark text m n rest (SyncLost byte) TooLarge p q = absurd (partial-not_wrong rest q.0 p.0)
one_mark text m n rest (BadElement frame fault) End p q = absurd (not_frame rest p.0 p.1 q.0 p.3)
one_mark text m n rest (BadElement frame fault) (SyncLost byte) p q = absurd (frame-not_wrong rest p.0 p.1 p.2 p.3 q.0)
one_mark text m n rest (BadElement frame fault) (BadElement other worse) p q =
    let same = same_frame p.0 p.1 q.0 q.1 p.2 q.2 (sym p.3 ∙ q.3) in
    let bad : (let L = element m in L.Faults 0 worse (bits_of p.0)) = subst (λ (t : List ℕ). let L = element m in L.Faults 0 worse (bits_of t)) (sym same.0) q.4 in
    let fault_is : fault ≡ worse = one_fault m fault worse (bits_of p.0) p.4 bad in
    let frame_is : frame ≡ other = p.5 ∙ sym q.5 in
    ap (λ (k : ℕ). BadElement k fault) frame_is ∙ ap (λ (f : MuxFault). BadElement other f) fault_is
one_mark text m n rest (BadElement frame fault) (Truncated byte) p q = absurd (frame-not_partial rest p.0 p.1 p.2 p.3 q.0)
one_mark text m n rest (BadElement frame fault) TooLarge p q = absurd (frame-not_partial rest p.0 p.1 p.2 p.3 q.0)
one_mark text m n rest (Truncated byte) End p q = absurd (not_some rest q.0 p.1)
one_mark text m n rest (Truncated byte) (SyncLost other) p q = absurd (partial-not_wrong rest p.0 q.0)
one_mark text m n rest (Truncated byte) (BadElement frame fault) p q = absurd (frame-not_partial rest q.0 q.1 q.2 q.3 p.0)
one_mark text m n rest (Truncated byte) (Truncated other) p q = ap Truncated (one_place byte other (length rest) (length text) p.3 q.3)
one_mark text m n rest (Truncated byte) TooLarge p q = absurd (omega (arith, p.2, q.1))
one_mark text m n rest TooLarge End p q = absurd (omega (arith, q.1, p.1))
one_mark text m n rest TooLarge (SyncLost byte) p q = absurd (partial-not_wrong rest p.0 q.0)
one_mark text m n rest TooLarge (BadElement frame fault) p q = absurd (frame-not_partial rest q.0 q.1 q.2 q.3 p.0)
one_mark text m n rest TooLarge (Truncated byte) p q = absurd (omega (arith, q.2, p.1))
one_mark text m n rest TooLarge TooLarge p q = refl

-- ---- one script

pub same_frames : (text : List ℕ) (frames others : List Frame) (mark : Mark) → IsScript text frames mark → HasFrames text others → frames ≡ others
same_frames text frames others mark s h =
    let same = one_longest (take most_bytes text) s.elements h.elements s.rest h.rest s.longest h.longest in
    s.each ∙ ap (λ (es : List MuxElement). frames_from None es) same.0 ∙ sym h.each

pub script_frames : (text : List ℕ) (frames : List Frame) (mark : Mark) → IsScript text frames mark → HasFrames text frames
script_frames text frames mark s = record { elements = s.elements; rest = s.rest; longest = s.longest; each = s.each }

pub one_script : (text : List ℕ) (frames others : List Frame) (mark other : Mark) → IsScript text frames mark → IsScript text others other → (frames ≡ others) × (mark ≡ other)
one_script text frames others mark other s t =
    let frames_are = same_frames text frames others mark s (script_frames text others other t) in
    let same = one_longest (take most_bytes text) s.elements t.elements s.rest t.rest s.longest t.longest in
    let ends : IsMark text (in_force_behind None s.elements) (length frames) s.rest other =
    subst (λ (es : List MuxElement). IsMark text (in_force_behind None es) (length frames) s.rest other) (sym same.0)
    (subst (λ (fs : List Frame). IsMark text (in_force_behind None t.elements) (length fs) s.rest other) (sym frames_are)
    (subst (λ (r : List ℕ). IsMark text (in_force_behind None t.elements) (length others) r other) (sym same.1) t.ends)) in
    (frames_are, one_mark text (in_force_behind None s.elements) (length frames) s.rest mark other s.ends ends)

-- ---- there is one

abbrev pub AreBytes : List ℕ → Type 0
AreBytes text = All (λ byte. byte < 256) text

-- what stands behind elements are bytes
bytes_behind : (before : Option MuxConfig) (text : List ℕ) (es : List MuxElement) (rest : List ℕ) → Carries before text es rest → AreBytes text → AreBytes rest
bytes_behind before text [] rest c bytes = subst AreBytes c bytes
bytes_behind before text (e ∷ es) rest c bytes =
    let front = framed c.0 in
    let behind : AreBytes c.1 = subst AreBytes (drop-append_seam front c.1) (All-drop (λ byte. byte < 256) (length front) (front ++ c.1) (subst AreBytes c.3 bytes)) in
    bytes_behind (then_in_force before e.config) c.1 es rest c.5 behind

-- a frame at the front of what stands behind the most elements is no element
has_fault : (text : List ℕ) (es : List MuxElement) (rest : List ℕ) (n : ℕ) → IsLongest text es rest → BeginsWithFrame n rest
    → (fault : MuxFault) × (let L = element (in_force_behind None es) in L.Faults 0 fault (bits_of (take n (drop 3 rest))))
has_fault text es rest n l b =
    let body = take n (drop 3 rest) in
    elim (decided (in_force_behind None es) body) [
      | inl e ↦ absurd (
          let le = l.longest (es ++ e.0 ∷ []) (drop (3 + n) rest) (carries_push None text es rest e.0 body (drop (3 + n) rest) l.carried (begins-fits n rest b) b.spelled e.1) in
          omega (arith, le, length-append es (e.0 ∷ []))
          )
      | inr bad ↦ bad
    ]

-- a mark where less than a frame is left
part_mark : (text : List ℕ) (m : Option MuxConfig) (n : ℕ) (rest : List ℕ) → IsPartial rest → length rest ≤ length text → (mark : Mark) × IsMark text m n rest mark
part_mark text m n rest p le = elim (cases_lt most_bytes (length text)) [
  | inl large ↦ (TooLarge, (p, large))
  | inr few ↦ ended rest p le few
]
  where
    ended : (rest : List ℕ) → IsPartial rest → length rest ≤ length text → length text ≤ most_bytes → (mark : Mark) × IsMark text m n rest mark
    ended [] p le few = (End, (refl, few))
    ended (b ∷ rest) p le few = (Truncated (length text - length (b ∷ rest)), (p, omega arith, few, omega arith))

some_mark : (text : List ℕ) (es : List MuxElement) (rest : List ℕ) → AreBytes text → IsLongest (take most_bytes text) es rest → (mark : Mark) × IsMark text (in_force_behind None es) (length (frames_from None es)) rest mark
some_mark text es rest bytes l =
    let m = in_force_behind None es in
    let n = length (frames_from None es) in
    let counted = take most_bytes text in
    let le = frames_few None counted es rest l.carried in
    let less : length counted ≤ length text = omega (arith, Rattle.std.proofs.lemmas.List.length-take most_bytes text) in
    elim (some_front rest (bytes_behind None counted es rest l.carried (All-take (λ byte. byte < 256) most_bytes text bytes))) [
      | inl begins ↦
          let bad = has_fault counted es rest begins.0 l begins.1 in
          (BadElement n bad.0, (take begins.0 (drop 3 rest), drop (3 + begins.0) rest, begins-fits begins.0 rest begins.1, begins.1.spelled, bad.1, refl))
      | inr other ↦ elim other [
        | inl part ↦ part_mark text m n rest part (omega (arith, le, less))
        | inr wrong ↦ (SyncLost (length counted - length rest), (wrong, omega (arith, le)))
      ]
    ]

pub exists_script : (text : List ℕ) → AreBytes text → (frames : List Frame) × (mark : Mark) × IsScript text frames mark
exists_script text bytes =
    let all = exists_longest (take most_bytes text) in
    let mark = some_mark text all.0 all.1 bytes all.2 in
    (frames_from None all.0, mark.0, record { elements = all.0; rest = all.1; longest = all.2; each = refl; ends = mark.1 })
