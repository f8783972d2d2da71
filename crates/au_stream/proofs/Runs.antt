-- Lists of elements that texts carry.
use Rattle.std.proofs.Common.{◌≡◌, ℕ, zero, suc, ◌<◌, ◌≤◌, List, [], ◌∷◌, ◌++◌, length, Option, None, Result, Ok, Err, refl, sym, ap, subst, ◌∙◌, append_assoc, arith, inl, inr}
use Rattle.std.specs.Prelude.{◌⊎◌}
use Rattle.std.proofs.lemmas.List.{length-append, append-nil}
use Rattle.layout.specs.Text.{bits_of}
use Rattle.layout.specs.Reader.{Reader}
use Rattle.loas.specs.Framing.{framed, IsFrameBody, IsPartial, HasWrongSync}
use Rattle.loas.specs.Cut.{Cut, Whole, Partial, Lost, cut_of}
use Rattle.loas.proofs.Frames.{same_frame, whole_framed, cut-framed, partial_is}
use Rattle.loas.proofs.Splitting.{partial_stuck, wrong_stuck}
use Rattle.latm.specs.declared.fault.MuxFault.{MuxFault}
use Rattle.latm.specs.declared.mux_config.MuxConfig.{MuxConfig}
use Rattle.latm.specs.declared.mux_element.MuxElement.{MuxElement}
use Rattle.latm.specs.MuxElement.{element, then_in_force}
use Rattle.latm.specs.MuxElementExact.{element_exact, spelled_once}
use Rattle.au_stream.specs.Elements.{IsElement, Carries, IsLongest, in_force_behind}

-- ---- one element

-- some bytes are one element at most
pub one_element : (before : Option MuxConfig) (body : List ℕ) (e f : MuxElement) → IsElement before e body → IsElement before f body → e ≡ f
one_element before body e f a b = spelled_once before e f a.fits b.fits (sym a.spelled ∙ b.spelled)

start_of : List ℕ → Reader
start_of body = record { text = bits_of body; at = 0 }

-- bytes that have a fault are no element
pub faulty : (before : Option MuxConfig) (body : List ℕ) (fault : MuxFault) (e : MuxElement) → (let L = element before in L.Faults 0 fault (bits_of body)) → IsElement before e body → ⊥
faulty before body fault e bad is =
    let reads = (element_exact before).again (record { text = bits_of body; at = 0 }) e is.fits is.spelled in
    let fails = (element_exact before).only (record { text = bits_of body; at = 0 }) fault bad in
    cc

-- bytes are an element, or have a fault
pub decided : (before : Option MuxConfig) (body : List ℕ) → ((e : MuxElement) × IsElement before e body) ⊎ ((fault : MuxFault) × (let L = element before in L.Faults 0 fault (bits_of body)))
decided before body = go ((element before).read (record { text = bits_of body; at = 0 })) refl
  where
    go : (q : Result (MuxElement × Reader) MuxFault) → (element before).read (record { text = bits_of body; at = 0 }) ≡ q
        → ((e : MuxElement) × IsElement before e body) ⊎ ((fault : MuxFault) × (let L = element before in L.Faults 0 fault (bits_of body)))
    go (Ok x) is =
        let t = (element_exact before).takes (record { text = bits_of body; at = 0 }) x.1 x.0 is in
        inl (x.0, record { fits = t.0; spelled = t.1 })
    go (Err fault) is = inr (fault, (element_exact before).blames (record { text = bits_of body; at = 0 }) fault is)

-- ---- lists of elements

-- no element stands at the front, as a LOAS frame
abbrev pub HasNoElement : Option MuxConfig → List ℕ → Type 0
HasNoElement before rest = (e : MuxElement) (body behind : List ℕ) → IsFrameBody body → rest ≡ framed body ++ behind → IsElement before e body → ⊥

-- what stands behind the text stands behind the rest
pub carries_more : (before : Option MuxConfig) (text : List ℕ) (es : List MuxElement) (rest more : List ℕ) → Carries before text es rest → Carries before (text ++ more) es (rest ++ more)
carries_more before text [] rest more c = ap (λ (t : List ℕ). t ++ more) c
carries_more before text (e ∷ es) rest more c =
    (c.0, c.1 ++ more, c.2, ap (λ (t : List ℕ). t ++ more) c.3 ∙ append_assoc (framed c.0) c.1 more, c.4, carries_more (then_in_force before e.config) c.1 es rest more c.5)

-- one more element in front of the rest
pub carries_push : (before : Option MuxConfig) (text : List ℕ) (es : List MuxElement) (rest : List ℕ) (e : MuxElement) (body behind : List ℕ) → Carries before text es rest → IsFrameBody body → rest ≡ framed body ++ behind → IsElement (in_force_behind before es) e body
    → Carries before text (es ++ e ∷ []) behind
carries_push before text [] rest e body behind c fits is b = (body, behind, fits, c ∙ is, b, refl)
carries_push before text (first ∷ es) rest e body behind c fits is b =
    (c.0, c.1, c.2, c.3, c.4, carries_push (then_in_force before first.config) c.1 es rest e body behind c.5 fits is b)

-- the bytes of elements, without what stands behind them
pub carries_front : (before : Option MuxConfig) (text : List ℕ) (es : List MuxElement) (rest : List ℕ) → Carries before text es rest → (front : List ℕ) × (text ≡ front ++ rest) × Carries before front es []
carries_front before text [] rest c = ([], c, refl)
carries_front before text (e ∷ es) rest (body, behind, fits, is, own, c) =
    let k = carries_front (then_in_force before e.config) behind es rest c in
    (framed body ++ k.0, is ∙ (ap (λ (t : List ℕ). framed body ++ t) k.1 ∙ sym (append_assoc (framed body) k.0 rest)), (body, k.0, fits, refl, own, k.2))

pub in_force-push : (before : Option MuxConfig) (es : List MuxElement) (e : MuxElement) → in_force_behind before (es ++ e ∷ []) ≡ then_in_force (in_force_behind before es) e.config
in_force-push before [] e = refl
in_force-push before (first ∷ es) e = in_force-push (then_in_force before first.config) es e

-- Of two lists that a text carries one begins with the other.
pub compared : (before : Option MuxConfig) (text : List ℕ) (some others : List MuxElement) (rest remains : List ℕ) → Carries before text some rest → Carries before text others remains
    → ((more : List MuxElement) × (others ≡ some ++ more) × Carries (in_force_behind before some) rest more remains) ⊎ ((e : MuxElement) × (more : List MuxElement) × (some ≡ others ++ e ∷ more))
compared before text [] others rest remains a b = inl (others, refl, subst (λ (t : List ℕ). Carries before t others remains) a b)
compared before text (e ∷ some) [] rest remains a b = inr (e, some, refl)
compared before text (e ∷ some) (other ∷ others) rest remains a b =
    let same = same_frame a.0 a.1 b.0 b.1 a.2 b.2 (sym a.3 ∙ b.3) in
    let one : e ≡ other = one_element before a.0 e other a.4 (subst (λ (t : List ℕ). IsElement before other t) (sym same.0) b.4) in
    let there : Carries (then_in_force before e.config) a.1 others remains =
    subst (λ (f : MuxElement). Carries (then_in_force before f.config) a.1 others remains) (sym one)
    (subst (λ (t : List ℕ). Carries (then_in_force before other.config) t others remains) (sym same.1) b.5) in
    let next = compared (then_in_force before e.config) a.1 some others rest remains a.5 there in
    elim next [
      | inl h ↦ inl (h.0, ap (λ (f : MuxElement). f ∷ others) (sym one) ∙ ap (λ (fs : List MuxElement). e ∷ fs) h.1, h.2)
      | inr h ↦ inr (h.0, h.1, ap (λ (fs : List MuxElement). e ∷ fs) h.2 ∙ ap (λ (f : MuxElement). f ∷ (others ++ h.0 ∷ h.1)) one)
    ]

-- Elements behind which no further one stands are the most.
pub stuck_longest : (text : List ℕ) (es : List MuxElement) (rest : List ℕ) → Carries None text es rest → HasNoElement (in_force_behind None es) rest → IsLongest text es rest
stuck_longest text es rest c none = record {
  carried = c;
  longest = λ others remains d.
      elim (compared None text es others rest remains c d) [
        | inl h ↦ no_more h.0 remains h.2 others h.1
        | inr h ↦ omega (arith, ap (λ (fs : List MuxElement). length fs) h.2, length-append others (h.0 ∷ h.1))
      ];
}
  where
    no_more : (more : List MuxElement) (remains : List ℕ) → Carries (in_force_behind None es) rest more remains → (others : List MuxElement) → others ≡ es ++ more → length others ≤ length es
    no_more [] remains h others e = omega (arith, ap (λ (fs : List MuxElement). length fs) (e ∙ append-nil es))
    no_more (f ∷ more) remains h others e = absurd (none f h.0 h.1 h.2 h.3 h.4)

-- Elements that a text carries are the first of the most that it carries.
pub first_of_longest : (text : List ℕ) (es : List MuxElement) (rest : List ℕ) (most : List MuxElement) (remains : List ℕ) → Carries None text es rest → IsLongest text most remains
    → (more : List MuxElement) × (most ≡ es ++ more) × Carries (in_force_behind None es) rest more remains
first_of_longest text es rest most remains c l =
    elim (compared None text es most rest remains c l.carried) [
      | inl h ↦ h
      | inr h ↦ absurd (let le = l.longest es rest c in omega (arith, le, ap (λ (fs : List MuxElement). length fs) h.2, length-append most (h.0 ∷ h.1)))
    ]

-- The most elements that a text carries are one list, and what remains is one text.
pub one_longest : (text : List ℕ) (a b : List MuxElement) (x y : List ℕ) → IsLongest text a x → IsLongest text b y → (a ≡ b) × (x ≡ y)
one_longest text a b x y l m =
    let h = first_of_longest text a x b y l.carried m in
    none h.0 h.1 h.2
  where
    none : (more : List MuxElement) → b ≡ a ++ more → Carries (in_force_behind None a) x more y → (a ≡ b) × (x ≡ y)
    none [] e c = (sym (e ∙ append-nil a), c)
    none (f ∷ more) e c = absurd (let le = l.longest b y m.carried in omega (arith, le, ap (λ (fs : List MuxElement). length fs) e, length-append a (f ∷ more)))

-- ---- where no element stands

pub partial_none : (before : Option MuxConfig) (rest : List ℕ) → IsPartial rest → HasNoElement before rest
partial_none before rest p e body behind fits is b = partial_stuck rest p body behind fits is

-- however the text goes on behind a wrong syncword
pub wrong_more : (rest more : List ℕ) → HasWrongSync rest → HasWrongSync (rest ++ more)
wrong_more [] more w = absurd w
wrong_more (first ∷ []) [] w = w
wrong_more (first ∷ []) (b ∷ more) w = inl w
wrong_more (first ∷ second ∷ rest) more w = w

pub wrong_none : (before : Option MuxConfig) (rest : List ℕ) → HasWrongSync rest → HasNoElement before rest
wrong_none before rest w e body behind fits is b = wrong_stuck rest w body behind fits is

-- a LOAS frame whose bytes have a fault
pub faulty_none : (before : Option MuxConfig) (rest body behind : List ℕ) (fault : MuxFault) → IsFrameBody body → rest ≡ framed body ++ behind → (let L = element before in L.Faults 0 fault (bits_of body)) → HasNoElement before rest
faulty_none before rest body behind fault fits is bad e other remains fits_other is_other b =
    let same = same_frame body behind other remains fits fits_other (sym is ∙ is_other) in
    faulty before body fault e bad (subst (λ (t : List ℕ). IsElement before e t) (sym same.0) b)

-- ---- there are most elements of any text

-- the elements of a text, and behind them none
pub record Found (before : Option MuxConfig) (text : List ℕ) : Type 0 where
  pub elements : List MuxElement
  pub rest : List ℕ
  pub carried : Carries before text elements rest
  pub none : HasNoElement (in_force_behind before elements) rest

nothing_found : (before : Option MuxConfig) (text : List ℕ) → HasNoElement before text → Found before text
nothing_found before text none = record { elements = []; rest = text; carried = refl; none = none }

found_behind : (before : Option MuxConfig) (text body behind : List ℕ) (e : MuxElement) → IsFrameBody body → text ≡ framed body ++ behind → IsElement before e body → Found (then_in_force before e.config) behind → Found before text
found_behind before text body behind e fits is b f = record { elements = e ∷ f.elements; rest = f.rest; carried = (body, behind, fits, is, b, f.carried); none = f.none }

found_at : (before : Option MuxConfig) (text : List ℕ) → ((in_force : Option MuxConfig) (behind : List ℕ) → length behind < length text → Found in_force behind) → (c : Cut) → cut_of text ≡ c → Found before text
found_at before text shorter (Whole body behind) is =
    let w = whole_framed text body behind is in
    elim (decided before body) [
      | inl e ↦ found_behind before text body behind e.0 w.1 w.0 e.1 (shorter (then_in_force before e.0.config) behind (omega (arith, ap (λ (t : List ℕ). length t) w.0, length-append (framed body) behind)))
      | inr bad ↦ nothing_found before text (faulty_none before text body behind bad.0 w.1 w.0 bad.1)
    ]
found_at before text shorter Partial is = nothing_found before text (partial_none before text (partial_is text is))
found_at before text shorter Lost is = nothing_found before text (λ e body behind fits here b. let w : Lost ≡ Whole body behind = sym is ∙ ap cut_of here ∙ cut-framed body behind fits in cc)

found_within : (n : ℕ) (before : Option MuxConfig) (text : List ℕ) → length text ≤ n → Found before text
found_within zero before [] le = nothing_found before [] (partial_none before [] (partial_is [] refl))
found_within zero before (b ∷ text) le = absurd (omega arith)
found_within (suc n) before text le = found_at before text (λ in_force behind short. found_within n in_force behind (omega arith)) (cut_of text) refl

pub exists_longest : (text : List ℕ) → (es : List MuxElement) × (rest : List ℕ) × IsLongest text es rest
exists_longest text =
    let f = found_within (length text) None text (omega arith) in
    (f.elements, f.rest, stuck_longest text f.elements f.rest f.carried f.none)
