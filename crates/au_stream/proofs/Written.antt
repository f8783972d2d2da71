-- What is written of elements as LOAS frames is read again.
use Rattle.std.proofs.Common.{◌≡◌, ℕ, suc, ◌+◌, ◌*◌, ◌/◌, ◌<◌, ◌≤◌, Bool, List, [], ◌∷◌, ◌++◌, length, take, drop, Option, Some, None, Result, Ok, Err, All, refl, sym, ap, subst, ◌∙◌, arith}
use Rattle.std.specs.List.{flat_map, AllByRecursion}
use Rattle.std.proofs.lemmas.List.{length-append, append-nil, length-take-le, length-drop, take-append-drop}
use Rattle.std.proofs.lemmas.List.Elements.{All-take}
use Rattle.layout.specs.Text.{num, bits_of}
use Rattle.layout.specs.Reading.{ReadsText}
use Rattle.layout.proofs.Layouts.{prefix_free}
use Rattle.layout.proofs.TextLemmas.{length-bits_of, bits_of-append}
use Rattle.bit_core.specs.Plain.{bits, octets}
use Rattle.bit_core.proofs.PlainFacts.{octets-exact}
use Rattle.loas.specs.Framing.{framed, header, IsFrameBody}
use Rattle.loas.specs.Framer.{Framer}
use Rattle.loas.specs.Giving.{Takes}
use Rattle.loas.specs.declared.framed.Framed.{Framed}
use Rattle.loas.specs.declared.fault.LoasFault.{LoasFault}
use Rattle.loas.specs.declared.fault.LoasFault.TheVariants.{SyncLost, Truncated, Memory}
use Rattle.loas.proofs.Frames.{same_frame}
use Rattle.loas.proofs.Given.{frame-not_partial, frame-not_wrong}
use Rattle.latm.specs.declared.fault.MuxFault.{MuxFault}
use Rattle.latm.specs.declared.mux_config.MuxConfig.{MuxConfig}
use Rattle.latm.specs.declared.mux_element.MuxElement.{MuxElement}
use Rattle.latm.specs.declared.stream.Stream.{Stream}
use Rattle.latm.specs.Faults.{is_memory}
use Rattle.latm.specs.MuxElement.{element, then_in_force}
use Rattle.latm.specs.Stream.{AreElements, IsWellFormed}
use Rattle.latm.specs.Written.{element_text, Frames}
use Rattle.au_stream.specs.Elements.{IsElement, Carries}
use Rattle.au_stream.specs.Script.{most_bytes}
use Rattle.au_stream.specs.Whole.{IsStream}
use Rattle.au_stream.specs.Written.{IsWritten, AreWritten, GivesElement, ReadsElement}
use Rattle.au_stream.proofs.Runs.{one_element}
use Rattle.au_stream.proofs.Scripts.{all_longest, partial-empty, script_end}

abbrev AreBytes : List ℕ → Type 0
AreBytes xs = All (λ byte. byte < 256) xs

-- ---- bytes by their bits

pub bytes_fit : (xs : List ℕ) → AreBytes xs → AllByRecursion (bits 8).Fits xs
bytes_fit [] h = tt
bytes_fit (x ∷ xs) h = ((h 0 0 (omega arith), refl), bytes_fit xs (λ i d lt. h (suc i) d (omega arith)))

octets_spelled : (xs : List ℕ) → flat_map (num 8) xs ≡ bits_of xs
unfolding bits_of
octets_spelled xs = refl

-- as many bytes, and what stands behind them, are told by their bits
same_bytes : (n : ℕ) (xs ys : List ℕ) (x y : List Bool) → length xs ≡ n → length ys ≡ n → AllByRecursion (bits 8).Fits xs → AllByRecursion (bits 8).Fits ys → bits_of xs ++ x ≡ bits_of ys ++ y → (xs ≡ ys) × (x ≡ y)
same_bytes n xs ys x y many much a b e =
    prefix_free (octets n) (octets-exact n) xs ys x y (many, a) (much, b) (ap (λ (t : List Bool). t ++ x) (octets_spelled xs) ∙ e ∙ ap (λ (t : List Bool). t ++ y) (sym (octets_spelled ys)))

-- ---- the frame of an element

header_fits : (n : ℕ) → n ≤ 8191 → AllByRecursion (bits 8).Fits (header n)
header_fits n le = ((omega arith, refl), ((omega arith, refl), ((omega arith, refl), tt)))

-- The bytes of a LOAS frame are a header and a body, and the bits of the body are the text.
pub record HasBody (text : List Bool) (frame : List ℕ) : Type 0 where
  pub body : List ℕ
  pub fits : IsFrameBody body
  pub is : frame ≡ framed body
  pub spelled : bits_of body ≡ text

has_body : (text : List Bool) (frame : List ℕ) → AreBytes frame → Frames text (Ok frame) → HasBody text frame
has_body text frame bytes f =
    let n = length text / 8 in
    let small : n ≤ 8191 = omega (arith, f.ok.1) in
    let whole : length (bits_of frame) ≡ length (bits_of (header n)) + length text = ap (λ (t : List Bool). length t) f.ok.0 ∙ length-append (bits_of (header n)) text in
    let eights : 8 * length frame ≡ 24 + length text = omega (arith, whole, length-bits_of frame, length-bits_of (header n)) in
    let three : length (take 3 frame) ≡ 3 = length-take-le 3 frame (omega (arith, eights)) in
    let cut : bits_of (take 3 frame) ++ bits_of (drop 3 frame) ≡ bits_of (header n) ++ text =
    sym (bits_of-append (take 3 frame) (drop 3 frame)) ∙ ap (λ (xs : List ℕ). bits_of xs) (take-append-drop 3 frame) ∙ f.ok.0 in
    let same = same_bytes 3 (take 3 frame) (header n) (bits_of (drop 3 frame)) text three refl (bytes_fit (take 3 frame) (All-take (λ byte. byte < 256) 3 frame bytes)) (header_fits n small) cut in
    let size : length (drop 3 frame) ≡ n = omega (arith, eights, length-drop 3 frame) in
    record {
      body = drop 3 frame;
      fits = omega (arith, size, small);
      is = sym (take-append-drop 3 frame) ∙ ap (λ (xs : List ℕ). xs ++ drop 3 frame) same.0 ∙ ap (λ (k : ℕ). header k ++ drop 3 frame) (sym size);
      spelled = same.1;
    }

pub carried : (before : Option MuxConfig) (e : MuxElement) (frame behind : List ℕ) → (let L = element before in L.Fits e) → IsWritten e frame → Carries before (frame ++ behind) (e ∷ []) behind
carried before e frame behind fits w =
    let h = has_body (element_text e) frame w.bytes w.frames in
    (h.body, behind, h.fits, ap (λ (t : List ℕ). t ++ behind) h.is, record { fits = fits; spelled = h.spelled }, refl)

-- ---- one spelling

-- bytes begin with the frame of one element at most
pub one_element_of : (before : Option MuxConfig) (text : List ℕ) (e f : MuxElement) (rest remains : List ℕ) → Carries before text (e ∷ []) rest → Carries before text (f ∷ []) remains → (e ≡ f) × (rest ≡ remains)
one_element_of before text e f rest remains a b =
    let same = same_frame a.0 a.1 b.0 b.1 a.2 b.2 (sym a.3 ∙ b.3) in
    (one_element before a.0 e f a.4 (subst (λ (t : List ℕ). IsElement before f t) (sym same.0) b.4), sym a.5 ∙ same.1 ∙ b.5)

-- the bits of a frame with nothing behind it
frame_bits : (frame body behind : List ℕ) → frame ≡ framed body ++ behind → behind ≡ [] → bits_of frame ≡ bits_of (header (length body)) ++ bits_of body
frame_bits frame body behind is none = ap (λ (xs : List ℕ). bits_of xs) (is ∙ ap (λ (xs : List ℕ). framed body ++ xs) none ∙ append-nil (framed body)) ∙ bits_of-append (header (length body)) body

-- an element has one frame at most
pub one_frame_of : (before later : Option MuxConfig) (e : MuxElement) (frame other : List ℕ) → AreBytes frame → AreBytes other → Carries before frame (e ∷ []) [] → Carries later other (e ∷ []) [] → frame ≡ other
one_frame_of before later e frame other bytes others a b =
    let spelled : bits_of a.0 ≡ bits_of b.0 = a.4.spelled ∙ sym b.4.spelled in
    let long : length a.0 ≡ length b.0 = omega (arith, ap (λ (t : List Bool). length t) spelled, length-bits_of a.0, length-bits_of b.0) in
    let same : bits_of frame ≡ bits_of other =
    frame_bits frame a.0 a.1 a.3 a.5
    ∙ ap (λ (k : ℕ). bits_of (header k) ++ bits_of a.0) long
    ∙ ap (λ (t : List Bool). bits_of (header (length b.0)) ++ t) spelled
    ∙ sym (frame_bits other b.0 b.1 b.3 b.5) in
    let size : length other ≡ length frame = omega (arith, ap (λ (t : List Bool). length t) same, length-bits_of frame, length-bits_of other) in
    (same_bytes (length frame) frame other [] [] refl size (bytes_fit frame bytes) (bytes_fit other others) (ap (λ (t : List Bool). t ++ []) same)).0

-- ---- what the framer gives

pub given : (before : Option MuxConfig) (e : MuxElement) (text behind : List ℕ) (old new : Framer) (result : Result (Option Framed) LoasFault) → Carries before text (e ∷ []) behind → old.held ≡ text → Takes old new result → GivesElement before e behind old new result
given before e text behind old new (Ok (Some frame)) c held t =
    let same = same_frame c.0 c.1 frame.element new.held c.2 t.1 (sym c.3 ∙ sym held ∙ t.2) in
    (subst (λ (body : List ℕ). IsElement before e body) same.0 c.4, t.0, sym same.1 ∙ c.5)
given before e text behind old new (Ok None) c held t = frame-not_partial old.held c.0 c.1 c.2 (held ∙ c.3) t.1
given before e text behind old new (Err (SyncLost byte)) c held t = frame-not_wrong old.held c.0 c.1 c.2 (held ∙ c.3) t.1
given before e text behind old new (Err (Truncated byte)) c held t = t
given before e text behind old new (Err (Memory error)) c held t = t.0

pub read_back : (before : Option MuxConfig) (e : MuxElement) (body : List ℕ) (result : Result MuxElement MuxFault) → IsElement before e body → ReadsText is_memory (element before) (bits_of body) result → ReadsElement e result
read_back before e body result is reads = reads.only e is.fits is.spelled

-- ---- streams

all_carried : (before : Option MuxConfig) (es : List MuxElement) (text : List ℕ) → AreElements before es → AreWritten es text → Carries before text es []
all_carried before [] text are w = w
all_carried before (e ∷ es) text are w =
    let h = has_body (element_text e) w.0 w.2.bytes w.2.frames in
    (h.body, w.1, h.fits, w.3 ∙ ap (λ (t : List ℕ). t ++ w.1) h.is, record { fits = are.0.fits; spelled = h.spelled }, all_carried (then_in_force before e.config) es w.1 are.1 w.4)

pub stream_back : (stream : Stream) (text : List ℕ) → IsWellFormed stream → AreWritten stream.elements text → length text ≤ most_bytes → IsStream text stream
stream_back stream text well w le =
    let c = all_carried None stream.elements text well.elements w in
    record {
      longest = all_longest text stream.elements [] le c partial-empty;
      script = script_end text stream.elements [] le c refl;
      well_formed = well;
    }
