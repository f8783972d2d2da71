-- What is handed on in the canonical mux is read again.
use Rattle.std.proofs.Common.{◌≡◌, ℕ, suc, ◌-◌, ◌%◌, ◌<◌, ◌≤◌, Bool, false, List, [], ◌∷◌, ◌++◌, length, replicate, Option, Some, None, All, refl, sym, ap, subst, ◌∙◌, append_assoc, arith}
use Rattle.std.specs.Prelude.{is_some}
use Rattle.layout.specs.Layout.{FitsOption}
use Rattle.layout.specs.Text.{bits_of}
use Rattle.asc.specs.declared.asc_config.Asc.{Asc}
use Rattle.asc.specs.Asc.{IsWellFormed}
use Rattle.latm.specs.declared.mux_config.MuxConfig.{MuxConfig}
use Rattle.latm.specs.declared.mux_element.MuxElement.{MuxElement}
use Rattle.latm.specs.MuxElement.{then_in_force, element, opening, body, slot_of_bytes}
use Rattle.latm.specs.Written.{config_of, canonical_config, canonical_element, canonical_text, canonical_bytes, element_text}
use Rattle.latm.proofs.FrameWrites.{canonical_well}
use Rattle.latm.proofs.CanonicalBytes.{canonical_body}
use Rattle.au_stream.specs.Elements.{IsElement, Carries}
use Rattle.au_stream.specs.Frames.{Frame, frames_from, frames_under}
use Rattle.au_stream.specs.Script.{most_bytes, End, IsScript}
use Rattle.au_stream.specs.Canonical.{Handed, HasFrame, bytes_of_handed, asc_behind, BeginsWith, frames_of_handed}
use Rattle.au_stream.proofs.Scripts.{script_end}
use Rattle.au_stream.proofs.Written.{bytes_fit}

-- ---- one element

-- the element of an access unit, with the zero bits behind it
abbrev padded : Handed → MuxElement
padded h = record {
  config = config_of h.asc;
  slots = h.au ∷ [];
  other = [];
  tail = replicate ((8 - length (element_text (canonical_element h.asc h.au)) % 8) % 8) false;
}

body_fits : (v : Asc) (au : List ℕ) (zeros : List Bool) → All (λ byte. byte < 256) au → (let L = body (Some (canonical_config v)) in L.Fits (au ∷ [], ([], zeros)))
body_fits v au zeros bytes = ((refl, ((tt, (refl, bytes_fit au bytes)), tt)), ((refl, refl), tt))

-- the element as it stands where `before` is in force: a configuration is in force there, or is its own
pub record Opens (before : Option MuxConfig) (h : Handed) (v : Asc) : Type 0 where
  pub behind : then_in_force before (config_of h.asc) ≡ Some (canonical_config v)
  pub fits : (let L = opening (is_some before) in L.Fits (config_of h.asc))
  pub opens : is_some (config_of h.asc) ≡ is_some h.asc

fits : (before : Option MuxConfig) (h : Handed) (v : Asc) (zeros : List Bool) → Opens before h v → All (λ byte. byte < 256) h.au
    → (let L = element before in L.Fits (record { config = config_of h.asc; slots = h.au ∷ []; other = []; tail = zeros }))
fits before h v zeros o bytes =
    let of : Option MuxConfig → Type 0 = λ m. (let L = body m in L.Fits (h.au ∷ [], ([], zeros))) in
    (o.fits, subst of (sym o.behind) (body_fits v h.au zeros bytes))

text_is : (before : Option MuxConfig) (h : Handed) (zeros : List Bool)
    → element_text (canonical_element h.asc h.au) ++ zeros ≡ (let L = element before in L.spelling (record { config = config_of h.asc; slots = h.au ∷ []; other = []; tail = zeros }))
text_is before h zeros =
    let front = (let L = opening (is_some before) in L.spelling (config_of h.asc)) in
    let slots = (let L = slot_of_bytes in L.spelling h.au) ++ [] in
    append_assoc front (slots ++ []) zeros ∙ ap (λ (t : List Bool). front ++ t) (append_assoc slots [] zeros)

is_element : (before : Option MuxConfig) (h : Handed) (v : Asc) (body : List ℕ) → Opens before h v → HasFrame h → bits_of body ≡ canonical_text h.asc h.au → IsElement before (padded h) body
is_element before h v body o has spelled =
    let zeros = replicate ((8 - length (element_text (canonical_element h.asc h.au)) % 8) % 8) false in
    record { fits = fits before h v zeros o has.au; spelled = spelled ∙ text_is before h zeros }

-- ---- one behind another

-- The bytes carry elements with these frames.
pub record CarriesFrames (before : Option MuxConfig) (text : List ℕ) (frames : List Frame) : Type 0 where
  pub elements : List MuxElement
  pub carried : Carries before text elements []
  pub frames_are : frames_from before elements ≡ frames

step : (before : Option MuxConfig) (h : Handed) (v : Asc) (text : List ℕ) (frames : List Frame) → Opens before h v → HasFrame h → CarriesFrames (Some (canonical_config v)) text frames
    → CarriesFrames before (canonical_bytes h.asc h.au ++ text) (record { mux = canonical_config v; opens = is_some h.asc; au = h.au } ∷ frames)
step before h v text frames o has more =
    let b = canonical_body h.asc h.au in
    let e = padded h in
    record {
      elements = e ∷ more.elements;
      carried = (
        b.body,
        text,
        omega (arith, b.count, has.short),
        ap (λ (xs : List ℕ). xs ++ text) b.is,
        is_element before h v b.body o has b.spelled,
        subst (λ (m : Option MuxConfig). Carries m text more.elements []) (sym o.behind) more.carried,
      );
      frames_are = ap (λ (m : Option MuxConfig). frames_under m (is_some (config_of h.asc)) (h.au ∷ []) ++ frames_from m more.elements) o.behind
          ∙ ap (λ (b : Bool). record { mux = canonical_config v; opens = b; au = h.au } ∷ frames_from (Some (canonical_config v)) more.elements) o.opens
          ∙ ap (λ (fs : List Frame). record { mux = canonical_config v; opens = is_some h.asc; au = h.au } ∷ fs) more.frames_are;
    }

opens_on : (before : Asc) (own : Option Asc) (au : List ℕ) → FitsOption IsWellFormed own → Opens (Some (canonical_config before)) (record { asc = own; au = au }) (asc_behind before own)
opens_on before None au w = record { behind = refl; fits = (((tt, refl), refl), (refl, tt)); opens = refl }
opens_on before (Some v) au w = record { behind = refl; fits = (((tt, refl), refl), (refl, canonical_well (Some v) w)); opens = refl }

opens_first : (first : Asc) (au : List ℕ) → IsWellFormed first → Opens None (record { asc = Some first; au = au }) first
opens_first first au w = record { behind = refl; fits = (((tt, refl), refl), (refl, canonical_well (Some first) w)); opens = refl }

-- behind an AudioSpecificConfig that is in force
pub carried_on : (before : Asc) (hs : List Handed) → All HasFrame hs → CarriesFrames (Some (canonical_config before)) (bytes_of_handed hs) (frames_of_handed before hs)
carried_on before [] all = record { elements = []; carried = refl; frames_are = refl }
carried_on before (h ∷ hs) all =
    let has = all 0 h (omega arith) in
    let v = asc_behind before h.asc in
    step (Some (canonical_config before)) h v (bytes_of_handed hs) (frames_of_handed v hs) (opens_on before h.asc h.au has.asc) has (carried_on v hs (λ i d lt. all (suc i) d (omega (arith, lt))))

carried_first : (first : Asc) (hs : List Handed) → BeginsWith first hs → All HasFrame hs → CarriesFrames None (bytes_of_handed hs) (frames_of_handed first hs)
carried_first first [] begins all = record { elements = []; carried = refl; frames_are = refl }
carried_first first (h ∷ hs) begins all =
    let own : Option Asc → Handed = λ o. record { asc = o; au = h.au } in
    let has : HasFrame (own (Some first)) = subst (λ (o : Option Asc). HasFrame (own o)) begins (all 0 h (omega arith)) in
    let more = carried_on first hs (λ i d lt. all (suc i) d (omega (arith, lt))) in
    let at : Option Asc → Type 0 = λ o. CarriesFrames None (bytes_of_handed (own o ∷ hs)) (frames_of_handed first (own o ∷ hs)) in
    subst at (sym begins) (step None (own (Some first)) first (bytes_of_handed hs) (frames_of_handed first hs) (opens_first first h.au has.asc) has more)

pub canonical_back : (first : Asc) (hs : List Handed) → BeginsWith first hs → All HasFrame hs → length (bytes_of_handed hs) ≤ most_bytes → IsScript (bytes_of_handed hs) (frames_of_handed first hs) End
canonical_back first hs begins all le =
    let c = carried_first first hs begins all in
    subst (λ (fs : List Frame). IsScript (bytes_of_handed hs) fs End) c.frames_are (script_end (bytes_of_handed hs) c.elements [] le c.carried refl)
