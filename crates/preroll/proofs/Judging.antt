-- What a frame carries by the function is what the rules say.
use Rattle.std.proofs.Common.{◌≡◌, ℕ, ◌<◌, ◌≤◌, Bool, true, false, List, [], ◌∷◌, length, refl, sym, ap, subst, ◌∙◌, arith, Option, Some, None, Result, Ok, Err, inl, inr}
use Rattle.std.specs.Prelude.{map, nat_lt, ◌==◌, if◌then◌else◌}
use Rattle.std.specs.List.{AllByRecursion}
use Rattle.std.specs.Option.{option_map_or}
use Rattle.std.proofs.lemmas.Bool.{eqb-true}
use Rattle.std.proofs.lemmas.Bool.Decides.{nat_tests}
use Rattle.layout.specs.Text.{bits_of}
use Rattle.layout.specs.Reader.{Reader, left, moved}
use Rattle.layout.specs.Laws.{fault_of as whole_fault}
use Rattle.layout.proofs.Layouts.{left_moved, some_is}
use Rattle.layout.proofs.Whole.{fault_of_is as whole_fault_is}
use Rattle.usac_cfg.specs.declared.usac_config.UsacConfig.{UsacConfig}
use Rattle.usac_cfg.specs.declared.faults.CfgFault.{CfgFault}
use Rattle.usac_cfg.specs.UsacConfig.{IsWellFormed}
use Rattle.usac_cfg.specs.Spelling.{usac_config}
use Rattle.usac_cfg.specs.UsacExact.{usac_config_exact}
use Rattle.usac_cfg.specs.Same.{same}
use Rattle.usac_cfg.specs.SameFound.{same_true, same_itself}
use Rattle.usac_frame.specs.declared.fault.FrameFault.{FrameFault}
use Rattle.usac_frame.specs.declared.fault.FrameFault.TheVariants as frames
use Rattle.usac_frame.specs.declared.frame.Frame.{Frame}
use Rattle.usac_frame.specs.Frame.{frame, FrameFaults}
use Rattle.usac_frame.specs.AccessUnit.{IsFrame, frame_of, unit_in, unit_where}
use Rattle.usac_frame.specs.FrameExact.{decided as frames_decided}
use Rattle.usac_frame.specs.FrameFound.{frame_of_is}
use Rattle.usac_frame.specs.Units.{UnitValue, unit_of, payload_length, first_payload, is_whole}
use Rattle.preroll.specs.declared.fault.PreFault.{PreFault}
use Rattle.preroll.specs.declared.fault.PreFault.TheVariants as faults
use Rattle.preroll.specs.declared.fault.CarryFault.{CarryFault}
use Rattle.preroll.specs.declared.fault.CarryFault.TheVariants.{NotImmediate, Split, BadPreroll, ConfigDiffers}
use Rattle.preroll.specs.declared.preroll.PreRoll.{PreRoll}
use Rattle.preroll.specs.PreRollExact.{decided}
use Rattle.preroll.specs.Payload.{preroll_of, fault_of}
use Rattle.preroll.specs.PayloadFound.{preroll_of_is, fault_of_is}
use Rattle.preroll.specs.Carried.{IsConfigIn, IsNoConfig, IsOtherConfig, IsAFrame, IsShortUnit, IsNestedUnit, starts_independent, preroll_bytes}
use Rattle.preroll.specs.Steps.{IsOpened, AreFrames, IsConfigFault}
use Rattle.preroll.specs.Laws.{IsCarriedOf, IsShownOf}
use Rattle.preroll.specs.Carrying.{Carried, IsJudged, own_config, config_in, config_judged, config_rule, frame_short, short_at, behind_short, first_short, short_unit, short_rule, behind_place, nested_unit, nested_rule, first_rule, first_of, or_carried, opened, bit_of, carried_of, carried_in, Shown, shown, Shows}
use Rattle.preroll.proofs.Configs.{one_config, none_in_none}
use Rattle.preroll.proofs.UnitFrames.{units_are, starts_are}
use Rattle.preroll.proofs.Rules.{Passes, none_tried, next, of_preroll}
use Rattle.preroll.proofs.Tried.{pass_3, pass_6, pass_7, pass_9, config_first, dependent_first, are_carried, carries, all_get}
use Rattle.preroll.proofs.OneRule.{judged_once}
use Rattle.preroll.proofs.NeverMemory.{preroll_never, frame_never}

some_none : {A : Type 0} (x : A) → Some x ≡ None → ⊥
some_none x e = cc

none_some : {A : Type 0} (x : A) → None ≡ Some x → ⊥
none_some x e = cc

-- ---- the configuration in bytes

not_over : (m n : ℕ) → n ≤ m → nat_lt m n ≡ false
not_over m n h = grind (arith, nat_tests)

over : (m n : ℕ) → nat_lt m n ≡ false → n ≤ m
over m n h = grind (arith, nat_tests)

some_over : (n : ℕ) → nat_lt 0 n ≡ true → 0 < n
some_over n h = grind (arith, nat_tests)

config_found : (bytes : List ℕ) (d : UsacConfig) → IsConfigIn bytes d → config_in bytes ≡ Some d
unfolding config_in
config_found bytes d i =
    let r : Reader = record { text = bits_of bytes; at = 0 } in
    let n = length (usac_config.spelling d) in
    let read = usac_config_exact.again r d i.behind i.fits i.spelled in
    let rest = ap (λ (t : List Bool). length t) (left_moved r (usac_config.spelling d) i.behind i.spelled) in
    let few = not_over 7 (length (left (moved r n))) (omega (arith, rest, i.few)) in
    ap own_config read ∙ ap (λ (b : Bool). if b then None else Some d) few

own_is : (bytes : List ℕ) (d : UsacConfig) (q : Result (UsacConfig × Reader) CfgFault) → usac_config.read (record { text = bits_of bytes; at = 0 }) ≡ q → own_config q ≡ Some d → IsConfigIn bytes d
own_is bytes d (Err f) p e = absurd (none_some d e)
own_is bytes d (Ok x) p e = by_test (nat_lt 7 (length (left x.1))) refl e
  where
    by_test : (b : Bool) → nat_lt 7 (length (left x.1)) ≡ b → (if b then None else Some x.0) ≡ Some d → IsConfigIn bytes d
    by_test true q e = absurd (none_some d e)
    by_test false q e =
        let t = usac_config_exact.takes (record { text = bits_of bytes; at = 0 }) x.1 x.0 p in
        let here : IsConfigIn bytes x.0 = record { behind = left x.1; fits = t.0; spelled = t.1; few = over 7 (length (left x.1)) q } in
        subst (IsConfigIn bytes) (some_is x.0 d e) here

config_is : (bytes : List ℕ) (d : UsacConfig) → config_in bytes ≡ Some d → IsConfigIn bytes d
unfolding config_in
config_is bytes d e = own_is bytes d (usac_config.read (record { text = bits_of bytes; at = 0 })) refl e

abbrev ConfigJudged : UsacConfig → List ℕ → Option CarryFault → Type 0
ConfigJudged c bytes None = (IsNoConfig bytes → ⊥) × (IsOtherConfig c bytes → ⊥)
ConfigJudged c bytes (Some e) = IsConfigFault c bytes e

judge_found : (c : UsacConfig) (bytes : List ℕ) → IsWellFormed c → 0 < length bytes → (o : Option UsacConfig) → config_in bytes ≡ o → ConfigJudged c bytes (config_judged c o)
judge_found c bytes w some None e = (some, λ d i. none_some d (sym e ∙ config_found bytes d i))
judge_found c bytes w some (Some d) e = by_test (same d c) refl
  where
    here : IsConfigIn bytes d
    here = config_is bytes d e

    by_test : (b : Bool) → same d c ≡ b → ConfigJudged c bytes (if b then None else Some ConfigDiffers)
    by_test true q = (
      (λ none. none.1 d here),
      (λ other. other.2 (one_config bytes other.0 d other.1 here ∙ same_true d c here.fits w q)),
    )
    by_test false q = (d, here, λ x. absurd (let never : true ≡ false = sym (ap (λ y. same y c) x ∙ same_itself c) ∙ q in cc))

judge_config : (c : UsacConfig) (bytes : List ℕ) → IsWellFormed c → ConfigJudged c bytes (config_rule c bytes)
judge_config c [] w = ((λ none. absurd (omega (arith, none.0))), (λ other. none_in_none [] other.0 refl other.1))
judge_config c (b ∷ bytes) w = judge_found c (b ∷ bytes) w (omega arith) (config_in (b ∷ bytes)) refl

-- ---- the first access unit that is no frame

abbrev ShortIs : UsacConfig → List ℕ → Option ℕ → Type 0
ShortIs c u None = IsAFrame c u
ShortIs c u (Some at) = FrameFaults c (frames.Short at) (bits_of u)

fault_is : (c : UsacConfig) (u : List ℕ) (o : Option FrameFault) → whole_fault (frame c) (frames_decided c) (bits_of u) ≡ o → ShortIs c u (frame_short o)
fault_is c u None e = elim ((frames_decided c).one_of (bits_of u)) [
  | inl spelled ↦ (spelled.0, frame_of_is.found c u spelled.0 (record { fits = spelled.1; spelled = spelled.2 }))
  | inr bad ↦ absurd (some_none bad.0 (sym ((whole_fault_is (frame c) (frames_decided c)).found (bits_of u) bad.0 bad.1) ∙ e))
]
fault_is c u (Some (frames.Short at)) e = (whole_fault_is (frame c) (frames_decided c)).is (bits_of u) (frames.Short at) e
fault_is c u (Some (frames.Memory a)) e =
    absurd (let never : true ≡ false = (frame_never c).never 0 (frames.Memory a) (bits_of u) ((whole_fault_is (frame c) (frames_decided c)).is (bits_of u) (frames.Memory a) e) in cc)

-- it is short at that bit, or a frame
pub short_is : (c : UsacConfig) (u : List ℕ) → ShortIs c u (short_at c u)
unfolding short_at
short_is c u = fault_is c u (whole_fault (frame c) (frames_decided c) (bits_of u)) refl

abbrev ShortJudged : UsacConfig → List (List ℕ) → Option (ℕ × ℕ) → Type 0
ShortJudged c us None = (fs : List Frame) × AreFrames c us fs
ShortJudged c us (Some x) = IsShortUnit c us x.0 x.1

short_behind : (c : UsacConfig) (u : List ℕ) (us : List (List ℕ)) (g : Frame) → frame_of c u ≡ Some g → (o : Option (ℕ × ℕ)) → ShortJudged c us o → ShortJudged c (u ∷ us) (behind_short o)
short_behind c u us g e None (fs, are) = (g ∷ fs, rw (e, are) refl)
short_behind c u us g e (Some x) h = (h.0, h.1, h.2, ((g, e), h.3))

short_first : (c : UsacConfig) (u : List ℕ) (us : List (List ℕ)) (o : Option ℕ) (later : Option (ℕ × ℕ)) → ShortIs c u o → ShortJudged c us later → ShortJudged c (u ∷ us) (first_short o later)
short_first c u us None later h more = short_behind c u us h.0 h.1 later more
short_first c u us (Some at) later h more = (u, refl, h, tt)

judge_short : (c : UsacConfig) (us : List (List ℕ)) → ShortJudged c us (short_unit c us)
judge_short c [] = ([], refl)
judge_short c (u ∷ us) = short_first c u us (short_at c u) (short_unit c us) (short_is c u) (judge_short c us)

-- ---- the first access unit with a preroll

abbrev NestedJudged : UsacConfig → List (List ℕ) → Option ℕ → Type 0
NestedJudged c us None = AllByRecursion (λ u. preroll_bytes c u ≡ 0) us
NestedJudged c us (Some k) = IsNestedUnit c us k

nested_behind : (c : UsacConfig) (u : List ℕ) (us : List (List ℕ)) → preroll_bytes c u ≡ 0 → (o : Option ℕ) → NestedJudged c us o → NestedJudged c (u ∷ us) (behind_place o)
nested_behind c u us none None h = (none, h)
nested_behind c u us none (Some k) h = (h.0, h.1, h.2, (none, h.3))

judge_nested : (c : UsacConfig) (us : List (List ℕ)) → NestedJudged c us (nested_unit c us)
judge_nested c [] = tt
judge_nested c (u ∷ us) = by_test (judge_nested c us) (nat_lt 0 (preroll_bytes c u)) refl
  where
    by_test : NestedJudged c us (nested_unit c us) → (b : Bool) → nat_lt 0 (preroll_bytes c u) ≡ b → NestedJudged c (u ∷ us) (if b then Some 0 else behind_place (nested_unit c us))
    by_test more true e = (u, refl, some_over (preroll_bytes c u) e, tt)
    by_test more false e = nested_behind c u us (let none = over 0 (preroll_bytes c u) e in omega (arith, none)) (nested_unit c us) more

-- ---- the rules in their order

module _ (c : UsacConfig) (f : Frame) (p : PreRoll) (o : IsOpened c f p) where
  last_rule : (fs : List Frame) → AreFrames c p.units fs → Passes c f 8 → (b : Bool) → starts_independent c f p.units ≡ b → IsJudged c f (or_carried c p (first_rule b))
  last_rule fs are tried true e = carries c f p fs (map (unit_in c) p.units) o (are_carried c f p fs (pass_9 c f p fs o tried are (starts_are c f p.units fs are ∙ e)) are) (sym (units_are c p.units fs are))
  last_rule fs are tried false e = dependent_first c f p fs o tried are (starts_are c f p.units fs are ∙ e)

  by_nested : (fs : List Frame) → AreFrames c p.units fs → Passes c f 7 → (n : Option ℕ) → NestedJudged c p.units n → IsJudged c f (or_carried c p (first_of (nested_rule n) (first_rule (starts_independent c f p.units))))
  by_nested fs are tried (Some k) h = record { breaks = (p, o.is, h); before = tried }
  by_nested fs are tried None h = last_rule fs are (next 7 c f (omega arith) tried (λ k at b.
      let nested = of_preroll f (λ q. IsNestedUnit c q.units k) p o.is b in
      let no = all_get (λ u. preroll_bytes c u ≡ 0) p.units k nested.0 h nested.1 in
      omega (arith, no, nested.2))) (starts_independent c f p.units) refl

  by_short : Passes c f 6 → (s : Option (ℕ × ℕ)) → ShortJudged c p.units s → IsJudged c f (or_carried c p (first_of (short_rule s) (first_of (nested_rule (nested_unit c p.units)) (first_rule (starts_independent c f p.units)))))
  by_short tried (Some x) h = record { breaks = (p, o.is, h); before = tried }
  by_short tried None (fs, are) = by_nested fs are (pass_7 c f p fs o tried are) (nested_unit c p.units) (judge_nested c p.units)

  by_config : (x : Option CarryFault) → ConfigJudged c p.config x → IsJudged c f (or_carried c p (first_of x (first_of (short_rule (short_unit c p.units)) (first_of (nested_rule (nested_unit c p.units)) (first_rule (starts_independent c f p.units))))))
  by_config None h = by_short (pass_6 c f p o h.0 h.1) (short_unit c p.units) (judge_short c p.units)
  by_config (Some e) h = config_first c f p e o h

module _ (c : UsacConfig) (f : Frame) (w : IsWellFormed c) where
  -- a payload that is no preroll has a fault
  by_fault : (payload_length c f ≡ 0 → ⊥) → is_whole f ≡ true → (bad : Option PreFault) → fault_of (first_payload f) ≡ bad → preroll_of (first_payload f) ≡ None → IsJudged c f (Err (BadPreroll (bit_of bad)))
  by_fault some whole None e none = elim (decided.one_of (bits_of (first_payload f))) [
    | inl spelled ↦ absurd (some_none spelled.0 (sym (preroll_of_is.found (first_payload f) spelled.0 spelled.1 spelled.2) ∙ none))
    | inr bad ↦ absurd (some_none bad.0 (sym (fault_of_is.found (first_payload f) bad.0 bad.1) ∙ e))
  ]
  by_fault some whole (Some (faults.Short at)) e none = record { breaks = fault_of_is.is (first_payload f) (faults.Short at) e; before = pass_3 c f some whole }
  by_fault some whole (Some (faults.Memory a)) e none =
      absurd (let never : true ≡ false = preroll_never.never 0 (faults.Memory a) (bits_of (first_payload f)) (fault_of_is.is (first_payload f) (faults.Memory a) e) in cc)

  by_payload : (payload_length c f ≡ 0 → ⊥) → is_whole f ≡ true → (o : Option PreRoll) → preroll_of (first_payload f) ≡ o → IsJudged c f (opened c f o (fault_of (first_payload f)))
  by_payload some whole None e = by_fault some whole (fault_of (first_payload f)) refl e
  by_payload some whole (Some p) e = by_config c f p (record { some = some; whole = whole; is = e }) (config_rule c p.config) (judge_config c p.config w)

  by_whole : (payload_length c f ≡ 0 → ⊥) → (b : Bool) → is_whole f ≡ b → IsJudged c f (if b then opened c f (preroll_of (first_payload f)) (fault_of (first_payload f)) else Err Split)
  by_whole some true e = by_payload some e (preroll_of (first_payload f)) refl
  by_whole some false e = record { breaks = e; before = next 1 c f (omega arith) (none_tried c f) (λ k at b. some b) }

  by_bytes : (b : Bool) → (payload_length c f == 0) ≡ b → IsJudged c f (if b then Err NotImmediate else (if is_whole f then opened c f (preroll_of (first_payload f)) (fault_of (first_payload f)) else Err Split))
  by_bytes true e = record { breaks = eqb-true (payload_length c f) 0 e; before = none_tried c f }
  by_bytes false e = by_whole (λ none. absurd (let never : true ≡ false = sym (ap (λ n. n == 0) none) ∙ e in cc)) (is_whole f) refl

  -- What the function gives is what the frame carries, or its first fault.
  pub judged : IsJudged c f (carried_of c f)
  unfolding carried_of
  judged = by_bytes (payload_length c f == 0) refl

-- a frame is judged so in one way
one_judgement : (c : UsacConfig) (f : Frame) (q r : Result Carried CarryFault) → IsJudged c f q → IsJudged c f r → q ≡ r
one_judgement c f (Ok k) (Ok l) a b =
    let one = judged_once.one_list c f k.fade l.fade k.units l.units a b in
    ap (λ (x : Bool). let y : Result Carried CarryFault = Ok (record { fade = x; units = k.units }) in y) one.0
    ∙ ap (λ (x : List UnitValue). let y : Result Carried CarryFault = Ok (record { fade = l.fade; units = x }) in y) one.1
one_judgement c f (Ok k) (Err e) a b = absurd (judged_once.not_both c f e k.fade k.units b a)
one_judgement c f (Err e) (Ok k) a b = absurd (judged_once.not_both c f e k.fade k.units a b)
one_judgement c f (Err e) (Err g) a b = ap (λ (x : CarryFault). let y : Result Carried CarryFault = Err x in y) (judged_once.one_fault c f e g a b)

pub carried_is : IsCarriedOf
carried_is = record {
  is = judged;
  found = λ c f r w j. one_judgement c f (carried_of c f) r (judged c f w) j;
}

-- ---- an access unit

-- what an access unit that is a frame carries
pub carried_in_frame : (c : UsacConfig) (au : List ℕ) (g : Frame) → IsFrame c au g → carried_in c au ≡ carried_of c g
unfolding carried_in
carried_in_frame c au g is = ap (λ (o : Option Frame). option_map_or (carried_of c) o (Err NotImmediate)) (frame_of_is.found c au g is)

unit_in_frame : (c : UsacConfig) (au : List ℕ) (g : Frame) → IsFrame c au g → unit_in c au ≡ unit_of c g
unit_in_frame c au g is = ap (unit_where c) (frame_of_is.found c au g is)

pub shows : (c : UsacConfig) (au : List ℕ) (g : Frame) → IsWellFormed c → IsFrame c au g → Shows c au (shown c au)
shows c au g w is = record {
  read = g;
  is = is;
  config = refl;
  unit = unit_in_frame c au g is;
  carried = subst (IsJudged c g) (sym (carried_in_frame c au g is)) (judged c g w);
}

pub shown_once : (c : UsacConfig) (au : List ℕ) (s : Shown) → IsWellFormed c → Shows c au s → s ≡ shown c au
shown_once c au s w h =
    let unit : s.unit ≡ unit_in c au = h.unit ∙ sym (unit_in_frame c au h.read h.is) in
    let carried : s.carried ≡ carried_in c au = one_judgement c h.read s.carried (carried_of c h.read) h.carried (judged c h.read w) ∙ sym (carried_in_frame c au h.read h.is) in
    ap (λ (x : UsacConfig). let y : Shown = record { config = x; unit = s.unit; carried = s.carried } in y) h.config
    ∙ (ap (λ (x : UnitValue). let y : Shown = record { config = c; unit = x; carried = s.carried } in y) unit
    ∙ ap (λ (x : Result Carried CarryFault). let y : Shown = record { config = c; unit = unit_in c au; carried = x } in y) carried)

pub shown_is : IsShownOf
shown_is = record { shows = shows; once = shown_once }
