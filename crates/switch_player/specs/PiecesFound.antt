-- What a core gives for a piece: what a fresh core gives that begins at its first frame.
use Rattle.std.proofs.Common.{◌≡◌, ℕ, zero, suc, ◌+◌, ◌-◌, ◌≤◌, ◌<◌, List, [], ◌∷◌, ◌++◌, length, take, drop, map, Option, Some, None, true, ℤ, refl, ap, sym, ◌∙◌, arith}
use Rattle.std.proofs.lemmas.List.{append_assoc, append-nil, length-append, length-take-le, length-map, map-append, take_at, drop_at, take-append-drop}
use Rattle.std.specs.Prelude.{slice_get, slice_range}
use Rattle.std.proofs.lemmas.List.Elements.{All-tail, All-take, All-drop, All-same, All-weaker}
use Rattle.usac_cfg.specs.declared.usac_config.UsacConfig.{UsacConfig}
use Rattle.usac_cfg.specs.Same.{same}
use Rattle.usac_frame.specs.Units.{UnitValue}
use Rattle.core_iface.specs.Decoding.{Definitions, out, after}
use Rattle.preroll.specs.Carrying.{Shown, units_in}
use Rattle.plans.specs.Plans.{Piece, frames_of}
use Rattle.plans.specs.StreamUnits.{units_of, head_of}
use Rattle.plans.specs.Laws.{AreOf}
use Rattle.switch_player.specs.Streams.{left}
use Rattle.switch_player.specs.Cuts.{blocks_of}
use Rattle.switch_player.specs.OutsFound.{out-append, after-append, length-out}

-- the state in which a fresh core stands before the unit of a frame
abbrev pub state_before : Definitions → Shown → List ℕ
state_before d f = after d f.config (d.init f.config) (units_in f.carried)

-- the configuration of a stream
abbrev pub config_at : List Shown → Option UsacConfig
config_at [] = None
config_at (f ∷ fs) = Some f.config

-- the frames' own units
abbrev pub own_units : List Shown → List UnitValue
own_units fs = map (λ f. f.unit) fs

-- A piece has a first frame, and gives what a fresh core gives that begins there.
pub record Placed (d : Definitions) (p : Piece) : Type 0 where
  pub frame : Shown
  pub rest : List Shown
  pub frames : frames_of p ≡ frame ∷ rest
  pub first : slice_get p.stream p.from ≡ Some frame
  pub config : config_at p.stream ≡ Some frame.config
  pub same : AreOf frame.config rest
  pub blocks : blocks_of d p ≡ out d frame.config (state_before d frame) (own_units (frame ∷ rest))
  pub behind : left d p.stream p.to ≡ d.drain frame.config (after d frame.config (state_before d frame) (own_units (frame ∷ rest)))

-- The units of a stream: some before, those carried at the frame, those of the frames, and some behind.
module _ (d : Definitions) (c : UsacConfig) where
  slice_out : (s : List ℕ) (us xs ks vs ys : List UnitValue) (head from to : ℕ) → us ≡ (xs ++ ks) ++ (vs ++ ys) → head + from ≡ length (xs ++ ks) → to ≡ from + length vs → slice_range (drop head (out d c s us)) from to ≡ out d c (after d c s (xs ++ ks)) vs
  slice_out s us xs ks vs ys head from to e h t =
      let whole_out : out d c s us ≡ out d c s (xs ++ ks) ++ (out d c (after d c s (xs ++ ks)) vs ++ out d c (after d c (after d c s (xs ++ ks)) vs) ys) =
      ap (out d c s) e ∙ (out-append d c s (xs ++ ks) (vs ++ ys) ∙ ap (λ bs. out d c s (xs ++ ks) ++ bs) (out-append d c (after d c s (xs ++ ks)) vs ys)) in
      let dropped : drop from (drop head (out d c s us)) ≡ out d c (after d c s (xs ++ ks)) vs ++ out d c (after d c (after d c s (xs ++ ks)) vs) ys =
      drop_both from head (out d c s us) ∙ (ap (drop (head + from)) whole_out ∙ drop_at _ _ (head + from) (length-out d c s (xs ++ ks) ∙ sym h)) in
      let n : to - from ≡ length vs = omega arith in
      ap (λ m. take m (drop from (drop head (out d c s us)))) n ∙ (ap (take (length vs)) dropped ∙ take_at _ _ (length vs) (length-out d c (after d c s (xs ++ ks)) vs))
    where
      drop_both : (n m : ℕ) (l : List (List ℤ)) → drop n (drop m l) ≡ drop (m + n) l
      drop_both n zero l = let e : 0 + n ≡ n = omega arith in rw e refl
      drop_both zero (suc m) [] = let e : suc m + 0 ≡ suc m = omega arith in rw e refl
      drop_both (suc n) (suc m) [] = let e : suc m + suc n ≡ suc (m + suc n) = omega arith in rw e refl
      drop_both n (suc m) (x ∷ l) = let e : suc m + n ≡ suc (m + n) = omega arith in rw e (drop_both n m l)

  take_units : (us xs ks vs ys : List UnitValue) (n : ℕ) → us ≡ (xs ++ ks) ++ (vs ++ ys) → n ≡ length (xs ++ ks) + length vs → take n us ≡ (xs ++ ks) ++ vs
  take_units us xs ks vs ys n e h =
      ap (take n) (e ∙ sym (append_assoc (xs ++ ks) vs ys)) ∙ take_at ((xs ++ ks) ++ vs) ys n (length-append (xs ++ ks) vs ∙ sym h)

-- A part that is not empty has a first frame.
pub record Shape (fs : List Shown) (from to : ℕ) : Type 0 where
  pub frame : Shown
  pub rest : List Shown
  pub part : slice_range fs from to ≡ frame ∷ rest
  pub first : slice_get fs from ≡ Some frame
  pub long : from + length (frame ∷ rest) ≡ to

pub shape : (fs : List Shown) (from to : ℕ) → from < to → to ≤ length fs → Shape fs from to
shape [] from to h k = absurd (omega arith)
shape (f ∷ fs) from zero h k = absurd (omega arith)
shape (f ∷ fs) zero (suc n) h k = record {
  frame = f;
  rest = take n fs;
  part = let e : suc n - 0 ≡ suc n = omega arith in ap (λ m. take m (f ∷ fs)) e;
  first = refl;
  long = let e = length-take-le n fs (omega arith) in omega (arith, e);
}
shape (f ∷ fs) (suc k) (suc n) h l =
    let s = shape fs k n (omega arith) (omega arith) in
    record {
      frame = s.frame;
      rest = s.rest;
      part = let e : suc n - suc k ≡ n - k = omega arith in ap (λ m. take m (drop k fs)) e ∙ s.part;
      first = s.first;
      long = let e = s.long in omega (arith, e);
    }

pub units_parts : (f : Shown) (fs : List Shown) (from to : ℕ) → units_of (f ∷ fs) ≡ (units_in f.carried ++ own_units (take from (f ∷ fs))) ++ (own_units (slice_range (f ∷ fs) from to) ++ own_units (drop (to - from) (drop from (f ∷ fs))))
units_parts f fs from to =
    ap (λ us. units_in f.carried ++ us)
    (ap own_units (sym (take-append-drop from (f ∷ fs)) ∙ ap (λ gs. take from (f ∷ fs) ++ gs) (sym (take-append-drop (to - from) (drop from (f ∷ fs)))))
    ∙ (map-append (λ g. g.unit) (take from (f ∷ fs)) (slice_range (f ∷ fs) from to ++ drop (to - from) (drop from (f ∷ fs)))
    ∙ ap (λ us. own_units (take from (f ∷ fs)) ++ us) (map-append (λ g. g.unit) (slice_range (f ∷ fs) from to) (drop (to - from) (drop from (f ∷ fs))))))
    ∙ sym (append_assoc (units_in f.carried) (own_units (take from (f ∷ fs))) (own_units (slice_range (f ∷ fs) from to) ++ own_units (drop (to - from) (drop from (f ∷ fs)))))

pub front_long : (f : Shown) (fs : List Shown) (from : ℕ) → from ≤ length (f ∷ fs) → head_of (f ∷ fs) + from ≡ length (units_in f.carried ++ own_units (take from (f ∷ fs)))
front_long f fs from h =
    let e = length-append (units_in f.carried) (own_units (take from (f ∷ fs))) in
    let m = length-map (take from (f ∷ fs)) (λ g. g.unit) in
    let t = length-take-le from (f ∷ fs) h in
    omega (arith, e, m, t)

-- A piece is placed where the units before it are some and those that its first frame carries, and the core forgets the some.
module _ (d : Definitions) (f : Shown) (fs : List Shown) (from to : ℕ) (low : from < to) (high : to ≤ length (f ∷ fs)) (one : AreOf f.config (f ∷ fs)) where
  pub place : (s : Shape (f ∷ fs) from to) (before : List UnitValue) → s.frame.config ≡ f.config → units_in f.carried ++ own_units (take from (f ∷ fs)) ≡ before ++ units_in s.frame.carried
      → out d f.config (after d f.config (after d f.config (d.init f.config) before) (units_in s.frame.carried)) (own_units (s.frame ∷ s.rest)) ≡ out d f.config (after d f.config (d.init f.config) (units_in s.frame.carried)) (own_units (s.frame ∷ s.rest))
      → d.drain f.config (after d f.config (after d f.config (after d f.config (d.init f.config) before) (units_in s.frame.carried)) (own_units (s.frame ∷ s.rest))) ≡ d.drain f.config (after d f.config (after d f.config (d.init f.config) (units_in s.frame.carried)) (own_units (s.frame ∷ s.rest)))
      → Placed d (record { stream = f ∷ fs; from = from; to = to })
  place s before at e outs drains =
      let c = f.config in
      let ks = units_in s.frame.carried in
      let vs = own_units (s.frame ∷ s.rest) in
      let ys = own_units (drop (to - from) (drop from (f ∷ fs))) in
      let all_one : AreOf c (s.frame ∷ s.rest) = All-same (λ g. same c g.config ≡ true) _ _ (sym s.part) (All-take (λ g. same c g.config ≡ true) (to - from) _ (All-drop (λ g. same c g.config ≡ true) from _ one)) in
      let parts : units_of (f ∷ fs) ≡ (before ++ ks) ++ (vs ++ ys) =
      units_parts f fs from to ∙ (ap (λ us. us ++ (own_units (slice_range (f ∷ fs) from to) ++ ys)) e ∙ ap (λ gs. (before ++ ks) ++ (own_units gs ++ ys)) s.part) in
      let long : head_of (f ∷ fs) + from ≡ length (before ++ ks) = front_long f fs from (omega arith) ∙ ap length e in
      let size : length vs ≡ length (s.frame ∷ s.rest) = length-map (s.frame ∷ s.rest) (λ g. g.unit) in
      let total = s.long in
      let past = after-append d c (d.init c) before ks in
      let taken : take (head_of (f ∷ fs) + to) (units_of (f ∷ fs)) ≡ (before ++ ks) ++ vs = take_units d c (units_of (f ∷ fs)) before ks vs ys (head_of (f ∷ fs) + to) parts (omega (arith, long, size, total)) in
      record {
        frame = s.frame;
        rest = s.rest;
        frames = s.part;
        first = s.first;
        config = ap Some (sym at);
        same = All-weaker (λ g. same c g.config ≡ true) (λ g. same s.frame.config g.config ≡ true) (λ g p. ap (λ (x : UsacConfig). same x g.config) at ∙ p) s.rest (All-tail (λ g. same c g.config ≡ true) s.frame s.rest all_one);
        blocks =
            slice_out d c (d.init c) (units_of (f ∷ fs)) before ks vs ys (head_of (f ∷ fs)) from to parts long (omega (arith, size, total))
            ∙ (ap (λ x. out d c x vs) past ∙ (outs ∙ ap (λ x. out d x (after d x (d.init x) ks) vs) (sym at)));
        behind =
            ap (λ us. d.drain c (after d c (d.init c) us)) taken
            ∙ (ap (d.drain c) (after-append d c (d.init c) (before ++ ks) vs ∙ ap (λ x. after d c x vs) past)
            ∙ (drains ∙ ap (λ x. d.drain x (after d x (after d x (d.init x) ks) vs)) (sym at)));
      }

  -- A stream's own beginning needs no law.
  pub placed_start : from ≡ 0 → Placed d (record { stream = f ∷ fs; from = from; to = to })
  placed_start z =
      let s = shape (f ∷ fs) from to low high in
      let same_first : Some f ≡ Some s.frame = ap (slice_get (f ∷ fs)) (sym z) ∙ s.first in
      let e : f ≡ s.frame = cc in
      place s [] (ap (λ (g : Shown). g.config) (sym e)) (ap (λ n. units_in f.carried ++ own_units (take n (f ∷ fs))) z ∙ (append-nil (units_in f.carried) ∙ ap (λ g. units_in g.carried) e)) refl refl
