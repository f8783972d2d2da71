-- The frames of a list, one after another.
use Rattle.std.proofs.Common.{◌≡◌, ℕ, zero, suc, ◌+◌, ◌<◌, ◌≤◌, Bool, true, false, List, [], ◌∷◌, ◌++◌, length, drop, get_or, Option, Some, None, refl, sym, ap, subst, ◌∙◌, append_assoc, arith}
use Rattle.std.specs.Prelude.{slice_get, if◌then◌else◌}
use Rattle.std.specs.Option.{option_or}
use Rattle.std.proofs.lemmas.List.{drop_more}
use Rattle.usac_cfg.specs.declared.usac_config.UsacConfig.{UsacConfig}
use Rattle.stream_edit.specs.declared.frames.FrameRef.{FrameRef}
use Rattle.stream_edit.specs.Frames.{pair_of, pairs_of}
use Rattle.stream_edit.specs.Steps.{AreBelow}
use Rattle.ipf_strip.specs.declared.fault.StripFault.{StripFault}
use Rattle.ipf_frame.specs.declared.stripping.Tail.{Tail}
use Rattle.ipf_strip.specs.Rules.{frame_rule, frames_rule, immediate, target_rule, target_at, targets_rule}
use Rattle.ipf_strip.specs.Steps.{AreShort}
use Rattle.ipf_strip.specs.Stripping.{immediate_from}

abbrev Pair : Type 0
Pair = UsacConfig × List ℕ

pub pair_at : (fs : List FrameRef) (k : ℕ) (d : FrameRef) → k < length fs → slice_get (pairs_of fs) k ≡ Some (pair_of (get_or fs k d))
pair_at [] k d lt = absurd (omega (arith, lt))
pair_at (f ∷ fs) zero d lt = refl
pair_at (f ∷ fs) (suc k) d lt = pair_at fs k d (omega (arith, lt))

pub pairs_on : (fs : List FrameRef) (k : ℕ) (d : FrameRef) → k < length fs → drop k (pairs_of fs) ≡ pair_of (get_or fs k d) ∷ drop (k + 1) (pairs_of fs)
pairs_on [] k d lt = absurd (omega (arith, lt))
pairs_on (f ∷ fs) zero d lt = refl
pairs_on (f ∷ fs) (suc k) d lt = pairs_on fs k d (omega (arith, lt)) ∙ ap (λ (n : ℕ). pair_of (get_or fs k d) ∷ drop n (pairs_of (f ∷ fs))) (let n : suc (k + 1) ≡ suc k + 1 = omega arith in n)

pub short_one : (fs : List FrameRef) (k : ℕ) (d : FrameRef) → AreShort (pairs_of fs) → k < length fs → length (get_or fs k d).au.now ≤ 8191
short_one [] k d h lt = absurd (omega (arith, lt))
short_one (f ∷ fs) zero d h lt = h.0
short_one (f ∷ fs) (suc k) d h lt = short_one fs k d h.1 (omega (arith, lt))

pub or_none : (a b : Option StripFault) → option_or a b ≡ None → (a ≡ None) × (b ≡ None)
or_none None b e = (refl, e)
or_none (Some x) b e = absurd (let never : Some x ≡ None = e in cc)

-- each frame passes where all do
pub passes_at : (n : ℕ) (fs : List Pair) (k : ℕ) (f : Pair) → frames_rule n fs ≡ None → slice_get fs k ≡ Some f → frame_rule (n + k) f ≡ None
passes_at n [] k f e is = absurd (let never : None ≡ Some f = is in cc)
passes_at n (x ∷ fs) zero f e is =
    let p = or_none (frame_rule n x) (frames_rule (suc n) fs) e in
    let same : x ≡ f = (let s : Some x ≡ Some f = is in cc) in
    let k : n ≡ n + 0 = omega arith in
    subst (λ (m : ℕ). frame_rule m f ≡ None) k (subst (λ (y : Pair). frame_rule n y ≡ None) same p.0)
passes_at n (x ∷ fs) (suc k) f e is =
    let p = or_none (frame_rule n x) (frames_rule (suc n) fs) e in
    let m : suc n + k ≡ n + suc k = omega arith in
    subst (λ (j : ℕ). frame_rule j f ≡ None) m (passes_at (suc n) fs k f p.1 is)

-- ---- one frame on

pub rule_on : (fs : List FrameRef) (k : ℕ) (d : FrameRef) → k < length fs → frames_rule k (drop k (pairs_of fs)) ≡ option_or (frame_rule k (pair_of (get_or fs k d))) (frames_rule (k + 1) (drop (k + 1) (pairs_of fs)))
rule_on fs k d lt =
    ap (λ (ps : List Pair). frames_rule k ps) (pairs_on fs k d lt)
    ∙ ap (λ (n : ℕ). option_or (frame_rule k (pair_of (get_or fs k d))) (frames_rule n (drop (k + 1) (pairs_of fs)))) (let n : suc k ≡ k + 1 = omega arith in n)

pub passed_on : (fs : List FrameRef) (k : ℕ) (f : FrameRef) → k < length fs → f ≡ get_or fs k f → frame_rule k (pair_of f) ≡ None → frames_rule k (drop k (pairs_of fs)) ≡ frames_rule (k + 1) (drop (k + 1) (pairs_of fs))
passed_on fs k f lt is e = rule_on fs k f lt ∙ ap (λ (o : Option StripFault). option_or o (frames_rule (k + 1) (drop (k + 1) (pairs_of fs)))) (ap (λ (x : FrameRef). frame_rule k (pair_of x)) (sym is) ∙ e)

pub refused_on : (fs : List FrameRef) (k : ℕ) (f : FrameRef) (e : StripFault) → k < length fs → f ≡ get_or fs k f → frame_rule k (pair_of f) ≡ Some e → frames_rule k (drop k (pairs_of fs)) ≡ Some e
refused_on fs k f e lt is bad = rule_on fs k f lt ∙ ap (λ (o : Option StripFault). option_or o (frames_rule (k + 1) (drop (k + 1) (pairs_of fs)))) (ap (λ (x : FrameRef). frame_rule k (pair_of x)) (sym is) ∙ bad)

-- the list of immediate frames, one on
pub listed_on : (fs : List FrameRef) (k : ℕ) (f : FrameRef) (b : Bool) (list new : List ℕ) → k < length fs → f ≡ get_or fs k f → immediate (pair_of f) ≡ b → new ≡ (if b then list ++ k ∷ [] else list)
    → new ++ immediate_from (k + 1) (drop (k + 1) (pairs_of fs)) ≡ list ++ immediate_from k (drop k (pairs_of fs))
listed_on fs k f b list new lt is e n =
    ap (λ (xs : List ℕ). xs ++ immediate_from (k + 1) rest) n ∙ by_test b ∙ sym (ap (λ (xs : List ℕ). list ++ xs) (cut ∙ ap (λ (x : Bool). if x then k ∷ immediate_from (suc k) rest else immediate_from (suc k) rest) own))
  where
    rest : List Pair
    rest = drop (k + 1) (pairs_of fs)

    cut : immediate_from k (drop k (pairs_of fs)) ≡ (if immediate (pair_of (get_or fs k f)) then k ∷ immediate_from (suc k) rest else immediate_from (suc k) rest)
    cut = ap (λ (ps : List Pair). immediate_from k ps) (pairs_on fs k f lt)

    own : immediate (pair_of (get_or fs k f)) ≡ b
    own = ap (λ (x : FrameRef). immediate (pair_of x)) (sym is) ∙ e

    next : k + 1 ≡ suc k
    next = omega arith

    by_test : (x : Bool) → (if x then list ++ k ∷ [] else list) ++ immediate_from (k + 1) rest ≡ list ++ (if x then k ∷ immediate_from (suc k) rest else immediate_from (suc k) rest)
    by_test true = append_assoc list (k ∷ []) (immediate_from (k + 1) rest) ∙ ap (λ (m : ℕ). list ++ k ∷ immediate_from m rest) next
    by_test false = ap (λ (m : ℕ). list ++ immediate_from m rest) next

-- ---- one target on

pub below_at : (n : ℕ) (targets : List ℕ) (k : ℕ) → AreBelow n targets → k < length targets → get_or targets k 0 < n
below_at n [] k h lt = absurd (omega (arith, lt))
below_at n (t ∷ targets) zero h lt = h.0
below_at n (t ∷ targets) (suc k) h lt = below_at n targets k h.1 (omega (arith, lt))

-- the frame of a target
pub pair_of_target : (fs : List FrameRef) (t : ℕ) (f : FrameRef) → t < length fs → f ≡ get_or fs t f → slice_get (pairs_of fs) t ≡ Some (pair_of f)
pair_of_target fs t f lt is = pair_at fs t f lt ∙ ap (λ (x : FrameRef). Some (pair_of x)) (sym is)

pub targets_on : (tail : Tail) (ps : List Pair) (targets : List ℕ) (k : ℕ) (f : Pair) → k < length targets → slice_get ps (get_or targets k 0) ≡ Some f
    → targets_rule tail ps (drop k targets) ≡ option_or (target_rule tail (get_or targets k 0) f) (targets_rule tail ps (drop (k + 1) targets))
targets_on tail ps targets k f lt is =
    let t = get_or targets k 0 in
    ap (λ (ts : List ℕ). targets_rule tail ps ts) (drop_more targets k 0 lt)
    ∙ ap (λ (o : Option Pair). option_or (target_at tail t o) (targets_rule tail ps (drop (k + 1) targets))) is

pub target_passed : (tail : Tail) (ps : List Pair) (targets : List ℕ) (k : ℕ) (f : Pair) → k < length targets → slice_get ps (get_or targets k 0) ≡ Some f → target_rule tail (get_or targets k 0) f ≡ None
    → targets_rule tail ps (drop k targets) ≡ targets_rule tail ps (drop (k + 1) targets)
target_passed tail ps targets k f lt is e = targets_on tail ps targets k f lt is ∙ ap (λ (o : Option StripFault). option_or o (targets_rule tail ps (drop (k + 1) targets))) e

pub target_refused : (tail : Tail) (ps : List Pair) (targets : List ℕ) (k : ℕ) (f : Pair) (e : StripFault) → k < length targets → slice_get ps (get_or targets k 0) ≡ Some f → target_rule tail (get_or targets k 0) f ≡ Some e
    → targets_rule tail ps (drop k targets) ≡ Some e
target_refused tail ps targets k f e lt is bad = targets_on tail ps targets k f lt is ∙ ap (λ (o : Option StripFault). option_or o (targets_rule tail ps (drop (k + 1) targets))) bad

pub passes_first : (fs : List Pair) (k : ℕ) (f : Pair) → frames_rule 0 fs ≡ None → slice_get fs k ≡ Some f → frame_rule k f ≡ None
passes_first fs k f e is = let n : 0 + k ≡ k = omega arith in subst (λ (m : ℕ). frame_rule m f ≡ None) n (passes_at 0 fs k f e is)
