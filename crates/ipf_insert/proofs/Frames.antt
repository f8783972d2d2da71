-- The rules of the frames, and what they give where all pass.
use Rattle.std.proofs.Common.{◌≡◌, ℕ, suc, ◌+◌, Bool, true, false, List, [], ◌∷◌, ◌++◌, length, map, Option, Some, None, refl, sym, ap, subst, ◌∙◌, arith}
use Rattle.std.specs.Prelude.{not}
use Rattle.std.specs.List.{AllByRecursion}
use Rattle.layout.specs.Text.{bits_of}
use Rattle.layout.proofs.Whole.{fault_of_is}
use Rattle.usac_cfg.specs.declared.usac_config.UsacConfig.{UsacConfig}
use Rattle.usac_cfg.specs.UsacConfig.{IsWellFormed as IsConfig}
use Rattle.usac_cfg.specs.Same.{same}
use Rattle.usac_cfg.specs.SameFound.{same_true}
use Rattle.usac_frame.specs.declared.fault.FrameFault.{FrameFault}
use Rattle.usac_frame.specs.declared.fault.FrameFault.TheVariants as frames
use Rattle.usac_frame.specs.declared.frame.Frame.{Frame}
use Rattle.usac_frame.specs.AccessUnit.{IsFrame}
use Rattle.usac_frame.specs.Faults.{is_memory}
use Rattle.usac_frame.specs.Frame.{frame, FrameFaults}
use Rattle.usac_frame.specs.FrameExact.{decided}
use Rattle.usac_frame.specs.FrameFound.{frame_of_is}
use Rattle.preroll.specs.Carried.{IsAFrame}
use Rattle.preroll.specs.Carrying.{frame_short, short_at}
use Rattle.preroll.proofs.Judging.{short_is}
use Rattle.latm.specs.declared.mux_config.MuxConfig.{MuxConfig}
use Rattle.latm.specs.Stream.{slots_under, config_in, au_in}
use Rattle.ipf_frame.specs.Laws.{AreFrames}
use Rattle.ipf_insert.specs.declared.fault.InsertFault.{InsertFault}
use Rattle.ipf_insert.specs.declared.fault.InsertFault.TheVariants.{ConfigChanges, Frame as TooShort}
use Rattle.ipf_insert.specs.Faults.{of_frame}
use Rattle.ipf_insert.specs.Rules.{or_then, fault_if, short_rule, frame_rule, frames_rule}
use Rattle.ipf_insert.specs.Steps.{IfRule, IsSame, frames_where}
use Rattle.ipf_insert.proofs.Targets.{passed, unset}
use Rattle.ipf_insert.proofs.Elements.{AreConfigs}

-- ---- one frame

abbrev ShortOr : UsacConfig → List ℕ → Option ℕ → Type 0
ShortOr c u None = IsAFrame c u
ShortOr c u (Some at) = FrameFaults c (frames.Short at) (bits_of u)

-- a frame is not short
pub not_short : (c : UsacConfig) (au : List ℕ) (g : Frame) → IsFrame c au g → short_at c au ≡ None
not_short c au g is = by_place (short_at c au) refl (short_is c au)
  where
    by_place : (o : Option ℕ) → short_at c au ≡ o → ShortOr c au o → short_at c au ≡ None
    by_place None e h = e
    by_place (Some at) e h = absurd ((decided c).not_both (bits_of au) (frames.Short at) (g, is.fits, is.spelled) h)

-- what is not short is a frame
pub frame_there : (c : UsacConfig) (au : List ℕ) → short_at c au ≡ None → (g : Frame) × IsFrame c au g
frame_there c au e = by_place (short_at c au) e (short_is c au)
  where
    by_place : (o : Option ℕ) → o ≡ None → ShortOr c au o → (g : Frame) × IsFrame c au g
    by_place None e h = (h.0, frame_of_is.is c au h.0 h.1)
    by_place (Some at) e h = absurd (let never : Some at ≡ None = e in cc)

pub is_short : (c : UsacConfig) (au : List ℕ) (at : ℕ) → FrameFaults c (frames.Short at) (bits_of au) → short_at c au ≡ Some at
unfolding short_at
is_short c au at bad = ap frame_short ((fault_of_is (frame c) (decided c)).found (bits_of au) (frames.Short at) bad)

-- the refusal of an access unit that is none
pub refused_frame : (c : UsacConfig) (au : List ℕ) (n : ℕ) (f : FrameFault) → (is_memory f ≡ false → FrameFaults c f (bits_of au)) → IfRule (of_frame n f) (short_rule n (short_at c au) ≡ Some (of_frame n f))
refused_frame c au n (frames.Short at) bad = ap (short_rule n) (is_short c au at (bad refl))
refused_frame c au n (frames.Memory e) bad = tt

not_rule : (n : ℕ) (o : Option ℕ) → short_rule n o ≡ None → o ≡ None
not_rule n None e = refl
not_rule n (Some at) e = absurd (let never : Some (TooShort n at) ≡ None = e in cc)

-- ---- the frames of an element

-- with the rules of frames where it is known whether the configuration is the first one
pub where_is : (b : Bool) (first : UsacConfig) (o : Option MuxConfig) (n : ℕ) (slots : List (List ℕ)) → IsSame b first o → frames_rule first n (slots_under o slots) ≡ frames_where b n (slots_under o slots)
where_is b first None n slots is = refl
where_is b first (Some m) n [] is = refl
where_is b first (Some m) n (au ∷ slots) is =
    ap (λ (x : Bool). or_then (or_then (fault_if (not x) (ConfigChanges n)) (short_rule n (short_at m.asc.usac au))) (frames_rule first (suc n) (slots_under (Some m) slots))) (sym is)
    ∙ ap (λ (o : Option InsertFault). or_then (or_then (fault_if (not b) (ConfigChanges n)) (short_rule n (short_at m.asc.usac au))) o) (where_is b first (Some m) (suc n) slots is)

-- the frames of a list, and those behind them
or_assoc : (a b c : Option InsertFault) → or_then (or_then a b) c ≡ or_then a (or_then b c)
or_assoc None b c = refl
or_assoc (Some e) b c = refl

pub frames_both : (first : UsacConfig) (n : ℕ) (xs ys : List (UsacConfig × List ℕ)) → frames_rule first n (xs ++ ys) ≡ or_then (frames_rule first n xs) (frames_rule first (n + length xs) ys)
frames_both first n [] ys = ap (λ (k : ℕ). frames_rule first k ys) (let k : n ≡ n + 0 = omega arith in k)
frames_both first n (x ∷ xs) ys =
    ap (λ (o : Option InsertFault). or_then (frame_rule first n x) o) (frames_both first (suc n) xs ys ∙ ap (λ (k : ℕ). or_then (frames_rule first (suc n) xs) (frames_rule first k ys)) (let k : suc n + length xs ≡ n + suc (length xs) = omega arith in k))
    ∙ sym (or_assoc (frame_rule first n x) (frames_rule first (suc n) xs) (frames_rule first (n + suc (length xs)) ys))

-- ---- where all pass

-- each frame has the first configuration, and its access unit is a frame of it
pub all_frames : (first : UsacConfig) (n : ℕ) (fs : List (UsacConfig × List ℕ)) → IsConfig first → AreConfigs fs → frames_rule first n fs ≡ None → AreFrames first (map au_in fs)
all_frames first n [] w h e = tt
all_frames first n (f ∷ fs) w h e =
    let p = passed (frame_rule first n f) (frames_rule first (suc n) fs) e in
    let q = passed (fault_if (not (same first f.0)) (ConfigChanges n)) (short_rule n (short_at f.0 f.1)) p.0 in
    let is : first ≡ f.0 = same_true first f.0 w h.0 (set (same first f.0) (unset _ (ConfigChanges n) q.0)) in
    let there = frame_there f.0 f.1 (not_rule n (short_at f.0 f.1) q.1) in
    ((there.0, subst (λ (c : UsacConfig). IsFrame c f.1 there.0) (sym is) there.1), all_frames first (suc n) fs w h.1 p.1)
  where
    set : (b : Bool) → not b ≡ false → b ≡ true
    set true q = refl
    set false q = absurd (let never : true ≡ false = q in cc)

-- and the configuration of each is the first
pub all_first : (first : UsacConfig) (n : ℕ) (fs : List (UsacConfig × List ℕ)) → IsConfig first → AreConfigs fs → frames_rule first n fs ≡ None → AllByRecursion (λ f. first ≡ config_in f) fs
all_first first n [] w h e = tt
all_first first n (f ∷ fs) w h e =
    let p = passed (frame_rule first n f) (frames_rule first (suc n) fs) e in
    let q = passed (fault_if (not (same first f.0)) (ConfigChanges n)) (short_rule n (short_at f.0 f.1)) p.0 in
    (same_true first f.0 w h.0 (set (same first f.0) (unset _ (ConfigChanges n) q.0)), all_first first (suc n) fs w h.1 p.1)
  where
    set : (b : Bool) → not b ≡ false → b ≡ true
    set true q = refl
    set false q = absurd (let never : true ≡ false = q in cc)
