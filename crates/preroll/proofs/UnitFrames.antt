-- The access units of a preroll and the frames that they are.
use Rattle.std.proofs.Common.{◌≡◌, ℕ, zero, suc, ◌<◌, true, false, List, [], ◌∷◌, length, take, Option, Some, None, refl, sym, ap, subst, ◌∙◌}
use Rattle.std.specs.Prelude.{map, slice_get}
use Rattle.std.specs.List.{AllByRecursion}
use Rattle.std.specs.Option.{option_map_or}
use Rattle.layout.specs.Text.{bits_of}
use Rattle.layout.proofs.Layouts.{some_is}
use Rattle.usac_cfg.specs.declared.usac_config.UsacConfig.{UsacConfig}
use Rattle.usac_frame.specs.declared.fault.FrameFault.{FrameFault}
use Rattle.usac_frame.specs.declared.fault.FrameFault.TheVariants as frames
use Rattle.usac_frame.specs.declared.frame.Frame.{Frame}
use Rattle.usac_frame.specs.AccessUnit.{frame_of, unit_in, unit_where}
use Rattle.usac_frame.specs.Frame.{FitsConfig, FrameFaults}
use Rattle.usac_frame.specs.FrameFound.{frame_of_is}
use Rattle.usac_frame.specs.Units.{unit_of, payload_length}
use Rattle.preroll.specs.declared.fault.CarryFault.{CarryFault}
use Rattle.preroll.specs.Faults.{of_unit, is_carry_memory}
use Rattle.preroll.specs.Carried.{IsAFrame, preroll_bytes, IsNestedUnit, starts_independent}
use Rattle.preroll.specs.Steps.{AreFrames, IsUnitFault, HaveNoPreRoll, first_independent}

-- the first of them, and the others
abbrev first_in : List (Option Frame) → Option Frame
first_in [] = None
first_in (x ∷ xs) = x

abbrev others_in : List (Option Frame) → List (Option Frame)
others_in [] = []
others_in (x ∷ xs) = xs

heads : (c : UsacConfig) (u : List ℕ) (us : List (List ℕ)) (g : Frame) (fs : List Frame) → AreFrames c (u ∷ us) (g ∷ fs) → (frame_of c u ≡ Some g) × AreFrames c us fs
heads c u us g fs e = (ap first_in e, ap others_in e)

pub as_many : (c : UsacConfig) (us : List (List ℕ)) (fs : List Frame) → AreFrames c us fs → length fs ≡ length us
as_many c [] [] e = refl
as_many c [] (g ∷ fs) e = absurd cc
as_many c (u ∷ us) [] e = absurd cc
as_many c (u ∷ us) (g ∷ fs) e = ap suc (as_many c us fs (heads c u us g fs e).1)

pub all_frames : (c : UsacConfig) (us : List (List ℕ)) (fs : List Frame) → AreFrames c us fs → AllByRecursion (IsAFrame c) us
all_frames c [] fs e = tt
all_frames c (u ∷ us) [] e = absurd cc
all_frames c (u ∷ us) (g ∷ fs) e = let h = heads c u us g fs e in ((g, h.0), all_frames c us fs h.1)

pub all_fit : (c : UsacConfig) (us : List (List ℕ)) (fs : List Frame) → AreFrames c us fs → AllByRecursion (FitsConfig c) fs
all_fit c us [] e = tt
all_fit c [] (g ∷ fs) e = absurd cc
all_fit c (u ∷ us) (g ∷ fs) e = let h = heads c u us g fs e in ((frame_of_is.is c u g h.0).fits, all_fit c us fs h.1)

pub units_are : (c : UsacConfig) (us : List (List ℕ)) (fs : List Frame) → AreFrames c us fs → map (unit_of c) fs ≡ map (unit_in c) us
units_are c [] [] e = refl
units_are c [] (g ∷ fs) e = absurd cc
units_are c (u ∷ us) [] e = absurd cc
units_are c (u ∷ us) (g ∷ fs) e =
    let h = heads c u us g fs e in
    let one : unit_in c u ≡ unit_of c g = ap (λ (o : Option Frame). unit_where c o) h.0 in
    rw (one, units_are c us fs h.1) refl

pub starts_are : (c : UsacConfig) (f : Frame) (us : List (List ℕ)) (fs : List Frame) → AreFrames c us fs → first_independent f fs ≡ starts_independent c f us
starts_are c f [] [] e = refl
starts_are c f [] (g ∷ fs) e = absurd cc
starts_are c f (u ∷ us) [] e = absurd cc
starts_are c f (u ∷ us) (g ∷ fs) e =
    let h = heads c u us g fs e in
    sym (ap (λ (o : Option Frame). let v = unit_where c o in v.independent) h.0)

-- ---- the first unit at fault

bytes_are : (c : UsacConfig) (u : List ℕ) (g : Frame) → frame_of c u ≡ Some g → preroll_bytes c u ≡ payload_length c g
bytes_are c u g e = ap (λ (o : Option Frame). option_map_or (payload_length c) o 0) e

pub none_nested : (c : UsacConfig) (us : List (List ℕ)) (fs : List Frame) → AreFrames c us fs → HaveNoPreRoll c fs → AllByRecursion (λ u. preroll_bytes c u ≡ 0) us
none_nested c [] fs e none = tt
none_nested c (u ∷ us) [] e none = absurd cc
none_nested c (u ∷ us) (g ∷ fs) e none = let h = heads c u us g fs e in (bytes_are c u g h.0 ∙ none.0, none_nested c us fs h.1 none.1)

pub is_nested : (c : UsacConfig) (us : List (List ℕ)) (fs : List Frame) (k : ℕ) (g : Frame) → AreFrames c us fs → slice_get fs k ≡ Some g → 0 < payload_length c g → HaveNoPreRoll c (take k fs) → IsNestedUnit c us k
is_nested c us [] k g e there some none = absurd cc
is_nested c [] (h ∷ fs) k g e there some none = absurd cc
is_nested c (u ∷ us) (h ∷ fs) zero g e there some none =
    let front = heads c u us h fs e in
    let same : h ≡ g = some_is h g there in
    (u, refl, subst (λ (n : ℕ). 0 < n) (sym (bytes_are c u h front.0 ∙ ap (payload_length c) same)) some, tt)
is_nested c (u ∷ us) (h ∷ fs) (suc k) g e there some none =
    let front = heads c u us h fs e in
    let n = is_nested c us fs k g front.1 there some none.1 in
    (n.0, n.1, n.2, (bytes_are c u h front.0 ∙ none.0, n.3))

-- a fault of access unit k, where those before it are frames
pub is_short : (c : UsacConfig) (us : List (List ℕ)) (fs : List Frame) (k : ℕ) (u : List ℕ) (f : FrameFault) (e : CarryFault) → AreFrames c (take k us) fs → slice_get us k ≡ Some u → e ≡ of_unit k f → FrameFaults c f (bits_of u) → is_carry_memory e ≡ false → IsUnitFault c us e
is_short c us fs k u (frames.Short at) e before there is fault want = (k, at, is, (u, there, fault, all_frames c (take k us) fs before))
is_short c us fs k u (frames.Memory a) e before there is fault want = absurd (let never : true ≡ false = sym (ap is_carry_memory is) ∙ want in cc)
