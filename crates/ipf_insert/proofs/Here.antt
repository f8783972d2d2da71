-- The access units of a stream, and those of an element among them.
use Rattle.std.proofs.Common.{◌≡◌, ℕ, zero, suc, ◌+◌, ◌-◌, ◌<◌, ◌≤◌, List, [], ◌∷◌, ◌++◌, length, take, drop, get_or, map, Some, None, refl, sym, ap, ◌∙◌, arith}
use Rattle.std.specs.Prelude.{slice_get}
use Rattle.std.specs.List.{AllByRecursion}
use Rattle.std.specs.Borrow.{Bor}
use Rattle.std.proofs.lemmas.List.{length-map}
use Rattle.usac_cfg.specs.declared.usac_config.UsacConfig.{UsacConfig}
use Rattle.usac_frame.specs.declared.frame.Frame.{Frame}
use Rattle.usac_frame.specs.AccessUnit.{IsFrame}
use Rattle.latm.specs.Stream.{config_in, au_in}
use Rattle.ipf_frame.specs.Laws.{AreFrames, AreSlots}
use Rattle.ipf_insert.specs.Inserting.{units_before}
use Rattle.ipf_insert.specs.Rules.{au_at}
use Rattle.ipf_insert.specs.declared.sources.Sources.{Sources}
use Rattle.ipf_insert.specs.Steps.{settled, IsHere}

-- the first of the access units that are left
at_drop : (aus : List (List ℕ)) (first : ℕ) (x : List ℕ) (more : List (List ℕ)) → drop first aus ≡ x ∷ more → x ≡ au_at aus first
at_drop [] zero x more e = absurd (let never : [] ≡ x ∷ more = e in cc)
at_drop [] (suc n) x more e = absurd (let never : [] ≡ x ∷ more = e in cc)
at_drop (a ∷ aus) zero x more e = sym (let first : a ≡ x = cc in first)
at_drop (a ∷ aus) (suc n) x more e = at_drop aus n x more e

below_drop : (aus : List (List ℕ)) (first : ℕ) (x : List ℕ) (more : List (List ℕ)) → drop first aus ≡ x ∷ more → first < length aus
below_drop [] zero x more e = absurd (let never : [] ≡ x ∷ more = e in cc)
below_drop [] (suc n) x more e = absurd (let never : [] ≡ x ∷ more = e in cc)
below_drop (a ∷ aus) zero x more e = omega arith
below_drop (a ∷ aus) (suc n) x more e = omega (arith, below_drop aus n x more e)

after_drop : (aus : List (List ℕ)) (first : ℕ) (x : List ℕ) (more : List (List ℕ)) → drop first aus ≡ x ∷ more → drop (first + 1) aus ≡ more
after_drop [] zero x more e = absurd (let never : [] ≡ x ∷ more = e in cc)
after_drop [] (suc n) x more e = absurd (let never : [] ≡ x ∷ more = e in cc)
after_drop (a ∷ aus) zero x more e = let rest : aus ≡ more = cc in rest
after_drop (a ∷ aus) (suc n) x more e = ap (λ (k : ℕ). drop k (a ∷ aus)) (let k : suc n + 1 ≡ suc (n + 1) = omega arith in k) ∙ after_drop aus n x more e

pub here_at : (aus slots : List (List ℕ)) (first : ℕ) (x : List ℕ) (xs : List (List ℕ)) → slots ≡ x ∷ xs → IsHere aus first slots → x ≡ au_at aus first
here_at aus slots first x xs is here = at_drop aus first x (xs ++ here.0) (here.1 ∙ ap (λ (s : List (List ℕ)). s ++ here.0) is)

pub here_below : (aus slots : List (List ℕ)) (first : ℕ) (x : List ℕ) (xs : List (List ℕ)) → slots ≡ x ∷ xs → IsHere aus first slots → first < length aus
here_below aus slots first x xs is here = below_drop aus first x (xs ++ here.0) (here.1 ∙ ap (λ (s : List (List ℕ)). s ++ here.0) is)

pub here_on : (aus slots : List (List ℕ)) (first : ℕ) (x : List ℕ) (xs : List (List ℕ)) → slots ≡ x ∷ xs → IsHere aus first slots → IsHere aus (first + 1) xs
here_on aus slots first x xs is here = (here.0, after_drop aus first x (xs ++ here.0) (here.1 ∙ ap (λ (s : List (List ℕ)). s ++ here.0) is))

-- ---- of each access unit

pub refs_at : (refs : List (Bor (List ℕ))) (t : ℕ) (d : Bor (List ℕ)) → t < length refs → (get_or refs t d).now ≡ au_at (map (λ r. r.now) refs) t
refs_at [] t d lt = absurd (omega (arith, lt))
refs_at (r ∷ refs) zero d lt = refl
refs_at (r ∷ refs) (suc t) d lt = refs_at refs t d (omega (arith, lt))

pub frame_at : (c : UsacConfig) (aus : List (List ℕ)) (t : ℕ) → AreFrames c aus → t < length aus → (f : Frame) × IsFrame c (au_at aus t) f
frame_at c [] t h lt = absurd (omega (arith, lt))
frame_at c (au ∷ aus) zero h lt = h.0
frame_at c (au ∷ aus) (suc t) h lt = frame_at c aus t h.1 (omega (arith, lt))

pub slot_at : (aus : List (List ℕ)) (t : ℕ) → AreSlots aus → t < length aus → (length (au_at aus t) ≤ 8191) × AllByRecursion (λ b. b < 256) (au_at aus t)
slot_at [] t h lt = absurd (omega (arith, lt))
slot_at (au ∷ aus) zero h lt = h.0
slot_at (au ∷ aus) (suc t) h lt = slot_at aus t h.1 (omega (arith, lt))

frames_drop : (c : UsacConfig) (aus : List (List ℕ)) (n : ℕ) → AreFrames c aus → AreFrames c (drop n aus)
frames_drop c aus zero h = h
frames_drop c [] (suc n) h = h
frames_drop c (au ∷ aus) (suc n) h = frames_drop c aus n h.1

frames_take : (c : UsacConfig) (aus : List (List ℕ)) (n : ℕ) → AreFrames c aus → AreFrames c (take n aus)
frames_take c aus zero h = tt
frames_take c [] (suc n) h = h
frames_take c (au ∷ aus) (suc n) h = (h.0, frames_take c aus n h.1)

pub frames_part : (c : UsacConfig) (aus : List (List ℕ)) (k n : ℕ) → AreFrames c aus → AreFrames c (take k (drop n aus))
frames_part c aus k n h = frames_take c (drop n aus) k (frames_drop c aus n h)

pub all_drop : {X : Type 0} (P : X → Type 0) (xs : List X) (n : ℕ) → AllByRecursion P xs → AllByRecursion P (drop n xs)
all_drop P xs zero h = h
all_drop P [] (suc n) h = h
all_drop P (x ∷ xs) (suc n) h = all_drop P xs n h.1

pub all_take : {X : Type 0} (P : X → Type 0) (xs : List X) (n : ℕ) → AllByRecursion P xs → AllByRecursion P (take n xs)
all_take P xs zero h = tt
all_take P [] (suc n) h = h
all_take P (x ∷ xs) (suc n) h = (h.0, all_take P xs n h.1)

pub slots_part : (aus : List (List ℕ)) (k n : ℕ) → AreSlots aus → AreSlots (take k (drop n aus))
slots_part aus k n h =
    let P : List ℕ → Type 0 = λ au. (length au ≤ 8191) × AllByRecursion (λ b. b < 256) au in
    all_take P (drop n aus) k (all_drop P aus n h)

map_drop : (refs : List (Bor (List ℕ))) (n : ℕ) → map (λ r. r.now) (drop n refs) ≡ drop n (map (λ r. r.now) refs)
map_drop refs zero = refl
map_drop [] (suc n) = refl
map_drop (r ∷ refs) (suc n) = map_drop refs n

map_take : (refs : List (Bor (List ℕ))) (n : ℕ) → map (λ r. r.now) (take n refs) ≡ take n (map (λ r. r.now) refs)
map_take refs zero = refl
map_take [] (suc n) = refl
map_take (r ∷ refs) (suc n) = ap (λ (xs : List (List ℕ)). r.now ∷ xs) (map_take refs n)

pub map_part : (refs : List (Bor (List ℕ))) (k n : ℕ) → map (λ r. r.now) (take k (drop n refs)) ≡ take k (drop n (map (λ r. r.now) refs))
map_part refs k n = map_take (drop n refs) k ∙ ap (λ (xs : List (List ℕ)). take k xs) (map_drop refs n)

-- the access units before frame t, as the code slices them
pub part_is : (refs items : List (Bor (List ℕ))) (count t : ℕ) → items ≡ refs → count ≤ t → map (λ r. r.now) (take (t - (t - count)) (drop (t - count) items)) ≡ units_before count t (map (λ r. r.now) refs)
part_is refs items count t is le =
    ap (λ (xs : List (Bor (List ℕ))). map (λ r. r.now) (take (t - (t - count)) (drop (t - count) xs))) is
    ∙ map_part refs (t - (t - count)) (t - count)
    ∙ ap (λ (k : ℕ). take k (drop (t - count) (map (λ r. r.now) refs))) (let k : t - (t - count) ≡ count = omega (arith, le) in k)

-- what the code reads at frame t
pub au_is : (s : Sources) (t : ℕ) (r : Bor (List ℕ)) → r ≡ get_or s.aus.items t r → t < length (settled s).aus → r.now ≡ au_at (settled s).aus t
au_is s t r is lt = ap (λ (x : Bor (List ℕ)). x.now) is ∙ refs_at s.aus.items t r (let l : t < length s.aus.items = omega (arith, lt, length-map s.aus.items (λ (x : Bor (List ℕ)). x.now)) in l)

-- ---- of each frame

-- the frame with a number below the number of frames
pub at_there : (fs : List (UsacConfig × List ℕ)) (t : ℕ) → t < length fs → (f : UsacConfig × List ℕ) × (slice_get fs t ≡ Some f)
at_there [] t lt = absurd (omega (arith, lt))
at_there (f ∷ fs) zero lt = (f, refl)
at_there (f ∷ fs) (suc t) lt = at_there fs t (omega (arith, lt))

pub au_there : (fs : List (UsacConfig × List ℕ)) (t : ℕ) (f : UsacConfig × List ℕ) → slice_get fs t ≡ Some f → au_in f ≡ au_at (map au_in fs) t
au_there [] t f e = absurd (let never : None ≡ Some f = e in cc)
au_there (x ∷ fs) zero f e = sym (ap au_in (let is : x ≡ f = (let s : Some x ≡ Some f = e in cc) in is))
au_there (x ∷ fs) (suc t) f e = au_there fs t f e

pub config_there : (c : UsacConfig) (fs : List (UsacConfig × List ℕ)) (t : ℕ) (f : UsacConfig × List ℕ) → AllByRecursion (λ f. c ≡ config_in f) fs → slice_get fs t ≡ Some f → c ≡ config_in f
config_there c [] t f same e = absurd (let never : None ≡ Some f = e in cc)
config_there c (x ∷ fs) zero f same e = same.0 ∙ ap config_in (let is : x ≡ f = (let s : Some x ≡ Some f = e in cc) in is)
config_there c (x ∷ fs) (suc t) f same e = config_there c fs t f same.1 e
