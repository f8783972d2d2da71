-- The cut of a changed plan, and that of the plan before.
use Rattle.std.proofs.Common.{◌≡◌, ℕ, suc, ◌+◌, ◌-◌, ◌≤◌, Bool, true, false, List, [], ◌∷◌, ◌++◌, length, map, take, drop, Option, Some, None, refl, sym, ap, ◌∙◌, arith}
use Rattle.std.specs.Prelude.{slice_get, slice_range, if◌then◌else◌, ℤ}
use Rattle.std.specs.List.{AllByRecursion}
use Rattle.std.proofs.lemmas.List.{length-map, length-append, length-take-le, length-drop, take-append-drop}
use Rattle.std.proofs.Math.Seq.{take-append_seam, drop-append_seam}
use Rattle.usac_cfg.specs.declared.usac_config.UsacConfig.{UsacConfig}
use Rattle.usac_cfg.specs.UsacConfig.{channels}
use Rattle.usac_frame.specs.Units.{UnitValue}
use Rattle.preroll.specs.Carrying.{Shown, units_in, fades_in}
use Rattle.plans.specs.Coded.{Coded, coded_shown}
use Rattle.plans.specs.Parts.{part_shown}
use Rattle.plans.specs.StreamUnits.{units_of, head_of}
use Rattle.core_iface.specs.Decoding.{Definitions, out}
use Rattle.switch_player.specs.Cuts.{blend_first, joined, cut_behind}
use Rattle.switch_player.specs.Streams.{alone, left}
use Rattle.inserted_plans.specs.Changes.{Change, IsChange, BeginsNoFade, part_behind, old_plan, new_plan, is_fading, faded, left_behind, with_fades}
use Rattle.inserted_plans.specs.Laws.{CutsWithFades, CutsAlike}
use Rattle.inserted_plans.proofs.Alike.{own_units}
use Rattle.inserted_plans.proofs.Beginnings.{begins, gives_alike, unfaded}

abbrev Blocks : Type 0
Blocks = List (List ℤ)

-- ---- how many blocks there are

out_length : (d : Definitions) (c : UsacConfig) (s : List ℕ) (us : List UnitValue) → length (out d c s us) ≡ length us
out_length d c s [] = refl
out_length d c s (u ∷ us) = ap (λ (n : ℕ). suc n) (out_length d c (d.next c s u) us)

alone_length : (d : Definitions) (fs : List Shown) → length (alone d fs) ≡ length fs
alone_length d [] = refl
alone_length d (f ∷ fs) =
    let blocks = out d f.config (d.init f.config) (units_of (f ∷ fs)) in
    omega (arith, length-drop (head_of (f ∷ fs)) blocks, out_length d f.config (d.init f.config) (units_of (f ∷ fs)), length-append (units_in f.carried) (own_units (f ∷ fs)), length-map (f ∷ fs) (λ (g : Shown). g.unit))

range_length : (bs : Blocks) (from to : ℕ) → to ≤ length bs → length (slice_range bs from to) ≡ to - from
range_length bs from to le = length-take-le (to - from) (drop from bs) (omega (arith, length-drop from bs, le))

blend_length : (channels : ℕ) (old : List ℤ) (bs : Blocks) → length (blend_first channels old bs) ≡ length bs
blend_length channels old [] = refl
blend_length channels old (b ∷ bs) = refl

joined_length : (before : Option (List ℤ)) (f : Option Shown) (bs : Blocks) → length (joined before f bs) ≡ length bs
joined_length None f bs = refl
joined_length (Some old) None bs = refl
joined_length (Some old) (Some f) bs = by_fade (fades_in f.carried)
  where
    by_fade : (b : Bool) → length (if b then blend_first (channels f.config) old bs else bs) ≡ length bs
    by_fade true = blend_length (channels f.config) old bs
    by_fade false = refl

faded_length : (before : Option (List ℤ)) (b : Bool) (f : Option Coded) (bs : Blocks) → length (faded before b f bs) ≡ length bs
faded_length None b f bs = refl
faded_length (Some old) false f bs = refl
faded_length (Some old) true None bs = refl
faded_length (Some old) true (Some f) bs = blend_length (channels f.config) old bs

take_front : (n : ℕ) (xs ys : Blocks) → length xs ≡ n → take n (xs ++ ys) ≡ xs
take_front n xs ys e = ap (λ (k : ℕ). take k (xs ++ ys)) (sym e) ∙ take-append_seam xs ys

drop_front : (n : ℕ) (xs ys : Blocks) → length xs ≡ n → drop n (xs ++ ys) ≡ ys
drop_front n xs ys e = ap (λ (k : ℕ). drop k (xs ++ ys)) (sym e) ∙ drop-append_seam xs ys

module _ (d : Definitions) where
  part_length : (c : Change) (before : Option (List ℤ)) (bs rest : Blocks) → length rest ≡ length (drop (c.part.to - c.part.from) bs)
      → length (faded before (is_fading c.insertion c.part.from) (slice_get c.part.stream c.part.from) (take (c.part.to - c.part.from) bs) ++ rest) ≡ length bs
  part_length c before bs rest e =
      let n = c.part.to - c.part.from in
      let whole = ap (λ (xs : Blocks). length xs) (take-append-drop n bs) in
      length-append (faded before (is_fading c.insertion c.part.from) (slice_get c.part.stream c.part.from) (take n bs)) rest
      ∙ ap (λ (k : ℕ). k + length rest) (faded_length before (is_fading c.insertion c.part.from) (slice_get c.part.stream c.part.from) (take n bs))
      ∙ ap (λ (k : ℕ). length (take n bs) + k) e
      ∙ sym (length-append (take n bs) (drop n bs)) ∙ whole

  fades_length : (before : Option (List ℤ)) (cs : List Change) (bs : Blocks) → length (with_fades d before cs bs) ≡ length bs
  fades_length before [] bs = refl
  fades_length before (c ∷ cs) bs = part_length c before bs (with_fades d (Some (left_behind d c.part)) cs (drop (c.part.to - c.part.from) bs)) (fades_length (Some (left_behind d c.part)) cs (drop (c.part.to - c.part.from) bs))

  -- ---- the cut

  abbrev old_cut : Option (List ℤ) → List Change → Blocks
  old_cut before cs = cut_behind d before (map part_shown (old_plan cs))

  abbrev new_cut : Option (List ℤ) → List Change → Blocks
  new_cut before cs = cut_behind d before (map part_shown (new_plan cs))

  cuts : (before : Option (List ℤ)) (cs : List Change) → AllByRecursion IsChange cs → new_cut before cs ≡ with_fades d before cs (old_cut before cs)
  cuts before [] h = refl
  cuts before (c ∷ cs) h =
      let p = c.part in
      let n = p.to - p.from in
      let old : List Shown = map coded_shown p.stream in
      let new : List Shown = map coded_shown (part_behind c).stream in
      let alike = gives_alike d p.stream c.insertion h.0.into in
      let blocks : Blocks = slice_range (alone d old) p.from p.to in
      let same : slice_range (alone d new) p.from p.to ≡ blocks = ap (λ (xs : Blocks). slice_range xs p.from p.to) alike.alone in
      let first : Blocks = joined before (slice_get old p.from) blocks in
      let rest : Blocks = old_cut (Some (left d old p.to)) cs in
      let fading = is_fading c.insertion p.from in
      let long : length first ≡ n = joined_length before (slice_get old p.from) blocks ∙ range_length (alone d old) p.from p.to (omega (arith, h.0.within, alone_length d old, length-map p.stream coded_shown)) in
      ap (λ (xs : Blocks). joined before (slice_get new p.from) xs ++ new_cut (Some (left d new p.to)) cs) same
      ∙ ap (λ (xs : Blocks). xs ++ new_cut (Some (left d new p.to)) cs) (begins p.stream c.insertion h.0.into p.from before blocks)
      ∙ ap (λ (x : List ℤ). faded before fading (slice_get p.stream p.from) first ++ new_cut (Some x) cs) (alike.left p.to)
      ∙ ap (λ (xs : Blocks). faded before fading (slice_get p.stream p.from) first ++ xs) (cuts (Some (left d old p.to)) cs h.1)
      ∙ ap (λ (xs : Blocks). faded before fading (slice_get p.stream p.from) xs ++ with_fades d (Some (left d old p.to)) cs rest) (sym (take_front n first rest long))
      ∙ ap (λ (xs : Blocks). faded before fading (slice_get p.stream p.from) (take n (first ++ rest)) ++ with_fades d (Some (left d old p.to)) cs xs) (sym (drop_front n first rest long))

  -- where no part begins with a fade
  no_fades : (before : Option (List ℤ)) (cs : List Change) (bs : Blocks) → AllByRecursion (λ c. is_fading c.insertion c.part.from ≡ false) cs → with_fades d before cs bs ≡ bs
  no_fades before [] bs h = refl
  no_fades before (c ∷ cs) bs h =
      let n = c.part.to - c.part.from in
      ap (λ (xs : Blocks). xs ++ with_fades d (Some (left_behind d c.part)) cs (drop n bs)) (unfaded before (is_fading c.insertion c.part.from) (slice_get c.part.stream c.part.from) (take n bs) h.0)
      ∙ ap (λ (xs : Blocks). take n bs ++ xs) (no_fades (Some (left_behind d c.part)) cs (drop n bs) h.1)
      ∙ take-append-drop n bs

  -- nor does the first part, which has none before it
  none_fades : (cs : List Change) (bs : Blocks) → BeginsNoFade cs → with_fades d None cs bs ≡ bs
  none_fades [] bs h = refl
  none_fades (c ∷ cs) bs h =
      let n = c.part.to - c.part.from in
      ap (λ (xs : Blocks). take n bs ++ xs) (no_fades (Some (left_behind d c.part)) cs (drop n bs) h) ∙ take-append-drop n bs

  pub cuts_with_fades : CutsWithFades d
  cuts_with_fades cs h = record {
    blocks = cuts None cs h;
    many = ap (λ (xs : Blocks). length xs) (cuts None cs h) ∙ fades_length None cs (old_cut None cs);
  }

  pub cuts_alike : CutsAlike d
  cuts_alike cs h quiet = cuts None cs h ∙ none_fades cs (old_cut None cs) quiet
