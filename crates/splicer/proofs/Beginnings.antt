-- A frame is the first of its piece by its number.
use Rattle.std.proofs.Common.{◌≡◌, ℕ, ◌-◌, ◌≤◌, ◌<◌, min, Bool, true, false, List, [], ◌∷◌, length, take, Option, None, refl, ap, sym, ◌∙◌, arith}
use Rattle.std.specs.Prelude.{◌==◌, ◌&&◌, nat_lt, is_none, if◌then◌else◌}
use Rattle.std.proofs.lemmas.List.{length-take, length-drop}
use Rattle.std.proofs.lemmas.List.Elements.{All-head}
use Rattle.std.proofs.lemmas.Bool.{ltb-true, ltb-false, ne_eqb}
use Rattle.std.proofs.lemmas.Bool.Decides.{nat_tests}
use Rattle.usac_cfg.specs.declared.usac_config.UsacConfig.{UsacConfig}
use Rattle.usac_cfg.specs.UsacConfig.{IsWellFormed}
use Rattle.usac_cfg.specs.Same.{same}
use Rattle.usac_cfg.specs.SameFound.{same_true}
use Rattle.usac_frame.specs.Units.{UnitValue}
use Rattle.preroll.specs.Carrying.{units_in, fades_in, carried_in}
use Rattle.plans.specs.Coded.{Coded}
use Rattle.splicer.specs.declared.asked.Asked.{Asked}
use Rattle.splicer.specs.declared.turn.Turn.{Turn}
use Rattle.splicer.specs.declared.turn.Turn.TheVariants.{Skip, Play, After}
use Rattle.splicer.specs.Rules.{change_rule, from_of}
use Rattle.splicer.specs.Turns.{to_of, is_before, beginning, turn_at}
use Rattle.splicer.specs.Runs.{RunValue, new_run, fault, turn, run_over}
use Rattle.splicer.specs.Pieces.{fault_over, Rises, is_given, given}
use Rattle.splicer.specs.SoFar.{is_beginning, is_start}
use Rattle.splicer.specs.Laws.{TellsBeginnings}
use Rattle.splicer.proofs.Bounds.{passed}
use Rattle.splicer.proofs.Joining.{or_first}
use Rattle.splicer.proofs.Later.{AreWell}
use Rattle.splicer.proofs.Held.{run_held, judged_all}
use Rattle.splicer.proofs.Fronts.{given_there}

begins : (t : Bool) (n : ℕ) (b : Bool) → is_beginning (beginning t n b) ≡ true
begins true n b = refl
begins false n b = refl

starts : (t : Bool) (n : ℕ) (b : Bool) → is_start (beginning t n b) ≡ t
starts true n b = refl
starts false n b = refl

module _ (from : ℕ) (to : Option ℕ) (first : Bool) (n : ℕ) (us : List UnitValue) (fade : Bool) where
  abbrev start_here : Bool
  start_here = (from == 0) && first

  -- where the frame stands before the piece, where it begins it, and where it goes on
  abbrev turn_by : Bool → Bool → Bool → Turn
  turn_by before here goes = if before then Skip else (if here then beginning start_here (length us) fade else (if goes then Play else After))

  begins_by : (before here goes : Bool) → (before ≡ true → here ≡ false) → is_beginning (turn_by before here goes) ≡ here
  begins_by true here goes h = sym (h refl)
  begins_by false true goes h = begins start_here (length us) fade
  begins_by false false true h = refl
  begins_by false false false h = refl

  starts_by : (before here goes : Bool) → (before ≡ true → here ≡ false) → is_start (turn_by before here goes) ≡ (here && start_here)
  starts_by true here goes h = ap (λ (x : Bool). x && start_here) (sym (h refl))
  starts_by false true goes h = starts start_here (length us) fade
  starts_by false false true h = refl
  starts_by false false false h = refl

  -- a frame that is given does not stand before the piece
  given_behind : (before here goes : Bool) → is_given (turn_by before here goes) ≡ true → before ≡ false
  given_behind true here goes e = absurd (let never : false ≡ true = e in cc)
  given_behind false here goes e = refl

  given_at : is_given (turn_at from to first n us fade) ≡ true → from ≤ n
  given_at e = ltb-false n from (given_behind (nat_lt n from) (n == from) (is_before n to) e)

  not_here : nat_lt n from ≡ true → (n == from) ≡ false
  not_here e = let l = ltb-true n from e in ne_eqb n from (λ is. absurd (omega (arith, l, is)))

  begins_at : is_beginning (turn_at from to first n us fade) ≡ (n == from)
  begins_at = begins_by (nat_lt n from) (n == from) (is_before n to) not_here

  starts_at : is_start (turn_at from to first n us fade) ≡ ((n == from) && start_here)
  starts_at = starts_by (nat_lt n from) (n == from) (is_before n to) not_here

-- the turn of a frame by its number
turn_is : (a : Asked) (fs : List Coded) (f : Coded) → turn (run_over (new_run a) fs) f ≡ turn_at (from_of a f.config) (to_of a f.config) (is_none a.before) (length fs) (units_in (carried_in f.config f.au)) (fades_in (carried_in f.config f.au))
turn_is a [] f = refl
turn_is a (g ∷ fs) f = ap (λ (v : RunValue). turn v f) (run_held a g fs)

-- ---- the first frame that is given

-- none is left of the first frames behind a number exactly where there are no more
none_behind : (n from top many : ℕ) → from ≤ n → from < top → many ≡ min top n - from → (n == from) ≡ (many == 0)
none_behind n from top many h l e = grind (arith, nat_tests)

-- a later frame that breaks no rule has the configuration of frame 0
of_first : (a : Asked) (g : Coded) (rest : List Coded) (need : ℕ) (f : Coded) → IsWellFormed g.config → IsWellFormed f.config → fault (run_over (new_run a) (g ∷ rest)) need f ≡ None → g.config ≡ f.config
of_first a g rest need f wg wf e =
    let by_all = sym (judged_all a (g ∷ rest) need f wf) ∙ e in
    same_true g.config f.config wg wf (passed (same g.config f.config) _ (or_first (change_rule g.config (length (g ∷ rest)) f.config) _ by_all))

first_given : (warm : UsacConfig → ℕ) (a : Asked) (fs : List Coded) (f : Coded) → Rises a.position a.until → AreWell fs → IsWellFormed f.config
    → fault_over warm (new_run a) fs ≡ None → fault (run_over (new_run a) fs) (warm f.config) f ≡ None → from_of a f.config ≤ length fs → (length fs == from_of a f.config) ≡ (length (given (new_run a) fs) == 0)
first_given warm a [] f r well wf e q low =
    let zero : from_of a f.config ≡ 0 = omega (arith, low) in
    ap (λ (k : ℕ). 0 == k) zero
first_given warm a (g ∷ rest) f r well wf e q low =
    let is = of_first a g rest (warm f.config) f (All-head (λ h. IsWellFormed h.config) g rest well) wf q in
    let from : from_of a g.config ≡ from_of a f.config = ap (from_of a) is in
    let t = given_there warm a g rest e well r in
    let all = length-take t.0 (g ∷ rest) in
    let many : length (given (new_run a) (g ∷ rest)) ≡ length (take t.0 (g ∷ rest)) - from_of a g.config = ap (λ (xs : List Coded). length xs) t.2 ∙ length-drop (from_of a g.config) (take t.0 (g ∷ rest)) in
    let same_many = many ∙ ap (λ (k : ℕ). k - from_of a g.config) all in
    ap (λ (k : ℕ). length (g ∷ rest) == k) (sym from) ∙ none_behind (length (g ∷ rest)) (from_of a g.config) t.0 (length (given (new_run a) (g ∷ rest))) (omega (arith, from, low)) t.1 same_many

pub tells_beginnings : TellsBeginnings
tells_beginnings = record {
  begins = λ a fs f. ap is_beginning (turn_is a fs f) ∙ begins_at (from_of a f.config) (to_of a f.config) (is_none a.before) (length fs) (units_in (carried_in f.config f.au)) (fades_in (carried_in f.config f.au));
  starts = λ a fs f. ap is_start (turn_is a fs f) ∙ starts_at (from_of a f.config) (to_of a f.config) (is_none a.before) (length fs) (units_in (carried_in f.config f.au)) (fades_in (carried_in f.config f.au));
  first = λ warm a fs f r well wf e q g.
      let here = sym (ap is_given (turn_is a fs f)) ∙ g in
      let low = given_at (from_of a f.config) (to_of a f.config) (is_none a.before) (length fs) (units_in (carried_in f.config f.au)) (fades_in (carried_in f.config f.au)) here in
      ap is_beginning (turn_is a fs f)
      ∙ (begins_at (from_of a f.config) (to_of a f.config) (is_none a.before) (length fs) (units_in (carried_in f.config f.au)) (fades_in (carried_in f.config f.au))
      ∙ first_given warm a fs f r well wf e q low);
}
