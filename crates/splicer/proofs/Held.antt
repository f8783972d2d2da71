-- What a run holds behind frames.
use Rattle.std.proofs.Common.{◌≡◌, ℕ, ◌+◌, List, [], ◌∷◌, ◌++◌, length, map, Option, None, refl, ap, sym, ◌∙◌, arith}
use Rattle.std.specs.Prelude.{◌==◌, if◌then◌else◌}
use Rattle.std.proofs.lemmas.List.{append_assoc, append-nil}
use Rattle.usac_cfg.specs.declared.usac_config.UsacConfig.{UsacConfig}
use Rattle.usac_cfg.specs.UsacConfig.{IsWellFormed}
use Rattle.usac_frame.specs.Units.{UnitValue}
use Rattle.preroll.specs.Carrying.{units_in, short_at, carried_in}
use Rattle.plans.specs.Coded.{Coded, coded_shown}
use Rattle.plans.specs.StreamUnits.{units_of}
use Rattle.plans.specs.WholeStream.{stream_config}
use Rattle.splicer.specs.declared.asked.Asked.{Asked}
use Rattle.splicer.specs.declared.fault.SpliceFault.{SpliceFault}
use Rattle.splicer.specs.Foreign.{last_n}
use Rattle.splicer.specs.ForeignFound.{last_n-push}
use Rattle.splicer.specs.Rules.{or_then, change_rule, short_rule, from_of, fault_of}
use Rattle.splicer.specs.Runs.{RunValue, new_run, fault, behind, run_over}
use Rattle.splicer.specs.Laws.{HoldsLastUnits}
use Rattle.splicer.proofs.Joining.{rule_by_last, few_carried}
use Rattle.splicer.proofs.Later.{unit_at, own_units, later}
use Rattle.splicer.proofs.Coding.{own_shown}

-- behind later frames
run_later : (a : Asked) (c : UsacConfig) (n : ℕ) (us : List UnitValue) (fs : List Coded) → run_over (later a c n (last_n 18 us)) fs ≡ later a c (n + length fs) (last_n 18 (us ++ own_units fs))
run_later a c n us [] =
    let e : n ≡ n + 0 = omega arith in
    ap (λ (m : ℕ). later a c m (last_n 18 us)) e ∙ ap (λ (vs : List UnitValue). later a c (n + 0) (last_n 18 vs)) (sym (append-nil us))
run_later a c n us (f ∷ fs) =
    let e : n + 1 + length fs ≡ n + length (f ∷ fs) = omega arith in
    ap (λ (vs : List UnitValue). run_over (later a c (n + 1) vs) fs) (last_n-push 18 us (unit_at f))
    ∙ (run_later a c (n + 1) (us ++ unit_at f ∷ []) fs
    ∙ (ap (λ (m : ℕ). later a c m (last_n 18 ((us ++ unit_at f ∷ []) ++ own_units fs))) e
    ∙ ap (λ (vs : List UnitValue). later a c (n + length (f ∷ fs)) (last_n 18 vs)) (append_assoc us (unit_at f ∷ []) (own_units fs))))

-- behind frames from the first on
pub run_held : (a : Asked) (f : Coded) (rest : List Coded) → run_over (new_run a) (f ∷ rest) ≡ later a f.config (length (f ∷ rest)) (last_n 18 (units_of (map coded_shown (f ∷ rest))))
run_held a f rest =
    let us = units_in (carried_in f.config f.au) in
    let e : 1 + length rest ≡ length (f ∷ rest) = omega arith in
    let units : (us ++ unit_at f ∷ []) ++ own_units rest ≡ units_of (map coded_shown (f ∷ rest)) = append_assoc us (unit_at f ∷ []) (own_units rest) ∙ ap (λ (vs : List UnitValue). us ++ vs) (sym (own_shown (f ∷ rest))) in
    run_later a f.config 1 (us ++ unit_at f ∷ []) rest
    ∙ (ap (λ (m : ℕ). later a f.config m (last_n 18 ((us ++ unit_at f ∷ []) ++ own_units rest))) e
    ∙ ap (λ (vs : List UnitValue). later a f.config (length (f ∷ rest)) (last_n 18 vs)) units)

kept_held : (a : Asked) (fs : List Coded) → (run_over (new_run a) fs).kept ≡ last_n 18 (units_of (map coded_shown fs))
kept_held a [] = refl
kept_held a (f ∷ rest) = ap (λ (v : RunValue). v.kept) (run_held a f rest)

frames_held : (a : Asked) (fs : List Coded) → (run_over (new_run a) fs).frames ≡ length fs
frames_held a [] = refl
frames_held a (f ∷ rest) = ap (λ (v : RunValue). v.frames) (run_held a f rest)

first_held : (a : Asked) (fs : List Coded) → (run_over (new_run a) fs).first ≡ stream_config fs
first_held a [] = refl
first_held a (f ∷ rest) = ap (λ (v : RunValue). v.first) (run_held a f rest)

pub run_more : (v : RunValue) (fs gs : List Coded) → run_over v (fs ++ gs) ≡ run_over (run_over v fs) gs
run_more v [] gs = refl
run_more v (f ∷ fs) gs = run_more (behind v f) fs gs

pub judged_all : (a : Asked) (fs : List Coded) (need : ℕ) (f : Coded) → IsWellFormed f.config → fault (run_over (new_run a) fs) need f ≡ fault_of a (stream_config fs) (length fs) (units_of (map coded_shown fs)) need f
judged_all a [] need f w = refl
judged_all a (g ∷ rest) need f w =
    let n = length (g ∷ rest) in
    let us = units_of (map coded_shown (g ∷ rest)) in
    ap (λ (v : RunValue). fault v need f) (run_held a g rest)
    ∙ ap (λ (j : Option SpliceFault). or_then (change_rule g.config n f.config) (or_then (short_rule n (short_at f.config f.au)) (if from_of a f.config == n then j else None)))
    (rule_by_last a.before n need us f.config (carried_in f.config f.au) (few_carried f.config f.au w))

pub holds_last_units : HoldsLastUnits
holds_last_units = record { kept = kept_held; frames = frames_held; first = first_held; judges = judged_all; more = λ a fs gs. run_more (new_run a) fs gs }
