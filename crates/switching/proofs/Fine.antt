-- The frames of files have well formed configurations.
use Rattle.std.proofs.Common.{ℕ, List, [], ◌∷◌, map, sym, subst, ◌++◌, inl, inr}
use Rattle.std.specs.Prelude.{All}
use Rattle.std.proofs.lemmas.List.{map-append}
use Rattle.std.proofs.lemmas.List.Elements.{All-nil, All-cons, All-head, All-tail}
use Rattle.usac_cfg.specs.UsacConfig.{IsWellFormed}
use Rattle.au_stream.specs.Frames.{Frame}
use Rattle.plans.specs.Coded.{Coded}
use Rattle.playing.specs.Spliced.{coded}
use Rattle.playing.proofs.FineScripts.{script_fine, frames_fine}
use Rattle.joining.specs.Events.{FileScript, coded_of, AreScripts}
use Rattle.joining.specs.Answers.{AreCutShort}
use Rattle.splicer.proofs.Later.{AreWell}
use Rattle.switching.specs.SwitchAnswers.{AreReached}
use Rattle.switching.proofs.CutPlans.{AllFine}

-- the frames of scripts of files are fine
pub scripts_fine : (texts : List (List ℕ)) (ss : List FileScript) → AreScripts texts ss → AllFine ss
scripts_fine [] [] are = All-nil (λ (s : FileScript). AreWell (coded_of s))
scripts_fine [] (s ∷ ss) are = absurd are
scripts_fine (text ∷ texts) [] are = absurd are
scripts_fine (text ∷ texts) (s ∷ ss) are = All-cons (λ (x : FileScript). AreWell (coded_of x)) s ss (script_fine text s.frames are.0.0 are.0.2) (scripts_fine texts ss are.1)

pub cut_fine : (texts taken : List (List ℕ)) (ss : List FileScript) → AreCutShort texts taken ss → AllFine ss
cut_fine texts taken [] cut = All-nil (λ (s : FileScript). AreWell (coded_of s))
cut_fine texts [] (s ∷ ss) cut = absurd cc
cut_fine [] (front ∷ taken) (s ∷ ss) cut = absurd cut
cut_fine (text ∷ texts) (front ∷ taken) (s ∷ ss) (inl cut) = All-cons (λ (x : FileScript). AreWell (coded_of x)) s ss (script_fine text s.frames cut.0.0 cut.0.2) (cut_fine texts taken ss cut.1)
cut_fine (text ∷ texts) (front ∷ taken) (s ∷ ss) (inr cut) =
    let Fine : FileScript → Type 0 = λ x. AreWell (coded_of x) in
    subst (λ (xs : List FileScript). All Fine (s ∷ xs)) (sym cut.1) (All-cons Fine s [] (script_fine front s.frames cut.3.0 cut.3.1) (All-nil Fine))

front_fine : (fs gs : List Coded) → AreWell (fs ++ gs) → AreWell fs
front_fine [] gs w = All-nil (λ (f : Coded). IsWellFormed f.config)
front_fine (f ∷ fs) gs w = let Well : Coded → Type 0 = λ x. IsWellFormed x.config in All-cons Well f fs (All-head Well f (fs ++ gs) w) (front_fine fs gs (All-tail Well f (fs ++ gs) w))

pub reached_fine : (texts taken : List (List ℕ)) (ss : List FileScript) (f : Frame) → AreReached texts taken ss f → AllFine ss
reached_fine texts [] ss f h = absurd h
reached_fine [] (front ∷ taken) ss f h = absurd h
reached_fine (text ∷ texts) (front ∷ taken) [] f h = absurd h
reached_fine (text ∷ texts) (front ∷ taken) (s ∷ ss) f (inl h) = All-cons (λ (x : FileScript). AreWell (coded_of x)) s ss (script_fine text s.frames h.0.0 h.0.2) (reached_fine texts taken ss f h.1)
reached_fine (text ∷ texts) (front ∷ taken) (s ∷ ss) f (inr h) =
    let Fine : FileScript → Type 0 = λ x. AreWell (coded_of x) in
    let all = frames_fine text (s.frames ++ f ∷ h.3.0) h.3.1 in
    let own = front_fine (map coded s.frames) (map coded (f ∷ h.3.0)) (subst AreWell (map-append coded s.frames (f ∷ h.3.0)) all) in
    subst (λ (xs : List FileScript). All Fine (s ∷ xs)) (sym h.1) (All-cons Fine s [] own (All-nil Fine))
