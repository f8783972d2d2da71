-- What is answered to `plan`, by the first event of its files.
use Rattle.std.specs.Prelude.{◌≡◌, ◌⊎◌, ◌↔◌, ℕ, List, [], ◌∷◌, map, length, Option, Some, None}
use Rattle.std.specs.List.Sorted.{IsStrictlyIncreasing}
use Rattle.plans.specs.Parts.{Part}
use Rattle.plans.specs.SoundPlan.{IsSoundPlan}
use Rattle.usac_cfg.specs.declared.usac_config.UsacConfig.{UsacConfig}
use Rattle.core_iface.specs.Decoding.{Definitions}
use Rattle.splicer.specs.Pieces.{AreTimedBy}
use Rattle.tool_text.specs.declared.refusal.Refusal.{Refusal}
use Rattle.tool_text.specs.declared.refusal.Within.TheVariants as inputs
use Rattle.tool_text.specs.RefusalText.{refusal_text}
use Rattle.au_stream.specs.Script.{Mark, End, SyncLost, BadElement, Truncated, TooLarge, IsScript, IsOpen}
use Rattle.commands.specs.Ending.{Traces, refusal_of_mark}
use Rattle.commands.specs.Ran.{Notes, Noted}
use Rattle.commands.specs.Texts.{read_text, large_text}
use Rattle.commands.specs.Calling.{AreTaken}
use Rattle.commands.specs.Worlds.{World, traces}
use Rattle.playing.specs.FileAnswers.{WroteBytes, NoneRose}
use Rattle.joining.specs.Refusals.{refusal_of_splice}
use Rattle.joining.specs.Events.{Marked, Unread, FileScript, Event, Rule, AtMark, NotRead, coded_of, first_event, plan_lines, IsScriptOf, AreScripts}

-- ---- a plan

-- Every file ends behind its last frame, and the renditions are the streams of a sound plan, which is timed by the positions.
pub record ArePlanned (warm : UsacConfig → ℕ) (positions : List ℕ) (scripts : List FileScript) : Type 0 where
  pub parts : List Part
  pub streams : map (λ p. p.stream) parts ≡ map coded_of scripts
  pub ended : map (λ s. s.close) scripts ≡ map (λ s. Marked End) scripts
  pub rise : IsStrictlyIncreasing positions
  pub sound : IsSoundPlan warm parts
  pub timed : AreTimedBy positions parts

-- There is no event exactly where the files are planned so, whatever they are.
abbrev pub NoEventIsAPlan : Type 0
NoEventIsAPlan = (warm : UsacConfig → ℕ) (positions : List ℕ) (texts : List (List ℕ)) (scripts : List FileScript) → AreScripts texts scripts
    → length positions ≡ length texts → (first_event warm positions scripts ≡ None) ↔ ArePlanned warm positions scripts

-- ---- an answer

-- the line of a refusal of piece k was noted
abbrev pub NotesRefusal : Notes → ℕ → Option Refusal → Type 0
NotesRefusal n k None = ⊥
NotesRefusal n k (Some r) = Noted n (refusal_text (Some (inputs.Piece k)) r)

-- The status and the note of a mark. That a file has too many bytes is status 7.
abbrev pub TellsMark : Notes → ℕ → ℕ → Mark → Type 0
TellsMark n status k End = ⊥
TellsMark n status k (SyncLost byte) = (status ≡ 1) × NotesRefusal n k (refusal_of_mark (SyncLost byte))
TellsMark n status k (BadElement frame fault) = (status ≡ 1) × NotesRefusal n k (refusal_of_mark (BadElement frame fault))
TellsMark n status k (Truncated byte) = (status ≡ 1) × NotesRefusal n k (refusal_of_mark (Truncated byte))
TellsMark n status k TooLarge = (status ≡ 7) × Noted n large_text

-- The status and the note of an event; of none, status 0 and no note.
abbrev pub TellsEvent : Notes → ℕ → Option Event → Type 0
TellsEvent n status None = (status ≡ 0) × (n.after ≡ n.before)
TellsEvent n status (Some (Rule k fault)) = (status ≡ 1) × NotesRefusal n k (refusal_of_splice fault)
TellsEvent n status (Some (AtMark k mark)) = TellsMark n status k mark
TellsEvent n status (Some NotRead) = ⊥

-- a status of a plan's own, by its files alone
abbrev pub IsDecided : ℕ → Type 0
IsDecided status = (status ≡ 0) ⊎ ((status ≡ 1) ⊎ (status ≡ 7))

-- The first event of these scripts is told, and the lines of the pieces before it were written.
pub record TellsFirst (d : Definitions) (positions : List ℕ) (scripts : List FileScript) (t : Traces) (n : Notes) (status : ℕ) : Type 0 where
  pub event : TellsEvent n status (first_event d.warm positions scripts)
  pub wrote : WroteBytes t (plan_lines d.warm positions scripts)

-- Files as far as they were read: of the last that was begun those bytes were taken before a read failed, or it was read whole and the
-- next one could not be begun. Those before it were read whole, and have these scripts.
abbrev pub AreCutShort : List (List ℕ) → List (List ℕ) → List FileScript → Type 0
AreCutShort texts [] scripts = scripts ≡ []
AreCutShort [] (front ∷ taken) scripts = ⊥
AreCutShort (text ∷ texts) (front ∷ taken) [] = ⊥
AreCutShort (text ∷ texts) (front ∷ taken) (s ∷ ss) =
    (IsScriptOf text s × AreCutShort texts taken ss) ⊎ ((taken ≡ []) × (ss ≡ []) × (s.close ≡ Unread) × ((mark : Mark) × IsScript front s.frames mark × IsOpen mark))

-- nothing was refused in them
abbrev pub IsReadOn : Option Event → Type 0
IsReadOn None = Unit {0}
IsReadOn (Some (Rule k fault)) = ⊥
IsReadOn (Some (AtMark k mark)) = ⊥
IsReadOn (Some NotRead) = Unit {0}

-- At status 3 nothing was refused as far as the files were read, and the lines of the pieces before were written.
pub record TellsRead (d : Definitions) (positions : List ℕ) (texts taken : List (List ℕ)) (t : Traces) (n : Notes) : Type 0 where
  pub scripts : List FileScript
  pub cut : AreCutShort texts taken scripts
  pub on : IsReadOn (first_event d.warm positions scripts)
  pub wrote : WroteBytes t (plan_lines d.warm positions scripts)
  pub noted : Noted n read_text

-- What is answered to `plan` at these positions, of files with these bytes. `taken` is what was taken of each that was begun.
pub record AnswersPlan (d : Definitions) (positions : List ℕ) (texts taken : List (List ℕ)) (t : Traces) (n : Notes) (status : ℕ) : Type 0 where
  -- The first event of the files decides the statuses 0, 1 and 7, with their notes, and what was written: the lines of exactly the
  -- pieces before it.
  pub decided : IsDecided status → (scripts : List FileScript) → AreScripts texts scripts → TellsFirst d positions scripts t n status
  -- At status 3 so much is known of the files as was taken of them.
  pub read : status ≡ 3 → TellsRead d positions texts taken t n
  -- There is no event exactly where the files are the streams of a sound plan, timed by the positions.
  pub planned : (scripts : List FileScript) → AreScripts texts scripts → (first_event d.warm positions scripts ≡ None) ↔ ArePlanned d.warm positions scripts

-- Shelf, out and core are calm, or no count of their faults rose.
abbrev pub GoesWell : {H K C : Type 0} → World H K C → World H K C → Type 0
GoesWell before after = (before.calm_shelf × before.calm_out × before.calm_core) ⊎ NoneRose before.faults after.faults

-- What is answered to `plan` of files of these names, of which the shelf tells these bytes.
pub record PlansSoundly {H K C : Type 0} (d : Definitions) (positions : List ℕ) (names texts : List (List ℕ)) (before after : World H K C) (n : Notes) (status : ℕ) : Type 0 where
  -- what was taken of each file that was begun
  pub taken : List (List ℕ)
  pub from : AreTaken before.bytes after.left before.begun names taken
  pub answers : AnswersPlan d positions texts taken (traces before after) n status
  -- Where all goes well no other status comes; 6, out of memory, is always free.
  pub complete : GoesWell before after → IsDecided status ⊎ (status ≡ 6)
