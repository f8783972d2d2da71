-- What is answered to `switch`, by the first event of its files.
use Rattle.std.specs.Prelude.{◌≡◌, ◌⊎◌, ◌↔◌, ℕ, ◌+◌, ◌<◌, ◌≤◌, List, [], ◌∷◌, ◌++◌, None, All}
use Rattle.plans.specs.Parts.{Part}
use Rattle.core_iface.specs.Decoding.{Definitions}
use Rattle.au_stream.specs.Frames.{Frame}
use Rattle.au_stream.specs.Script.{HasFrames}
use Rattle.commands.specs.Calling.{AreTaken}
use Rattle.commands.specs.Commands.{work}
use Rattle.commands.specs.Ending.{Traces}
use Rattle.commands.specs.Ran.{Notes, Noted}
use Rattle.commands.specs.Texts.{read_text, core_text}
use Rattle.commands.specs.Worlds.{World, traces}
use Rattle.playing.specs.FileAnswers.{WroteBytes, NoneRose}
use Rattle.playing.specs.Playing.{playing, IsServed}
use Rattle.playing.specs.Spliced.{plan_bytes}
use Rattle.joining.specs.Answers.{ArePlanned, TellsEvent, IsDecided, AreCutShort, IsReadOn}
use Rattle.joining.specs.Events.{Unread, FileScript, first_event, IsScriptOf, AreScripts}
use Rattle.switching.specs.CutShort.{all_given, plan_cut_short}
use Rattle.switching.specs.PlayedPlan.{ArePlayedBy}

-- What was written of files with these scripts: the plan cut short by their first event.
pub record WrotePlan (d : Definitions) (positions : List ℕ) (scripts : List FileScript) (t : Traces) : Type 0 where
  -- that plan is sound, and the frames that were given are its splice
  pub plan : ArePlayedBy d (all_given d.warm positions scripts) (plan_cut_short d.warm positions scripts)
  pub wrote : WroteBytes t (plan_bytes d (plan_cut_short d.warm positions scripts))
  -- the core was fed the units of these frames, as a player feeds them
  pub fed : t.fed_after ≡ t.fed_before + work (playing d []) (all_given d.warm positions scripts)

-- The first event of these scripts is told, and the plan was written up to it.
pub record TellsFirst (d : Definitions) (positions : List ℕ) (scripts : List FileScript) (t : Traces) (n : Notes) (status : ℕ) : Type 0 where
  pub event : TellsEvent n status (first_event d.warm positions scripts)
  pub played : WrotePlan d positions scripts t

-- All of the plan was written.
pub record WroteWhole (d : Definitions) (t : Traces) (status : ℕ) (plan : List Part) : Type 0 where
  pub status_is : status ≡ 0
  pub wrote : WroteBytes t (plan_bytes d plan)

-- At status 3 nothing was refused as far as the files were read, and the plan was written that far.
pub record TellsRead (d : Definitions) (positions : List ℕ) (texts taken : List (List ℕ)) (t : Traces) (n : Notes) : Type 0 where
  pub scripts : List FileScript
  pub cut : AreCutShort texts taken scripts
  pub on : IsReadOn (first_event d.warm positions scripts)
  pub played : WrotePlan d positions scripts t
  pub noted : Noted n read_text

-- one more frame of the last file
abbrev pub with_frame : List FileScript → Frame → List FileScript
with_frame [] f = []
with_frame (s ∷ []) f = record { frames = s.frames ++ f ∷ []; close = s.close } ∷ []
with_frame (s ∷ next ∷ scripts) f = s ∷ with_frame (next ∷ scripts) f

-- Files up to before a frame: of the last that was begun these frames are the first, and that one is the next. Those before it were
-- read whole, and have these scripts.
abbrev pub AreReached : List (List ℕ) → List (List ℕ) → List FileScript → Frame → Type 0
AreReached texts [] scripts f = ⊥
AreReached [] (front ∷ taken) scripts f = ⊥
AreReached (text ∷ texts) (front ∷ taken) [] f = ⊥
AreReached (text ∷ texts) (front ∷ taken) (s ∷ ss) f = (IsScriptOf text s × AreReached texts taken ss f) ⊎ ((taken ≡ []) × (ss ≡ []) × (s.close ≡ Unread) × ((later : List Frame) × HasFrames text (s.frames ++ f ∷ later)))

-- At status 5 the core failed at a frame: the next one that is given. Nothing was refused up to it, and the plan was written up to before it.
pub record TellsCore (d : Definitions) (positions : List ℕ) (texts taken : List (List ℕ)) (t : Traces) (n : Notes) : Type 0 where
  pub scripts : List FileScript
  pub failed : Frame
  pub reached : AreReached texts taken scripts failed
  pub on : IsReadOn (first_event d.warm positions (with_frame scripts failed))
  pub given : all_given d.warm positions (with_frame scripts failed) ≡ all_given d.warm positions scripts ++ failed ∷ []
  pub plan : ArePlayedBy d (all_given d.warm positions scripts) (plan_cut_short d.warm positions scripts)
  pub wrote : WroteBytes t (plan_bytes d (plan_cut_short d.warm positions scripts))
  -- of the units of this frame at least the last was not fed
  pub fed : t.fed_before + work (playing d []) (all_given d.warm positions scripts) ≤ t.fed_after
  pub less : t.fed_after < t.fed_before + work (playing d []) (all_given d.warm positions (with_frame scripts failed))
  pub noted : Noted n core_text

-- What is answered to `switch` at these positions, of files with these bytes. `taken` is what was taken of each that was begun.
pub record AnswersSwitch (d : Definitions) (positions : List ℕ) (texts taken : List (List ℕ)) (t : Traces) (n : Notes) (status : ℕ) : Type 0 where
  -- The first event of the files, which is that of `plan`, decides the statuses 0, 1 and 7, with their notes, and what was written:
  -- exactly the plan up to it.
  pub decided : IsDecided status → (scripts : List FileScript) → AreScripts texts scripts → TellsFirst d positions scripts t n status
  -- At status 3 so much is known of the files as was taken of them.
  pub read : status ≡ 3 → TellsRead d positions texts taken t n
  -- At status 5 so much is known of them as the core was given.
  pub core : status ≡ 5 → TellsCore d positions texts taken t n
  -- There is no event exactly where the files are the streams of a sound plan, timed by the positions.
  pub planned : (scripts : List FileScript) → AreScripts texts scripts → (first_event d.warm positions scripts ≡ None) ↔ ArePlanned d.warm positions scripts
  -- Then the status is 0, and the bytes are those of this plan, all of it.
  pub whole : IsDecided status → (scripts : List FileScript) → AreScripts texts scripts → (plan : ArePlanned d.warm positions scripts) → WroteWhole d t status plan.parts

-- ---- a core and devices that do not fail

-- The core serves the configuration of each frame of the files.
abbrev pub AreServed : Definitions → List (List ℕ) → Type 0
AreServed d texts = All (λ text. (frames : List Frame) → HasFrames text frames → All (IsServed d) frames) texts

-- Shelf, out and core are calm, and the core serves the files; or no count of their faults rose.
abbrev pub PlaysWell : {H K C : Type 0} → Definitions → List (List ℕ) → World H K C → World H K C → Type 0
PlaysWell d texts before after = (before.calm_shelf × before.calm_out × before.calm_core × AreServed d texts) ⊎ NoneRose before.faults after.faults

-- What is answered to `switch` of files of these names, of which the shelf tells these bytes.
pub record SwitchesSoundly {H K C : Type 0} (d : Definitions) (positions : List ℕ) (names texts : List (List ℕ)) (before after : World H K C) (n : Notes) (status : ℕ) : Type 0 where
  -- what was taken of each file that was begun
  pub taken : List (List ℕ)
  pub from : AreTaken before.bytes after.left before.begun names taken
  pub answers : AnswersSwitch d positions texts taken (traces before after) n status
  -- Where all goes well no other status comes; 6, out of memory, is always free.
  pub complete : PlaysWell d texts before after → IsDecided status ⊎ (status ≡ 6)
