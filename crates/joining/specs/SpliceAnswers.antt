-- What is answered to `splice`, by the first event of its files.
use Rattle.std.specs.Prelude.{◌≡◌, ◌⊎◌, ◌↔◌, ◌<◌, ◌≤◌, ℕ, List, length, Option, Some, None}
use Rattle.std.specs.List.{AllZip}
use Rattle.usac_cfg.specs.declared.usac_config.UsacConfig.{UsacConfig}
use Rattle.core_iface.specs.Decoding.{Definitions}
use Rattle.au_stream.specs.Script.{most_bytes}
use Rattle.commands.specs.Ending.{Traces}
use Rattle.commands.specs.Ran.{Notes, Noted}
use Rattle.commands.specs.Texts.{read_text}
use Rattle.commands.specs.Calling.{AreTaken}
use Rattle.commands.specs.Worlds.{World, traces}
use Rattle.playing.specs.FileAnswers.{WroteBytes}
use Rattle.playing.specs.Spliced.{CarriesSplice}
use Rattle.joining.specs.Events.{FileScript, AreScripts}
use Rattle.joining.specs.Answers.{ArePlanned, NotesRefusal, TellsEvent, IsDecided, AreCutShort, IsReadOn, GoesWell}
use Rattle.joining.specs.Splicing.{refusal_of_halt}
use Rattle.joining.specs.SpliceEvents.{Stop, AtFrame, Behind, first_stop, splice_bytes}
use Rattle.joining.specs.PieceFrames.{FitElements}

-- ---- a splice

-- The files are planned soundly, and each frame of the plan's parts fits an element of the canonical mux.
pub record AreSpliceable (warm : UsacConfig → ℕ) (positions : List ℕ) (scripts : List FileScript) : Type 0 where
  pub plan : ArePlanned warm positions scripts
  pub fit : AllZip FitElements scripts plan.parts

-- There is no stop exactly where the files are planned soundly and each frame of the pieces fits an element, whatever they are.
abbrev pub NoStopIsAPlan : Type 0
NoStopIsAPlan = (warm : UsacConfig → ℕ) (positions : List ℕ) (texts : List (List ℕ)) (scripts : List FileScript) → AreScripts texts scripts
    → length positions ≡ length texts → (first_stop warm positions scripts ≡ None) ↔ AreSpliceable warm positions scripts

-- Where there is no stop, what is written carries the splice of the sound plan, if it has no more bytes than a file may have.
abbrev pub NoStopIsASplice : Type 0
NoStopIsASplice = (warm : UsacConfig → ℕ) (positions : List ℕ) (texts : List (List ℕ)) (scripts : List FileScript) → AreScripts texts scripts → length positions ≡ length texts → 0 < length positions
    → first_stop warm positions scripts ≡ None → length (splice_bytes warm positions scripts) ≤ most_bytes
    → (plan : ArePlanned warm positions scripts) × CarriesSplice (splice_bytes warm positions scripts) plan.parts

-- ---- an answer

-- The status and the note of a stop; of none, status 0 and no note.
abbrev pub TellsStop : Notes → ℕ → Option Stop → Type 0
TellsStop n status None = (status ≡ 0) × (n.after ≡ n.before)
TellsStop n status (Some (AtFrame k halt)) = (status ≡ 1) × NotesRefusal n k (refusal_of_halt halt)
TellsStop n status (Some (Behind event)) = TellsEvent n status (Some event)

-- The first stop of these scripts is told, and the frames of the pieces before it were written.
pub record TellsFirstStop (d : Definitions) (positions : List ℕ) (scripts : List FileScript) (t : Traces) (n : Notes) (status : ℕ) : Type 0 where
  pub stop : TellsStop n status (first_stop d.warm positions scripts)
  pub wrote : WroteBytes t (splice_bytes d.warm positions scripts)

-- nothing was refused
abbrev pub IsReadTo : Option Stop → Type 0
IsReadTo None = Unit {0}
IsReadTo (Some (AtFrame k halt)) = ⊥
IsReadTo (Some (Behind event)) = IsReadOn (Some event)

-- At status 3 nothing was refused as far as the files were read, and the frames of the pieces that far were written.
pub record TellsReadTo (d : Definitions) (positions : List ℕ) (texts taken : List (List ℕ)) (t : Traces) (n : Notes) : Type 0 where
  pub scripts : List FileScript
  pub cut : AreCutShort texts taken scripts
  pub on : IsReadTo (first_stop d.warm positions scripts)
  pub wrote : WroteBytes t (splice_bytes d.warm positions scripts)
  pub noted : Noted n read_text

-- What is answered to `splice` at these positions, of files with these bytes. `taken` is what was taken of each that was begun.
pub record AnswersSplice (d : Definitions) (positions : List ℕ) (texts taken : List (List ℕ)) (t : Traces) (n : Notes) (status : ℕ) : Type 0 where
  -- The first stop of the files decides the statuses 0, 1 and 7, with their notes, and what was written: exactly the frames of the
  -- pieces before it, in the canonical mux.
  pub decided : IsDecided status → (scripts : List FileScript) → AreScripts texts scripts → TellsFirstStop d positions scripts t n status
  -- At status 3 so much is known of the files as was taken of them.
  pub read : status ≡ 3 → TellsReadTo d positions texts taken t n
  -- There is no stop exactly where the files are the streams of a sound plan, timed by the positions, and each frame of the pieces fits
  -- an element.
  pub planned : (scripts : List FileScript) → AreScripts texts scripts → (first_stop d.warm positions scripts ≡ None) ↔ AreSpliceable d.warm positions scripts

-- What is answered to `splice` of files of these names, of which the shelf tells these bytes.
pub record SplicesSoundly {H K C : Type 0} (d : Definitions) (positions : List ℕ) (names texts : List (List ℕ)) (before after : World H K C) (n : Notes) (status : ℕ) : Type 0 where
  -- what was taken of each file that was begun
  pub taken : List (List ℕ)
  pub from : AreTaken before.bytes after.left before.begun names taken
  pub answers : AnswersSplice d positions texts taken (traces before after) n status
  -- Where there is no stop, what was written carries the splice of the sound plan, if a file may have so many bytes.
  pub carries : 0 < length positions → (scripts : List FileScript) → AreScripts texts scripts → first_stop d.warm positions scripts ≡ None → length (splice_bytes d.warm positions scripts) ≤ most_bytes
      → (plan : ArePlanned d.warm positions scripts) × CarriesSplice (splice_bytes d.warm positions scripts) plan.parts
  -- Where all goes well no other status comes; 6, out of memory, is always free.
  pub complete : GoesWell before after → IsDecided status ⊎ (status ≡ 6)
