-- The headline, and theorems on single commands, as clauses of the top call.
use Rattle.std.specs.Prelude.{◌≡◌, ℕ, List, [], ◌⊎◌, Some}
use Rattle.std.specs.declared.option.Option.{Option}
use Rattle.core_iface.specs.Decoding.{Definitions}
use Rattle.commands.specs.Calling.{AreHeld}
use Rattle.commands.specs.Commands.{Command}
use Rattle.commands.specs.Ran.{Notes}
use Rattle.commands.specs.Worlds.{World, traces}
use Rattle.playing.specs.FileAnswers.{AreCalm, NoneRose}
use Rattle.playing.specs.Headline.{AnswersSplices}
use Rattle.playing.specs.Playing.{playing}
use Rattle.playing.specs.SoundStarts.{AnswersStart}
use Rattle.playing.specs.Starting.{starting}
use Rattle.joining.specs.Answers.{PlansSoundly}
use Rattle.joining.specs.SpliceAnswers.{SplicesSoundly}
use Rattle.switching.specs.SwitchAnswers.{SwitchesSoundly}
use Rattle.xheaac_tool.specs.Words.{Case, Play, Start, Plan, Splice, Switch, PieceWords, files_of, positions_of}

-- The shelf tells these bytes of FILE; and shelf, out and core are calm for the command, or no count of their faults rose.
abbrev pub GoesWell : {H K C : Type 0} → Command → List ℕ → List ℕ → World H K C → World H K C → Type 0
GoesWell c file text before after = (before.bytes file ≡ Some text) × (AreCalm c text before ⊎ NoneRose before.faults after.faults)

-- what is answered to `play FILE` then
abbrev pub PlaysSplices : {H K C : Type 0} → Definitions → Option Case → World H K C → World H K C → Notes → ℕ → Type 0
PlaysSplices d case before after n status =
    (file text : List ℕ) → case ≡ Some (Play file) → GoesWell (playing d []) file text before after → AnswersSplices d text (traces before after) n status

-- and to `start FILE FRAME`
abbrev pub StartsStreams : {H K C : Type 0} → Definitions → Option Case → World H K C → World H K C → Notes → ℕ → Type 0
StartsStreams d case before after n status =
    (file text : List ℕ) (frame : ℕ) → case ≡ Some (Start file frame) → GoesWell (starting d frame) file text before after → AnswersStart d frame text (traces before after) n status

-- and to `plan FILE POS [FILE POS]...`
abbrev pub PlansPieces : {H K C : Type 0} → Definitions → Option Case → World H K C → World H K C → Notes → ℕ → Type 0
PlansPieces d case before after n status =
    (pieces : List PieceWords) (texts : List (List ℕ)) → case ≡ Some (Plan pieces) → AreHeld before.bytes (files_of pieces) texts → PlansSoundly d (positions_of pieces) (files_of pieces) texts before after n status

-- and to `splice FILE POS [FILE POS]...`
abbrev pub SplicesPieces : {H K C : Type 0} → Definitions → Option Case → World H K C → World H K C → Notes → ℕ → Type 0
SplicesPieces d case before after n status =
    (pieces : List PieceWords) (texts : List (List ℕ)) → case ≡ Some (Splice pieces) → AreHeld before.bytes (files_of pieces) texts → SplicesSoundly d (positions_of pieces) (files_of pieces) texts before after n status

-- and to `switch FILE POS [FILE POS]...`
abbrev pub SwitchesPieces : {H K C : Type 0} → Definitions → Option Case → World H K C → World H K C → Notes → ℕ → Type 0
SwitchesPieces d case before after n status =
    (pieces : List PieceWords) (texts : List (List ℕ)) → case ≡ Some (Switch pieces) → AreHeld before.bytes (files_of pieces) texts → SwitchesSoundly d (positions_of pieces) (files_of pieces) texts before after n status

-- What is answered to single commands, beyond what each call of a command promises.
pub record Promises {H K C : Type 0} (d : Definitions) (case : Option Case) (before after : World H K C) (n : Notes) (status : ℕ) : Type 0 where
  -- The headline. Where FILE carries the splice of whole streams at sound joins, `play FILE` writes each frame of the timeline once,
  -- in order, with the samples of its own stream decoded alone, and with the fades of fading joins; any other file is refused at its
  -- first faulty frame, behind the samples of the frames before it.
  pub splices : PlaysSplices d case before after n status
  -- Where FILE carries a whole stream with a sound start at FRAME, `start FILE FRAME` writes each frame from there on, with the
  -- samples of the stream decoded alone, from its beginning.
  pub starts : StartsStreams d case before after n status
  -- The first event of the files decides what `plan` answers and tells; and there is none exactly where they are the streams of a sound
  -- plan that is timed by the positions.
  pub plans : PlansPieces d case before after n status
  -- So it decides what `splice` answers, and which frames it writes; and where there is none, these carry the splice of the plan, so that
  -- `play` of them is answered by `splices`.
  pub joins : SplicesPieces d case before after n status
  -- So it decides what `switch` answers, and how much of the plan it plays; and where there is none, it plays all of the plan, as `play` does
  -- of what `splice` writes.
  pub programmes : SwitchesPieces d case before after n status
