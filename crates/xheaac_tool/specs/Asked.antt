-- What is asked, without where it lies in memory.
use Rattle.std.specs.Prelude.{List, [], unwrap_or}
use Rattle.xheaac_tool.specs.Words.{Case, Show, Check, Play, Start, Plan, Splice, Switch, Insert, Strip, PieceWords, pieces_of, texts}
use Rattle.editing.specs.declared.strip.StripTargets.{StripTargets}
use Rattle.editing.specs.declared.strip.StripTargets.TheVariants.{All}
use Rattle.editing.specs.declared.targets.Targets.{Targets}
use Rattle.editing.specs.declared.targets.Targets.TheVariants.{Each}
use Rattle.xheaac_tool.specs.StripWords.{strip_targets_of}
use Rattle.xheaac_tool.specs.TargetWords.{targets_of}
use Rattle.xheaac_tool.specs.declared.piece_words.Pairs.{Pairs}
use Rattle.xheaac_tool.specs.declared.strip_words.StripWords.{StripWords}
use Rattle.xheaac_tool.specs.declared.target_words.TargetWords.{TargetWords}
use Rattle.xheaac_tool.specs.declared.words.Asked.{Asked}
use Rattle.xheaac_tool.specs.declared.words.Asked.TheVariants as variants

-- the pieces that words ask for which are pairs: the empty list never stands for them
abbrev pub pieces_at : Pairs → List PieceWords
pieces_at pairs = unwrap_or (pieces_of (texts pairs.words.now)) []

-- the targets that a word asks for which is TARGETS: the empty list never stands for it
abbrev pub targets_at : TargetWords → Targets
targets_at targets = unwrap_or (targets_of targets.word.now) (Each [])

-- the same of a word that is TARGETS of `strip`: `all` never stands for it where it is another one
abbrev pub strip_targets_at : StripWords → StripTargets
strip_targets_at targets = unwrap_or (strip_targets_of targets.word.now) All

abbrev pub asked : Asked → Case
asked (variants.Show file) = Show file.now
asked (variants.Check file) = Check file.now
asked (variants.Play file) = Play file.now
asked (variants.Start file frame) = Start file.now frame
asked (variants.Plan pieces) = Plan (pieces_at pieces)
asked (variants.Splice pieces) = Splice (pieces_at pieces)
asked (variants.Switch pieces) = Switch (pieces_at pieces)
asked (variants.Insert file count fade targets) = Insert file.now count fade (targets_at targets)
asked (variants.Strip file tail targets) = Strip file.now tail (strip_targets_at targets)
