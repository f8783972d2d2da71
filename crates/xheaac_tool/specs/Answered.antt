-- What the top call answers and notes.
use Rattle.std.specs.Prelude.{◌≡◌, ◌≢◌, ℕ, ◌<◌, List, codes, Some, None}
use Rattle.std.specs.declared.option.Option.{Option}
use Rattle.core_iface.specs.Decoding.{Definitions}
use Rattle.outside.specs.declared.sink.Sink
use Rattle.commands.specs.Worlds.{World}
use Rattle.commands.specs.Ran.{Notes, Reports, CausesOf, Ran}
use Rattle.commands.specs.Texts.{memory_text}
use Rattle.xheaac_tool.specs.declared.words.WordsFault.{WordsFault}
use Rattle.xheaac_tool.specs.declared.words.WordsFault.TheVariants as faults
use Rattle.xheaac_tool.specs.Words.{Case, files_in}
use Rattle.xheaac_tool.specs.Cases.{effect_of}

abbrev pub usage_text : List ℕ
usage_text = codes "usage: xheaac show|check|play FILE | start FILE FRAME | plan|splice|switch FILE POS [FILE POS]... | insert FILE K FADE TARGETS | strip FILE TAIL TARGETS | make START FRAMES\n"

-- Nothing was done but to note a text, for that status.
pub record OnlyNotes {H K C : Type 0} (before after : World H K C) (n : Notes) (text : List ℕ) (wanted status : ℕ) : Type 0 where
  pub shelf : after.shelf ≡ before.shelf
  pub out : after.out ≡ before.out
  pub core : after.core ≡ before.core
  pub reports : Reports n text wanted status

-- Words that are no case are answered with the usage; else the command of the case was called, and its end was told.
abbrev pub DoesCase : {H K C : Type 0} → Definitions → Sink.Ghosts K → Option Case → World H K C → (K → World H K C) → K → Notes → ℕ → Type 0
DoesCase d k None before at out n status = OnlyNotes before (at out) n usage_text 2 status
DoesCase d k (Some case) before at out n status = (status ≢ 2) × Ran k (effect_of d case) (files_in case) before at out n status

-- A run of the program on words of that case, or of none. `at` is the world with that out behind it.
pub record Answered {H K C : Type 0} (d : Definitions) (k : Sink.Ghosts K) (case : Option Case) (before : World H K C) (at : K → World H K C) (out : K) (n : Notes) (status : ℕ) : Type 0 where
  pub statuses : status < 8
  pub does : DoesCase d k case before at out n status
  -- a fault is answered only where that object's count rose
  pub causes : (let after = at out in CausesOf before.faults after.faults status)

-- The words could not be had: they are no command, or memory ran out.
abbrev pub AnsweredNone : {H K C : Type 0} → WordsFault → World H K C → World H K C → Notes → ℕ → Type 0
AnsweredNone faults.NotText before after n status = OnlyNotes before after n usage_text 2 status
AnsweredNone (faults.Memory e) before after n status = OnlyNotes before after n memory_text 6 status
