-- What is answered and noted of a call of a command.
use Rattle.std.specs.Prelude.{◌≡◌, ◌≢◌, ℕ, ◌<◌, List, [], ◌⊎◌}
use Rattle.std.specs.declared.option.Option.{Option}
use Rattle.std.specs.Io.KnownBytes.{append_known}
use Rattle.causes.specs.Counts.{Rose}
use Rattle.outside.specs.declared.sink.Sink
use Rattle.commands.specs.Causes.{Counts, Caused}
use Rattle.commands.specs.Handing.{WrotePart}
use Rattle.commands.specs.Worlds.{World}
use Rattle.commands.specs.Calling.{Effect, Called}
use Rattle.commands.specs.Texts.{read_text, write_text, core_text, memory_text, large_text}
use Rattle.commands.specs.declared.outcome.Outcome.{Outcome}
use Rattle.commands.specs.declared.outcome.Outcome.TheVariants as is

-- what note held, where it tells, and its count of faults, before the call and behind it
pub record Notes : Type 0 where
  pub before : Option (List ℕ)
  pub after : Option (List ℕ)
  pub faults_before : ℕ
  pub faults_after : ℕ

abbrev pub notes : {N : Type 0} → Sink.Ghosts N → N → N → Notes
notes k old new = record { before = k.written old; after = k.written new; faults_before = k.faults old; faults_after = k.faults new }

-- Note grew by exactly this text, or by a front of it where its count of faults rose.
abbrev pub Noted : Notes → List ℕ → Type 0
Noted n text = (n.after ≡ append_known n.before text) ⊎ (WrotePart n.before n.after text × Rose n.faults_before n.faults_after)

-- The text was noted for the wanted status; or memory ran out while it was written, which is status 6.
abbrev pub Reports : Notes → List ℕ → ℕ → ℕ → Type 0
Reports n text wanted status = ((status ≡ wanted) × Noted n text) ⊎ ((status ≡ 6) × WrotePart n.before n.after text)

-- the status that stands for an outcome, and its text
abbrev pub status_of : Outcome → ℕ
status_of is.Done = 0
status_of (is.Refused text) = 1
status_of is.ReadFault = 3
status_of is.WriteFault = 4
status_of is.CoreFault = 5
status_of (is.Memory e) = 6
status_of is.TooLarge = 7

abbrev pub text_of : Outcome → List ℕ
text_of is.Done = []
text_of (is.Refused text) = text
text_of is.ReadFault = read_text
text_of is.WriteFault = write_text
text_of is.CoreFault = core_text
text_of (is.Memory e) = memory_text
text_of is.TooLarge = large_text

-- What a command tells on note, by its status.
pub record NotesOf (n : Notes) (status : ℕ) : Type 0 where
  pub done : status ≡ 0 → (n.after ≡ n.before) × (n.faults_after ≡ n.faults_before)
  pub read : status ≡ 3 → Noted n read_text
  pub write : status ≡ 4 → Noted n write_text
  pub core : status ≡ 5 → Noted n core_text
  pub large : status ≡ 7 → Noted n large_text

-- A count of the shelf or of the core rose in the command, and that of out when it handed on what it held back.
abbrev pub FailedTwice : Counts → Counts → Type 0
FailedTwice before now = Rose before.out now.out × ((Rose before.shelf now.shelf × (now.core ≡ before.core)) ⊎ ((now.shelf ≡ before.shelf) × Rose before.core now.core))

-- Which counts of faults rose, by the status.
pub record CausesOf (before now : Counts) (status : ℕ) : Type 0 where
  pub none : status < 3 → now ≡ before
  pub read : status ≡ 3 → Caused before now is.ReadFault
  pub write : status ≡ 4 → Caused before now is.WriteFault ⊎ FailedTwice before now
  pub core : status ≡ 5 → Caused before now is.CoreFault
  pub large : status ≡ 7 → now ≡ before

abbrev pub IsMemory : Outcome → Type 0
IsMemory is.Done = ⊥
IsMemory (is.Refused text) = ⊥
IsMemory is.ReadFault = ⊥
IsMemory is.WriteFault = ⊥
IsMemory is.CoreFault = ⊥
IsMemory (is.Memory e) = Unit {0}
IsMemory is.TooLarge = ⊥

-- How it ended in all, by how the command ended and by out's counts around the flush: as the command did; or the flush failed;
-- or memory ran out in it.
abbrev pub Settles : ℕ → ℕ → Outcome → Outcome → Type 0
Settles faults_before faults_after outcome ended =
    ((faults_after ≡ faults_before) × (ended ≡ outcome)) ⊎ (((outcome ≢ is.WriteFault) × Rose faults_before faults_after × (ended ≡ is.WriteFault)) ⊎ ((faults_after ≡ faults_before) × IsMemory ended))

-- Out was flushed behind a command that ended so.
pub record Flushed {K : Type 0} (k : Sink.Ghosts K) (old new : K) (outcome ended : Outcome) : Type 0 where
  pub written : k.written new ≡ k.written old
  pub settles : Settles (k.faults old) (k.faults new) outcome ended
  pub calm : k.calm old → k.calm new
  pub calm_writes : k.calm old → ended ≡ is.WriteFault → outcome ≡ is.WriteFault

-- Out was flushed behind a command that ended so, and note and status tell how it ended in all.
pub record Finished {K : Type 0} (k : Sink.Ghosts K) (old new : K) (n : Notes) (outcome : Outcome) (status : ℕ) : Type 0 where
  pub ended : Outcome
  pub flushed : Flushed k old new outcome ended
  pub reported : Reports n (text_of ended) (status_of ended) status
  -- where all is done the status is 0, also where note fails
  pub quiet : ended ≡ is.Done → status ≡ 0
  pub noted : NotesOf n status

-- A call of a command, and how that was told. `at` is the world with that out behind the command.
pub record Ran {H K C : Type 0} (k : Sink.Ghosts K) (e : Effect) (names : List (List ℕ)) (before : World H K C) (at : K → World H K C) (out : K) (n : Notes) (status : ℕ) : Type 0 where
  pub behind : K
  pub outcome : Outcome
  pub called : Called e names before (at behind) outcome
  pub finished : Finished k behind out n outcome status
