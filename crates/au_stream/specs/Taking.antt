-- What a call for the next LOAS frame takes off its source, and answers.
use Rattle.std.specs.Prelude.{◌≡◌, ℕ, ◌+◌, ◌<◌, ◌≤◌, List, [], ◌∷◌, ◌++◌, ◌⊎◌, length, Bool, Result, Ok, Err, None, Some, true, false}
use Rattle.std.specs.declared.option.Option.{Option}
use Rattle.std.specs.Io.KnownBytes.{prepend_known, IsAtEnd}
use Rattle.causes.specs.Counts.{Rose}
use Rattle.loas.specs.Framing.{BeginsWithFrame, IsPartial, HasWrongSync}
use Rattle.loas.specs.Framer.{Framer, grown, pushed}
use Rattle.loas.specs.declared.fault.LoasFault.TheVariants as loas
use Rattle.au_stream.specs.declared.fault.StreamFault.{StreamFault}
use Rattle.au_stream.specs.declared.fault.StreamFault.TheVariants.{ReadFault, TooLarge, Loas, Mux, Memory}

-- a source, as a call leaves it: what is left of it, where it tells, and its count of faults
pub record Seen : Type 0 where
  pub left : Option (List ℕ)
  pub faults : ℕ

-- a source, by what it tells
abbrev pub seen : {S : Type 0} → (S → Option (List ℕ)) → (S → ℕ) → S → Seen
seen left faults source = record { left = left source; faults = faults source }

abbrev pub IsReadFault : {T : Type 0} → Result T StreamFault → Type 0
IsReadFault (Ok x) = ⊥
IsReadFault (Err ReadFault) = Unit {0}
IsReadFault (Err TooLarge) = ⊥
IsReadFault (Err (Loas fault)) = ⊥
IsReadFault (Err (Mux frame fault)) = ⊥
IsReadFault (Err (Memory e)) = ⊥

-- The source's count of faults rose at a read fault, and stayed at every other answer.
abbrev pub Caused : {T : Type 0} → ℕ → ℕ → Result T StreamFault → Type 0
Caused before now (Ok x) = now ≡ before
Caused before now (Err ReadFault) = Rose before now
Caused before now (Err TooLarge) = now ≡ before
Caused before now (Err (Loas fault)) = now ≡ before
Caused before now (Err (Mux frame fault)) = now ≡ before
Caused before now (Err (Memory e)) = now ≡ before

-- Nothing was got, or the last piece, of at most 8192 bytes, was got where less than a LOAS frame was held.
abbrev pub IsNeeded : List ℕ → List ℕ → Type 0
IsNeeded held got =
    (got ≡ []) ⊎ ((sooner piece : List ℕ) × (got ≡ sooner ++ piece) × IsPartial (held ++ sooner) × (length piece ≤ 8192))

-- How a call answered, by the bytes that it got, and what is held then.
abbrev pub Answered : ℕ → Framer → Framer → Option (List ℕ) → List ℕ → Result (Option ℕ) StreamFault → Type 0
Answered limit old new left got (Ok (Some n)) = (new ≡ grown old got) × BeginsWithFrame n new.held
Answered limit old new left got (Ok None) = (new ≡ grown old got) × (new.held ≡ []) × IsAtEnd left
Answered limit old new left got (Err ReadFault) = (new ≡ grown old got) × IsPartial new.held
Answered limit old new left got (Err TooLarge) =
    (whole : List ℕ) × (b : ℕ) × (got ≡ whole ++ b ∷ []) × (new ≡ grown old whole) × IsPartial new.held × (pushed new ≡ limit)
Answered limit old new left got (Err (Loas (loas.SyncLost byte))) = (new ≡ grown old got) × HasWrongSync new.held × (byte ≡ new.passed)
Answered limit old new left got (Err (Loas (loas.Truncated byte))) =
    (new ≡ grown old got) × IsPartial new.held × (0 < length new.held) × IsAtEnd left × (byte ≡ new.passed)
Answered limit old new left got (Err (Loas (loas.Memory e))) = ⊥
Answered limit old new left got (Err (Mux frame fault)) = ⊥
Answered limit old new left got (Err (Memory e)) =
    (whole piece : List ℕ) × (got ≡ whole ++ piece) × (new ≡ grown old whole) × IsPartial new.held

-- What a call for the next frame did.
pub record Takes (limit : ℕ) (old new : Framer) (before now : Seen) (result : Result (Option ℕ) StreamFault) : Type 0 where
  -- the bytes that it got off the source, also where the source does not tell its bytes
  pub got : List ℕ
  pub from : before.left ≡ prepend_known got now.left
  pub within : pushed old + length got ≤ limit + 1
  pub needed : IsNeeded old.held got
  pub caused : Caused before.faults now.faults result
  pub answered : Answered limit old new now.left got result

-- How a refill answered, by the bytes that it got. `true`: there are more bytes, `false`: the source is at its end.
abbrev pub RefillAnswered : ℕ → Framer → Framer → Option (List ℕ) → List ℕ → Result Bool StreamFault → Type 0
RefillAnswered limit old new left got (Ok true) = (new ≡ grown old got) × (0 < length got)
RefillAnswered limit old new left got (Ok false) = (new ≡ old) × (got ≡ []) × IsAtEnd left
RefillAnswered limit old new left got (Err ReadFault) = (new ≡ old) × (got ≡ [])
RefillAnswered limit old new left got (Err TooLarge) = (new ≡ old) × (pushed old ≡ limit) × (b : ℕ) × (got ≡ b ∷ [])
RefillAnswered limit old new left got (Err (Loas fault)) = ⊥
RefillAnswered limit old new left got (Err (Mux frame fault)) = ⊥
RefillAnswered limit old new left got (Err (Memory e)) = new ≡ old

-- What a refill did.
pub record Refills (limit : ℕ) (old new : Framer) (before now : Seen) (result : Result Bool StreamFault) : Type 0 where
  pub got : List ℕ
  pub from : before.left ≡ prepend_known got now.left
  pub within : pushed old + length got ≤ limit + 1
  pub piece : length got ≤ 8192
  pub caused : Caused before.faults now.faults result
  pub answered : RefillAnswered limit old new now.left got result

-- What the refills of a call have brought so far.
pub record SoFar (old new : Framer) (before now : Seen) : Type 0 where
  pub got : List ℕ
  pub from : before.left ≡ prepend_known got now.left
  pub grows : new ≡ grown old got
  pub faults : now.faults ≡ before.faults
  pub needed : IsNeeded old.held got
