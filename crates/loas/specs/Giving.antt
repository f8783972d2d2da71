-- What a framer answers: by what it holds, and by all bytes that were pushed.
use Rattle.std.specs.Prelude.{◌≡◌, ◌⊎◌, ℕ, ◌+◌, ◌<◌, List, [], ◌∷◌, ◌++◌, length, flat_map, Result, Ok, Err, Option, None, Some}
use Rattle.loas.specs.Framing.{framed, IsFrameBody, BeginsWithFrame, IsPartial, HasWrongSync, Splits}
use Rattle.loas.specs.Framer.{Framer}
use Rattle.loas.specs.declared.framed.Framed.{Framed}
use Rattle.loas.specs.declared.fault.LoasFault.{LoasFault}
use Rattle.loas.specs.declared.fault.LoasFault.TheVariants.{SyncLost, Truncated, Memory}

-- The text was pushed in all, and the frames of these bodies were given. The framer holds the rest.
pub record HasGiven (text : List ℕ) (given : List (List ℕ)) (framer : Framer) : Type 0 where
  pub splits : Splits text given framer.held
  pub passed : framer.passed ≡ length (flat_map framed given)

-- the body that a call gave, if any
abbrev pub given_by : Result (Option Framed) LoasFault → List (List ℕ)
given_by (Ok (Some frame)) = frame.element ∷ []
given_by (Ok None) = []
given_by (Err fault) = []

-- How a call for the next frame answers, where the frames of `given` were given of a text that has in all the frames
-- of `bodies`, and then the rest.
abbrev pub Gives : List (List ℕ) → List (List ℕ) → List ℕ → Result (Option Framed) LoasFault → Type 0
-- the next frame, with its offset
Gives given bodies rest (Ok (Some frame)) =
    (frame.at ≡ length (flat_map framed given)) × (later : List (List ℕ)) × (bodies ≡ given ++ frame.element ∷ later)
-- all were given
Gives given bodies rest (Ok None) = (given ≡ bodies) × IsPartial rest
Gives given bodies rest (Err (SyncLost byte)) =
    (given ≡ bodies) × HasWrongSync rest × (byte ≡ length (flat_map framed bodies))
Gives given bodies rest (Err (Truncated byte)) = ⊥
-- only where one is due
Gives given bodies rest (Err (Memory error)) = length given < length bodies

-- How the end of the text is answered, where the frames of `given` were given.
abbrev pub Ends : List (List ℕ) → List (List ℕ) → List ℕ → Result (Unit {0}) LoasFault → Type 0
Ends given bodies rest (Ok done) = (length given < length bodies) ⊎ ((given ≡ bodies) × (rest ≡ []))
Ends given bodies rest (Err (SyncLost byte)) =
    (given ≡ bodies) × HasWrongSync rest × (byte ≡ length (flat_map framed bodies))
Ends given bodies rest (Err (Truncated byte)) =
    (given ≡ bodies) × IsPartial rest × (0 < length rest) × (byte ≡ length (flat_map framed bodies))
Ends given bodies rest (Err (Memory error)) = ⊥

-- How a call for the next frame answers, by what is held, and what is held then.
abbrev pub Takes : Framer → Framer → Result (Option Framed) LoasFault → Type 0
Takes old new (Ok (Some frame)) =
    (frame.at ≡ old.passed)
    × IsFrameBody frame.element
    × (old.held ≡ framed frame.element ++ new.held)
    × (new.passed ≡ old.passed + (3 + length frame.element))
Takes old new (Ok None) = (new ≡ old) × IsPartial old.held
Takes old new (Err (SyncLost byte)) = (new ≡ old) × HasWrongSync old.held × (byte ≡ old.passed)
Takes old new (Err (Truncated byte)) = ⊥
Takes old new (Err (Memory error)) = (new ≡ old) × (n : ℕ) × BeginsWithFrame n old.held

-- How the end is answered, by what is held.
abbrev pub EndsBy : Framer → Result (Unit {0}) LoasFault → Type 0
EndsBy framer (Ok done) = (framer.held ≡ []) ⊎ ((n : ℕ) × BeginsWithFrame n framer.held)
EndsBy framer (Err (SyncLost byte)) = HasWrongSync framer.held × (byte ≡ framer.passed)
EndsBy framer (Err (Truncated byte)) = IsPartial framer.held × (0 < length framer.held) × (byte ≡ framer.passed)
EndsBy framer (Err (Memory error)) = ⊥
