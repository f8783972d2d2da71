-- What a whole stream is, however it was cut into pieces.
use Rattle.std.specs.Prelude.{◌≡◌, ◌⊎◌, ℕ, ◌+◌, ◌<◌, List, [], ◌∷◌, ◌++◌, length, flat_map, Option, None, Some}
use Rattle.loas.specs.Framing.{framed, IsPartial, HasWrongSync, Splits, IsLongest}
use Rattle.loas.specs.Framer.{Framer}
use Rattle.loas.specs.declared.framed.Framed.{Framed}
use Rattle.loas.specs.declared.fault.LoasFault.{LoasFault}
use Rattle.loas.specs.declared.fault.LoasFault.TheVariants.{SyncLost, Truncated, Memory}
use Rattle.loas.specs.declared.pieces.StreamFrames.{StreamFrames}

-- the bytes that come in these pieces
abbrev pub joined : List (List ℕ) → List ℕ
joined pieces = flat_map (λ piece. piece) pieces

-- the frames of these bodies, the first of which begins at `at`
abbrev pub frames_at : ℕ → List (List ℕ) → List Framed
frames_at at [] = []
frames_at at (body ∷ bodies) = record { at = at; element = body } ∷ frames_at (at + (3 + length body)) bodies

-- Why no frame follows the last one, where the rest of the stream begins at `at`.
abbrev pub IsEnd : ℕ → List ℕ → Option LoasFault → Type 0
IsEnd at rest None = rest ≡ []
IsEnd at rest (Some (SyncLost byte)) = HasWrongSync rest × (byte ≡ at)
IsEnd at rest (Some (Truncated byte)) = IsPartial rest × (0 < length rest) × (byte ≡ at)
IsEnd at rest (Some (Memory error)) = ⊥

-- These are the frames of the stream, each once, in order and with its offset, and that is why no more follow.
pub record IsRead (text : List ℕ) (found : StreamFrames) : Type 0 where
  pub bodies : List (List ℕ)
  pub rest : List ℕ
  pub longest : IsLongest text bodies rest
  pub frames : found.frames.items ≡ frames_at 0 bodies
  pub end : IsEnd (length (flat_map framed bodies)) rest found.fault

-- No whole frame is held.
abbrev pub IsStuck : List ℕ → Type 0
IsStuck held = IsPartial held ⊎ HasWrongSync held

-- All frames that were held were taken off, and put behind those that were had.
pub record TakesAll (old new : Framer) (had has : List Framed) : Type 0 where
  pub bodies : List (List ℕ)
  pub splits : Splits old.held bodies new.held
  pub passed : new.passed ≡ old.passed + length (flat_map framed bodies)
  pub frames : has ≡ had ++ frames_at old.passed bodies
  pub stuck : IsStuck new.held
