-- How the code cuts a frame off the front of a text. `proofs/Frames.antt` proves that it is the cut by `framed`.
use Rattle.std.specs.Prelude.{◌==◌, ℕ, ◌+◌, ◌-◌, ◌*◌, List, [], ◌∷◌, length, take, drop, if◌then◌else◌, nat_lt}

-- what stands at the front of a text
pub data Cut : Type 0 where
  -- a frame, by the bytes behind its header, and the rest of the text
  Whole : (body : List ℕ) (rest : List ℕ) → Cut
  -- less than a frame
  Partial : Cut
  -- no frame, however the text goes on
  Lost : Cut

-- behind a header that says `n`
abbrev pub cut_body : ℕ → List ℕ → Cut
cut_body n bytes = if nat_lt (length bytes) n then Partial else Whole (take n bytes) (drop n bytes)

-- behind the second byte, `high` being the upper five bits of the length
abbrev pub cut_low : ℕ → List ℕ → Cut
cut_low high [] = Partial
cut_low high (low ∷ bytes) = if nat_lt low 256 then cut_body (high * 256 + low) bytes else Lost

-- behind the first byte
abbrev pub cut_high : List ℕ → Cut
cut_high [] = Partial
cut_high (second ∷ bytes) =
    if nat_lt second 224 then Lost else (if nat_lt second 256 then cut_low (second - 224) bytes else Lost)

abbrev pub cut_of : List ℕ → Cut
cut_of [] = Partial
cut_of (first ∷ bytes) = if first == 86 then cut_high bytes else Lost
