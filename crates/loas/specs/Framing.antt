-- Frames of ISO/IEC 14496-3, AudioSyncStream: the syncword 0x2B7 in 11 bits, audioMuxLengthBytes in 13,
-- and that many bytes.
use Rattle.std.specs.Prelude.{◌≡◌, ◌≢◌, ◌⊎◌, ℕ, ◌+◌, ◌/◌, ◌%◌, ◌<◌, ◌≤◌, List, [], ◌∷◌, ◌++◌, length, take, drop, flat_map, All}

-- the header of a frame: the syncword, and the number of bytes behind it
abbrev pub header : ℕ → List ℕ
header n = 86 ∷ (224 + n / 256) ∷ (n % 256) ∷ []

-- the bytes of a frame, by the bytes behind its header
abbrev pub framed : List ℕ → List ℕ
framed body = header (length body) ++ body

-- Its length fits in 13 bits.
abbrev pub IsFrameBody : List ℕ → Type 0
IsFrameBody body = length body ≤ 8191

-- The text begins with a frame that has `n` bytes behind its header.
pub record BeginsWithFrame (n : ℕ) (text : List ℕ) : Type 0 where
  pub fits : n ≤ 8191
  pub long : 3 + n ≤ length text
  pub spelled : text ≡ framed (take n (drop 3 text)) ++ drop (3 + n) text

-- The text is less than a frame, and could go on to be one. The empty text is such a part too.
pub record IsPartial (text : List ℕ) : Type 0 where
  pub body : List ℕ
  pub more : List ℕ
  pub fits : IsFrameBody body
  pub proper : 0 < length more
  pub spelled : text ++ more ≡ framed body

-- No frame begins the text, however it goes on.
pub record IsLost (text : List ℕ) : Type 0 where
  pub no_frame : (body rest : List ℕ) → IsFrameBody body → text ≡ framed body ++ rest → ⊥
  pub no_part : IsPartial text → ⊥

-- The syncword is wrong: the first byte is not 0x56, or there is a second one whose upper three bits are not 111.
-- Of bytes that is the same as IsLost.
abbrev pub HasWrongSync : List ℕ → Type 0
HasWrongSync [] = ⊥
HasWrongSync (first ∷ []) = first ≢ 86
HasWrongSync (first ∷ second ∷ text) = (first ≢ 86) ⊎ (second / 32 ≢ 7)

-- The text is the frames of these bodies, one behind another, and then the rest.
pub record Splits (text : List ℕ) (bodies : List (List ℕ)) (rest : List ℕ) : Type 0 where
  pub each : All IsFrameBody bodies
  pub whole : text ≡ flat_map framed bodies ++ rest

-- These are the most frames that the text begins with, and that is what remains of it.
pub record IsLongest (text : List ℕ) (bodies : List (List ℕ)) (rest : List ℕ) : Type 0 where
  pub splits : Splits text bodies rest
  pub longest : (others : List (List ℕ)) (remains : List ℕ) → Splits text others remains → length others ≤ length bodies
