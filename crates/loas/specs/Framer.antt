-- What a framer holds.
use Rattle.std.specs.Prelude.{ℕ, ◌+◌, List, ◌++◌, length, drop}

pub record Framer : Type 0 where
  -- how many bytes stand before those that are held, so the offset of the first of them
  pub passed : ℕ
  -- the bytes that were pushed and not yet passed
  pub held : List ℕ

-- a framer and the memory that it takes
pub record Buffered : Type 0 where
  pub framer : Framer
  -- how many bytes its buffer has: those that are held, and those that were passed and are not yet freed
  pub stored : ℕ

-- how many bytes were pushed in all
abbrev pub pushed : Framer → ℕ
pushed framer = framer.passed + length framer.held

-- the framer with some more bytes behind those that it holds
abbrev pub grown : Framer → List ℕ → Framer
grown framer piece = record framer { held = framer.held ++ piece }

-- the framer without the frame at its front, which has `n` bytes behind its header
abbrev pub past_frame : ℕ → Framer → Framer
past_frame n framer = record { passed = framer.passed + (3 + n); held = drop (3 + n) framer.held }
