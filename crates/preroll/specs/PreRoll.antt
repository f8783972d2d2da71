-- A preroll, field by field (ISO/IEC 23003-3, AudioPreRoll).
use Rattle.std.specs.Prelude.{ℕ, ◌≤◌, ◌<◌, Bool, List, length}
use Rattle.std.specs.List.{AllByRecursion}
use Rattle.layout.specs.Text.{bits_of}
use Rattle.layout.specs.Layout.{Layout, both, shaped, fitted}
use Rattle.layout.specs.Times.{times}
use Rattle.layout.specs.ToEnd.{rest}
use Rattle.bit_core.specs.Plain.{flag, run_of_bytes}
use Rattle.esc_value.specs.Escaped.{escaped_value}
use Rattle.preroll.specs.declared.fault.PreFault.{PreFault}
use Rattle.preroll.specs.declared.preroll.PreRoll.{PreRoll}
use Rattle.preroll.specs.Faults.{from_short, from_read}

-- a length in bytes, which is an escapedValue, and so many bytes
abbrev pub counted_bytes : ℕ → ℕ → ℕ → Layout (List ℕ) PreFault
counted_bytes a b c = shaped (λ v. (length v, v)) (λ x. x.1) (both (escaped_value from_short a b c) (run_of_bytes from_read))

-- numPreRollFrames, and for each auLen and the access unit
abbrev pub units : Layout (List (List ℕ)) PreFault
units = shaped (λ us. (length us, us)) (λ x. x.1) (both (escaped_value from_short 2 4 0) (λ n. times n (counted_bytes 16 16 0)))

-- at most so many, and each of them a byte
abbrev pub HasBytes : ℕ → List ℕ → Type 0
HasBytes most v = (length v ≤ most) × AllByRecursion (λ b. b < 256) v

-- The lengths can be spelled, and the bytes are bytes.
pub record IsWellFormed (p : PreRoll) : Type 0 where
  pub config : HasBytes 285 p.config
  pub few : length p.units ≤ 18
  pub units : AllByRecursion (HasBytes 131070) p.units

-- configLen and Config, applyCrossfade, the reserved bit, the access units, and all bits to the end
abbrev pub preroll : Layout PreRoll PreFault
preroll = fitted IsWellFormed
    (λ p. (p.config, (p.fade, (p.reserved, (p.units, p.tail)))))
    (λ (config, (fade, (reserved, (units, tail)))). record { config = config; fade = fade; reserved = reserved; units = units; tail = tail })
    (both (counted_bytes 4 4 8) (λ _. both (flag from_short) (λ _. both (flag from_short) (λ _. both units (λ _. rest)))))

-- the spelling of a preroll
abbrev pub preroll_text : PreRoll → List Bool
preroll_text p = preroll.spelling p

-- the first fault of a payload, of which all bits are to be a preroll
abbrev pub PreRollFaults : PreFault → List ℕ → Type 0
PreRollFaults e payload = preroll.Faults 0 e (bits_of payload)
