-- The example core. It decodes no audio: the standard has no such decoder, and these sums are this
-- project's own. They are made so that each block tells which units came before it.
use Rattle.std.specs.Prelude.{◌≡◌, ℕ, ◌+◌, ◌*◌, ◌%◌, ◌<◌, List, [], ◌∷◌, ◌++◌, length, Option, Some, None, ℤ, Bool, All, map, take, drop, slice_index, if◌then◌else◌, ◌==◌, replicate}
use Rattle.std.specs.Int.{w16, cast_signed}
use Rattle.std.specs.List.{flat_map}
use Rattle.std.proofs.Common.{zero, suc}
use Rattle.usac_cfg.specs.declared.usac_config.UsacConfig.{UsacConfig}
use Rattle.usac_cfg.specs.UsacConfig.{IsWellFormed, ratio, channels, frame_length}
use Rattle.usac_frame.specs.Units.{UnitValue}
use Rattle.core_iface.specs.Decoding.{Definitions}
use Rattle.core_iface.specs.Answering.{Running, Meaning, running}

-- how many values of units before it a unit's block takes in, beside the context: by sbrRatioIndex
abbrev pub warm_of : UsacConfig → ℕ
warm_of c = if ratio c == 0 then 1 else if ratio c == 1 then 3 else 2

-- the sum of the places of the ones, the first bit standing at place k
abbrev pub places : ℕ → List Bool → ℕ
places k [] = 0
places k (b ∷ bs) = (if b then k else 0) + places (k + 1) bs

-- The value of a unit behind a state: the places of its ones, counted from 1, and the context too
-- where the unit is not independent. The context is the first number of a state.
abbrev pub value_of : List ℕ → UnitValue → ℕ
value_of s u =
    let h = places 1 u.bits % 32768 in
    if u.independent then h else (3 * slice_index s 0 + h) % 32768

-- the values of the last units, the newest first: they stand behind the context
abbrev pub past_of : UsacConfig → List ℕ → List ℕ
past_of c s = take (warm_of c) (drop 1 s)

-- k times the first, k + 1 times the second, and so on
abbrev pub weighted : ℕ → List ℕ → ℕ
weighted k [] = 0
weighted k (p ∷ ps) = k * p + weighted (k + 1) ps

-- the numbers below n
abbrev pub below : ℕ → List ℕ
below zero = []
below (suc n) = below n ++ n ∷ []

-- the sample of a channel at a time, in a ramp that starts at the level
abbrev pub sample : ℕ → ℕ → ℕ → ℤ
sample level time channel = cast_signed w16 ((level + time * (channel + 1)) % 65536)

-- a ramp over so many channels and times: the channels' samples, one time after another
abbrev pub ramp : ℕ → ℕ → ℕ → List ℤ
ramp level count times = flat_map (λ time. map (sample level time) (below count)) (below times)

-- What FoldCore does. A state is the context and the values of the last units, and is sound where
-- each is below 32768. A block is a ramp from the unit's value and the weighted values before it.
abbrev pub fold_core : Definitions
fold_core = record {
  init = λ c. replicate (warm_of c + 1) 0;
  next = λ c s u. let v = value_of s u in v ∷ take (warm_of c) (v ∷ drop 1 s);
  emit = λ c s u. ramp (value_of s u + weighted 2 (past_of c s)) (channels c) (frame_length c);
  drain = λ c s. ramp (weighted 2 (past_of c s)) (channels c) 128;
  sound = λ c s. (length s ≡ warm_of c + 1) × All (λ x. x < 32768) s;
  warm = warm_of;
  serves = λ c. IsWellFormed c;
}

-- what is known of a FoldCore: whether it is ready, and how; the units that it was fed
pub record Folded : Type 0 where
  pub ready : Option Running
  pub fed : ℕ

-- How a FoldCore is ready: with its configuration, if it has one, and the context before those of the
-- values that tell.
abbrev pub ready_with : Option UsacConfig → ℕ → List ℕ → Option Running
ready_with None context past = None
ready_with (Some c) context past = running c (context ∷ take (warm_of c) past)

-- a FoldCore never fails
abbrev pub meaning_of : Folded → Meaning
meaning_of k = record { ready = k.ready; faults = 0; fed = k.fed }
