use Rattle.std.proofs.Common.{ℕ, ◌*◌, ap}
use Rattle.latm.proofs.PlaceLemmas.{passes_bytes, had_bytes}
use Rattle.latm.proofs.places.pass_bytes.Goals as goal

pub returns-clause-gives : goal.returns-clause-gives
returns-clause-gives c = passes_bytes c.args.n (8 * c.from.result) c.args.reader.now c.skip.new.self c.skip.result (ap (λ (k : ℕ). 8 * k) c.from.ensures) c.skip.ensures.ok c.skip.ensures.short c.skip.ensures.fault c.skip.ensures.err

pub returns-clause-within : goal.returns-clause-within
returns-clause-within c = had_bytes c.args.n (8 * c.from.result) c.args.reader.now c.skip.result (ap (λ (k : ℕ). 8 * k) c.from.ensures) c.skip.ensures.short
