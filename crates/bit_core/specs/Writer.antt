-- What a writer holds while a text is written part by part.
use Rattle.std.specs.Prelude.{◌≡◌, Bool, List, ◌++◌, length, drop}

-- What was held is held still, and something may stand behind it.
pub record Extends (old new : List Bool) : Type 0 where
  pub held : new ≡ old ++ drop (length old) new
