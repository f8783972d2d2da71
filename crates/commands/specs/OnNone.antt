-- What a command without an input does.
use Rattle.std.specs.Prelude.{Bool}
use Rattle.commands.specs.declared.outcome.Outcome.{Outcome}
use Rattle.commands.specs.Ending.{Traces}
use Rattle.commands.specs.Calling.{Effect}

pub record NoInput : Type 1 where
  -- how it ends
  pub Ends : Traces → Outcome → Type 0
  -- a calm core does not fail
  pub Serves : Type 0
  -- whether the core is used
  pub plays : Bool

abbrev pub on_none : NoInput → Effect
on_none n = record { Does = λ texts taken t outcome. n.Ends t outcome; Serves = λ texts. n.Serves; plays = n.plays }
