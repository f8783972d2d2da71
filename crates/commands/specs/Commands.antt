-- What a command makes of the frames of a stream.
use Rattle.std.specs.Prelude.{◌≡◌, ℕ, ◌+◌, ◌≤◌, Bool, List, [], ◌∷◌, ◌++◌, Option}
use Rattle.tool_text.specs.declared.refusal.Refusal.{Refusal}
use Rattle.tool_text.specs.declared.refusal.Within.{Within}
use Rattle.au_stream.specs.Frames.{Frame}

pub record Command : Type 1 where
  -- the piece or the file that its refusals name, where it has several inputs
  pub within : Option Within
  -- what it writes of a frame before it judges it, behind the frames before it
  pub opening : List Frame → Frame → List ℕ
  -- why it refuses a frame, behind the frames before it
  pub Refuses : List Frame → Frame → Refusal → Type 0
  -- what it writes for frames that it takes
  pub output : List Frame → List ℕ
  -- why it refuses them at the end of the file
  pub RefusesEnd : List Frame → Refusal → Type 0
  -- what it writes behind them at the end of the file
  pub Closes : List Frame → List ℕ → Type 0
  -- whether it uses the core
  pub plays : Bool
  -- how many units it feeds to the core for a frame, behind the frames before it
  pub units : List Frame → Frame → ℕ
  -- a calm core does not fail at such a frame, behind the frames before it
  pub Serves : List Frame → Frame → Type 0

-- it writes nothing of a frame before it judges it
abbrev pub opens_silently : List Frame → Frame → List ℕ
opens_silently before f = []

-- it refuses nothing at the end
abbrev pub RefusesNoEnd : List Frame → Refusal → Type 0
RefusesNoEnd frames r = ⊥

-- it writes nothing at the end
abbrev pub ClosesSilently : List Frame → List ℕ → Type 0
ClosesSilently frames text = text ≡ []

-- it refuses the frame for no reason
abbrev pub Takes : Command → List Frame → Frame → Type 0
Takes c before f = (r : Refusal) → c.Refuses before f r → ⊥

-- it takes them as all frames of a file
abbrev pub TakesEnd : Command → List Frame → Type 0
TakesEnd c frames = (r : Refusal) → c.RefusesEnd frames r → ⊥

-- it takes each of these frames, behind those before it
abbrev pub TakesAll : Command → List Frame → List Frame → Type 0
TakesAll c before [] = Unit {0}
TakesAll c before (f ∷ fs) = Takes c before f × TakesAll c (before ++ f ∷ []) fs

-- how many units are fed for these frames, behind those before them
abbrev pub units_over : Command → List Frame → List Frame → ℕ
units_over c before [] = 0
units_over c before (f ∷ fs) = c.units before f + units_over c (before ++ f ∷ []) fs

-- the work of frames: how many units are fed for them
abbrev pub work : Command → List Frame → ℕ
work c frames = units_over c [] frames

-- a command that feeds none
abbrev pub feeds_none : List Frame → Frame → ℕ
feeds_none before f = 0

-- the most units that are fed for one frame: those that it carries, and its own
abbrev pub most_units : ℕ
most_units = 19

-- What holds of a command.
pub record IsCommand (c : Command) : Type 0 where
  -- for no frames it writes nothing
  pub nothing : c.output [] ≡ []
  -- few units are fed for a frame
  pub few : (before : List Frame) (f : Frame) → c.units before f ≤ most_units

-- At a frame behind those before it the output grows by these bytes.
abbrev pub Grows : Command → List Frame → Frame → List ℕ → Type 0
Grows c before f bytes = c.output (before ++ f ∷ []) ≡ c.output before ++ bytes
