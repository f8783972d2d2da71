-- What `switch` writes for the frames of renditions, and which of them it refuses.
use Rattle.std.specs.Prelude.{◌≡◌, ℕ, Bool, true, List, [], ◌∷◌, ◌++◌, Some, if◌then◌else◌}
use Rattle.timeline.specs.Order.{order_result}
use Rattle.splicer.specs.Pieces.{is_given}
use Rattle.splicer.specs.Runs.{RunValue, new_run, turn, behind}
use Rattle.core_iface.specs.Decoding.{Definitions}
use Rattle.tool_text.specs.declared.refusal.Within.TheVariants as inputs
use Rattle.au_stream.specs.Frames.{Frame}
use Rattle.commands.specs.Calling.{Effect}
use Rattle.commands.specs.Commands.{Command, opens_silently, ClosesSilently}
use Rattle.commands.specs.OnInputs.{several, on_inputs}
use Rattle.playing.specs.Playing.{output_on, play_units, IsServed}
use Rattle.playing.specs.Spliced.{coded}
use Rattle.joining.specs.Renditions.{PieceAt, asked_at, run_at, BreaksRule, LacksPiece}
use Rattle.joining.specs.Renditions.{next_at as next_piece}
use Rattle.joining.specs.Planning.{first_at, where_ordered}

-- Where the file of a piece begins: what is asked of it, and the frames of the pieces before.
pub record SwitchAt : Type 0 where
  pub piece : PieceAt
  pub earlier : List Frame

abbrev pub given_if : Bool → Frame → List Frame → List Frame
given_if b f later = if b then f ∷ later else later

-- the frames that a check says are of the piece
abbrev pub given : RunValue → List Frame → List Frame
given v [] = []
given v (f ∷ fs) = given_if (is_given (turn v (coded f))) f (given (behind v (coded f)) fs)

-- those of the file that begins there
abbrev pub given_at : SwitchAt → List Frame → List Frame
given_at at frames = given (new_run (asked_at at.piece)) frames

-- all frames that were given so far: those of the pieces before, and those of this one
abbrev pub given_so_far : SwitchAt → List Frame → List Frame
given_so_far at frames = at.earlier ++ given_at at frames

-- the frame behind these is of the piece
abbrev pub is_given_at : SwitchAt → List Frame → Frame → Bool
is_given_at at before f = is_given (turn (run_at at.piece before) (coded f))

-- how many units are fed for a frame: none, where it is not of the piece
abbrev pub units_if : Bool → List Frame → Frame → ℕ
units_if b before f = if b then play_units before f else 0

-- `switch` refuses what `plan` refuses, and nothing else. It feeds the frames of all pieces to one player, and writes their samples.
abbrev pub switching : Definitions → SwitchAt → Command
switching d at = record {
  within = Some (inputs.Piece at.piece.place);
  opening = opens_silently;
  Refuses = BreaksRule d at.piece;
  output = λ frames. output_on d at.earlier (given_at at frames);
  RefusesEnd = LacksPiece at.piece;
  Closes = ClosesSilently;
  plays = true;
  units = λ before f. units_if (is_given_at at before f) (given_so_far at before) f;
  Serves = λ before f. is_given_at at before f ≡ true → IsServed d f;
}

-- where the first file begins
abbrev pub begins_at : List ℕ → SwitchAt
begins_at positions = record { piece = first_at positions; earlier = [] }

-- where the file of the next piece begins
abbrev pub next_at : SwitchAt → List Frame → SwitchAt
next_at at frames = record { piece = next_piece at.piece frames; earlier = given_so_far at frames }

-- `switch` on files, of which pieces are wanted at these positions
abbrev pub switches_files : Definitions → List ℕ → Effect
switches_files d positions = where_ordered (order_result positions) (on_inputs (several (switching d) next_at true) (begins_at positions))
