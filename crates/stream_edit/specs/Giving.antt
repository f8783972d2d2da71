-- The elements of a changed stream, as they are given one after another.
use Rattle.std.specs.Prelude.{◌≡◌, ◌<◌, ◌≤◌, ◌%◌, List, [], ◌∷◌, length, Option, Some, None, Result, Ok, Err}
use Rattle.std.specs.declared.alloc.AllocError.{AllocError}
use Rattle.layout.specs.Layout.{FitsOption}
use Rattle.latm.specs.declared.mux_element.MuxElement.{MuxElement}
use Rattle.latm.specs.MuxConfig.{IsWellFormed as IsMux}
use Rattle.latm.specs.Written.{element_text}
use Rattle.stream_edit.specs.declared.editor.Given.{Given}
use Rattle.stream_edit.specs.declared.editor.Given.TheVariants.{Kept, Changed}

abbrev pub given : Given → MuxElement
given (Kept e) = e.now
given (Changed e) = e

-- What LOAS frames want of an element: it makes whole bytes, at most 8191.
pub record IsWritable (e : MuxElement) : Type 0 where
  pub config : FitsOption IsMux e.config
  pub whole : length (element_text e) % 8 ≡ 0
  pub few : length (element_text e) ≤ 65528

-- The first element was given, which can be written, and the others are still to be given; or there was none, or no memory for it.
abbrev pub GivesNext : List MuxElement → List MuxElement → Result (Option Given) AllocError → Type 0
GivesNext old new (Ok None) = (old ≡ []) × (new ≡ [])
GivesNext old new (Ok (Some g)) = (old ≡ given g ∷ new) × IsWritable (given g)
GivesNext old new (Err e) = (new ≡ old) × (0 < length old)
