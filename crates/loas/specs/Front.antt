-- What the code's look at the front says of a text: by its own steps, and by the frame that stands there.
use Rattle.std.specs.Prelude.{◌≡◌, ℕ, ◌+◌, ◌≤◌, List, length, take, drop}
use Rattle.loas.specs.Framing.{BeginsWithFrame, IsPartial, HasWrongSync}
use Rattle.loas.specs.Cut.{cut_of, Whole, Partial}
use Rattle.loas.specs.declared.framing.Front.{Front}
use Rattle.loas.specs.declared.framing.Front.TheVariants as front

abbrev pub Shows : List ℕ → Front → Type 0
Shows text (front.Frame n) = (cut_of text ≡ Whole (take n (drop 3 text)) (drop (3 + n) text)) × (3 + n ≤ length text)
Shows text front.Part = cut_of text ≡ Partial
Shows text front.Lost = HasWrongSync text

abbrev pub Stands : List ℕ → Front → Type 0
Stands text (front.Frame n) = BeginsWithFrame n text
Stands text front.Part = IsPartial text
Stands text front.Lost = HasWrongSync text
