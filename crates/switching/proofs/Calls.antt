-- Calls of `switch` on files, where the positions rise.
use Rattle.std.proofs.Common.{◌≡◌, ℕ, List, [], length, Option, None, false, Ok, refl, sym, ◌<◌, true, subst, inr}
use Rattle.timeline.specs.Order.{order_result}
use Rattle.timeline.proofs.Timed.{judges_order}
use Rattle.core_iface.specs.Answering.{Running}
use Rattle.core_iface.specs.Decoding.{Definitions}
use Rattle.std.specs.declared.alloc.AllocError.{AllocError}
use Rattle.commands.specs.declared.outcome.Outcome.TheVariants as is
use Rattle.commands.specs.Worlds.{World}
use Rattle.commands.specs.Calling.{Effect, Called}
use Rattle.joining.proofs.Calls.{order_memory}
use Rattle.commands.specs.OnInputs.{several, on_inputs}
use Rattle.joining.specs.Renditions.{RenditionStands}
use Rattle.joining.specs.Planning.{first_at}
use Rattle.switching.specs.declared.switch_task.Switch.{Switch}
use Rattle.switching.specs.Switching.{switching, begins_at, next_at, switches_files}
use Rattle.switching.specs.Standing.{SwitchStands}
use Rattle.switching.proofs.NextPiece.{stands_first}

-- what it does then
abbrev pub switched : Definitions → List ℕ → Effect
switched d positions = on_inputs (several (switching d) next_at true) (begins_at positions)

-- how it begins
pub begins : (d : Definitions) (positions xs : List ℕ) (task : Switch) (ready : Option Running) → Ok tt ≡ order_result positions → xs ≡ positions → 0 < length positions → RenditionStands (first_at positions) [] task.renditions
    → task.frames.player ≡ record { last = None; stopped = false } → SwitchStands d (begins_at xs) [] task ready
begins d positions xs task ready rise same some rendition player =
    subst (λ (ys : List ℕ). SwitchStands d (begins_at ys) [] task ready) (sym same)
    (stands_first d positions task ready some ((judges_order.rises positions).0 (sym rise)) rendition player)

-- there was no memory for the names and the positions
pub switch_memory_called : {H K C : Type 0} (d : Definitions) (positions : List ℕ) (names : List (List ℕ)) (w : World H K C) (e : AllocError) → Called (switches_files d positions) names w w (is.Memory e)
switch_memory_called d positions names w e = order_memory (switched d positions) positions names w e (λ texts. (record { written = refl; fed = refl }, inr tt))
