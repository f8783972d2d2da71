-- Frames behind frames are played from where these leave the core.
use Rattle.std.proofs.Common.{◌≡◌, List, [], ◌∷◌, ◌++◌, Option, refl, ap}
use Rattle.core_iface.specs.Decoding.{Definitions}
use Rattle.core_iface.specs.Answering.{Running}
use Rattle.preroll.specs.Carrying.{Shown}
use Rattle.switch_player.specs.Playing.{played_block, played_state, played, state_over}

pub played_both : (d : Definitions) (at : Option Running) (fs gs : List Shown) → played d at (fs ++ gs) ≡ played d at fs ++ played d (state_over d at fs) gs
played_both d at [] gs = refl
played_both d at (f ∷ fs) gs = ap (λ bs. played_block d at f ∷ bs) (played_both d (played_state d at f) fs gs)

pub state_both : (d : Definitions) (at : Option Running) (fs gs : List Shown) → state_over d at (fs ++ gs) ≡ state_over d (state_over d at fs) gs
state_both d at [] gs = refl
state_both d at (f ∷ fs) gs = state_both d (played_state d at f) fs gs
