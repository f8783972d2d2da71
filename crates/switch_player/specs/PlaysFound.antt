-- One core that runs on through pieces.
use Rattle.std.proofs.Common.{◌≡◌, ℕ, List, [], ◌∷◌, ◌++◌, Option, Some, None, Bool, true, false, ℤ, refl, ap, sym, subst, ◌∙◌}
use Rattle.std.specs.Prelude.{if◌then◌else◌}
use Rattle.std.proofs.lemmas.List.Elements.{All-head, All-tail}
use Rattle.usac_cfg.specs.declared.usac_config.UsacConfig.{UsacConfig}
use Rattle.usac_cfg.specs.UsacConfig.{channels}
use Rattle.usac_cfg.specs.Same.{same}
use Rattle.core_iface.specs.Decoding.{Definitions, out, after}
use Rattle.core_iface.specs.Answering.{Running, running, emitted, stepped, stepped_over-running}
use Rattle.preroll.specs.Carrying.{Shown, units_in, fades_in}
use Rattle.plans.specs.Plans.{Piece, splice}
use Rattle.plans.specs.Laws.{AreOf, Differ}
use Rattle.switch_player.specs.Blending.{blended}
use Rattle.switch_player.specs.Playing.{fresh, begun, played, played_block, played_state}
use Rattle.switch_player.specs.Streams.{left}
use Rattle.switch_player.specs.Cuts.{blocks_of, joined, cut_behind}
use Rattle.switch_player.specs.PiecesFound.{Placed, own_units, state_before, config_at}

-- a core in a state goes on through frames of one configuration
played_on : (d : Definitions) (c : UsacConfig) (s : List ℕ) (fs rest : List Shown) → AreOf c fs → played d (running c s) (fs ++ rest) ≡ out d c s (own_units fs) ++ played d (running c (after d c s (own_units fs))) rest
played_on d c s [] rest h = refl
played_on d c s (f ∷ fs) rest h =
    let t : same c f.config ≡ true = All-head (λ g. same c g.config ≡ true) f fs h in
    let block : played_block d (running c s) f ≡ d.emit c s f.unit = rw t refl in
    let state : played_state d (running c s) f ≡ running c (d.next c s f.unit) = rw t refl in
    ap (λ b. b ∷ played d (played_state d (running c s) f) (fs ++ rest)) block
    ∙ ap (λ bs. d.emit c s f.unit ∷ bs) (ap (λ at. played d at (fs ++ rest)) state ∙ played_on d c (d.next c s f.unit) fs rest (All-tail (λ g. same c g.config ≡ true) f fs h))

-- what is left behind where a core stands
abbrev left_at : Definitions → Option Running → Option (List ℤ)
left_at d None = None
left_at d (Some r) = Some (d.drain r.config r.state)

abbrev config_of : Option Running → Option UsacConfig
config_of None = None
config_of (Some r) = Some r.config

-- each piece is placed, and the configuration changes at each
abbrev pub AllPlaced : Definitions → Option UsacConfig → List Piece → Type 0
AllPlaced d c [] = Unit {0}
AllPlaced d c (p ∷ ps) = Differ c (config_at p.stream) × Placed d p × AllPlaced d (config_at p.stream) ps

before_if : {X : Type 0} (b : Bool) (x y : X) (xs : List X) → (if b then x else y) ∷ xs ≡ (if b then x ∷ xs else y ∷ xs)
before_if true x y xs = refl
before_if false x y xs = refl

fresh_is : (d : Definitions) (f : Shown) → fresh d f ≡ running f.config (state_before d f)
fresh_is d f = stepped_over-running d f.config (d.init f.config) (units_in f.carried)

begun_is : (d : Definitions) (f : Shown) → begun d f ≡ d.emit f.config (state_before d f) f.unit
begun_is d f = ap (λ r. emitted d r f.unit) (fresh_is d f)

-- the first frame of a piece behind a core that stands at another configuration
first_block : (d : Definitions) (at : Option Running) (f : Shown) (bs : List (List ℤ)) → Differ (config_of at) (Some f.config) → played_block d at f ∷ bs ≡ joined (left_at d at) (Some f) (begun d f ∷ bs)
first_block d None f bs ne = refl
first_block d (Some r) f bs ne =
    ap (λ b. b ∷ bs) (rw ne refl) ∙ before_if (fades_in f.carried) (blended (channels f.config) (d.drain r.config r.state) (begun d f)) (begun d f) bs

first_state : (d : Definitions) (at : Option Running) (f : Shown) → Differ (config_of at) (Some f.config) → played_state d at f ≡ running f.config (d.next f.config (state_before d f) f.unit)
first_state d None f ne = ap (λ r. stepped d r f.unit) (fresh_is d f)
first_state d (Some r) f ne =
    rw ne (ap (λ r. stepped d r f.unit) (fresh_is d f))

-- One core that runs through placed pieces gives their cut.
pub played_pieces : (d : Definitions) (at : Option Running) (ps : List Piece) → AllPlaced d (config_of at) ps → played d at (splice ps) ≡ cut_behind d (left_at d at) ps
played_pieces d at [] h = refl
played_pieces d at (p ∷ ps) h =
    let q = h.1 in
    let c = q.frame.config in
    let ne : Differ (config_of at) (Some c) = subst (λ (o : Option UsacConfig). Differ (config_of at) o) q.config h.0 in
    let s = state_before d q.frame in
    let s' = after d c s (own_units (q.frame ∷ q.rest)) in
    let split : played d at (splice (p ∷ ps)) ≡ played d at ((q.frame ∷ q.rest) ++ splice ps) = ap (λ fs. played d at (fs ++ splice ps)) q.frames in
    let on : played d (played_state d at q.frame) (q.rest ++ splice ps) ≡ out d c (d.next c s q.frame.unit) (own_units q.rest) ++ played d (running c s') (splice ps) =
    ap (λ x. played d x (q.rest ++ splice ps)) (first_state d at q.frame ne) ∙ played_on d c (d.next c s q.frame.unit) q.rest (splice ps) q.same in
    let rest : played d (running c s') (splice ps) ≡ cut_behind d (Some (left d p.stream p.to)) ps =
    played_pieces d (running c s') ps (rw (← q.config) h.2) ∙ ap (λ x. cut_behind d (Some x) ps) (sym q.behind) in
    split
    ∙ (ap (λ bs. played_block d at q.frame ∷ bs) (on ∙ ap (λ bs. out d c (d.next c s q.frame.unit) (own_units q.rest) ++ bs) rest)
    ∙ ap (λ bs. bs ++ cut_behind d (Some (left d p.stream p.to)) ps)
    (first_block d at q.frame (out d c (d.next c s q.frame.unit) (own_units q.rest)) ne
    ∙ (ap (λ b. joined (left_at d at) (Some q.frame) (b ∷ out d c (d.next c s q.frame.unit) (own_units q.rest))) (begun_is d q.frame)
    ∙ ap (joined (left_at d at) (Some q.frame)) (sym q.blocks) ∙ ap (λ f. joined (left_at d at) f (blocks_of d p)) (sym q.first))))
