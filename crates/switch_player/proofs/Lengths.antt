-- How long blocks are, and in which states a core stands.
use Rattle.std.proofs.Common.{◌≡◌, ℕ, zero, suc, ◌*◌, ◌≤◌, List, [], ◌∷◌, length, Option, Some, None, true, false, refl, ap, sym, ◌∙◌, arith, subst}
use Rattle.std.proofs.Math.Nat.{mul-le-mul_left}
use Rattle.usac_cfg.specs.declared.usac_config.UsacConfig.{UsacConfig}
use Rattle.usac_cfg.specs.UsacConfig.{IsWellFormed, channels, frame_length, is_frame, shape_at}
use Rattle.usac_frame.specs.Units.{UnitValue}
use Rattle.core_iface.specs.Decoding.{Definitions, after}
use Rattle.core_iface.specs.Laws.{StaysSound, EmitsBlocks}
use Rattle.core_iface.specs.Answering.{Running, emitted, drained, stepped, stepped_over-running}
use Rattle.preroll.specs.Carrying.{Shown, units_in}
use Rattle.switch_player.specs.Playing.{begun, begun_state}
use Rattle.switch_player.specs.Feeding.{IsInStep}

pub after_sound : (d : Definitions) → StaysSound d → (c : UsacConfig) → IsWellFormed c → (s : List ℕ) (us : List UnitValue) → d.sound c s → d.sound c (after d c s us)
after_sound d stays c fine s [] q = q
after_sound d stays c fine s (u ∷ us) q = after_sound d stays c fine (d.next c s u) us (stays.step c s u fine q)

-- every frame of a well formed configuration is longer than a fade
frame_long : (c : UsacConfig) → IsWellFormed c → 128 ≤ frame_length c
frame_long c w = long_at c.frame_index w.indices.frame
  where
    long_at : (n : ℕ) → is_frame n ≡ true → 128 ≤ (shape_at n).output
    long_at zero e = omega arith
    long_at (suc zero) e = omega arith
    long_at (suc (suc zero)) e = omega arith
    long_at (suc (suc (suc zero))) e = omega arith
    long_at (suc (suc (suc (suc zero)))) e = omega arith
    long_at (suc (suc (suc (suc (suc n))))) e = absurd (let f : false ≡ true = e in cc)

module _ (d : Definitions) (stays : StaysSound d) (f : Shown) (fine : IsWellFormed f.config) where
  fresh_sound : d.sound f.config (after d f.config (d.init f.config) (units_in f.carried))
  fresh_sound = after_sound d stays f.config fine (d.init f.config) (units_in f.carried) (stays.start f.config fine)

  -- a block at which decoding begins is a whole block
  pub begun_long : EmitsBlocks d → length (begun d f) ≡ channels f.config * frame_length f.config
  begun_long emits =
      ap (λ (r : Option Running). length (emitted d r f.unit)) (stepped_over-running d f.config (d.init f.config) (units_in f.carried))
      ∙ (emits.block f.config (after d f.config (d.init f.config) (units_in f.carried)) f.unit fine fresh_sound).0

  pub begun_fades : EmitsBlocks d → 128 * channels f.config ≤ length (begun d f)
  begun_fades emits =
      let long = begun_long emits in
      let fade : 128 ≤ frame_length f.config = frame_long f.config fine in
      let e : channels f.config * 128 ≤ channels f.config * frame_length f.config = mul-le-mul_left (channels f.config) fade in
      omega (arith, e, long)

  pub begun_in_step : IsInStep d (Some f.config) (begun_state d f)
  begun_in_step =
      let P : Option Running → Type 0 = λ r. IsInStep d (Some f.config) (stepped d r f.unit) in
      subst P (sym (stepped_over-running d f.config (d.init f.config) (units_in f.carried)))
      (refl, fine, stays.step f.config _ f.unit fine fresh_sound)

-- what is drained where the core is in step
pub drained_long : (d : Definitions) → EmitsBlocks d → (c : UsacConfig) (at : Option Running) → IsInStep d (Some c) at → length (drained d at) ≡ 128 * channels c
drained_long d emits c None h = absurd h
drained_long d emits c (Some r) h =
    let P : UsacConfig → Type 0 = IsWellFormed in
    let Q : UsacConfig → Type 0 = λ x. d.sound x r.state in
    let e : length (d.drain r.config r.state) ≡ channels r.config * 128 = (emits.rest r.config r.state (subst P (sym h.0) h.1) (subst Q (sym h.0) h.2)).0 in
    let same : channels r.config ≡ channels c = ap channels h.0 in
    omega (arith, e, same)

-- a core in step goes on in step
pub goes_on_in_step : (d : Definitions) → StaysSound d → (c : UsacConfig) (at : Option Running) (u : UnitValue) → IsInStep d (Some c) at → IsInStep d (Some c) (stepped d at u)
goes_on_in_step d stays c None u h = absurd h
goes_on_in_step d stays c (Some r) u h =
    let Q : UsacConfig → Type 0 = λ x. d.sound c (d.next x r.state u) in
    (h.0, h.1, subst Q (sym h.0) (stays.step c r.state u h.1 h.2))
