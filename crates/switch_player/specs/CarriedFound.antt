-- A frame carries at most 18 units.
use Rattle.std.proofs.Common.{◌≡◌, ℕ, ◌≤◌, Bool, true, false, List, length, Option, Some, None, Err, refl, arith}
use Rattle.std.specs.Prelude.{◌==◌, if◌then◌else◌}
use Rattle.std.specs.Option.{option_map_or}
use Rattle.std.proofs.lemmas.List.{length-map}
use Rattle.usac_cfg.specs.declared.usac_config.UsacConfig.{UsacConfig}
use Rattle.usac_cfg.specs.Same.{same}
use Rattle.usac_frame.specs.declared.frame.Frame.{Frame}
use Rattle.usac_frame.specs.AccessUnit.{frame_of, unit_in}
use Rattle.usac_frame.specs.Units.{payload_length, first_payload, is_whole}
use Rattle.preroll.specs.declared.fault.CarryFault.{CarryFault}
use Rattle.preroll.specs.declared.fault.CarryFault.TheVariants.{NotImmediate, Split}
use Rattle.preroll.specs.declared.fault.PreFault.{PreFault}
use Rattle.preroll.specs.declared.preroll.PreRoll.{PreRoll}
use Rattle.preroll.specs.Payload.{preroll_of, fault_of}
use Rattle.preroll.specs.PayloadFound.{preroll_of_is}
use Rattle.preroll.specs.Carrying.{or_carried, opened, preroll_rule, carried_of, carried_in, units_in, shown}
use Rattle.switch_player.specs.Playing.{before_it}

ruled_few : (c : UsacConfig) (p : PreRoll) (o : Option CarryFault) → length p.units ≤ 18 → length (units_in (or_carried c p o)) ≤ 18
ruled_few c p None few = omega (arith, few, length-map p.units (unit_in c))
ruled_few c p (Some e) few = omega arith

opened_few : (c : UsacConfig) (f : Frame) (o : Option PreRoll) (bad : Option PreFault) → preroll_of (first_payload f) ≡ o → length (units_in (opened c f o bad)) ≤ 18
opened_few c f None bad e = omega arith
opened_few c f (Some p) bad e = ruled_few c p (preroll_rule c f p) (preroll_of_is.is (first_payload f) p e).0.few

frame_few : (c : UsacConfig) (f : Frame) → length (units_in (carried_of c f)) ≤ 18
unfolding carried_of
frame_few c f = by_tests (payload_length c f == 0) (is_whole f)
  where
    by_tests : (a b : Bool) → length (units_in (if a then Err NotImmediate else (if b then opened c f (preroll_of (first_payload f)) (fault_of (first_payload f)) else Err Split))) ≤ 18
    by_tests true b = omega arith
    by_tests false true = opened_few c f (preroll_of (first_payload f)) (fault_of (first_payload f)) refl
    by_tests false false = omega arith

read_few : (c : UsacConfig) (o : Option Frame) → length (units_in (option_map_or (carried_of c) o (Err NotImmediate))) ≤ 18
read_few c None = omega arith
read_few c (Some f) = frame_few c f

pub few_carried : (c : UsacConfig) (au : List ℕ) → length (units_in (carried_in c au)) ≤ 18
unfolding carried_in
few_carried c au = read_few c (frame_of c au)

-- so many are stepped before it
pub few_before : (last : Option UsacConfig) (c : UsacConfig) (au : List ℕ) → before_it last (shown c au) ≤ 18
few_before None c au = few_carried c au
few_before (Some b) c au = by_test (same b c)
  where
    by_test : (t : Bool) → (if t then 0 else length (units_in (carried_in c au))) ≤ 18
    by_test true = omega arith
    by_test false = few_carried c au
