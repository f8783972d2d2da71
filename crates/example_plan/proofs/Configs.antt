-- The configurations of the example are well formed, and a stream may be joined to another from one to the other.
use Rattle.std.proofs.Common.{◌≡◌, ◌≢◌, ℕ, ◌<◌, refl, ap, arith}
use Rattle.std.specs.Prelude.{unwrap_or}
use Rattle.usac_cfg.specs.UsacConfig.{IsWellFormed, stream_id}
use Rattle.plans.specs.Level.{IsLevel}
use Rattle.example_plan.specs.Example.{mono, old_config, new_config}

pub mono_fits : (id : ℕ) → id < 256 → IsWellFormed (mono id)
mono_fits id h = record {
  indices = record { rate = refl; explicit = refl; frame = refl; channel = refl; positions = refl };
  lists = record {
    some = omega arith;
    few = omega arith;
    elements = (record { kind = omega arith; default_length = omega arith; length = omega arith; bytes = tt }, ((refl, tt), tt));
    few_extensions = omega arith;
    extensions = (record { kind = omega arith; length = omega arith; bytes = (omega arith, (h, tt)) }, tt);
  };
}

others : old_config ≢ new_config
others e = let ids : 1 ≡ 2 = ap (λ c. unwrap_or (stream_id c) 0) e in omega (arith, ids)

pub are_level : IsLevel old_config new_config
are_level = record { other = others; rate = refl; channels = refl }
