-- Bytes that are a configuration and at most 7 bits behind it are one at most, and what a reader says of them.
use Rattle.std.proofs.Common.{◌≡◌, ℕ, ◌<◌, ◌≤◌, Bool, true, false, List, ◌++◌, length, Ok, Err, refl, sym, ap, ◌∙◌, arith}
use Rattle.layout.specs.Text.{num, bits_of}
use Rattle.layout.specs.Reader.{Reader, left}
use Rattle.layout.specs.Reading.{ReadsUnless}
use Rattle.layout.proofs.Layouts.{prefix_free}
use Rattle.layout.proofs.TextLemmas.{length-num, length-bits_of}
use Rattle.std.proofs.lemmas.List.{length-append}
use Rattle.usac_cfg.specs.declared.usac_config.UsacConfig.{UsacConfig}
use Rattle.usac_cfg.specs.declared.faults.CfgFault.{CfgFault}
use Rattle.usac_cfg.specs.declared.faults.CfgFault.TheVariants as configs
use Rattle.usac_cfg.specs.Faults.{is_memory}
use Rattle.usac_cfg.specs.Spelling.{usac_config}
use Rattle.usac_cfg.specs.UsacExact.{usac_config_exact}
use Rattle.preroll.specs.declared.fault.CarryFault.TheVariants.{BadConfig}
use Rattle.preroll.specs.Faults.{from_config, is_carry_memory}
use Rattle.preroll.specs.Carried.{IsConfigIn}

pub one_config : (bytes : List ℕ) (c d : UsacConfig) → IsConfigIn bytes c → IsConfigIn bytes d → c ≡ d
one_config bytes c d a b = (prefix_free usac_config usac_config_exact c d a.behind b.behind a.fits b.fits (sym a.spelled ∙ b.spelled)).0

-- a spelling begins with five bits
front_long : (v : ℕ) (x y : List Bool) → 5 ≤ length ((num 5 v ++ x) ++ y)
front_long v x y = omega (arith, length-append (num 5 v ++ x) y, length-append (num 5 v) x, length-num 5 v)

some_bits : (d : UsacConfig) (behind : List Bool) → 5 ≤ length (usac_config.spelling d ++ behind)
some_bits d behind = front_long d.rate_index _ behind

pub none_in_none : (bytes : List ℕ) (d : UsacConfig) → length bytes ≡ 0 → IsConfigIn bytes d → ⊥
none_in_none bytes d none i = omega (arith, some_bits d i.behind, ap (λ (t : List Bool). length t) i.spelled, length-bits_of bytes)

-- ---- a read of them

abbrev start : List ℕ → Reader
start bytes = record { text = bits_of bytes; at = 0 }

pub is_in : (bytes : List ℕ) (old new : Reader) (own : UsacConfig) → ReadsUnless is_memory usac_config old new (Ok own) → old ≡ start bytes → length (left new) ≤ 7 → IsConfigIn bytes own
is_in bytes old new own reads is few = record {
  behind = left new;
  fits = reads.found.0;
  spelled = sym (ap (λ (r : Reader). left r) is) ∙ reads.found.1;
  few = few;
}

-- more than 7 bits stand behind the configuration that was read
pub more_behind : (bytes : List ℕ) (old new : Reader) (own d : UsacConfig) → ReadsUnless is_memory usac_config old new (Ok own) → old ≡ start bytes → 7 < length (left new) → IsConfigIn bytes d → ⊥
more_behind bytes old new own d reads is more i =
    let text : usac_config.spelling own ++ left new ≡ usac_config.spelling d ++ i.behind = sym reads.found.1 ∙ ap (λ (r : Reader). left r) is ∙ i.spelled in
    let same = prefix_free usac_config usac_config_exact own d (left new) i.behind reads.found.0 i.fits text in
    omega (arith, more, i.few, ap (λ (t : List Bool). length t) same.1)

is_bad : (e : CfgFault) → is_carry_memory (from_config e) ≡ false → (from_config e ≡ BadConfig) × (is_memory e ≡ false)
is_bad (configs.Memory a) h = absurd cc
is_bad (configs.Short at) h = (refl, refl)
is_bad (configs.RateReserved at) h = (refl, refl)
is_bad (configs.RateZero at) h = (refl, refl)
is_bad (configs.FrameReserved at) h = (refl, refl)
is_bad (configs.ChannelReserved at) h = (refl, refl)
is_bad (configs.NoChannels at) h = (refl, refl)
is_bad (configs.TooManyChannels at) h = (refl, refl)
is_bad (configs.TooManyElements at) h = (refl, refl)

pub is_none : (bytes : List ℕ) (old new : Reader) (e : CfgFault) → ReadsUnless is_memory usac_config old new (Err e) → old ≡ start bytes → is_carry_memory (from_config e) ≡ false → (from_config e ≡ BadConfig) × ((d : UsacConfig) → IsConfigIn bytes d → ⊥)
is_none bytes old new e reads is h =
    let bad = is_bad e h in
    (bad.0, λ d i. let free : is_memory e ≡ true = (reads.only d i.behind i.fits (ap (λ (r : Reader). left r) is ∙ i.spelled)).0 in absurd (let never : false ≡ true = sym bad.1 ∙ free in cc))
