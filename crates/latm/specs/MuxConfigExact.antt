-- A StreamMuxConfig is read exactly.
use Rattle.std.proofs.Common.{◌≡◌, ℕ, ◌<◌, ◌≤◌, Bool, true, false, Option, Some, None, Result, Ok, Err, refl, sym, ap, ◌∙◌, arith, inl, inr}
use Rattle.std.specs.Prelude.{is_some, ◌==◌}
use Rattle.std.proofs.lemmas.Bool.{cases_lt, le-ltb, lt-ltb}
use Rattle.layout.specs.Layout.{Layout, wrapped, error_mapped, behind, FitsOption}
use Rattle.layout.specs.Exact.{IsExact, IsExactToEnd}
use Rattle.layout.proofs.Layouts.{both-exact, shaped-exact, wrapped-exact, checked-exact, where_set-exact, constant-exact, behind-exact, same-exact}
use Rattle.layout.proofs.TaggedExact.{as_variant-exact}
use Rattle.layout.proofs.ToEnd.{inside-exact}
use Rattle.bit_core.specs.Plain.{number}
use Rattle.bit_core.proofs.PlainFacts.{number-exact, flag-exact}
use Rattle.esc_value.specs.declared.latm_value.LatmValue.{LatmValue}
use Rattle.esc_value.specs.LatmValue.{IsWellFormed as IsLatmWellFormed}
use Rattle.esc_value.specs.LatmExact.{latm_value_exact}
use Rattle.asc.specs.declared.asc_config.Asc.{Asc}
use Rattle.asc.specs.Asc.{IsWellFormed as IsAscWellFormed}
use Rattle.asc.specs.AscExact.{asc_exact, asc_counted_exact}
use Rattle.latm.specs.declared.fault.MuxField.{MuxField}
use Rattle.latm.specs.declared.fault.MuxField.TheVariants as names
use Rattle.latm.specs.declared.fault.MuxFault.{MuxFault}
use Rattle.latm.specs.declared.mux_config.MuxConfig.{MuxConfig}
use Rattle.latm.specs.declared.other_length.OtherLength.{OtherLength}
use Rattle.latm.specs.declared.other_length.OtherLength.TheVariants.{Pairs, Value}
use Rattle.latm.specs.declared.pairs.Run.{Run}
use Rattle.latm.specs.Faults.{from_short, from_asc}
use Rattle.latm.specs.PairsExact.{run_exact, run_of}
use Rattle.latm.specs.MuxConfig.{IsOther, IsCounted, IsWellFormed, latm, out_of, fixed, of_version, short_at, asc_of, configuration, other_over, pairs, pairs_of, value_of, other_length, head, last, fields, mux_config}

mapped_ok : {A F G : Type 0} (wrap : F → G) (r : Result A F) (x : A) → error_mapped wrap r ≡ Ok x → r ≡ Ok x
mapped_ok {A} wrap (Ok y) x e = let same : y ≡ x = cc in ap (λ (z : A). Ok z) same
mapped_ok wrap (Err f) x e = absurd cc

mapped_err : {A F G : Type 0} (wrap : F → G) (r : Result A F) (g : G) → error_mapped wrap r ≡ Err g → (f : F) × (r ≡ Err f) × (g ≡ wrap f)
mapped_err wrap (Ok y) g e = absurd cc
mapped_err wrap (Err f) g e = let same : wrap f ≡ g = cc in (f, refl, sym same)

-- the faults of a text that is read to its end, seen as others
wrapped-to_end : {A F G : Type 0} (wrap : F → G) (H : Layout A F) → IsExactToEnd H → IsExactToEnd (wrapped wrap H)
wrapped-to_end {A} {F} {G} wrap H h = record {
  takes = λ r s v e. h.takes r s v (mapped_ok wrap (H.read r) (v, s) e);
  again = λ r v fits e. ap (error_mapped wrap) (h.again r v fits e);
  blames = λ r g e. let m = mapped_err wrap (H.read r) g e in (m.0, h.blames r m.0 m.1, m.2);
  only = λ r g bad. ap (error_mapped wrap) (h.only r bad.0 bad.1) ∙ ap (λ (d : G). Err d) (sym bad.2);
}

latm-exact : IsExact latm
latm-exact = wrapped-exact from_short _ latm_value_exact

fixed-exact : (name : MuxField) (n value : ℕ) → IsExact (fixed name n value)
fixed-exact name n value = constant-exact (out_of name) value _ (number-exact from_short n)

of_version-exact : (one : Bool) → IsExact (of_version one)
of_version-exact one = where_set-exact one _ (behind-exact _ _ (fixed-exact names.AudioMuxVersionA 1 0) latm-exact)

asc_of-exact : (o : Option LatmValue) → IsExact (asc_of o)
asc_of-exact None = wrapped-exact from_asc _ asc_exact
asc_of-exact (Some n) = inside-exact short_at n.value _ (wrapped-to_end from_asc _ asc_counted_exact)

configuration-exact : (one : Bool) → IsExact (configuration one)
configuration-exact one = both-exact _ _ (where_set-exact one _ latm-exact) asc_of-exact

over_none : (n : ℕ) → other_over n ≡ None → n ≤ 65535
over_none n e =
    elim (cases_lt 65535 n) [
      | inl lt ↦
          let reason : ℕ → MuxFault = out_of names.OtherDataLenBits in
          let some : other_over n ≡ Some reason = rw (lt-ltb 65535 n lt) refl in
          absurd cc
      | inr le ↦ le
    ]

none_over : (n : ℕ) → n ≤ 65535 → other_over n ≡ None
none_over n le = rw (le-ltb 65535 n le) refl

-- a run with a number that is not too large ends with its last pair
ended : (more : Bool) (n : ℕ) → (more ≡ true → 65535 < n) → n ≤ 65535 → false ≡ more
ended true n last le = absurd (let lt = last refl in omega arith)
ended false n last le = refl

pairs-exact : IsExact pairs
pairs-exact = shaped-exact _ _ _ (checked-exact (λ (w : Run). other_over w.bits) _ (wrapped-exact from_short _ run_exact))
    (λ a h. ap (λ (m : Bool). run_of a.count a.bits m) (ended a.more a.bits h.0.last (over_none a.bits h.1))) (λ b h. refl)

pairs_back : (v : OtherLength) (x : ℕ × ℕ) → pairs_of v ≡ Some x → Pairs x.0 x.1 ≡ v
pairs_back (Pairs count bits) x e = let same : (count, bits) ≡ x = cc in ap (λ (y : ℕ × ℕ). Pairs y.0 y.1) (sym same)
pairs_back (Value w) x e = absurd cc

value_back : (v : OtherLength) (x : LatmValue) → value_of v ≡ Some x → Value x ≡ v
value_back (Pairs count bits) x e = absurd cc
value_back (Value w) x e = let same : w ≡ x = cc in ap (λ (y : LatmValue). Value y) (sym same)

other_length-exact : (one : Bool) → IsExact (other_length one)
other_length-exact true = as_variant-exact _ value_of _ (checked-exact (λ (v : LatmValue). other_over v.value) _ latm-exact) (λ a. refl) value_back
other_length-exact false = as_variant-exact _ pairs_of _ pairs-exact (λ a. refl) pairs_back

head-exact : IsExact head
head-exact = both-exact _ _ (number-exact from_short 1) (λ version. both-exact _ _ (of_version-exact (version == 1)) (λ _.
    behind-exact _ _ (fixed-exact names.AllStreamsSameTimeFraming 1 1) (shaped-exact _ _ _ (both-exact _ _ (number-exact from_short 6) (λ _. both-exact _ _ (fixed-exact names.NumProgram 4 0) (λ _. fixed-exact names.NumLayer 3 0))) (λ a h. refl) (λ b h. refl))))

last-exact : (one : Bool) → IsExact (last one)
last-exact one = shaped-exact _ _ _
    (both-exact _ _ (flag-exact from_short) (λ there. both-exact _ _ (where_set-exact there _ (other_length-exact one)) (λ _. both-exact _ _ (flag-exact from_short) (λ there. where_set-exact there _ (number-exact from_short 8)))))
    (λ a h. rw (h.1.0.0, h.1.1.1.0) refl) (λ b h. refl)

fields-exact : IsExact fields
fields-exact = shaped-exact _ _ _ (both-exact _ _ head-exact (λ h. both-exact _ _ (configuration-exact (h.0 == 1)) (λ _. behind-exact _ _ (fixed-exact names.FrameLengthType 3 0) (both-exact _ _ (number-exact from_short 8) (λ _. last-exact (h.0 == 1))))))
    (λ a h. refl) (λ b h. refl)

tara_fits : (o : Option LatmValue) → FitsOption IsLatmWellFormed o → FitsOption (behind (fixed names.AudioMuxVersionA 1 0) latm).Fits o
tara_fits None h = tt
tara_fits (Some v) h = (((omega arith, refl), refl), h)

tara_well : (o : Option LatmValue) → FitsOption (behind (fixed names.AudioMuxVersionA 1 0) latm).Fits o → FitsOption IsLatmWellFormed o
tara_well None h = tt
tara_well (Some v) h = h.1

crc_fits : (o : Option ℕ) → FitsOption (λ c. c < 256) o → FitsOption (number from_short 8).Fits o
crc_fits None h = tt
crc_fits (Some v) h = (h, refl)

crc_well : (o : Option ℕ) → FitsOption (number from_short 8).Fits o → FitsOption (λ c. c < 256) o
crc_well None h = tt
crc_well (Some v) h = h.0

asc_fits : (one : Bool) (o : Option LatmValue) (v : Asc) → is_some o ≡ one → IsCounted o v → IsAscWellFormed v → (configuration one).Fits (o, v)
asc_fits one None v is h w = ((is, tt), (w, h))
asc_fits one (Some n) v is h w = ((is, h.0), (w, h.1))

asc_well : (one : Bool) (o : Option LatmValue) (v : Asc) → (configuration one).Fits (o, v) → (is_some o ≡ one) × IsCounted o v × IsAscWellFormed v
asc_well one None v h = (h.0.0, h.1.1, h.1.0)
asc_well one (Some n) v h = (h.0.0, (h.0.1, h.1.1), h.1.0)

other_fits : (one : Bool) (v : OtherLength) → IsOther one v → (other_length one).Fits v
other_fits true (Pairs count bits) h = absurd (let never = h.0 in cc)
other_fits false (Pairs count bits) h = (record { some = h.1; held = h.2; before = (let le = h.3 in omega arith); last = λ e. absurd cc }, none_over bits h.3)
other_fits true (Value v) h = (h.1, none_over v.value h.2)
other_fits false (Value v) h = absurd (let never = h.0 in cc)

other_well : (one : Bool) (v : OtherLength) → (other_length one).Fits v → IsOther one v
other_well true (Pairs count bits) h = absurd h
other_well false (Pairs count bits) h = (refl, h.0.some, h.0.held, over_none bits h.1)
other_well true (Value v) h = (refl, h.0, over_none v.value h.1)
other_well false (Value v) h = absurd h

others_fit : (one : Bool) (o : Option OtherLength) → FitsOption (IsOther one) o → FitsOption (other_length one).Fits o
others_fit one None h = tt
others_fit one (Some v) h = other_fits one v h

others_well : (one : Bool) (o : Option OtherLength) → FitsOption (other_length one).Fits o → FitsOption (IsOther one) o
others_well one None h = tt
others_well one (Some v) h = other_well one v h

pub fits_from : (v : MuxConfig) → IsWellFormed v → fields.Fits v
fits_from v w =
    let one = v.version == 1 in (
      ((w.version, refl), ((w.tara, tara_fits v.tara w.fullness_of_tara), (((omega arith, refl), refl), ((w.sub_frames, refl), (((omega arith, refl), refl), ((omega arith, refl), refl)))))),
      (asc_fits one v.asc_length v.asc w.asc_length w.counted w.asc, (((omega arith, refl), refl), ((w.fullness, refl), ((tt, refl), ((refl, others_fit one v.other w.other), ((tt, refl), (refl, crc_fits v.crc w.crc))))))),
    )

well : (v : MuxConfig) → fields.Fits v → IsWellFormed v
well v h =
    let one = v.version == 1 in
    let a = asc_well one v.asc_length v.asc h.1.0 in
    let t = h.1.1.1.1 in
    record {
      version = h.0.0.0;
      tara = h.0.1.0.0;
      fullness_of_tara = tara_well v.tara h.0.1.0.1;
      sub_frames = h.0.1.1.1.0.0;
      asc_length = a.0;
      counted = a.1;
      asc = a.2;
      fullness = h.1.1.1.0.0;
      other = others_well one v.other t.1.0.1;
      crc = crc_well v.crc t.1.1.1.1;
    }

pub mux_config_exact : IsExact mux_config
mux_config_exact = same-exact fields mux_config fields-exact (λ v w. (fits_from v w, refl)) (λ v h. (well v h, refl)) (λ r. refl) (λ at f t bad. bad) (λ at f t bad. bad)
