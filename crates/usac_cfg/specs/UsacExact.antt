-- A configuration is read exactly.
use Rattle.std.proofs.Common.{◌≡◌, ℕ, zero, suc, ◌+◌, ◌-◌, ◌<◌, ◌≤◌, Bool, true, false, List, [], ◌∷◌, length, Option, Some, None, refl, sym, ap, ◌∙◌, arith, inl, inr, add-one}
use Rattle.std.specs.Prelude.{◌⊎◌, is_some, unwrap_or, nat_lt, ◌==◌, ◌||◌, if◌then◌else◌}
use Rattle.std.specs.List.{AllByRecursion}
use Rattle.std.proofs.lemmas.Bool.{cases_lt, ne_eqb, le-ltb, lt-ltb, eqb-true}
use Rattle.std.proofs.lemmas.List.{get_or_past}
use Rattle.layout.specs.Layout.{FitsOption}
use Rattle.layout.specs.Exact.{IsExact}
use Rattle.layout.proofs.Layouts.{both-exact, shaped-exact, wrapped-exact, checked-exact, where_set-exact, known-exact, times-exact, same-exact, some_is}
use Rattle.layout.proofs.TaggedExact.{tagged-exact, as_variant-exact}
use Rattle.layout.proofs.Every.{all_so}
use Rattle.bit_core.proofs.PlainFacts.{bits-exact, number-exact, flag-exact, run_of_bytes-exact}
use Rattle.bit_core.specs.Plain.{number}
use Rattle.esc_value.specs.EscapedExact.{escaped_value-exact}
use Rattle.tables.specs.Tables.{rates, frames, channels as channel_table, at_index}
use Rattle.sbr_mps.specs.declared.core_config.CoreConfig.{CoreConfig}
use Rattle.sbr_mps.specs.declared.sbr.SbrConfig.{SbrConfig}
use Rattle.sbr_mps.specs.declared.mps.Mps212.{Mps212}
use Rattle.sbr_mps.specs.Exact.{core_config_exact, sbr_config_exact, mps212_exact}
use Rattle.usac_cfg.specs.declared.extension_element.ExtConfig.{ExtConfig}
use Rattle.usac_cfg.specs.declared.config_extension.ConfigExt.{ConfigExt}
use Rattle.usac_cfg.specs.declared.element_config.ElementConfig.{ElementConfig}
use Rattle.usac_cfg.specs.declared.element_config.ElementConfig.TheVariants.{Single, Pair, Lfe, Ext}
use Rattle.usac_cfg.specs.declared.usac_config.UsacConfig.{UsacConfig}
use Rattle.usac_cfg.specs.declared.faults.CfgFault.{CfgFault}
use Rattle.usac_cfg.specs.declared.faults.CfgFault.TheVariants as faults
use Rattle.usac_cfg.specs.Faults.{from_short, from_read}
use Rattle.usac_cfg.specs.ExtensionElement as ext
use Rattle.usac_cfg.specs.ElementConfig as element
use Rattle.usac_cfg.specs.ConfigExtension as config
use Rattle.usac_cfg.specs.UsacConfig.{IsWellFormed, HasIndices, HasLists, IsExplicit, ArePositions, is_rate, is_frame, is_channels, has_sbr}
use Rattle.usac_cfg.specs.Spelling.{rate_refused, zero_refused, frame_refused, channel_refused, count_refused, elements_refused, explicit, positions, elements, fields, usac_config}

-- ---- extension elements

abbrev flag_and : Bool → Option ℕ → Bool × Option ℕ
flag_and b o = (b, o)

default_back : (b : Bool) (o : Option ℕ) → is_some o ≡ b → flag_and (nat_lt 0 (ext.decoded o)) (ext.coded (ext.decoded o)) ≡ flag_and b o
default_back b None e = ap (λ (x : Bool). flag_and x None) e
default_back b (Some n) e = rw (add-one, lt-ltb 0 (suc n) (omega arith)) (ap (λ (x : Bool). flag_and x (Some n)) e)

default_there : (n : ℕ) → ext.decoded (ext.coded n) ≡ n
default_there zero = refl
default_there (suc n) = omega arith

default_length-exact : IsExact ext.default_length
default_length-exact = shaped-exact _ _ _ (both-exact _ _ (flag-exact from_short) (λ there. where_set-exact there _ (escaped_value-exact from_short 8 16 0))) (λ a h. default_back a.0 a.1 h.1.0) (λ n h. default_there n)

ext_fields-exact : IsExact ext.fields
ext_fields-exact = shaped-exact _ _ _ (
    both-exact _ _ (escaped_value-exact from_short 4 8 16) (λ _. both-exact _ _ (escaped_value-exact from_short 4 8 16) (λ n. both-exact _ _ default_length-exact (λ _. both-exact _ _ (flag-exact from_short) (λ _. run_of_bytes-exact from_read n)))))
    (λ a h. rw h.1.1.1.1.0 refl) (λ b h. refl)

default_fits : (n : ℕ) → n ≤ 65791 → ext.default_length.Fits n
default_fits zero le = ((tt, refl), (refl, tt))
default_fits (suc n) le = ((tt, refl), (sym (lt-ltb 0 (suc n) (omega arith)), omega arith))

default_small : (n : ℕ) → ext.default_length.Fits n → n ≤ 65791
default_small zero h = omega arith
default_small (suc n) h = let le : n ≤ 65790 = h.1.1 in omega arith

ext_fits : (v : ExtConfig) → ext.IsWellFormed v → ext.fields.Fits v
ext_fits v w = (w.kind, (w.length, (default_fits v.default_length w.default_length, ((tt, refl), (refl, all_so _ _ (λ b lt. (lt, refl)) v.bytes w.bytes)))))

ext_well : (v : ExtConfig) → ext.fields.Fits v → ext.IsWellFormed v
ext_well v h = record {
  kind = h.0;
  length = h.1.0;
  default_length = default_small v.default_length h.1.1.0;
  bytes = all_so _ _ (λ b fits. fits.0) v.bytes h.1.1.1.1.1;
}

pub extension_element_exact : IsExact ext.extension_element
extension_element_exact = same-exact ext.fields ext.extension_element ext_fields-exact (λ v w. (ext_fits v w, refl)) (λ v h. (ext_well v h, refl)) (λ r. refl) (λ at f t bad. bad) (λ at f t bad. bad)

-- ---- elements

stereo-exact : (b : Bool) → IsExact (element.stereo b)
stereo-exact true = bits-exact 2
stereo-exact false = known-exact 0

single_back : (v : ElementConfig) (a : CoreConfig × Option SbrConfig) → element.single_of v ≡ Some a → Single a.0 a.1 ≡ v
single_back (Single c s) a e = let p = some_is (c, s) a e in ap (λ (x : CoreConfig × Option SbrConfig). Single x.0 x.1) (sym p)
single_back (Pair c s n m) a e = absurd cc
single_back Lfe a e = absurd cc
single_back (Ext x) a e = absurd cc

pair_back : (v : ElementConfig) (a : CoreConfig × (Option SbrConfig × (ℕ × Option Mps212))) → element.pair_of v ≡ Some a → Pair a.0 a.1.0 a.1.1.0 a.1.1.1 ≡ v
pair_back (Single c s) a e = absurd cc
pair_back (Pair c s n m) a e = let p = some_is (c, (s, (n, m))) a e in ap (λ (x : CoreConfig × (Option SbrConfig × (ℕ × Option Mps212))). Pair x.0 x.1.0 x.1.1.0 x.1.1.1) (sym p)
pair_back Lfe a e = absurd cc
pair_back (Ext x) a e = absurd cc

ext_back : (v : ElementConfig) (a : ExtConfig) → element.ext_of v ≡ Some a → Ext a ≡ v
ext_back (Single c s) a e = absurd cc
ext_back (Pair c s n m) a e = absurd cc
ext_back Lfe a e = absurd cc
ext_back (Ext x) a e = let p = some_is x a e in ap (λ (y : ExtConfig). Ext y) (sym p)

single-exact : (b : Bool) → IsExact (element.single b)
single-exact b = as_variant-exact _ _ _ (both-exact _ _ core_config_exact (λ _. where_set-exact b _ sbr_config_exact)) (λ a. refl) single_back

pair-exact : (b : Bool) → IsExact (element.pair b)
pair-exact b = as_variant-exact _ _ _ (
    both-exact _ _ core_config_exact (λ _. both-exact _ _ (where_set-exact b _ sbr_config_exact) (λ _. both-exact _ _ (stereo-exact b) (λ n. where_set-exact (nat_lt 0 n) _ (mps212_exact n)))))
    (λ a. refl) pair_back

body-exact : (b : Bool) (n : ℕ) → IsExact (element.body b n)
body-exact b zero = wrapped-exact from_short _ (single-exact b)
body-exact b (suc zero) = wrapped-exact from_short _ (pair-exact b)
body-exact b (suc (suc zero)) = known-exact Lfe
body-exact b (suc (suc (suc n))) = as_variant-exact _ _ _ extension_element_exact (λ a. refl) ext_back

-- the type of what stands behind a type
tie : (b : Bool) (n : ℕ) (v : ElementConfig) → n < 4 → (element.body b n).Fits v → element.kind_of v ≡ n
tie b zero (Single c s) lt fits = refl
tie b zero (Pair c s n m) lt fits = absurd fits
tie b zero Lfe lt fits = absurd fits
tie b zero (Ext e) lt fits = absurd fits
tie b (suc zero) (Single c s) lt fits = absurd fits
tie b (suc zero) (Pair c s n m) lt fits = refl
tie b (suc zero) Lfe lt fits = absurd fits
tie b (suc zero) (Ext e) lt fits = absurd fits
tie b (suc (suc zero)) v lt fits = ap element.kind_of fits
tie b (suc (suc (suc n))) (Single c s) lt fits = absurd fits
tie b (suc (suc (suc n))) (Pair c s k m) lt fits = absurd fits
tie b (suc (suc (suc n))) Lfe lt fits = absurd fits
tie b (suc (suc (suc n))) (Ext e) lt fits = omega arith

element_fields-exact : (b : Bool) → IsExact (element.fields b)
element_fields-exact b = tagged-exact element.kind_of _ _ (number-exact from_short 2) (body-exact b) (λ n v fits inner. tie b n v (let lt : n < 4 = fits.0 in lt) inner)

stereo_fits : (b : Bool) (n : ℕ) → element.IsStereo b n → (element.stereo b).Fits n
stereo_fits true n h = (h, refl)
stereo_fits false n h = h

stereo_well : (b : Bool) (n : ℕ) → (element.stereo b).Fits n → element.IsStereo b n
stereo_well true n h = h.0
stereo_well false n h = h

element_fits : (b : Bool) (v : ElementConfig) → element.IsWellFormed b v → (element.fields b).Fits v
element_fits b (Single c s) w = ((omega arith, refl), (((tt, refl), (tt, refl)), w))
element_fits b (Pair c s n m) w = ((omega arith, refl), (((tt, refl), (tt, refl)), (w.0, (stereo_fits b n w.1, w.2))))
element_fits b Lfe w = ((omega arith, refl), refl)
element_fits b (Ext e) w = ((omega arith, refl), w)

element_well : (b : Bool) (v : ElementConfig) → (element.fields b).Fits v → element.IsWellFormed b v
element_well b (Single c s) h = h.1.1
element_well b (Pair c s n m) h = (h.1.1.0, stereo_well b n h.1.1.1.0, h.1.1.1.1)
element_well b Lfe h = tt
element_well b (Ext e) h = h.1

pub element_exact : (b : Bool) → IsExact (element.element b)
element_exact b = same-exact (element.fields b) (element.element b) (element_fields-exact b) (λ v w. (element_fits b v w, refl)) (λ v h. (element_well b v h, refl)) (λ r. refl) (λ at f t bad. bad) (λ at f t bad. bad)

-- ---- extensions of a configuration

config_fields-exact : IsExact config.fields
config_fields-exact = shaped-exact _ _ _ (both-exact _ _ (escaped_value-exact from_short 4 8 16) (λ _. both-exact _ _ (escaped_value-exact from_short 4 8 16) (λ n. run_of_bytes-exact from_read n))) (λ a h. rw h.1.1.0 refl) (λ b h. refl)

config_fits : (v : ConfigExt) → config.IsWellFormed v → config.fields.Fits v
config_fits v w = (w.kind, (w.length, (refl, all_so _ _ (λ b lt. (lt, refl)) v.bytes w.bytes)))

config_well : (v : ConfigExt) → config.fields.Fits v → config.IsWellFormed v
config_well v h = record { kind = h.0; length = h.1.0; bytes = all_so _ _ (λ b fits. fits.0) v.bytes h.1.1.1 }

pub config_extension_exact : IsExact config.config_extension
config_extension_exact = same-exact config.fields config.config_extension config_fields-exact (λ v w. (config_fits v w, refl)) (λ v h. (config_well v h, refl)) (λ r. refl) (λ at f t bad. bad) (λ at f t bad. bad)

some_extensions-exact : IsExact config.some_extensions
some_extensions-exact = shaped-exact _ _ _ (both-exact _ _ (escaped_value-exact from_short 2 4 8) (λ n. times-exact (n + 1) _ config_extension_exact)) (λ a h. let k : length a.1 - 1 ≡ a.0 = omega (arith, h.1.0) in rw k refl) (λ b h. refl)

abbrev flag_with : Bool → Option (List ConfigExt) → Bool × Option (List ConfigExt)
flag_with b o = (b, o)

there_back : (b : Bool) (o : Option (List ConfigExt)) → is_some o ≡ b → FitsOption config.some_extensions.Fits o → flag_with (config.is_there (unwrap_or o [])) (config.unless_empty (unwrap_or o [])) ≡ flag_with b o
there_back b None e fits = ap (λ (x : Bool). flag_with x None) e
there_back b (Some []) e fits = absurd (let none : 0 ≡ 0 - 1 + 1 = fits.1.0 in omega arith)
there_back b (Some (x ∷ xs)) e fits = ap (λ (y : Bool). flag_with y (Some (x ∷ xs))) e

there_again : (xs : List ConfigExt) → unwrap_or (config.unless_empty xs) [] ≡ xs
there_again [] = refl
there_again (x ∷ xs) = refl

extensions-exact : IsExact config.extensions
extensions-exact = shaped-exact _ _ _ (both-exact _ _ (flag-exact from_short) (λ there. where_set-exact there _ some_extensions-exact)) (λ a h. there_back a.0 a.1 h.1.0 h.1.1) (λ b h. there_again b)

extensions_fit : (xs : List ConfigExt) → length xs ≤ 274 → AllByRecursion config.IsWellFormed xs → config.extensions.Fits xs
extensions_fit [] few h = ((tt, refl), (refl, tt))
extensions_fit (x ∷ xs) few h = ((tt, refl), (refl, (omega (arith, few), (omega arith, h))))

extensions_well : (xs : List ConfigExt) → config.extensions.Fits xs → (length xs ≤ 274) × AllByRecursion config.IsWellFormed xs
extensions_well [] h = (omega arith, tt)
extensions_well (x ∷ xs) h = let less : length (x ∷ xs) - 1 ≤ 273 = h.1.1.0 in (omega (arith, less), h.1.1.1.1)

-- ---- configurations

explicit-exact : (b : Bool) → IsExact (explicit b)
explicit-exact true = checked-exact zero_refused _ (number-exact from_short 24)
explicit-exact false = known-exact 0

positions-exact : (b : Bool) → IsExact (positions b)
positions-exact true = shaped-exact _ _ _ (both-exact _ _ (checked-exact count_refused _ (escaped_value-exact from_short 5 8 16)) (λ n. times-exact n (number from_short 5) (number-exact from_short 5))) (λ a h. rw h.1.0 refl) (λ b h. refl)
positions-exact false = known-exact []

elements-exact : (b : Bool) → IsExact (elements b)
elements-exact b = shaped-exact _ _ _ (both-exact _ _ (checked-exact elements_refused _ (escaped_value-exact from_short 4 8 16)) (λ n. times-exact (n + 1) _ (element_exact b))) (λ a h. let k : length a.1 - 1 ≡ a.0 = omega (arith, h.1.0) in rw k refl) (λ b h. refl)

fields-exact : IsExact fields
fields-exact = shaped-exact _ _ _ (
    both-exact _ _ (checked-exact rate_refused _ (number-exact from_short 5)) (λ index. both-exact _ _ (explicit-exact (index == 31)) (λ _. both-exact _ _ (checked-exact frame_refused _ (number-exact from_short 3)) (λ frame_index.
    both-exact _ _ (checked-exact channel_refused _ (number-exact from_short 5)) (λ channel_index. both-exact _ _ (positions-exact (channel_index == 0)) (λ _. both-exact _ _ (elements-exact (has_sbr frame_index)) (λ _. extensions-exact)))))))
    (λ a h. refl) (λ b h. refl)

-- a value that a test lets pass, or that it stops
passes : {A : Type 0} (b : Bool) (x : A) → (if b then None else Some x) ≡ None → b ≡ true
passes true x e = refl
passes false x e = absurd cc

passed : {A : Type 0} (b : Bool) (x : A) → b ≡ true → (if b then None else Some x) ≡ None
passed b x e = rw e refl

stops : {A : Type 0} (b : Bool) (x : A) → (if b then Some x else None) ≡ None → b ≡ false
stops true x e = absurd cc
stops false x e = refl

at_most : (m n : ℕ) → nat_lt m n ≡ false → n ≤ m
at_most m n e = elim (cases_lt m n) [
  | inl lt ↦ absurd (let never : true ≡ false = sym (lt-ltb m n lt) ∙ e in cc)
  | inr le ↦ le
]

either : (a b : Bool) → (a || b) ≡ true → (a ≡ true) ⊎ (b ≡ true)
either true b e = inl refl
either false b e = inr e

-- where something stands in a table
within : {A : Type 0} (table : List (Option A)) (n : ℕ) → is_some (at_index table n) ≡ true → n < length table
within {A} table n e =
    elim (cases_lt n (length table)) [
      | inl lt ↦ lt
      | inr le ↦ absurd (let none : at_index table n ≡ None = get_or_past table n None le in let never : false ≡ true = ap is_some (sym none) ∙ e in cc)
    ]

pub rate_small : (n : ℕ) → is_rate n ≡ true → n < 32
rate_small n e = elim (either (is_some (at_index rates n)) (n == 31) e) [
  | inl a ↦ let lt : n < 28 = within rates n a in omega arith
  | inr b ↦ let same = eqb-true n 31 b in omega arith
]

pub frame_small : (n : ℕ) → is_frame n ≡ true → n < 8
frame_small n e = let lt : n < 5 = within frames n e in omega arith

pub channel_small : (n : ℕ) → is_channels n ≡ true → n < 32
channel_small n e = elim (either (is_some (at_index channel_table n)) (n == 0) e) [
  | inl a ↦ let lt : n < 14 = within channel_table n a in omega arith
  | inr b ↦ let same = eqb-true n 0 b in omega arith
]

not_zero : (n : ℕ) → 1 ≤ n → zero_refused n ≡ None
not_zero n le = rw (ne_eqb n 0 (λ e. omega arith)) refl

is_not_zero : (n : ℕ) → zero_refused n ≡ None → 1 ≤ n
is_not_zero zero e = absurd cc
is_not_zero (suc n) e = omega arith

explicit_fits : (b : Bool) (n : ℕ) → IsExplicit b n → (explicit b).Fits n
explicit_fits true n h = ((h.1, refl), not_zero n h.0)
explicit_fits false n h = h

explicit_well : (b : Bool) (n : ℕ) → (explicit b).Fits n → IsExplicit b n
explicit_well true n h = (is_not_zero n h.1, h.0.0)
explicit_well false n h = h

counted : (n : ℕ) → 1 ≤ n → n ≤ 64 → count_refused n ≡ None
counted n some few = rw (ne_eqb n 0 (λ e. omega arith), le-ltb 64 n few) refl

is_counted : (n : ℕ) → count_refused n ≡ None → (1 ≤ n) × (n ≤ 64)
is_counted zero e = absurd cc
is_counted (suc n) e =
    let reason : ℕ → CfgFault = λ at. faults.TooManyChannels at in
    let some = ne_eqb (suc n) 0 (λ h. omega arith) in
    let few = rw some at e in
    (omega arith, at_most 64 (suc n) (stops (nat_lt 64 (suc n)) reason few))

positions_fit : (b : Bool) (ps : List ℕ) → ArePositions b ps → (positions b).Fits ps
positions_fit true ps h = ((omega (arith, h.1), counted (length ps) h.0 h.1), (refl, all_so _ _ (λ p lt. (lt, refl)) ps h.2))
positions_fit false ps h = h

positions_well : (b : Bool) (ps : List ℕ) → (positions b).Fits ps → ArePositions b ps
positions_well true ps h = let n = is_counted (length ps) h.0.1 in (n.0, n.1, all_so _ _ (λ p fits. fits.0) ps h.1.1)
positions_well false ps h = h

few_elements : (n : ℕ) → n ≤ 63 → elements_refused n ≡ None
few_elements n le = rw (le-ltb 63 n le) refl

are_few : (n : ℕ) → elements_refused n ≡ None → n ≤ 63
are_few n e =
    let reason : ℕ → CfgFault = λ at. faults.TooManyElements at in
    at_most 63 n (stops (nat_lt 63 n) reason e)

-- the well formed configurations are those of the fields
usac_fits : (c : UsacConfig) → IsWellFormed c → fields.Fits c
usac_fits c w = (
  ((rate_small c.rate_index w.indices.rate, refl), passed (is_rate c.rate_index) _ w.indices.rate),
  (
    explicit_fits (c.rate_index == 31) c.rate_explicit w.indices.explicit,
    (
      ((frame_small c.frame_index w.indices.frame, refl), passed (is_frame c.frame_index) _ w.indices.frame),
      (
        ((channel_small c.channel_index w.indices.channel, refl), passed (is_channels c.channel_index) _ w.indices.channel),
        (
          positions_fit (c.channel_index == 0) c.positions w.indices.positions,
          (
            ((omega (arith, w.lists.few), few_elements (length c.elements - 1) (omega (arith, w.lists.few))), (omega (arith, w.lists.some), w.lists.elements)),
            extensions_fit c.extensions w.lists.few_extensions w.lists.extensions,
          ),
        ),
      ),
    ),
  ),
)

usac_well : (c : UsacConfig) → fields.Fits c → IsWellFormed c
usac_well c h =
    let channel = h.1.1.1.0 in
    let es = h.1.1.1.1.1.0 in
    let few = are_few (length c.elements - 1) es.0.1 in
    let more = extensions_well c.extensions h.1.1.1.1.1.1 in
    let indices : HasIndices c = record {
      rate = passes (is_rate c.rate_index) _ h.0.1;
      explicit = explicit_well (c.rate_index == 31) c.rate_explicit h.1.0;
      frame = passes (is_frame c.frame_index) _ h.1.1.0.1;
      channel = passes (is_channels c.channel_index) _ channel.1;
      positions = positions_well (c.channel_index == 0) c.positions h.1.1.1.1.0;
    } in
    let lists : HasLists c = record {
      some = omega (arith, es.1.0);
      few = omega (arith, few);
      elements = es.1.1;
      few_extensions = more.0;
      extensions = more.1;
    } in
    record { indices = indices; lists = lists }

pub usac_config_exact : IsExact usac_config
usac_config_exact = same-exact fields usac_config fields-exact (λ c w. (usac_fits c w, refl)) (λ c h. (usac_well c h, refl)) (λ r. refl) (λ at f t bad. bad) (λ at f t bad. bad)
