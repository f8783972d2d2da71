-- A target's new frame carries the units of its access units.
use Rattle.std.proofs.Common.{◌≡◌, ℕ, ◌-◌, ◌%◌, ◌≤◌, Bool, true, false, List, [], ◌∷◌, ◌++◌, length, replicate, Option, Some, None, refl, sym, ap, subst, ◌∙◌, append_assoc, arith}
use Rattle.std.specs.Prelude.{map, slice_get, if◌then◌else◌}
use Rattle.std.specs.Option.{option_map_or}
use Rattle.std.proofs.lemmas.List.{length-replicate, length-append}
use Rattle.layout.specs.Text.{bits_of, pad}
use Rattle.layout.specs.Each.{FitEach}
use Rattle.layout.proofs.TextLemmas.{length-bits_of}
use Rattle.usac_cfg.specs.declared.usac_config.UsacConfig.{UsacConfig}
use Rattle.usac_cfg.specs.UsacConfig.{IsWellFormed, declares_preroll}
use Rattle.usac_cfg.specs.Spelling.{usac_config}
use Rattle.usac_frame.specs.declared.frame.Frame.{Frame}
use Rattle.usac_frame.specs.declared.part.ExtPart.{ExtPart}
use Rattle.usac_frame.specs.declared.part.ExtPart.TheVariants.{Absent}
use Rattle.usac_frame.specs.AccessUnit.{unit_in}
use Rattle.usac_frame.specs.FrameFound.{frame_of_is}
use Rattle.usac_frame.specs.Laws.{with_zeros}
use Rattle.usac_frame.specs.Units.{UnitValue, part_bytes, payload_length, payload_of, first_payload, is_whole_part, is_whole}
use Rattle.preroll.specs.declared.preroll.PreRoll.{PreRoll}
use Rattle.preroll.specs.PreRoll.{counted_bytes, preroll_text, IsWellFormed as IsPreRollWellFormed}
use Rattle.preroll.specs.Payload.{preroll_of}
use Rattle.preroll.specs.PayloadFound.{preroll_of_is}
use Rattle.preroll.specs.Laws.{with_zeros as preroll_with_zeros}
use Rattle.preroll.specs.Carried.{IsConfigIn, starts_independent, Carries}
use Rattle.preroll.specs.Steps.{IsOpened, AreFrames, HaveNoPreRoll}
use Rattle.preroll.proofs.Configs.{one_config}
use Rattle.preroll.proofs.UnitFrames.{units_are, starts_are}
use Rattle.preroll.proofs.Tried.{pass_6, pass_7, pass_8, pass_9, are_carried, carries}
use Rattle.ipf_frame.specs.Frames.{first_part, with_first, new_part}
use Rattle.ipf_frame.specs.Clean.{IsClean}
use Rattle.ipf_frame.specs.Laws.{FirstIndependent, TargetsCarry}
use Rattle.ipf_frame.proofs.WrittenFrames.{written}
use Rattle.ipf_frame.proofs.NewParts.{new_fits}
use Rattle.ipf_frame.proofs.BareFrames.{bare}

-- the carried access units are frames, with the units of those that they are carried for, and have no preroll
record AreBare (c : UsacConfig) (aus us : List (List ℕ)) : Type 0 where
  frames : List Frame
  are : AreFrames c us frames
  units : map (unit_in c) us ≡ map (unit_in c) aus
  none : HaveNoPreRoll c frames

all_bare : (c : UsacConfig) (aus us : List (List ℕ)) → declares_preroll c ≡ true → FitEach (IsClean c) aus us → AreBare c aus us
all_bare c [] [] d h = record { frames = []; are = refl; units = refl; none = tt }
all_bare c [] (u ∷ us) d h = absurd h
all_bare c (a ∷ aus) [] d h = absurd h
all_bare c (a ∷ aus) (u ∷ us) d h =
    let b = bare c a u d h.0 in
    let more = all_bare c aus us d h.1 in
    let found = frame_of_is.found c u b.frame b.is in
    record {
      frames = b.frame ∷ more.frames;
      are = rw (found, more.are) refl;
      units = rw (b.unit, more.units) refl;
      none = (b.none, more.none);
    }

starts : (c : UsacConfig) (g : Frame) (aus us : List (List ℕ)) → declares_preroll c ≡ true → FitEach (IsClean c) aus us → FirstIndependent c aus → starts_independent c g us ≡ true
starts c g [] us d h first = absurd first
starts c g (a ∷ aus) [] d h first = absurd h
starts c g (a ∷ aus) (u ∷ us) d h first = ap (λ (x : UnitValue). x.independent) (let b = bare c a u d h.0 in b.unit) ∙ first

preroll_behind : (p : PreRoll) (n : ℕ) → preroll_text p ++ replicate n false ≡ preroll_text (preroll_with_zeros p n)
preroll_behind p n = simp append_assoc

config_in : (c : UsacConfig) (bytes : List ℕ) → IsWellFormed c → bits_of bytes ≡ pad (usac_config.spelling c) → IsConfigIn bytes c
config_in c bytes w text = record {
  behind = replicate ((8 - length (usac_config.spelling c) % 8) % 8) false;
  fits = w;
  spelled = text;
  few = long ((8 - length (usac_config.spelling c) % 8) % 8) (omega arith);
}
  where
    long : (n : ℕ) → n ≤ 7 → length (replicate n false) ≤ 7
    long n le = simp length-replicate le

module _ (c : UsacConfig) (f : Frame) (payload : List ℕ) (n : ℕ) (declared : declares_preroll c ≡ true) (absent : slice_get f.leading 0 ≡ Some Absent) where
  first_is : (ps : List ExtPart) → slice_get ps 0 ≡ Some Absent → slice_get (first_part (new_part payload) ps) 0 ≡ Some (new_part payload)
  first_is [] e = absurd (let never : None ≡ Some Absent = e in cc)
  first_is (q ∷ ps) e = refl

  pub some_payload : payload_length c (with_zeros (with_first (new_part payload) f) n) ≡ length payload
  some_payload = ap (λ (b : Bool). if b then option_map_or part_bytes (slice_get (first_part (new_part payload) f.leading) 0) 0 else 0) declared ∙ ap (λ (o : Option ExtPart). option_map_or part_bytes o 0) (first_is f.leading absent)

  pub whole : is_whole (with_zeros (with_first (new_part payload) f) n) ≡ true
  whole = ap (λ (o : Option ExtPart). option_map_or is_whole_part o false) (first_is f.leading absent)

  payload_is : first_payload (with_zeros (with_first (new_part payload) f) n) ≡ payload
  payload_is = ap (λ (o : Option ExtPart). option_map_or payload_of o []) (first_is f.leading absent)

some_middle : (x : List Bool) (b : Bool) (y z : List Bool) → 1 ≤ length ((x ++ (b ∷ y)) ++ z)
some_middle x b y z = omega (arith, length-append (x ++ (b ∷ y)) z, length-append x (b ∷ y))

-- a preroll has some bits
pub no_payload : (payload : List ℕ) (p : PreRoll) → length payload ≡ 0 → bits_of payload ≡ pad (preroll_text p) → ⊥
no_payload payload p none text =
    let some : 1 ≤ length (pad (preroll_text p)) = some_middle ((counted_bytes 4 4 8).spelling p.config) p.fade _ _ in
    omega (arith, some, none, ap (λ (t : List Bool). length t) text, length-bits_of payload)

pub targets_carry : TargetsCarry
targets_carry c fade aus au new w declared first t =
    let f = t.frame in
    let made = written c f (new_part t.payload) new declared t.is.fits (new_fits t.payload t.few t.bytes) t.text in
    let g = with_zeros (with_first (new_part t.payload) f) made.zeros in
    let n = (8 - length (preroll_text t.preroll) % 8) % 8 in
    let p = preroll_with_zeros t.preroll n in
    let k = t.carries in
    let fits : IsPreRollWellFormed p = record { config = k.fits.config; few = k.fits.few; units = k.fits.units } in
    let is : preroll_of t.payload ≡ Some p = preroll_of_is.found t.payload p fits (t.spelled ∙ preroll_behind t.preroll n) in
    let some : payload_length c g ≡ 0 → ⊥ = λ e. no_payload t.payload t.preroll (sym (some_payload c f t.payload made.zeros declared t.absent) ∙ e) t.spelled in
    let o : IsOpened c g p = record { some = some; whole = whole c f t.payload made.zeros declared t.absent; is = ap preroll_of (payload_is c f t.payload made.zeros declared t.absent) ∙ is } in
    let own = config_in c p.config w k.config in
    let config = pass_6 c g p o (λ bad. bad.1 c own) (λ bad. bad.2 (one_config p.config bad.0 c bad.1 own)) in
    let b = all_bare c aus p.units declared k.units in
    let seven = pass_7 c g p b.frames o config b.are in
    let eight = pass_8 c g p b.frames o seven b.are b.none in
    let nine = pass_9 c g p b.frames o eight b.are (starts_are c g p.units b.frames b.are ∙ starts c g aus p.units declared k.units first) in
    let units = sym b.units ∙ sym (units_are c p.units b.frames b.are) in
    let done = carries c g p b.frames (map (unit_in c) aus) o (are_carried c g p b.frames nine b.are) units in
    (g, made.is, subst (λ (x : Bool). Carries c g x (map (unit_in c) aus)) k.flag done)
