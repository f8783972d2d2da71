-- The payload of a new preroll, which is well formed.
use Rattle.std.proofs.Common.{◌≡◌, ℕ, zero, suc, ◌<◌, ◌≤◌, Bool, false, List, [], ◌∷◌, length, get_or, All, refl, sym, ap, subst, ◌∙◌, arith}
use Rattle.std.specs.Prelude.{map}
use Rattle.std.specs.List.{AllByRecursion}
use Rattle.std.proofs.lemmas.List.{length-map}
use Rattle.layout.specs.Text.{bits_of, pad}
use Rattle.layout.specs.Each.{FitEach}
use Rattle.usac_cfg.specs.declared.usac_config.UsacConfig.{UsacConfig}
use Rattle.usac_cfg.specs.Spelling.{usac_config}
use Rattle.usac_frame.specs.declared.frame.Frame.{Frame}
use Rattle.usac_frame.specs.AccessUnit.{IsFrame}
use Rattle.preroll.specs.declared.preroll.PreRoll.{PreRoll}
use Rattle.preroll.specs.PreRoll.{HasBytes, IsWellFormed, preroll_text}
use Rattle.ipf_frame.specs.Clean.{clean, IsClean}
use Rattle.ipf_frame.specs.Payload.{config_bytes, new_preroll, new_payload, IsNewPreRoll}
use Rattle.ipf_frame.specs.Laws.{AreFrames, AreSlots}
use Rattle.ipf_frame.proofs.CleanBytes.{pad_bits, pad_small, pad_back, clean_bytes, clean_made}

-- ---- the configuration

pub config_back : (c : UsacConfig) (bytes slice : List ℕ) → slice ≡ bytes → All (λ byte. byte < 256) slice → bits_of bytes ≡ pad (usac_config.spelling c) → bytes ≡ config_bytes c
unfolding config_bytes
config_back c bytes slice same small spelled = pad_back bytes slice (usac_config.spelling c) same small spelled

config_bits : (c : UsacConfig) → bits_of (config_bytes c) ≡ pad (usac_config.spelling c)
unfolding config_bytes
config_bits c = pad_bits (usac_config.spelling c)

config_small : (c : UsacConfig) → AllByRecursion (λ byte. byte < 256) (config_bytes c)
unfolding config_bytes
config_small c = pad_small (usac_config.spelling c)

-- ---- the access units

-- an access unit of a list is a frame, and a slot
pub frame_at : {X : Type 0} (c : UsacConfig) (now : X → List ℕ) (xs : List X) (i : ℕ) (d : X) → i < length xs → AreFrames c (map now xs) → (f : Frame) × IsFrame c (now (get_or xs i d)) f
frame_at c now [] i d lt are = absurd (omega (arith, lt))
frame_at c now (x ∷ xs) zero d lt are = are.0
frame_at c now (x ∷ xs) (suc i) d lt are = frame_at c now xs i d (omega (arith, lt)) are.1

pub slot_at : {X : Type 0} (now : X → List ℕ) (xs : List X) (i : ℕ) (d : X) → i < length xs → AreSlots (map now xs) → length (now (get_or xs i d)) ≤ 8191
slot_at now [] i d lt are = absurd (omega (arith, lt))
slot_at now (x ∷ xs) zero d lt are = are.0.0
slot_at now (x ∷ xs) (suc i) d lt are = slot_at now xs i d (omega (arith, lt)) are.1

units_small : (c : UsacConfig) (aus : List (List ℕ)) → AreFrames c aus → AreSlots aus → AllByRecursion (HasBytes 131070) (map (clean c) aus)
units_small c [] frames slots = tt
units_small c (u ∷ us) frames slots = (clean_bytes c u frames.0.0 frames.0.1 131070 (omega (arith, slots.0.0)) slots.0.1, units_small c us frames.1 slots.1)

units_clean : (c : UsacConfig) (aus : List (List ℕ)) → AreFrames c aus → FitEach (IsClean c) aus (map (clean c) aus)
units_clean c [] frames = tt
units_clean c (u ∷ us) frames = (clean_made c u frames.0.0 frames.0.1, units_clean c us frames.1)

-- ---- the preroll

module _ (c : UsacConfig) (fade : Bool) (aus : List (List ℕ)) (frames : AreFrames c aus) (slots : AreSlots aus) (few : length aus ≤ 18) (short : length (config_bytes c) ≤ 285) where
  pub new_well_formed : IsWellFormed (new_preroll c fade aus)
  new_well_formed = record {
    config = (short, config_small c);
    few = subst (λ (n : ℕ). n ≤ 18) (sym (length-map aus (clean c))) few;
    units = units_small c aus frames slots;
  }

  pub new_is : IsNewPreRoll c fade aus (new_preroll c fade aus)
  new_is = record {
    fits = new_well_formed;
    config = config_bits c;
    flag = refl;
    reserved = refl;
    units = units_clean c aus frames;
    tail = refl;
  }

-- the preroll that the code makes is it
pub made_preroll : (c : UsacConfig) (fade : Bool) (aus : List (List ℕ)) (config : List ℕ) (units : List (List ℕ)) (tail : List Bool) → config ≡ config_bytes c → units ≡ map (clean c) aus → tail ≡ []
    → (let p : PreRoll = record { config = config; fade = fade; reserved = false; units = units; tail = tail } in p) ≡ new_preroll c fade aus
made_preroll c fade aus config units tail same clean none = rw (same, clean, none) refl

pub made_well_formed : (c : UsacConfig) (fade : Bool) (aus : List (List ℕ)) (bytes : List ℕ) (p : PreRoll) → AreFrames c aus → AreSlots aus → length aus ≤ 18 → bytes ≡ config_bytes c → length bytes ≤ 285 → p ≡ new_preroll c fade aus → IsWellFormed p
made_well_formed c fade aus bytes p frames slots few is short e =
    subst (λ (q : PreRoll). IsWellFormed q) (sym e) (new_well_formed c fade aus frames slots few (subst (λ (xs : List ℕ). length xs ≤ 285) is short))

pub payload_back : (c : UsacConfig) (fade : Bool) (aus : List (List ℕ)) (p : PreRoll) (bytes slice : List ℕ) → p ≡ new_preroll c fade aus → slice ≡ bytes → All (λ byte. byte < 256) slice → bits_of bytes ≡ pad (preroll_text p) → bytes ≡ new_payload c fade aus
unfolding new_payload
payload_back c fade aus p bytes slice e same small spelled = pad_back bytes slice (preroll_text (new_preroll c fade aus)) same small (spelled ∙ ap (λ (q : PreRoll). pad (preroll_text q)) e)

pub payload_bits : (c : UsacConfig) (fade : Bool) (aus : List (List ℕ)) → bits_of (new_payload c fade aus) ≡ pad (preroll_text (new_preroll c fade aus))
unfolding new_payload
payload_bits c fade aus = pad_bits (preroll_text (new_preroll c fade aus))

pub payload_small : (c : UsacConfig) (fade : Bool) (aus : List (List ℕ)) → AllByRecursion (λ byte. byte < 256) (new_payload c fade aus)
unfolding new_payload
payload_small c fade aus = pad_small (preroll_text (new_preroll c fade aus))
