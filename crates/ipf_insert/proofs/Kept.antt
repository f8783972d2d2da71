-- What a target gives that keeps its rules.
use Rattle.std.proofs.Common.{◌≡◌, ℕ, ◌-◌, ◌≤◌, Bool, true, false, List, [], ◌∷◌, length, Option, Some, None, refl, sym, ap, subst, ◌∙◌, arith}
use Rattle.std.specs.Prelude.{◌||◌, ◌==◌, nat_lt, not, slice_get}
use Rattle.std.specs.Option.{option_map_or}
use Rattle.std.proofs.lemmas.Bool.{eqb-true}
use Rattle.std.proofs.lemmas.Bool.Decides.{nat_tests}
use Rattle.usac_cfg.specs.declared.usac_config.UsacConfig.{UsacConfig}
use Rattle.usac_frame.specs.declared.frame.Frame.{Frame}
use Rattle.usac_frame.specs.declared.part.ExtPart.{ExtPart}
use Rattle.usac_frame.specs.declared.part.ExtPart.TheVariants.{Absent, Present}
use Rattle.usac_frame.specs.AccessUnit.{IsFrame, unit_in}
use Rattle.usac_frame.specs.FrameFound.{frame_of_is}
use Rattle.ipf_frame.specs.Payload.{new_payload}
use Rattle.ipf_frame.specs.Slot.{slot_with, new_slot, IsOpen}
use Rattle.ipf_insert.specs.declared.fault.InsertFault.TheVariants.{NotIndependent, AlreadyPresent, TooEarly, FirstDependent, PayloadTooLong}
use Rattle.stream_edit.specs.Targets.{is_target}
use Rattle.ipf_insert.specs.Inserting.{Settled, payload_at}
use Rattle.ipf_insert.specs.Rules.{fault_if, au_at, is_absent, is_open, frame_of_target, units_of_target}
use Rattle.ipf_insert.specs.Steps.{IsKept, AreKept}
use Rattle.ipf_insert.proofs.Targets.{passed, unset}

is_set : (b : Bool) → not b ≡ false → b ≡ true
is_set true e = refl
is_set false e = absurd (let never : true ≡ false = e in cc)

absent : (o : Option ExtPart) → is_absent o ≡ true → o ≡ Some Absent
absent None e = absurd (let never : false ≡ true = e in cc)
absent (Some Absent) e = refl
absent (Some (Present form start stop payload)) e = absurd (let never : false ≡ true = e in cc)

-- the frame of the target has room for a preroll
pub open_frame : (i : Settled) (t : ℕ) (f : Frame) → frame_of_target i t ≡ None → IsFrame i.config (au_at i.aus t) f → IsOpen f
open_frame i t f kept is =
    let p = passed (fault_if (not (unit_in i.config (au_at i.aus t)).independent) (NotIndependent t)) _ kept in
    let open_there : is_open i.config (au_at i.aus t) ≡ true = is_set _ (unset _ (AlreadyPresent t) p.1) in
    let of_frame = ap (λ (o : Option Frame). option_map_or (λ (g : Frame). is_absent (slice_get g.leading 0)) o false) (frame_of_is.found i.config (au_at i.aus t) f is) in
    absent (slice_get f.leading 0) (sym of_frame ∙ open_there)

pub independent : (i : Settled) (t : ℕ) → units_of_target i t ≡ None → (unit_in i.config (au_at i.aus (t - i.count))).independent ≡ true
independent i t kept =
    let p = passed (fault_if (nat_lt t i.count) (TooEarly t)) _ kept in
    let q = passed (fault_if (not (unit_in i.config (au_at i.aus (t - i.count))).independent) (FirstDependent t)) _ p.1 in
    is_set _ (unset _ (FirstDependent t) q.0)

pub late : (i : Settled) (t : ℕ) → units_of_target i t ≡ None → i.count ≤ t
late i t kept =
    let p = passed (fault_if (nat_lt t i.count) (TooEarly t)) _ kept in
    let no : nat_lt t i.count ≡ false = unset _ (TooEarly t) p.0 in
    grind (arith, no, nat_tests)

pub few_bytes : (i : Settled) (t : ℕ) → units_of_target i t ≡ None → length (payload_at i t) ≤ 65788
few_bytes i t kept =
    let p = passed (fault_if (nat_lt t i.count) (TooEarly t)) _ kept in
    let q = passed (fault_if (not (unit_in i.config (au_at i.aus (t - i.count))).independent) (FirstDependent t)) _ p.1 in
    let no : nat_lt 65788 (length (payload_at i t)) ≡ false = unset _ (PayloadTooLong t) q.1 in
    grind (arith, no, nat_tests)

-- one of the targets keeps its rules
pub one_kept : (i : Settled) (targets : List ℕ) (t : ℕ) → AreKept i targets → is_target targets t ≡ true → IsKept i t
one_kept i [] t h e = absurd (let never : false ≡ true = e in cc)
one_kept i (x ∷ targets) t h e = by_first (x == t) refl (one_kept i targets t h.1)
  where
    by_first : (b : Bool) → (x == t) ≡ b → (is_target targets t ≡ true → IsKept i t) → IsKept i t
    by_first true q more = subst (λ (n : ℕ). IsKept i n) (eqb-true x t q) h.0
    by_first false q more = more (sym (ap (λ (b : Bool). b || is_target targets t) q) ∙ e)

-- what the code makes of a target is its slot
pub slot_is : (c : UsacConfig) (fade : Bool) (aus : List (List ℕ)) (au payload given : List ℕ) → payload ≡ new_payload c fade aus → given ≡ au → slot_with c payload given ≡ new_slot c fade aus au
unfolding new_slot
slot_is c fade aus au payload given p q = ap (λ (x : List ℕ). slot_with c x given) p ∙ ap (λ (x : List ℕ). slot_with c (new_payload c fade aus) x) q
