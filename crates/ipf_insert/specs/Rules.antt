-- Why nothing is inserted: the first rule that applies. That the rules go in this order is this project's own.
use Rattle.std.specs.Prelude.{◌+◌, ◌-◌, ℕ, suc, Bool, true, false, not, ◌||◌, List, [], ◌∷◌, ◌++◌, length, Option, Some, None, slice_get, ◌==◌, nat_lt, if◌then◌else◌}
use Rattle.std.specs.Option.{option_map, option_map_or}
use Rattle.usac_cfg.specs.declared.usac_config.UsacConfig.{UsacConfig}
use Rattle.usac_cfg.specs.UsacConfig.{declares_preroll}
use Rattle.usac_cfg.specs.Same.{same}
use Rattle.usac_frame.specs.declared.frame.Frame.{Frame}
use Rattle.usac_frame.specs.declared.part.ExtPart.{ExtPart}
use Rattle.usac_frame.specs.declared.part.ExtPart.TheVariants.{Absent, Present}
use Rattle.usac_frame.specs.AccessUnit.{frame_of, unit_in}
use Rattle.preroll.specs.Carrying.{short_at}
use Rattle.latm.specs.declared.mux_element.MuxElement.{MuxElement}
use Rattle.latm.specs.declared.stream.Stream.{Stream}
use Rattle.latm.specs.Stream.{frames_of, config_in, au_in}
use Rattle.latm.specs.Written.{element_text}
use Rattle.stream_edit.specs.Edited.{element_in}
use Rattle.stream_edit.specs.Targets.{misplaced}
use Rattle.ipf_frame.specs.Payload.{config_bytes}
use Rattle.ipf_insert.specs.declared.fault.InsertFault.{InsertFault}
use Rattle.ipf_insert.specs.declared.fault.InsertFault.TheVariants.{ConfigChanges, Frame as TooShort, NotDeclared, ConfigTooLong, BadCount, BadTarget, NotIndependent, AlreadyPresent, TooEarly, FirstDependent, PayloadTooLong, TooLong}
use Rattle.ipf_insert.specs.Inserting.{Settled, settled_of, payload_at, target_slot}

-- one rule, and then the others
abbrev pub or_then : Option InsertFault → Option InsertFault → Option InsertFault
or_then None later = later
or_then (Some e) later = Some e

abbrev pub fault_if : Bool → InsertFault → Option InsertFault
fault_if true e = Some e
fault_if false e = None

-- ---- the frames

abbrev pub short_rule : ℕ → Option ℕ → Option InsertFault
short_rule n None = None
short_rule n (Some at) = Some (TooShort n at)

-- Frame n has the configuration of frame 0, and its access unit is a frame.
abbrev pub frame_rule : UsacConfig → ℕ → UsacConfig × List ℕ → Option InsertFault
frame_rule first n f = or_then (fault_if (not (same first (config_in f))) (ConfigChanges n)) (short_rule n (short_at (config_in f) (au_in f)))

-- the same of the frames from n on
abbrev pub frames_rule : UsacConfig → ℕ → List (UsacConfig × List ℕ) → Option InsertFault
frames_rule first n [] = None
frames_rule first n (f ∷ fs) = or_then (frame_rule first n f) (frames_rule first (suc n) fs)

-- ---- the list of targets

-- The targets are frames of the stream, and rise.
abbrev pub places_rule : ℕ → List ℕ → Option InsertFault
places_rule frames targets = option_map BadTarget (misplaced frames targets)

-- ---- one target

abbrev pub au_at : List (List ℕ) → ℕ → List ℕ
au_at aus t = option_map_or (λ au. au) (slice_get aus t) []

abbrev pub is_absent : Option ExtPart → Bool
is_absent None = false
is_absent (Some Absent) = true
is_absent (Some (Present form start stop payload)) = false

-- part 0 of the frame is there, and is absent
abbrev pub is_open : UsacConfig → List ℕ → Bool
is_open c au = option_map_or (λ (f : Frame). is_absent (slice_get f.leading 0)) (frame_of c au) false

-- the element that has frame t among elements whose first frame is frame n; with the number of its own first frame
abbrev pub element_of : ℕ → ℕ → List MuxElement → Option (ℕ × MuxElement)
element_of t n [] = None
element_of t n (e ∷ es) = if nat_lt t (n + length e.slots) then Some (n, e) else element_of t (n + length e.slots) es

-- with these targets inserted, the element has more than 8191 bytes
abbrev pub is_long : Settled → List ℕ → Option (ℕ × MuxElement) → Bool
is_long i targets None = false
is_long i targets (Some x) = nat_lt 65528 (length (element_text (element_in (target_slot i) targets x.0 x.1)))

-- The target is independent, and has room for a preroll.
abbrev pub frame_of_target : Settled → ℕ → Option InsertFault
frame_of_target i t =
    or_then (fault_if (not (unit_in i.config (au_at i.aus t)).independent) (NotIndependent t))
    (fault_if (not (is_open i.config (au_at i.aus t))) (AlreadyPresent t))

-- The units that it is to carry are there, the first of them is independent, and they are not too long.
abbrev pub units_of_target : Settled → ℕ → Option InsertFault
units_of_target i t =
    or_then (fault_if (nat_lt t i.count) (TooEarly t))
    (or_then (fault_if (not (unit_in i.config (au_at i.aus (t - i.count))).independent) (FirstDependent t))
    (fault_if (nat_lt 65788 (length (payload_at i t))) (PayloadTooLong t)))

-- The first rule that target t breaks, with these targets inserted, of which it is the last.
abbrev pub target_rule : Settled → List MuxElement → List ℕ → ℕ → Option InsertFault
target_rule i es targets t = or_then (frame_of_target i t) (or_then (units_of_target i t) (fault_if (is_long i targets (element_of t 0 es)) (TooLong t)))

-- the same of targets, behind those before them
abbrev pub targets_rule : Settled → List MuxElement → List ℕ → List ℕ → Option InsertFault
targets_rule i es before [] = None
targets_rule i es before (t ∷ ts) = or_then (target_rule i es (before ++ t ∷ []) t) (targets_rule i es (before ++ t ∷ []) ts)

-- ---- all rules

-- the rules of the configuration, of the count, and of the list
abbrev pub list_rule : Settled → List ℕ → Option InsertFault
list_rule i targets =
    or_then (fault_if (not (declares_preroll i.config)) NotDeclared)
    (or_then (fault_if (nat_lt 285 (length (config_bytes i.config))) ConfigTooLong)
    (or_then (fault_if ((i.count == 0) || nat_lt 18 i.count) BadCount)
    (places_rule (length i.aus) targets)))

abbrev pub settled_rule : Option Settled → List (UsacConfig × List ℕ) → List MuxElement → List ℕ → Option InsertFault
settled_rule None fs es targets = Some NotDeclared
settled_rule (Some i) fs es targets = or_then (frames_rule i.config 0 fs) (or_then (list_rule i targets) (targets_rule i es [] targets))

-- The first rule for which nothing is inserted; none where all hold.
abbrev pub insert_fault : Stream → ℕ → Bool → List ℕ → Option InsertFault
insert_fault s count fade targets = settled_rule (settled_of (frames_of s) count fade) (frames_of s) s.elements targets
