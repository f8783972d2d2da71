-- How far a stream was judged, and what is known of it then: for the private functions.
use Rattle.std.specs.Prelude.{◌≡◌, ◌+◌, ◌<◌, ◌≤◌, ◌%◌, ◌^◌, ℕ, suc, Bool, not, List, [], ◌∷◌, ◌++◌, length, map, drop, Option, Some, None, Result, Ok, Err}
use Rattle.std.specs.List.{AllByRecursion, flat_map}
use Rattle.std.specs.Borrow.{Bor}
use Rattle.layout.specs.Layout.{FitsOption}
use Rattle.usac_cfg.specs.declared.usac_config.UsacConfig.{UsacConfig}
use Rattle.usac_cfg.specs.UsacConfig.{IsWellFormed as IsConfig}
use Rattle.usac_cfg.specs.Same.{same}
use Rattle.usac_frame.specs.declared.head.FrameHead.{FrameHead}
use Rattle.usac_frame.specs.Head.{with_rest}
use Rattle.usac_frame.specs.AccessUnit.{IsFrame}
use Rattle.preroll.specs.Carrying.{short_at}
use Rattle.latm.specs.declared.mux_element.MuxElement.{MuxElement}
use Rattle.latm.specs.MuxConfig.{IsWellFormed as IsMux}
use Rattle.latm.specs.declared.mux_config.MuxConfig.{MuxConfig}
use Rattle.latm.specs.Stream.{config_in, au_in}
use Rattle.latm.specs.Written.{element_text}
use Rattle.ipf_frame.specs.Payload.{config_bytes}
use Rattle.ipf_frame.specs.Laws.{AreFrames, AreSlots}
use Rattle.ipf_insert.specs.declared.sources.Sources.{Sources}
use Rattle.ipf_insert.specs.declared.fault.InsertFault.{InsertFault}
use Rattle.ipf_insert.specs.declared.fault.InsertFault.TheVariants.{ConfigChanges, Frame, NotDeclared, ConfigTooLong, BadCount, BadTarget, NotIndependent, AlreadyPresent, TooEarly, FirstDependent, PayloadTooLong, TooLong, Memory}
use Rattle.ipf_insert.specs.Inserting.{Settled}
use Rattle.ipf_insert.specs.Rules.{or_then, fault_if, short_rule, au_at, frame_of_target, units_of_target}

-- This follows of a rule's refusal. Out of memory says nothing.
abbrev pub IfRule : InsertFault → Type 0 → Type 0
IfRule (ConfigChanges n) P = P
IfRule (Frame n at) P = P
IfRule NotDeclared P = P
IfRule ConfigTooLong P = P
IfRule BadCount P = P
IfRule (BadTarget place) P = P
IfRule (NotIndependent n) P = P
IfRule (AlreadyPresent n) P = P
IfRule (TooEarly n) P = P
IfRule (FirstDependent n) P = P
IfRule (PayloadTooLong n) P = P
IfRule (TooLong n) P = P
IfRule (Memory e) P = Unit {0}

-- A step is refused by this rule, or gives a value of which P holds.
abbrev pub Judges : {A : Type 0} → Result A InsertFault → Option InsertFault → (A → Type 0) → Type 0
Judges (Ok v) rule P = (rule ≡ None) × P v
Judges (Err e) rule P = IfRule e (rule ≡ Some e)

-- the same where there is no value
abbrev pub Passes : Result (Unit {0}) InsertFault → Option InsertFault → Type 0
Passes (Ok v) rule = rule ≡ None
Passes (Err e) rule = IfRule e (rule ≡ Some e)

-- ---- the frames

-- the access units that are referred to
abbrev pub refs : List (Bor (List ℕ)) → List (List ℕ)
refs aus = map (λ au. au.now) aus

abbrev pub with_config : UsacConfig → List (List ℕ) → List (UsacConfig × List ℕ)
with_config c slots = map (λ au. (c, au)) slots

-- The rules of frames, where it is known whether their configuration is that of frame 0.
abbrev pub frames_where : Bool → ℕ → List (UsacConfig × List ℕ) → Option InsertFault
frames_where same n [] = None
frames_where same n (f ∷ fs) = or_then (or_then (fault_if (not same) (ConfigChanges n)) (short_rule n (short_at (config_in f) (au_in f)))) (frames_where same (suc n) fs)

-- These frames pass and their access units were added, or one of them is refused.
abbrev pub Gathers : Result (Unit {0}) InsertFault → Bool → List (UsacConfig × List ℕ) → List (List ℕ) → List (List ℕ) → Type 0
Gathers (Ok v) same fs old new = (frames_where same (length old) fs ≡ None) × (new ≡ old ++ map au_in fs)
Gathers (Err e) same fs old new = IfRule e (frames_where same (length old) fs ≡ Some e)

-- It is known whether the configuration in force is that of frame 0.
abbrev pub IsSame : Bool → UsacConfig → Option MuxConfig → Type 0
IsSame b first None = Unit {0}
IsSame b first (Some m) = b ≡ same first m.asc.usac

-- so many bytes at most as an element can have
abbrev pub AreSmall : List (List ℕ) → Type 0
AreSmall slots = AllByRecursion (λ au. length au ≤ 8191) slots

-- ---- what the targets share

abbrev pub settled : Sources → Settled
settled s = record { config = s.config.now; aus = map (λ au. au.now) s.aus.items; count = s.count; fade = s.fade }

-- The rules of the frames, of the configuration and of the count hold.
pub record IsReady (s : Sources) : Type 0 where
  pub config : IsConfig s.config.now
  pub frames : AreFrames s.config.now (map (λ au. au.now) s.aus.items)
  pub slots : AreSlots (map (λ au. au.now) s.aus.items)
  pub few : length s.aus.items < 2 ^ 32
  pub bytes : s.bytes ≡ config_bytes s.config.now
  pub short : length s.bytes ≤ 285
  pub some : 1 ≤ s.count
  pub count : s.count ≤ 18

-- ---- targets

-- The target keeps its rules, but that of the element.
pub record IsKept (i : Settled) (t : ℕ) : Type 0 where
  pub below : t < length i.aus
  pub frame : frame_of_target i t ≡ None
  pub units : units_of_target i t ≡ None

abbrev pub AreKept : Settled → List ℕ → Type 0
AreKept i targets = AllByRecursion (IsKept i) targets

abbrev pub IsHeadOf : UsacConfig → List ℕ → FrameHead → Type 0
IsHeadOf c au head = (rest : List Bool) × IsFrame c au (with_rest head rest)

-- ---- elements

-- These are the access units from that frame on.
abbrev pub IsHere : List (List ℕ) → ℕ → List (List ℕ) → Type 0
IsHere aus first slots = (rest : List (List ℕ)) × (drop first aus ≡ slots ++ rest)

abbrev pub slots_of : List MuxElement → List (List ℕ)
slots_of es = flat_map (λ (e : MuxElement). e.slots) es

abbrev pub slot_count : List MuxElement → ℕ
slot_count [] = 0
slot_count (e ∷ es) = length e.slots + slot_count es

-- The elements hold all access units from that frame on.
abbrev pub IsFrom : List (List ℕ) → ℕ → List MuxElement → Type 0
IsFrom aus first es = drop first aus ≡ slots_of es

-- It can be written, but for its length.
pub record IsFramable (e : MuxElement) : Type 0 where
  pub config : FitsOption IsMux e.config
  pub whole : length (element_text e) % 8 ≡ 0

abbrev pub AreFramable : List MuxElement → Type 0
AreFramable es = AllByRecursion IsFramable es

-- The element of the target leads what is left, behind some that were passed over.
pub record SeeksTo (es : List MuxElement) (first target : ℕ) (rest : List MuxElement) (n : ℕ) : Type 0 where
  pub passed : List MuxElement
  pub split : es ≡ passed ++ rest
  pub number : n ≡ first + slot_count passed
  pub element : MuxElement
  pub behind : List MuxElement
  pub leads : rest ≡ element ∷ behind
  pub from : n ≤ target
  pub there : target < n + length element.slots

-- ---- the change of a target

-- The sources are ready, the target keeps its rules, and this is its access unit.
pub record MayCarry (s : Sources) (t : ℕ) (au : List ℕ) : Type 0 where
  pub ready : IsReady s
  pub kept : IsKept (settled s) t
  pub here : au ≡ au_at (settled s).aus t
