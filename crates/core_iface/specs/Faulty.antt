-- A core over another one, of which listed calls fail. Calls of `reset`, `step` and `flush` are counted together.
use Rattle.std.specs.Prelude.{◌≡◌, ℕ, ◌+◌, ◌-◌, ◌^◌, ◌==◌, min, List, [], Bool, true, false, None, if◌then◌else◌, refl}
use Rattle.std.specs.List.{list_any}
use Rattle.std.specs.Coded.{Coded, code_by, coded×, coded_list, coded_ℕ, coded_bool}
use Rattle.causes.specs.Counts.{one_more}
use Rattle.core_iface.specs.Answering.{Meaning}

pub record Faulty (C : Type 0) : Type 0 where
  -- the core below
  pub core : C
  -- the numbers of the calls that fail, where the first call is call 1
  pub listed : List ℕ
  -- how many calls there were
  pub calls : ℕ
  -- how many of them were listed, and failed
  pub failed : ℕ
  -- a listed call failed, and no reset reached the core below since
  pub broken : Bool

module _ {C : Type 0} where
  abbrev pub faulty_code : Coded C → Coded (Faulty C)
  faulty_code c =
      code_by (C × (List ℕ × (ℕ × (ℕ × Bool)))) (coded× c (coded× (coded_list coded_ℕ) (coded× coded_ℕ (coded× coded_ℕ coded_bool))))
      (λ f. (f.core, (f.listed, (f.calls, (f.failed, f.broken)))))
      (λ p. record { core = p.0; listed = p.1.0; calls = p.1.1.0; failed = p.1.1.1.0; broken = p.1.1.1.1 })
      (λ _. refl)

  -- over a core, with no call yet
  abbrev pub over : C → List ℕ → Faulty C
  over core listed = record { core = core; listed = listed; calls = 0; failed = 0; broken = false }

  -- Whether the next call fails: its number is in the list.
  abbrev pub fails_next : Faulty C → Bool
  fails_next f = list_any (λ number. number == one_more f.calls) f.listed

  -- behind a listed call: the core below was not called
  abbrev pub failed_call : Faulty C → Faulty C
  failed_call f = record f { calls = one_more f.calls; failed = one_more f.failed; broken = true }

  -- behind a step or a flush that is not listed, which left the core below so
  abbrev pub passed_call : Faulty C → C → Faulty C
  passed_call f core = record f { core = core; calls = one_more f.calls }

  -- behind a reset that is not listed
  abbrev pub passed_reset : Faulty C → C → Faulty C
  passed_reset f core = record f { core = core; calls = one_more f.calls; broken = false }

  -- What the core below means, with the faults of listed calls; it is not ready behind one.
  abbrev pub meaning_over : (C → Meaning) → Faulty C → Meaning
  meaning_over meaning f = record {
    ready = if f.broken then None else (meaning f.core).ready;
    faults = min ((meaning f.core).faults + f.failed) (2 ^ 64 - 1);
    fed = (meaning f.core).fed;
  }

  -- No call is listed, and the core below is calm.
  abbrev pub IsCalmOver : (C → Type 0) → Faulty C → Type 0
  IsCalmOver IsCalm f = (f.listed ≡ []) × IsCalm f.core
