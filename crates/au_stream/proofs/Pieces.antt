-- Lemmas on the pieces that a source gives.
use Rattle.std.proofs.Common.{◌≡◌, ℕ, ◌≤◌, List, [], ◌∷◌, ◌++◌, length, take, zero, suc, refl, sym, ◌∙◌, ap, arith, append_assoc, append-nil, length-append, true, Bool, Ok, Err, Some, None, inl, inr}
use Rattle.std.specs.declared.option.Option.{Option}
use Rattle.std.specs.Io.KnownBytes.{prepend_known}
use Rattle.loas.specs.Framing.{IsPartial}
use Rattle.loas.specs.Framer.{Framer, grown, pushed}
use Rattle.au_stream.specs.Taking.{IsNeeded, SoFar, Seen, Refills, RefillAnswered, Takes, Answered, Caused}
use Rattle.au_stream.specs.declared.fault.StreamFault.{StreamFault}
use Rattle.au_stream.specs.declared.fault.StreamFault.TheVariants.{ReadFault, TooLarge, Loas, Mux, Memory}

-- a piece of one byte
one_byte : (n : ℕ) (into : List ℕ) → length into ≡ 1 → n ≤ length into → (n ≡ 0 → ⊥) → (b : ℕ) × (take n into ≡ b ∷ [])
one_byte zero into e h some = absurd (some refl)
one_byte (suc n) [] e h some = absurd (omega arith)
one_byte (suc zero) (b ∷ []) e h some = (b, refl)
one_byte (suc (suc n)) (b ∷ []) e h some = absurd (omega arith)
one_byte (suc n) (b ∷ c ∷ into) e h some = absurd (omega arith)

-- a byte behind the limit
pub probed : (limit : ℕ) (old : Framer) (before now : Seen) (n : ℕ) (into : List ℕ) → pushed old ≡ limit → length into ≡ 1 → n ≤ length into → (n ≡ 0 → ⊥)
    → before.left ≡ prepend_known (take n into) now.left → now.faults ≡ before.faults → Refills limit old old before now (Err TooLarge)
probed limit old before now n into full h bound some from faults =
    let one = one_byte n into h bound some in
    record {
      got = take n into;
      from = from;
      within = omega (arith, ap length one.1);
      piece = omega (arith, ap length one.1);
      caused = faults;
      answered = (refl, full, one.0, one.1);
    }

pub prepend-prepend : (a b : List ℕ) (known : Option (List ℕ)) → prepend_known a (prepend_known b known) ≡ prepend_known (a ++ b) known
prepend-prepend a b None = refl
prepend-prepend a b (Some xs) = ap Some (sym (append_assoc a b xs))

prepend-none : (known : Option (List ℕ)) → prepend_known [] known ≡ known
prepend-none None = refl
prepend-none (Some xs) = refl

pub grown-grown : (old : Framer) (a b : List ℕ) → grown (grown old a) b ≡ grown old (a ++ b)
grown-grown old a b = ap (λ (held : List ℕ). record old { held = held }) (append_assoc old.held a b)

pub grown-none : (old : Framer) → grown old [] ≡ old
grown-none old = ap (λ (held : List ℕ). record old { held = held }) (append-nil old.held)

-- nothing was got yet
pub so_far-none : (old : Framer) (before : Seen) → SoFar old old before before
so_far-none old before = record {
  got = [];
  from = sym (prepend-none before.left);
  grows = sym (grown-none old);
  faults = refl;
  needed = inl refl;
}

-- what was got, with a refill behind it
pub needed-more : (old mid : Framer) (a b : List ℕ) → mid ≡ grown old a → IsPartial mid.held → length b ≤ 8192 → IsNeeded old.held (a ++ b)
needed-more old mid a b grows p short = inr (a, b, refl, (rw (← ap (λ (r : Framer). r.held) grows) p), short)

pub so_far-more : (limit : ℕ) (old mid new : Framer) (before between now : Seen) → SoFar old mid before between → IsPartial mid.held → Refills limit mid new between now (Ok true) → SoFar old new before now
so_far-more limit old mid new before between now s p r = record {
  got = s.got ++ r.got;
  from = s.from ∙ ap (prepend_known s.got) r.from ∙ prepend-prepend s.got r.got now.left;
  grows = r.answered.0 ∙ ap (λ x. grown x r.got) s.grows ∙ grown-grown old s.got r.got;
  faults = r.caused ∙ s.faults;
  needed = needed-more old mid s.got r.got s.grows p r.piece;
}

refused_so : (limit : ℕ) (old mid new : Framer) (left : Option (List ℕ)) (got more : List ℕ) (end : StreamFault) → mid ≡ grown old got → IsPartial mid.held
    → RefillAnswered limit mid new left more (Err end) → Answered limit old new left (got ++ more) (Err end)
refused_so limit old mid new left got more ReadFault e p r =
    let same : got ++ more ≡ got = ap (λ x. got ++ x) r.1 ∙ append-nil got in
    (r.0 ∙ e ∙ ap (grown old) (sym same), rw r.0 p)
refused_so limit old mid new left got more (Loas fault) e p r = absurd r
refused_so limit old mid new left got more (Mux frame fault) e p r = absurd r
refused_so limit old mid new left got more TooLarge e p r = (got, r.2, ap (λ x. got ++ x) r.3, r.0 ∙ e, rw r.0 p, rw r.0 r.1)
refused_so limit old mid new left got more (Memory error) e p r = (got, more, refl, r ∙ e, rw r p)

caused_since : (end : StreamFault) (before between now : ℕ) → between ≡ before → Caused {T = Bool} between now (Err end) → Caused {T = Option ℕ} before now (Err end)
caused_since ReadFault before between now e rose = rw (← e) rose
caused_since (Loas fault) before between now e same = same ∙ e
caused_since (Mux frame fault) before between now e same = same ∙ e
caused_since TooLarge before between now e same = same ∙ e
caused_since (Memory error) before between now e same = same ∙ e

-- a refill that is refused ends the call
pub refused : (limit : ℕ) (old mid new : Framer) (before between now : Seen) (end : StreamFault) → SoFar old mid before between → IsPartial mid.held
    → Refills limit mid new between now (Err end) → Takes limit old new before now (Err end)
refused limit old mid new before between now end s p r = record {
  got = s.got ++ r.got;
  from = s.from ∙ ap (prepend_known s.got) r.from ∙ prepend-prepend s.got r.got now.left;
  within = omega (arith, length-append s.got r.got, ap (λ (x : Framer). x.passed) s.grows, ap (λ (x : Framer). length x.held) s.grows, length-append old.held s.got, r.within);
  needed = needed-more old mid s.got r.got s.grows p r.piece;
  caused = caused_since end before.faults between.faults now.faults s.faults r.caused;
  answered = refused_so limit old mid new now.left s.got r.got end s.grows p r.answered;
}
