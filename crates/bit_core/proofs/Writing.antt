-- Texts that are written part by part.
use Rattle.std.proofs.Common.{◌≡◌, ◌≤◌, Bool, List, [], ◌++◌, length, take, drop, refl, sym, ap, ◌∙◌, append_assoc, arith}
use Rattle.std.proofs.lemmas.List.{append-nil, take_at, drop_at, length-append}
use Rattle.bit_core.specs.Writer.{Extends}

pub extends_by : (old new t : List Bool) → new ≡ old ++ t → Extends old new
extends_by old new t e = record { held = e ∙ ap (λ (u : List Bool). old ++ u) (sym (ap (λ (w : List Bool). drop (length old) w) e ∙ drop_at old t (length old) refl)) }

pub extends_none : (old : List Bool) → Extends old old
extends_none old = extends_by old old [] (sym (append-nil old))

pub extends_then : (old middle new : List Bool) → Extends old middle → Extends middle new → Extends old new
extends_then old middle new p q = extends_by old new (drop (length old) middle ++ drop (length middle) new)
    (q.held ∙ ap (λ (t : List Bool). t ++ drop (length middle) new) p.held ∙ append_assoc old (drop (length old) middle) (drop (length middle) new))

-- what was held before is what is left when the rest is cut
pub extends_cut : (old new : List Bool) → Extends old new → take (length old) new ≡ old
extends_cut old new p = ap (λ (t : List Bool). take (length old) t) p.held ∙ take_at old (drop (length old) new) (length old) refl

pub extends_long : (old new : List Bool) → Extends old new → length old ≤ length new
extends_long old new p = omega (arith, ap (λ (t : List Bool). length t) p.held, length-append old (drop (length old) new))
