-- Lemmas on bytes that are handed over in pieces.
use Rattle.std.proofs.Common.{◌≡◌, ℕ, ◌<◌, ◌+◌, List, ◌++◌, length, take, drop, refl, sym, ◌∙◌, ap, append_assoc, Some, None, arith}
use Rattle.std.specs.declared.option.Option.{Option}
use Rattle.std.specs.Io.KnownBytes.{append_known}
use Rattle.std.proofs.lemmas.List.{length-append, take-append-drop, take-append-le}
use Rattle.std.proofs.Math.Seq.{take-append_seam, take-append-add}
use Rattle.commands.specs.Handing.{HandedOver, WrotePart, WroteLess, WroteInto}

pub append-append : (known : Option (List ℕ)) (a b : List ℕ) → append_known (append_known known a) b ≡ append_known known (a ++ b)
append-append None a b = refl
append-append (Some xs) a b = ap Some (append_assoc xs a b)

pub handed-more : (before mid now : Option (List ℕ)) (bytes rest rest' : List ℕ) (n : ℕ) → HandedOver before mid bytes rest
    → now ≡ append_known mid (take n rest) → rest' ≡ drop n rest → HandedOver before now bytes rest'
handed-more before mid now bytes rest rest' n h w e = record {
  done = h.done ++ take n rest;
  all = h.all ∙ rw e (ap (λ x. h.done ++ x) (sym (take-append-drop n rest)) ∙ sym (append_assoc h.done (take n rest) (drop n rest)));
  grown = w ∙ ap (λ x. append_known x (take n rest)) h.grown ∙ append-append before h.done (take n rest);
}

pub handed-stopped : (before mid now : Option (List ℕ)) (bytes rest : List ℕ) → HandedOver before mid bytes rest → 0 < length rest → now ≡ mid → WroteLess before now bytes
handed-stopped before mid now bytes rest h more e = (
  length h.done,
  omega (arith, more, ap (λ (x : List ℕ). length x) h.all, length-append h.done rest),
  e ∙ h.grown ∙ ap (append_known before) (sym (ap (take (length h.done)) h.all ∙ take-append_seam h.done rest)),
)

-- less than all is a part
pub less_part : (before after : Option (List ℕ)) (bytes : List ℕ) → WroteLess before after bytes → WrotePart before after bytes
less_part before after bytes (count, lt, e) = (count, e)

-- all of the first bytes, and a part of the others
pub into_of : (before mid after : Option (List ℕ)) (first bytes : List ℕ) → mid ≡ append_known before first → WroteLess mid after bytes → WroteInto before after first bytes
into_of before mid after first bytes e (count, lt, more) = (count, lt, more ∙ ap (λ (x : Option (List ℕ)). append_known x (take count bytes)) e ∙ append-append before first (take count bytes))

-- a part of what stands behind bytes that were written
pub part_behind : (before mid after : Option (List ℕ)) (a b : List ℕ) → mid ≡ append_known before a → WrotePart mid after b → WrotePart before after (a ++ b)
part_behind before mid after a b e part =
    (length a + part.0, part.1 ∙ ap (λ (x : Option (List ℕ)). append_known x (take part.0 b)) e ∙ append-append before a (take part.0 b) ∙ ap (λ (x : List ℕ). append_known before x) (sym (take-append-add a b part.0)))

-- less of what stands behind bytes that were written
pub less_behind : (before mid after : Option (List ℕ)) (a b : List ℕ) → mid ≡ append_known before a → WroteLess mid after b → WroteLess before after (a ++ b)
less_behind before mid after a b e part = (
  length a + part.0,
  omega (arith, part.1, length-append a b),
  part.2 ∙ ap (λ (x : Option (List ℕ)). append_known x (take part.0 b)) e ∙ append-append before a (take part.0 b) ∙ ap (λ (x : List ℕ). append_known before x) (sym (take-append-add a b part.0)),
)

-- less of what stands in front
pub less_in_front : (before after : Option (List ℕ)) (a b : List ℕ) → WroteLess before after a → WroteLess before after (a ++ b)
less_in_front before after a b part = (part.0, omega (arith, part.1, length-append a b), part.2 ∙ ap (λ (x : List ℕ). append_known before x) (sym (take-append-le part.0 a b (omega (arith, part.1)))))
