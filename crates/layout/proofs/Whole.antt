-- What is true of a layout that takes all of a text, and of a call that reads a text from its first bit.
use Rattle.std.proofs.Common.{◌≡◌, Bool, List, Some, None, Result, Ok, Err, refl, sym, ap, subst, ◌∙◌, inl, inr}
use Rattle.std.specs.Prelude.{◌⊎◌}
use Rattle.layout.specs.Reader.{Reader}
use Rattle.layout.specs.Layout.{Layout}
use Rattle.layout.specs.Exact.{IsExactToEnd}
use Rattle.layout.specs.Laws.{SpellsOnce, IsSpelling, IsDecidedWhole, value_in, fault_in, IsValueOf, IsFaultOf}
use Rattle.layout.specs.Reading.{GivesUnless, ReadsAllUnless, ReadsText}
use Rattle.layout.proofs.Layouts.{ok_is, err_is, some_is}
use Rattle.layout.proofs.ToEnd.{reads_all_unless, all_unless_back}

abbrev start : List Bool → Reader
start t = record { text = t; at = 0 }

text_by : {A F : Type 0} (free : F → Bool) (L : Layout A F) (text : List Bool) (new : Reader) (r : Result A F) → ReadsAllUnless free L (start text) new r → ReadsText free L text r
text_by free L text new (Ok v) reads = record { found = (reads.found.0, reads.found.1); only = reads.only; fault = reads.fault; first = reads.first }
text_by free L text new (Err f) reads = record { found = reads.found; only = reads.only; fault = reads.fault; first = reads.first }

pub reads_text : {A F : Type 0} (free : F → Bool) (L : Layout A F) → IsExactToEnd L → (text : List Bool) (new : Reader) (r : Result A F) → GivesUnless free L (start text) new r → ReadsText free L text r
reads_text free L l text new (Ok v) gives = text_by free L text new (Ok v) (reads_all_unless free L l (start text) new (Ok v) gives tt)
reads_text free L l text new (Err f) gives =
    let back : Reader = start new.text in
    text_by free L text back (Err f) (all_unless_back free L l (start text) new back f 0 gives refl refl)

pub spells_once : {A F : Type 0} (L : Layout A F) → IsExactToEnd L → SpellsOnce L
spells_once {A} {F} L l v w fv fw e =
    let one = l.again (start (L.spelling v)) v fv refl in
    let two = l.again (start (L.spelling v)) w fw e in
    ap (λ (x : A × Reader). x.0) (ok_is {F = F} _ _ (sym one ∙ two))

one_of : {A F : Type 0} (L : Layout A F) → IsExactToEnd L → (t : List Bool) → IsSpelling L t ⊎ ((f : F) × L.Faults 0 f t)
one_of {A} {F} L l t =
    let go : (q : Result (A × Reader) F) → L.read (start t) ≡ q → IsSpelling L t ⊎ ((f : F) × L.Faults 0 f t) = elim [
      | Ok x ↦ λ is. let took = l.takes (start t) x.1 x.0 is in inl (x.0, took.0, took.1)
      | Err f ↦ λ is. inr (f, l.blames (start t) f is)
    ] in
    go (L.read (start t)) refl

not_both : {A F : Type 0} (L : Layout A F) → IsExactToEnd L → (t : List Bool) (f : F) → IsSpelling L t → L.Faults 0 f t → ⊥
not_both L l t f some bad =
    let a = l.again (start t) some.0 some.1 some.2 in
    let b = l.only (start t) f bad in
    cc

one_fault : {A F : Type 0} (L : Layout A F) → IsExactToEnd L → (t : List Bool) (f g : F) → L.Faults 0 f t → L.Faults 0 g t → f ≡ g
one_fault {A} L l t f g a b = err_is {A = A × Reader} f g (sym (l.only (start t) f a) ∙ l.only (start t) g b)

pub decided_whole : {A F : Type 0} (L : Layout A F) → IsExactToEnd L → IsDecidedWhole L
decided_whole L l = record { one_of = one_of L l; not_both = not_both L l; one_fault = one_fault L l }

-- ---- the value that a text spells

value_is : {A F : Type 0} (L : Layout A F) (t : List Bool) (v : A) (q : IsSpelling L t ⊎ ((f : F) × L.Faults 0 f t)) → value_in L t q ≡ Some v → L.Fits v × (t ≡ L.spelling v)
value_is {A} L t v (inl s) e = subst (λ (w : A). L.Fits w × (t ≡ L.spelling w)) (some_is s.0 v e) (s.1, s.2)
value_is L t v (inr bad) never = absurd cc

value_found : {A F : Type 0} (L : Layout A F) → IsDecidedWhole L → SpellsOnce L → (t : List Bool) (v : A) (q : IsSpelling L t ⊎ ((f : F) × L.Faults 0 f t)) → L.Fits v → t ≡ L.spelling v → value_in L t q ≡ Some v
value_found {A} L d once t v (inl s) fits e = ap (λ (w : A). Some w) (once s.0 v s.1 fits (sym s.2 ∙ e))
value_found L d once t v (inr bad) fits e = absurd (d.not_both t bad.0 (v, fits, e) bad.1)

value_none : {A F : Type 0} (L : Layout A F) → IsDecidedWhole L → (t : List Bool) (f : F) (q : IsSpelling L t ⊎ ((g : F) × L.Faults 0 g t)) → L.Faults 0 f t → value_in L t q ≡ None
value_none L d t f (inl s) bad = absurd (d.not_both t f s bad)
value_none L d t f (inr other) bad = refl

pub value_of_is : {A F : Type 0} (L : Layout A F) (d : IsDecidedWhole L) → SpellsOnce L → IsValueOf L d
value_of_is L d once = record {
  is = λ t v e. value_is L t v (d.one_of t) e;
  found = λ t v fits e. value_found L d once t v (d.one_of t) fits e;
  none = λ t f bad. value_none L d t f (d.one_of t) bad;
}

fault_is : {A F : Type 0} (L : Layout A F) (t : List Bool) (f : F) (q : IsSpelling L t ⊎ ((g : F) × L.Faults 0 g t)) → fault_in L t q ≡ Some f → L.Faults 0 f t
fault_is L t f (inl s) never = absurd cc
fault_is {F = F} L t f (inr bad) e = subst (λ (g : F). L.Faults 0 g t) (some_is bad.0 f e) bad.1

fault_found : {A F : Type 0} (L : Layout A F) → IsDecidedWhole L → (t : List Bool) (f : F) (q : IsSpelling L t ⊎ ((g : F) × L.Faults 0 g t)) → L.Faults 0 f t → fault_in L t q ≡ Some f
fault_found L d t f (inl s) bad = absurd (d.not_both t f s bad)
fault_found {F = F} L d t f (inr other) bad = ap (λ (g : F). Some g) (d.one_fault t other.0 f other.1 bad)

pub fault_of_is : {A F : Type 0} (L : Layout A F) (d : IsDecidedWhole L) → IsFaultOf L d
fault_of_is L d = record { is = λ t f e. fault_is L t f (d.one_of t) e; found = λ t f bad. fault_found L d t f (d.one_of t) bad }
