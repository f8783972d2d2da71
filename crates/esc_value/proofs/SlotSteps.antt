-- A length that is added up byte by byte.
use Rattle.std.proofs.Common.{◌≡◌, ℕ, ◌+◌, ◌*◌, ◌<◌, ◌≤◌, Bool, List, [], ◌∷◌, ◌++◌, length, Ok, Err, refl, sym, ap, ◌∙◌, append_assoc, arith}
use Rattle.std.proofs.lemmas.List.{length-append}
use Rattle.bit_core.specs.declared.faults.Short.{Short}
use Rattle.layout.specs.Text.{num}
use Rattle.layout.specs.Reader.{Reader, left, moved}
use Rattle.layout.specs.Fields.{number_field}
use Rattle.layout.specs.Reading.{Gives}
use Rattle.layout.proofs.TextLemmas.{length-num}
use Rattle.layout.proofs.Layouts.{moved_twice, field-open}
use Rattle.bit_core.specs.Plain.{bits, short_at}
use Rattle.bit_core.proofs.PlainFacts.{bits-exact}
use Rattle.esc_value.specs.SlotLength.{slot_text, slot}
use Rattle.esc_value.proofs.SlotExact.{slot_exact, text_small, text_more, front_of_byte}

-- The bytes so far, all 255, stand in front of what is left.
pub record SoFar (old new : Reader) (sum : ℕ) : Type 0 where
  pub front : List Bool
  pub text : left old ≡ front ++ left new
  pub spelled : (n : ℕ) → slot_text (sum + n) ≡ front ++ slot_text n
  pub at : new ≡ moved old (length front)
  pub small : 8 * sum ≤ 255 * length front

pub starts : (old : Reader) → SoFar old old 0
starts old = record {
  front = [];
  text = refl;
  spelled = λ n. ap slot_text (let k : 0 + n ≡ n = omega arith in k);
  at = ap (λ (n : ℕ). let m : Reader = record { text = old.text; at = n } in m) (omega arith);
  small = omega arith;
}

-- one more byte of 255
pub goes_on : (old mid new : Reader) (sum b : ℕ) → SoFar old mid sum → Gives (bits 8) mid new (Ok b) → b ≡ 255 → SoFar old new (sum + b)
goes_on old mid new sum b s read is =
    let t = (bits-exact 8).takes mid new b read.0 in
    let front : left mid ≡ num 8 255 ++ left new = t.1 ∙ ap (λ (m : ℕ). num 8 m ++ left new) is in
    let at-is : new ≡ moved mid (length (num 8 255)) = t.2 ∙ ap (λ (m : ℕ). moved mid (length (num 8 m))) is in
    record {
      front = s.front ++ num 8 255;
      text = s.text ∙ ap (λ (x : List Bool). s.front ++ x) front ∙ sym (append_assoc s.front (num 8 255) (left new));
      spelled = λ n.
          let k : sum + b + n ≡ sum + (255 + n) = omega arith in
          ap slot_text k ∙ s.spelled (255 + n) ∙ ap (λ (x : List Bool). s.front ++ x) (text_more n) ∙ sym (append_assoc s.front (num 8 255) (slot_text n));
      at = at-is ∙ ap (λ (q : Reader). moved q (length (num 8 255))) s.at ∙ moved_twice old s.front (num 8 255);
      small = omega (arith, s.small, is, length-append s.front (num 8 255), length-num 8 255);
    }

-- the last byte
pub ends : (old mid new : Reader) (sum b : ℕ) → SoFar old mid sum → Gives (bits 8) mid new (Ok b) → (b ≡ 255 → ⊥) → Gives slot old new (Ok (sum + b))
ends old mid new sum b s read other =
    let t = (bits-exact 8).takes mid new b read.0 in
    let lt : b < 255 = (let below : b < 256 = t.0.0 in omega arith) in
    let spelling : slot_text (sum + b) ≡ s.front ++ num 8 b = s.spelled b ∙ ap (λ (x : List Bool). s.front ++ x) (text_small b lt) in
    let text : left old ≡ slot_text (sum + b) ++ left new = s.text ∙ ap (λ (x : List Bool). s.front ++ x) t.1 ∙ sym (append_assoc s.front (num 8 b) (left new)) ∙ ap (λ (x : List Bool). x ++ left new) (sym spelling) in
    let at-is : moved old (length (slot_text (sum + b))) ≡ new = ap (λ (x : List Bool). moved old (length x)) spelling ∙ sym (t.2 ∙ ap (λ (q : Reader). moved q (length (num 8 b))) s.at ∙ moved_twice old s.front (num 8 b)) in (
      slot_exact.again old (sum + b) (left new) tt text ∙ ap (λ (q : Reader). Ok (sum + b, q)) at-is,
      (ap (λ (q : Reader). q.text) (sym at-is), omega (arith, ap (λ (q : Reader). q.at) at-is)),
    )

-- too few bits for a byte: the fault stands where the length begins
pub stops : (old mid new : Reader) (sum : ℕ) (f g : Short) → SoFar old mid sum → Gives (bits 8) mid new (Err f) → g.at ≡ old.at → Gives slot old new (Err g)
stops old mid new sum f g s read is =
    let w = (field-open short_at (number_field 8) 0 (omega arith)).stops mid.at f (left mid) ((bits-exact 8).blames mid f read.0) in
    let p = front_of_byte (left mid) w.0 (let lt : w.0 < 256 = w.1.0 in lt) w.2 in
    let whole : slot_text (sum + p.0) ≡ left old ++ p.1.0 ∷ p.1.1 = s.spelled p.0 ∙ ap (λ (x : List Bool). s.front ++ x) p.1.2 ∙ sym (append_assoc s.front (left mid) (p.1.0 ∷ p.1.1)) ∙ ap (λ (x : List Bool). x ++ p.1.0 ∷ p.1.1) (sym s.text) in
    let there : g ≡ short_at old.at = ap short_at is in (
      slot_exact.only old g (there, (sum + p.0, (p.1.0, p.1.1, whole))),
      (read.1.0 ∙ ap (λ (q : Reader). q.text) s.at, omega (arith, read.1.1, ap (λ (q : Reader). q.at) s.at)),
    )
