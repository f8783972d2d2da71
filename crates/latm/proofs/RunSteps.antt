-- A run that is read pair by pair.
use Rattle.std.proofs.Common.{◌≡◌, ℕ, suc, ◌+◌, ◌-◌, ◌*◌, ◌<◌, ◌≤◌, Bool, true, false, List, ◌∷◌, ◌++◌, length, Result, Ok, Err, refl, sym, ap, ◌∙◌, arith, inl, inr}
use Rattle.std.proofs.lemmas.List.{length-append}
use Rattle.bit_core.specs.declared.faults.Short.{Short}
use Rattle.layout.specs.Text.{num}
use Rattle.layout.specs.Reader.{Reader, left}
use Rattle.layout.specs.Layout.{◌>>=◌, at_start}
use Rattle.layout.specs.Reading.{Gives}
use Rattle.layout.proofs.TextLemmas.{length-num}
use Rattle.bit_core.specs.Plain.{short_at}
use Rattle.latm.specs.Pairs.{pair, is_last, run_step, run_read, run}
use Rattle.latm.specs.PairsExact.{pair-exact, run_of, step_last, step_more, last_cases}

-- What is still read, behind some pairs with this number, is what is read from the start.
pub record SoFar (old new : Reader) (count number : ℕ) : Type 0 where
  pub more : ℕ
  pub enough : length (left new) < more
  pub same : run_read (suc (length (left old))) 0 0 old ≡ run_read more count number new
  pub text : new.text ≡ old.text
  pub long : old.at + 9 * count ≤ new.at
  pub small : number ≤ 65535

pub starts : (old : Reader) → SoFar old old 0 0
starts old = record { more = suc (length (left old)); enough = omega arith; same = refl; text = refl; long = omega arith; small = omega arith }

-- one more pair
one_step : (k count number : ℕ) (mid new : Reader) (esc : Bool) (byte : ℕ) → Gives pair mid new (Ok (esc, byte)) → run_read (suc k) count number mid ≡ run_step (run_read k) count number ((esc, byte), new)
one_step k count number mid new esc byte gives = ap (λ (z : Result ((Bool × ℕ) × Reader) Short). z >>= run_step (run_read k) count number) gives.0

pair_long : (mid new : Reader) (esc : Bool) (byte : ℕ) → Gives pair mid new (Ok (esc, byte)) → (left mid ≡ (esc ∷ num 8 byte) ++ left new) × (new.at ≡ mid.at + 9) × (length (left mid) ≡ 9 + length (left new))
pair_long mid new esc byte gives =
    let t = pair-exact.takes mid new (esc, byte) gives.0 in
    let text : List Bool = esc ∷ num 8 byte in
    (t.1, omega (arith, ap (λ (q : Reader). q.at) t.2, length-num 8 byte), omega (arith, ap (λ (x : List Bool). length x) t.1, length-append text (left new), length-num 8 byte))

not_last : (esc : Bool) (n : ℕ) → is_last esc n ≡ false → n ≤ 65535
not_last esc n on =
    elim (last_cases esc n) [
      | inl stop ↦ absurd (let over = sym stop.0 ∙ on in cc)
      | inr more ↦ more.2
    ]

pub goes_on : (old mid new : Reader) (count number : ℕ) (esc : Bool) (byte : ℕ) → SoFar old mid count number → Gives pair mid new (Ok (esc, byte)) → is_last esc (number * 256 + byte) ≡ false
    → SoFar old new (count + 1) (number * 256 + byte)
goes_on old mid new count number esc byte s gives on =
    let le = not_last esc (number * 256 + byte) on in
    let k = s.more - 1 in
    let enough = s.enough in
    let k-is : s.more ≡ suc k = omega arith in
    let long = s.long in
    let p = pair_long mid new esc byte gives in
    record {
      more = k;
      enough = omega (arith, p.2);
      same = s.same ∙ ap (λ (n : ℕ). run_read n count number mid) k-is ∙ one_step k count number mid new esc byte gives ∙ step_more (run_read k) count number esc byte new on;
      text = gives.1.0 ∙ s.text;
      long = omega (arith, p.1);
      small = le;
    }

pub ends : (old mid new : Reader) (count number : ℕ) (esc : Bool) (byte : ℕ) → SoFar old mid count number → Gives pair mid new (Ok (esc, byte)) → is_last esc (number * 256 + byte) ≡ true
    → Gives run old new (Ok (run_of (count + 1) (number * 256 + byte) esc))
ends old mid new count number esc byte s gives stop =
    let k = s.more - 1 in
    let enough = s.enough in
    let k-is : s.more ≡ suc k = omega arith in
    let long = s.long in
    let p = pair_long mid new esc byte gives in
    let all = s.same ∙ ap (λ (n : ℕ). run_read n count number mid) k-is ∙ one_step k count number mid new esc byte gives ∙ step_last (run_read k) count number esc byte new stop in
    (ap (at_start (short_at old.at)) all, (gives.1.0 ∙ s.text, omega (arith, p.1)))

pub stops : (old mid new : Reader) (count number : ℕ) (f : Short) → SoFar old mid count number → Gives pair mid new (Err f) → Gives run old new (Err (short_at old.at))
stops old mid new count number f s gives =
    let k = s.more - 1 in
    let enough = s.enough in
    let long = s.long in
    let k-is : s.more ≡ suc k = omega arith in
    let step : run_read (suc k) count number mid ≡ Err f = ap (λ (z : Result ((Bool × ℕ) × Reader) Short). z >>= run_step (run_read k) count number) gives.0 in
    let all = s.same ∙ ap (λ (n : ℕ). run_read n count number mid) k-is ∙ step in
    (ap (at_start (short_at old.at)) all, (gives.1.0 ∙ s.text, omega (arith, gives.1.1)))
