-- What the top call answers, from how the command ended.
use Rattle.std.proofs.Common.{◌≡◌, ℕ, ◌<◌, List, refl, sym, ap, ◌∙◌, subst, arith, inl, inr, ◌⊎◌}
use Rattle.std.specs.Prelude.{◌≢◌}
use Rattle.outside.specs.declared.sink.Sink
use Rattle.commands.specs.Causes.{Counts, Caused}
use Rattle.causes.specs.Counts.{Rose}
use Rattle.commands.specs.Ran.{Notes, Noted, Reports, NotesOf, CausesOf, FailedTwice, Settles, IsMemory, status_of, text_of}
use Rattle.commands.specs.declared.outcome.Outcome.{Outcome}
use Rattle.commands.specs.declared.outcome.Outcome.TheVariants as is

-- ---- statuses and outcomes

at_zero : (o : Outcome) → status_of o ≡ 0 → o ≡ is.Done
at_zero is.Done e = refl
at_zero (is.Refused text) e = absurd (omega arith)
at_zero is.ReadFault e = absurd (omega arith)
at_zero is.WriteFault e = absurd (omega arith)
at_zero is.CoreFault e = absurd (omega arith)
at_zero (is.Memory error) e = absurd (omega arith)
at_zero is.TooLarge e = absurd (omega arith)

at_one : (o : Outcome) → status_of o ≡ 1 → (text : List ℕ) × (o ≡ is.Refused text)
at_one is.Done e = absurd (omega arith)
at_one (is.Refused text) e = (text, refl)
at_one is.ReadFault e = absurd (omega arith)
at_one is.WriteFault e = absurd (omega arith)
at_one is.CoreFault e = absurd (omega arith)
at_one (is.Memory error) e = absurd (omega arith)
at_one is.TooLarge e = absurd (omega arith)

pub at_three : (o : Outcome) → status_of o ≡ 3 → o ≡ is.ReadFault
at_three is.Done e = absurd (omega arith)
at_three (is.Refused text) e = absurd (omega arith)
at_three is.ReadFault e = refl
at_three is.WriteFault e = absurd (omega arith)
at_three is.CoreFault e = absurd (omega arith)
at_three (is.Memory error) e = absurd (omega arith)
at_three is.TooLarge e = absurd (omega arith)

pub at_four : (o : Outcome) → status_of o ≡ 4 → o ≡ is.WriteFault
at_four is.Done e = absurd (omega arith)
at_four (is.Refused text) e = absurd (omega arith)
at_four is.ReadFault e = absurd (omega arith)
at_four is.WriteFault e = refl
at_four is.CoreFault e = absurd (omega arith)
at_four (is.Memory error) e = absurd (omega arith)
at_four is.TooLarge e = absurd (omega arith)

pub at_five : (o : Outcome) → status_of o ≡ 5 → o ≡ is.CoreFault
at_five is.Done e = absurd (omega arith)
at_five (is.Refused text) e = absurd (omega arith)
at_five is.ReadFault e = absurd (omega arith)
at_five is.WriteFault e = absurd (omega arith)
at_five is.CoreFault e = refl
at_five (is.Memory error) e = absurd (omega arith)
at_five is.TooLarge e = absurd (omega arith)

at_seven : (o : Outcome) → status_of o ≡ 7 → o ≡ is.TooLarge
at_seven is.Done e = absurd (omega arith)
at_seven (is.Refused text) e = absurd (omega arith)
at_seven is.ReadFault e = absurd (omega arith)
at_seven is.WriteFault e = absurd (omega arith)
at_seven is.CoreFault e = absurd (omega arith)
at_seven (is.Memory error) e = absurd (omega arith)
at_seven is.TooLarge e = refl

-- a status other than out of memory is the outcome's, and its text was noted
pub told_status : (n : Notes) (o : Outcome) (s k : ℕ) → Reports n (text_of o) (status_of o) s → s ≡ k → k ≢ 6 → (status_of o ≡ k) × Noted n (text_of o)
told_status n o s k (inl (a, noted)) e ne = (sym a ∙ e, noted)
told_status n o s k (inr (a, part)) e ne = absurd (ne (sym e ∙ a))

-- the answer 0 is that all is done
pub done_outcome : (n : Notes) (o : Outcome) (s : ℕ) → Reports n (text_of o) (status_of o) s → s ≡ 0 → o ≡ is.Done
done_outcome n o s r e = at_zero o (told_status n o s 0 r e (λ same. omega arith)).0

pub read_outcome : (n : Notes) (o : Outcome) (s : ℕ) → Reports n (text_of o) (status_of o) s → s ≡ 3 → o ≡ is.ReadFault
read_outcome n o s r e = at_three o (told_status n o s 3 r e (λ same. omega arith)).0

pub write_outcome : (n : Notes) (o : Outcome) (s : ℕ) → Reports n (text_of o) (status_of o) s → s ≡ 4 → o ≡ is.WriteFault
write_outcome n o s r e = at_four o (told_status n o s 4 r e (λ same. omega arith)).0

pub core_outcome : (n : Notes) (o : Outcome) (s : ℕ) → Reports n (text_of o) (status_of o) s → s ≡ 5 → o ≡ is.CoreFault
core_outcome n o s r e = at_five o (told_status n o s 5 r e (λ same. omega arith)).0

pub large_outcome : (n : Notes) (o : Outcome) (s : ℕ) → Reports n (text_of o) (status_of o) s → s ≡ 7 → o ≡ is.TooLarge
large_outcome n o s r e = at_seven o (told_status n o s 7 r e (λ same. omega arith)).0

pub notes_of : (n : Notes) (o : Outcome) (s : ℕ) → (o ≡ is.Done → (n.after ≡ n.before) × (n.faults_after ≡ n.faults_before)) → Reports n (text_of o) (status_of o) s → NotesOf n s
notes_of n o s quiet r = record {
  done = λ e. quiet (done_outcome n o s r e);
  read = λ e. subst (λ (x : Outcome). Noted n (text_of x)) (read_outcome n o s r e) (told_status n o s 3 r e (λ same. omega arith)).1;
  write = λ e. subst (λ (x : Outcome). Noted n (text_of x)) (write_outcome n o s r e) (told_status n o s 4 r e (λ same. omega arith)).1;
  core = λ e. subst (λ (x : Outcome). Noted n (text_of x)) (core_outcome n o s r e) (told_status n o s 5 r e (λ same. omega arith)).1;
  large = λ e. subst (λ (x : Outcome). Noted n (text_of x)) (large_outcome n o s r e) (told_status n o s 7 r e (λ same. omega arith)).1;
}

-- which counts rose, by how it ended in all
abbrev pub EndCaused : Counts → Counts → Outcome → Type 0
EndCaused before now is.Done = Caused before now is.Done
EndCaused before now (is.Refused text) = Caused before now (is.Refused text)
EndCaused before now is.ReadFault = Caused before now is.ReadFault
EndCaused before now is.WriteFault = Caused before now is.WriteFault ⊎ FailedTwice before now
EndCaused before now is.CoreFault = Caused before now is.CoreFault
EndCaused before now (is.Memory e) = Unit {0}
EndCaused before now is.TooLarge = Caused before now is.TooLarge

unflushed : (before now : Counts) (o : Outcome) → Caused before now o → EndCaused before now o
unflushed before now is.Done c = c
unflushed before now (is.Refused text) c = c
unflushed before now is.ReadFault c = c
unflushed before now is.WriteFault c = inl c
unflushed before now is.CoreFault c = c
unflushed before now (is.Memory e) c = tt
unflushed before now is.TooLarge c = c

abbrev with_out : Counts → ℕ → Counts
with_out c out = record { shelf = c.shelf; out = out; core = c.core }

-- the flush failed, where nothing had
failed_once : (before mid : Counts) (out : ℕ) → mid ≡ before → Rose mid.out out → EndCaused before (with_out mid out) is.WriteFault
failed_once before mid out e r = inl (ap (λ (c : Counts). c.shelf) e, subst (λ (c : Counts). Rose c.out out) e r, ap (λ (c : Counts). c.core) e)

-- the flush failed
failed : (before mid : Counts) (out : ℕ) (o : Outcome) → Caused before mid o → (o ≢ is.WriteFault) → Rose mid.out out → EndCaused before (with_out mid out) is.WriteFault
failed before mid out is.Done c n r = failed_once before mid out c r
failed before mid out (is.Refused text) c n r = failed_once before mid out c r
failed before mid out is.ReadFault c n r = inr (subst (λ (k : ℕ). Rose k out) c.1 r, inl (c.0, c.2))
failed before mid out is.WriteFault c n r = absurd (n refl)
failed before mid out is.CoreFault c n r = inr (subst (λ (k : ℕ). Rose k out) c.1 r, inr (c.0, c.2))
failed before mid out (is.Memory e) c n r = failed_once before mid out c r
failed before mid out is.TooLarge c n r = failed_once before mid out c r

at_memory : (before now : Counts) (o : Outcome) → IsMemory o → EndCaused before now o
at_memory before now is.Done m = absurd m
at_memory before now (is.Refused text) m = absurd m
at_memory before now is.ReadFault m = absurd m
at_memory before now is.WriteFault m = absurd m
at_memory before now is.CoreFault m = absurd m
at_memory before now (is.Memory e) m = tt
at_memory before now is.TooLarge m = absurd m

settled : (before mid : Counts) (out : ℕ) (o ended : Outcome) → Caused before mid o → Settles mid.out out o ended → EndCaused before (with_out mid out) ended
settled before mid out o ended c (inl (same, e)) =
    subst (λ (x : Outcome). EndCaused before (with_out mid out) x) (sym e) (subst (λ (k : ℕ). EndCaused before (with_out mid k) o) (sym same) (unflushed before mid o c))
settled before mid out o ended c (inr (inl (n, rose, e))) = subst (λ (x : Outcome). EndCaused before (with_out mid out) x) (sym e) (failed before mid out o c n rose)
settled before mid out o ended c (inr (inr (same, m))) = at_memory before (with_out mid out) ended m

-- no count rose at the statuses below 3
none_below : (before now : Counts) (o : Outcome) → status_of o < 3 → EndCaused before now o → now ≡ before
none_below before now is.Done lt c = c
none_below before now (is.Refused text) lt c = c
none_below before now is.ReadFault lt c = absurd (omega arith)
none_below before now is.WriteFault lt c = absurd (omega arith)
none_below before now is.CoreFault lt c = absurd (omega arith)
none_below before now (is.Memory error) lt c = absurd (omega arith)
none_below before now is.TooLarge lt c = c

pub causes_of : (n : Notes) (before mid : Counts) (out : ℕ) (o ended : Outcome) (s : ℕ) → Caused before mid o → Settles mid.out out o ended → Reports n (text_of ended) (status_of ended) s → CausesOf before (record { shelf = mid.shelf; out = out; core = mid.core }) s
causes_of n before mid out o ended s c f r =
    let k = settled before mid out o ended c f in
    record {
      none = λ lt. let t = told_status n ended s s r refl (λ same. omega (arith, lt, same)) in none_below before (with_out mid out) ended (omega (arith, t.0, lt)) k;
      read = λ e. subst (λ (x : Outcome). EndCaused before (with_out mid out) x) (read_outcome n ended s r e) k;
      write = λ e. subst (λ (x : Outcome). EndCaused before (with_out mid out) x) (write_outcome n ended s r e) k;
      core = λ e. subst (λ (x : Outcome). EndCaused before (with_out mid out) x) (core_outcome n ended s r e) k;
      large = λ e. subst (λ (x : Outcome). EndCaused before (with_out mid out) x) (large_outcome n ended s r e) k;
    }

-- every status but that of the usage
pub play_status : (n : Notes) (o : Outcome) (s : ℕ) → Reports n (text_of o) (status_of o) s → (s < 8) × (s ≢ 2)
play_status n o s (inr (a, part)) = (omega (arith, a), λ e. omega (arith, a, e))
play_status n o s (inl (a, noted)) = by_outcome o a
  where
    by_outcome : (o : Outcome) → s ≡ status_of o → (s < 8) × (s ≢ 2)
    by_outcome is.Done e = (omega arith, λ two. omega arith)
    by_outcome (is.Refused text) e = (omega arith, λ two. omega arith)
    by_outcome is.ReadFault e = (omega arith, λ two. omega arith)
    by_outcome is.WriteFault e = (omega arith, λ two. omega arith)
    by_outcome is.CoreFault e = (omega arith, λ two. omega arith)
    by_outcome (is.Memory error) e = (omega arith, λ two. omega arith)
    by_outcome is.TooLarge e = (omega arith, λ two. omega arith)

-- note is as it was
pub same_notes : {N : Type 0} (k : Sink.Ghosts N) (old new : N) → new ≡ old → (k.written new ≡ k.written old) × (k.faults new ≡ k.faults old)
same_notes k old new e = (ap k.written e, ap k.faults e)
