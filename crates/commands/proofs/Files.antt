-- Several inputs, one after another.
use Rattle.std.proofs.Common.{◌≡◌, ℕ, ◌+◌, ◌<◌, ◌≤◌, List, [], ◌∷◌, ◌++◌, length, Option, Some, refl, sym, ap, subst, ◌∙◌, append_assoc, arith, inl, inr}
use Rattle.std.specs.Prelude.{IsSome}
use Rattle.std.specs.Io.KnownBytes.{prepend_known, IsAtEnd}
use Rattle.std.proofs.lemmas.List.{append-nil}
use Rattle.au_stream.specs.Script.{most_bytes}
use Rattle.commands.specs.declared.outcome.Outcome.{Outcome}
use Rattle.commands.specs.declared.outcome.Outcome.TheVariants as is
use Rattle.commands.specs.Ending.{Traces, IsIdle}
use Rattle.commands.specs.Doing.{DoesSource}
use Rattle.commands.specs.Calling.{AreTaken, AreHeld, BegunHeld}
use Rattle.commands.specs.OnInputs.{Several, Middle, until_middle, from_middle, DoesInputs, ServesInputs, EndsAt, Led, LedTold}
use Rattle.commands.proofs.Endings.{told}

-- ---- what was taken

pub taken_more : (bytes : List ℕ → Option (List ℕ)) (left : ℕ → Option (List ℕ)) (a : ℕ) (done taken : List (List ℕ)) (name front : List ℕ) → AreTaken bytes left a done taken → length taken ≡ length done → bytes name ≡ prepend_known front (left (a + length taken)) → length front ≤ most_bytes + 1
    → AreTaken bytes left a (done ++ name ∷ []) (taken ++ front ∷ [])
taken_more bytes left a [] [] name front h n e w = (e ∙ ap (λ (k : ℕ). prepend_known front (left k)) (let z : a + 0 ≡ a = omega arith in z), w, tt)
taken_more bytes left a [] (f ∷ fs) name front h n e w = absurd h
taken_more bytes left a (d ∷ ds) [] name front h n e w = absurd (omega (arith, n))
taken_more bytes left a (d ∷ ds) (f ∷ fs) name front h n e w =
    (h.0, h.1, taken_more bytes left (a + 1) ds fs name front h.2 (omega (arith, n)) (e ∙ ap (λ (k : ℕ). prepend_known front (left k)) (let z : a + length (f ∷ fs) ≡ (a + 1) + length fs = omega arith in z)) w)

pub taken_stays : (bytes : List ℕ → Option (List ℕ)) (left left' : ℕ → Option (List ℕ)) (a : ℕ) (names taken : List (List ℕ)) → AreTaken bytes left a names taken → ((id : ℕ) → id < a + length taken → left' id ≡ left id) → AreTaken bytes left' a names taken
taken_stays bytes left left' a names [] h same = tt
taken_stays bytes left left' a [] (f ∷ fs) h same = absurd h
taken_stays bytes left left' a (n ∷ ns) (f ∷ fs) h same = (h.0 ∙ ap (prepend_known f) (sym (same a (omega arith))), h.1, taken_stays bytes left left' (a + 1) ns fs h.2 (λ id lt. same id (omega (arith, lt))))

pub taken_among : (bytes : List ℕ → Option (List ℕ)) (left : ℕ → Option (List ℕ)) (a : ℕ) (done rest taken : List (List ℕ)) → AreTaken bytes left a done taken → AreTaken bytes left a (done ++ rest) taken
taken_among bytes left a done rest [] h = tt
taken_among bytes left a [] rest (f ∷ fs) h = absurd h
taken_among bytes left a (n ∷ ns) rest (f ∷ fs) h = (h.0, h.1, taken_among bytes left (a + 1) ns rest fs h.2)

pub held_more : (bytes : List ℕ → Option (List ℕ)) (done taken : List (List ℕ)) (name front : List ℕ) → BegunHeld bytes done taken → length taken ≡ length done → IsSome (bytes name) → BegunHeld bytes (done ++ name ∷ []) (taken ++ front ∷ [])
held_more bytes [] [] name front h n s = (s, tt)
held_more bytes [] (f ∷ fs) name front h n s = absurd h
held_more bytes (d ∷ ds) [] name front h n s = absurd (omega (arith, n))
held_more bytes (d ∷ ds) (f ∷ fs) name front h n s = (h.0, held_more bytes ds fs name front h.1 (omega (arith, n)) s)

pub held_among : (bytes : List ℕ → Option (List ℕ)) (done rest taken : List (List ℕ)) → BegunHeld bytes done taken → BegunHeld bytes (done ++ rest) taken
held_among bytes done rest [] h = tt
held_among bytes [] rest (f ∷ fs) h = absurd h
held_among bytes (n ∷ ns) rest (f ∷ fs) h = (h.0, held_among bytes ns rest fs h.1)

-- ---- one input behind those that passed

moved : {At : Type 0} (P : At → Traces → Type 0) (from at : At) (t : Traces) (m : Middle) → at ≡ from → IsIdle (until_middle t m) → P at (from_middle t m) → P from t
moved {At = At} P from at t m e i p =
    let at_start : Option (List ℕ) → ℕ → Traces = λ w n. record { written_before = w; written_after = t.written_after; fed_before = n; fed_after = t.fed_after } in
    subst (λ (x : At). P x t) e (subst (λ (w : Option (List ℕ)). P at (at_start w t.fed_before)) i.written (subst (λ (n : ℕ). P at (at_start m.written n)) i.fed p))

pub led_then : {At : Type 0} (s : Several At) (from at : At) (texts taken : List (List ℕ)) (t : Traces) (m : Middle) (more rest : List (List ℕ)) (o : Outcome) → Led s from texts taken (until_middle t m) at → DoesInputs s at more rest (from_middle t m) o
    → DoesInputs s from (texts ++ more) (taken ++ rest) t o
led_then s from at [] [] t m more rest o l d = moved (λ a x. DoesInputs s a more rest x o) from at t m l.0 l.1 d
led_then s from at [] (front ∷ taken) t m more rest o l d = absurd l
led_then s from at (text ∷ texts) [] t m more rest o l d = absurd l
led_then s from at (text ∷ texts) (front ∷ taken) t m more rest o l d =
    inr (l.0, l.1, record { ends = l.2.ends; leads = l.2.leads }, led_then s l.0 at texts taken (from_middle t l.1) m more rest o l.3 d)

pub led_more : {At : Type 0} (s : Several At) (from at next : At) (texts taken : List (List ℕ)) (t : Traces) (m : Middle) (text front : List ℕ) → Led s from texts taken (until_middle t m) at → EndsAt s at next text front (from_middle t m) is.Done
    → Led s from (texts ++ text ∷ []) (taken ++ front ∷ []) t next
led_more s from at next [] [] t m text front l e =
    let here = moved (λ a x. EndsAt s a next text front x is.Done) from at t m l.0 l.1 e in
    (next, record { written = t.written_after; fed = t.fed_after }, record { ends = here.0; leads = here.1 refl }, (refl, record { written = refl; fed = refl }))
led_more s from at next [] (front' ∷ taken) t m text front l e = absurd l
led_more s from at next (text' ∷ texts) [] t m text front l e = absurd l
led_more s from at next (text' ∷ texts) (front' ∷ taken) t m text front l e =
    (l.0, l.1, record { ends = l.2.ends; leads = l.2.leads }, led_more s l.0 at next texts taken (from_middle t l.1) m text front l.3 e)

-- ---- where the shelf tells

pub told_start : {At : Type 0} (s : Several At) (at : At) (bytes : List ℕ → Option (List ℕ)) (names texts : List (List ℕ)) (w : Option (List ℕ)) (n : ℕ) → AreHeld bytes names texts
    → LedTold s at at bytes names texts [] (record { written_before = w; written_after = w; fed_before = n; fed_after = n })
told_start s at bytes names texts w n h = record { gone = []; more = texts; all = refl; led = (refl, record { written = refl; fed = refl }); held = h; serves = λ x. x }

ends_told : {At : Type 0} (s : Several At) (at next : At) (before left : Option (List ℕ)) (t : Traces) (o : Outcome) (text : List ℕ) → before ≡ Some text → (p : DoesSource (EndsAt s at next) before left t o) → EndsAt s at next text p.taken t o
ends_told s at next before left t o text start p =
    let k = told text p.taken left (sym start ∙ p.from) in
    subst (λ (x : List ℕ). EndsAt s at next x p.taken t o) (sym k.2) (p.ends k.0 (λ e. subst IsAtEnd k.1 (p.at_end e)))

pub told_more : {At : Type 0} (s : Several At) (from at next : At) (bytes : List ℕ → Option (List ℕ)) (name : List ℕ) (rest texts taken : List (List ℕ)) (t : Traces) (m : Middle) (before left : Option (List ℕ)) → before ≡ bytes name → LedTold s from at bytes (name ∷ rest) texts taken (until_middle t m)
    → (p : DoesSource (EndsAt s at next) before left (from_middle t m) is.Done) → LedTold s from next bytes rest texts (taken ++ p.taken ∷ []) t
told_more s from at next bytes name rest texts taken t m before left start l p = by_more l.more l.all l.held l.serves
  where
    by_more : (more : List (List ℕ)) → texts ≡ l.gone ++ more → AreHeld bytes (name ∷ rest) more → (ServesInputs s from texts → ServesInputs s at more) → LedTold s from next bytes rest texts (taken ++ p.taken ∷ []) t
    by_more [] all h serves = absurd h
    by_more (text ∷ more) all h serves =
        let e = ends_told s at next before left (from_middle t m) is.Done text (start ∙ h.0) p in
        record {
          gone = l.gone ++ text ∷ [];
          more = more;
          all = all ∙ sym (append_assoc l.gone (text ∷ []) more);
          led = led_more s from at next l.gone taken t m text p.taken l.led e;
          held = h.1;
          serves = λ x. (serves x).1 next (e.1 refl);
        }

pub alone_more : {At : Type 0} (s : Several At) (from at next : At) (taken : List (List ℕ)) (t : Traces) (m : Middle) (before left : Option (List ℕ)) → Led s from taken taken (until_middle t m) at → (p : DoesSource (EndsAt s at next) before left (from_middle t m) is.Done)
    → Led s from (taken ++ p.taken ∷ []) (taken ++ p.taken ∷ []) t next
alone_more s from at next taken t m before left l p = led_more s from at next taken taken t m p.taken p.taken l (subst (λ (x : List ℕ). EndsAt s at next x p.taken (from_middle t m) is.Done) (append-nil p.taken) (p.ends [] (λ e. refl)))

-- ---- the end

-- all passed, or the next one was not begun
pub idle_told : {At : Type 0} (s : Several At) (from at : At) (bytes : List ℕ → Option (List ℕ)) (rest texts taken : List (List ℕ)) (t : Traces) (o : Outcome) → LedTold s from at bytes rest texts taken t → ((more : List (List ℕ)) → AreHeld bytes rest more → DoesInputs s at more [] (from_middle t (record { written = t.written_after; fed = t.fed_after })) o)
    → DoesInputs s from texts taken t o
idle_told s from at bytes rest texts taken t o l d =
    let k = led_then s from at l.gone taken t (record { written = t.written_after; fed = t.fed_after }) l.more [] o l.led (d l.more l.held) in
    subst (λ (x : List (List ℕ)). DoesInputs s from texts x t o) (append-nil taken) (subst (λ (x : List (List ℕ)). DoesInputs s from x (taken ++ []) t o) (sym l.all) k)

pub idle_alone : {At : Type 0} (s : Several At) (from at : At) (taken : List (List ℕ)) (t : Traces) (o : Outcome) → Led s from taken taken t at → DoesInputs s at [] [] (from_middle t (record { written = t.written_after; fed = t.fed_after })) o → DoesInputs s from taken taken t o
idle_alone s from at taken t o l d =
    let k = led_then s from at taken taken t (record { written = t.written_after; fed = t.fed_after }) [] [] o l d in
    subst (λ (x : List (List ℕ)). DoesInputs s from x x t o) (append-nil taken) k

-- the command was stopped in an input
pub stopped_told : {At : Type 0} (s : Several At) (from at next : At) (bytes : List ℕ → Option (List ℕ)) (name : List ℕ) (rest texts taken : List (List ℕ)) (t : Traces) (m : Middle) (o : Outcome) (before left : Option (List ℕ)) → before ≡ bytes name → (o ≡ is.Done → ⊥)
    → LedTold s from at bytes (name ∷ rest) texts taken (until_middle t m) → (p : DoesSource (EndsAt s at next) before left (from_middle t m) o) → DoesInputs s from texts (taken ++ p.taken ∷ []) t o
stopped_told s from at next bytes name rest texts taken t m o before left start stop l p = by_more l.more l.all l.held
  where
    by_more : (more : List (List ℕ)) → texts ≡ l.gone ++ more → AreHeld bytes (name ∷ rest) more → DoesInputs s from texts (taken ++ p.taken ∷ []) t o
    by_more [] all h = absurd h
    by_more (text ∷ more) all h =
        let e = ends_told s at next before left (from_middle t m) o text (start ∙ h.0) p in
        subst (λ (x : List (List ℕ)). DoesInputs s from x (taken ++ p.taken ∷ []) t o) (sym all)
        (led_then s from at l.gone taken t m (text ∷ more) (p.taken ∷ []) o l.led (inl (record { last = refl; stopped = stop; ends = e.0 })))

pub stopped_alone : {At : Type 0} (s : Several At) (from at next : At) (taken : List (List ℕ)) (t : Traces) (m : Middle) (o : Outcome) (before left : Option (List ℕ)) → (o ≡ is.Done → ⊥) → Led s from taken taken (until_middle t m) at → (p : DoesSource (EndsAt s at next) before left (from_middle t m) o)
    → DoesInputs s from (taken ++ p.taken ∷ []) (taken ++ p.taken ∷ []) t o
stopped_alone s from at next taken t m o before left stop l p =
    let e = subst (λ (x : List ℕ). EndsAt s at next x p.taken (from_middle t m) o) (append-nil p.taken) (p.ends [] (λ e. refl)) in
    led_then s from at taken taken t m (p.taken ∷ []) (p.taken ∷ []) o l (inl (record { last = refl; stopped = stop; ends = e.0 }))
