-- A call on several inputs, from one to the next and to its end.
use Rattle.std.proofs.Common.{◌≡◌, ℕ, ◌+◌, ◌^◌, ◌<◌, ◌≤◌, Bool, false, List, [], ◌∷◌, ◌++◌, length, map, take, drop, get_or, Option, Some, refl, sym, ap, subst, ◌∙◌, append_assoc, arith, inl, inr}
use Rattle.std.specs.Prelude.{◌≢◌, IsSome, IsTrue}
use Rattle.std.specs.Io.KnownBytes.{prepend_known}
use Rattle.std.proofs.lemmas.List.{append-nil, length-append, take-append-drop, map-append, take_more, drop_more, drop_all}
use Rattle.commands.specs.declared.outcome.Outcome.{Outcome}
use Rattle.commands.specs.declared.outcome.Outcome.TheVariants as is
use Rattle.commands.specs.Causes.{Counts, Caused}
use Rattle.commands.specs.Ending.{Traces}
use Rattle.au_stream.specs.Frames.{Frame}
use Rattle.commands.specs.Commands.{Command}
use Rattle.commands.specs.Doing.{DoesSource, IsNotBegun, DoesFrames}
use Rattle.commands.specs.Worlds.{World, traces}
use Rattle.commands.specs.Calling.{AreTaken, AreHeld, AllHeld, BegunHeld, Keeps, Called}
use Rattle.commands.specs.OnInputs.{Several, Middle, from_middle, ServesInputs, EndsAt, Led, LedTold, GoesOnTo, LeadsOn, several, on_inputs}
use Rattle.commands.proofs.Files.{taken_more, taken_stays, taken_among, held_more, held_among, told_more, alone_more, idle_told, idle_alone, stopped_told, stopped_alone}

-- ---- the names

module _ {A : Type 0} (f : A → List ℕ) (xs : List A) (i : ℕ) where
  pub names_all : map f xs ≡ map f (take i xs) ++ map f (drop i xs)
  names_all = ap (map f) (sym (take-append-drop i xs)) ∙ map-append f (take i xs) (drop i xs)

  pub names_next : (d : A) → i < length xs → map f (drop i xs) ≡ f (get_or xs i d) ∷ map f (drop (i + 1) xs)
  names_next d lt = ap (map f) (drop_more xs i d lt)

  pub names_done : (d : A) → i < length xs → map f (take (i + 1) xs) ≡ map f (take i xs) ++ f (get_or xs i d) ∷ []
  names_done d lt = ap (map f) (take_more xs i d lt) ∙ map-append f (take i xs) (get_or xs i d ∷ [])

  pub names_end : length xs ≤ i → map f (drop i xs) ≡ []
  names_end le = ap (map f) (drop_all i xs le)

-- ---- small facts

not_done : (o : Outcome) → IsNotBegun o → o ≡ is.Done → ⊥
not_done is.Done n e = n
not_done (is.Refused w) n e = n
not_done is.ReadFault n e = cc
not_done is.WriteFault n e = n
not_done is.CoreFault n e = n
not_done (is.Memory x) n e = cc
not_done is.TooLarge n e = n

not_write : (o : Outcome) → IsNotBegun o → o ≡ is.WriteFault → ⊥
not_write is.Done n e = n
not_write (is.Refused w) n e = n
not_write is.ReadFault n e = cc
not_write is.WriteFault n e = n
not_write is.CoreFault n e = n
not_write (is.Memory x) n e = cc
not_write is.TooLarge n e = n

not_core : (o : Outcome) → IsNotBegun o → o ≡ is.CoreFault → ⊥
not_core is.Done n e = n
not_core (is.Refused w) n e = n
not_core is.ReadFault n e = cc
not_core is.WriteFault n e = n
not_core is.CoreFault n e = n
not_core (is.Memory x) n e = cc
not_core is.TooLarge n e = n

all_held_at : (bytes : List ℕ → Option (List ℕ)) (done rest : List (List ℕ)) (name : List ℕ) → AllHeld bytes (done ++ name ∷ rest) → IsSome (bytes name)
all_held_at bytes [] rest name h = h.0
all_held_at bytes (d ∷ ds) rest name h = all_held_at bytes ds rest name h.1

none_done : (done taken : List (List ℕ)) → length taken ≡ length done → taken ≡ [] → done ≡ []
none_done [] taken n e = refl
none_done (d ∷ ds) taken n e = absurd (let z : length taken ≡ 0 = ap (λ (x : List (List ℕ)). length x) e in omega (arith, n, z))

some_taken : (taken : List (List ℕ)) (front : List ℕ) → taken ++ front ∷ [] ≡ [] → ⊥
some_taken [] front e = cc
some_taken (x ∷ xs) front e = cc

none_left : (bytes : List ℕ → Option (List ℕ)) (rest more : List (List ℕ)) → rest ≡ [] → AreHeld bytes rest more → more ≡ []
none_left bytes [] [] e h = refl
none_left bytes [] (t ∷ ts) e h = absurd h
none_left bytes (n ∷ ns) more e h = absurd cc

keeps_on : {H K C : Type 0} (before now after : World H K C) (n : ℕ) → now.begun ≡ before.begun + n → Keeps before now → Keeps now after → Keeps before after
keeps_on before now after n b k l = record {
  names = l.names ∙ k.names;
  tells = l.tells ∙ k.tells;
  others = λ id lt. l.others id (omega (arith, lt, b)) ∙ k.others id lt;
  calm_shelf = λ h. l.calm_shelf (k.calm_shelf h);
  calm_out = λ h. l.calm_out (k.calm_out h);
  calm_core = λ h. l.calm_core (k.calm_core h);
}

-- What a run on one input did, behind a moment: it began it, and ended so.
pub record RunsOne {At : Type 0} {H K C : Type 0} (s : Several At) (at next : At) (name : List ℕ) (before now after : World H K C) (o : Outcome) : Type 0 where
  pub left : Option (List ℕ)
  pub start : left ≡ now.bytes name
  pub does : DoesSource (EndsAt s at next) left (after.left now.begun) (from_middle (traces before after) (record { written = now.written; fed = now.fed })) o
  pub begun : after.begun ≡ now.begun + 1
  pub held : IsTrue now.tells → IsSome (now.bytes name)
  pub caused : Caused now.faults after.faults o
  pub keeps : Keeps now after
  pub few : after.fed ≤ now.fed + 2 ^ 33
  pub untouched : s.plays ≡ false → after.core ≡ now.core
  pub calm_reads : now.calm_shelf → o ≢ is.ReadFault
  pub calm_writes : now.calm_out → o ≢ is.WriteFault
  pub calm_decodes : (text : List ℕ) → now.bytes name ≡ Some text → (let i = s.one at in i.Serves text) → now.calm_core → o ≢ is.CoreFault
  pub no_core : s.plays ≡ false → o ≢ is.CoreFault

module _ {At : Type 0} {H K C : Type 0} (s : Several At) (from at : At) (done rest names : List (List ℕ)) (before now : World H K C) (all : names ≡ done ++ rest) (g : GoesOnTo s from at done rest before now) where
  as_done : (texts : List (List ℕ)) → AreHeld before.bytes names texts → AreHeld before.bytes (done ++ rest) texts
  as_done texts h = subst (λ (x : List (List ℕ)). AreHeld before.bytes x texts) all h

  as_names : (left : ℕ → Option (List ℕ)) (taken : List (List ℕ)) → AreTaken before.bytes left before.begun (done ++ rest) taken → AreTaken before.bytes left before.begun names taken
  as_names left taken h = subst (λ (x : List (List ℕ)). AreTaken before.bytes left before.begun x taken) (sym all) h

  -- all of them passed
  pub all_passed : rest ≡ [] → Called (on_inputs s from) names before now is.Done
  all_passed none = record {
    taken = g.taken;
    from = as_names now.left g.taken (taken_among before.bytes now.left before.begun done rest g.taken g.taken_of);
    begun = g.begun;
    all_begun = λ e. g.number ∙ ap (λ (x : List (List ℕ)). length x) (sym (all ∙ ap (λ (x : List (List ℕ)). done ++ x) none ∙ append-nil done));
    does = λ texts h. idle_told s from at before.bytes rest texts g.taken (traces before now) is.Done (g.told texts (as_done texts h)) (λ more m. (record { written = refl; fed = refl }, inl (refl, none_left before.bytes rest more none m)));
    accounts = idle_alone s from at g.taken (traces before now) is.Done g.alone (record { written = refl; fed = refl }, inl (refl, refl));
    held = λ tells. subst (λ (x : List (List ℕ)). BegunHeld before.bytes x g.taken) (sym all) (held_among before.bytes done rest g.taken (g.held tells));
    nothing = λ some e. g.first (none_done done g.taken g.number e);
    caused = g.faults;
    keeps = g.keeps;
    calm_reads = λ calm h e. cc;
    calm_writes = λ calm e. cc;
    calm_decodes = λ texts h served calm e. cc;
    no_core = λ unused e. cc;
    untouched = g.untouched;
  }

  -- the next one was not begun
  pub not_begun : (name : List ℕ) (later : List (List ℕ)) (after : World H K C) (o : Outcome) → rest ≡ name ∷ later → IsNotBegun o → traces before now ≡ traces before after → after.out ≡ now.out → after.core ≡ now.core → after.begun ≡ now.begun → Keeps now after → Caused now.faults after.faults o
      → (now.calm_shelf → IsSome (now.bytes name) → o ≢ is.ReadFault) → Called (on_inputs s from) names before after o
  not_begun name later after o next nb same out core begun keeps caused reads = record {
    taken = g.taken;
    from = as_names after.left g.taken (taken_among before.bytes after.left before.begun done rest g.taken (taken_stays before.bytes now.left after.left before.begun done g.taken g.taken_of (λ id lt. keeps.others id (omega (arith, lt, g.begun)))));
    begun = begun ∙ g.begun;
    all_begun = λ e. absurd (not_done o nb e);
    does = λ texts h. idle_told s from at before.bytes rest texts g.taken (traces before after) o (subst (λ (t : Traces). LedTold s from at before.bytes rest texts g.taken t) same (g.told texts (as_done texts h))) (λ more m. (record { written = refl; fed = refl }, inr nb));
    accounts = idle_alone s from at g.taken (traces before after) o (subst (λ (t : Traces). Led s from g.taken g.taken t at) same g.alone) (record { written = refl; fed = refl }, inr nb);
    held = λ tells. subst (λ (x : List (List ℕ)). BegunHeld before.bytes x g.taken) (sym all) (held_among before.bytes done rest g.taken (g.held tells));
    nothing = λ some e. let k = g.first (none_done done g.taken g.number e) in (out ∙ k.0, core ∙ k.1);
    caused = subst (λ (x : Counts). Caused x after.faults o) g.faults caused;
    keeps = keeps_on before now after (length g.taken) g.begun g.keeps keeps;
    calm_reads = λ calm h.
        let here = all_held_at before.bytes done later name (subst (λ (x : List (List ℕ)). AllHeld before.bytes x) (all ∙ ap (λ (x : List (List ℕ)). done ++ x) next) h) in
        reads (g.keeps.calm_shelf calm) (subst (λ (b : List ℕ → Option (List ℕ)). IsSome (b name)) (sym g.keeps.names) here);
    calm_writes = λ calm. not_write o nb;
    calm_decodes = λ texts h served calm. not_core o nb;
    no_core = λ unused. not_core o nb;
    untouched = λ unused. core ∙ g.untouched unused;
  }

  at_bytes : (name : List ℕ) → now.bytes name ≡ before.bytes name
  at_bytes name = ap (λ (b : List ℕ → Option (List ℕ)). b name) g.keeps.names

  -- the left of those that passed, behind one more
  stays : {next : At} {name : List ℕ} {after : World H K C} {o : Outcome} (r : RunsOne s at next name before now after o) → AreTaken before.bytes after.left before.begun done g.taken
  stays {after = after} r = taken_stays before.bytes now.left after.left before.begun done g.taken g.taken_of (λ id lt. (let k = r.keeps in k.others) id (omega (arith, lt, g.begun)))

  one_more : (next : At) (name : List ℕ) (after : World H K C) (o : Outcome) (r : RunsOne s at next name before now after o) → (let p = r.does in AreTaken before.bytes after.left before.begun (done ++ name ∷ []) (g.taken ++ p.taken ∷ []))
  one_more next name after o r =
      let p = r.does in
      taken_more before.bytes after.left before.begun done g.taken name p.taken (stays r) g.number (sym (at_bytes name) ∙ sym r.start ∙ p.from ∙ ap (λ (n : ℕ). prepend_known p.taken (after.left n)) g.begun) p.within

  -- it stopped the command
  pub stopped_here : (next : At) (name : List ℕ) (later : List (List ℕ)) (after : World H K C) (o : Outcome) → rest ≡ name ∷ later → o ≢ is.Done → RunsOne s at next name before now after o → Called (on_inputs s from) names before after o
  stopped_here next name later after o follows stop r =
      let p = r.does in
      let whole : names ≡ (done ++ name ∷ []) ++ later = all ∙ ap (λ (x : List (List ℕ)). done ++ x) follows ∙ sym (append_assoc done (name ∷ []) later) in
      let m : Middle = record { written = now.written; fed = now.fed } in
      record {
        taken = g.taken ++ p.taken ∷ [];
        from = subst (λ (x : List (List ℕ)). AreTaken before.bytes after.left before.begun x (g.taken ++ p.taken ∷ [])) (sym whole) (taken_among before.bytes after.left before.begun (done ++ name ∷ []) later (g.taken ++ p.taken ∷ []) (one_more next name after o r));
        begun = omega (arith, r.begun, g.begun, length-append g.taken (p.taken ∷ []));
        all_begun = λ e. absurd (stop e);
        does = λ texts h.
            stopped_told s from at next before.bytes name later texts g.taken (traces before after) m o r.left (after.left now.begun) (r.start ∙ at_bytes name) stop (subst (λ (x : List (List ℕ)). LedTold s from at before.bytes x texts g.taken (traces before now)) follows (g.told texts (as_done texts h))) p;
        accounts = stopped_alone s from at next g.taken (traces before after) m o r.left (after.left now.begun) stop g.alone p;
        held = λ tells.
            subst (λ (x : List (List ℕ)). BegunHeld before.bytes x (g.taken ++ p.taken ∷ [])) (sym whole)
            (held_among before.bytes (done ++ name ∷ []) later (g.taken ++ p.taken ∷ [])
            (held_more before.bytes done g.taken name p.taken (g.held tells) g.number (subst (λ (b : List ℕ → Option (List ℕ)). IsSome (b name)) g.keeps.names (r.held (subst (λ (b : Bool). IsTrue b) (sym g.keeps.tells) tells)))));
        nothing = λ some e. absurd (some_taken g.taken p.taken e);
        caused = subst (λ (x : Counts). Caused x after.faults o) g.faults r.caused;
        keeps = keeps_on before now after (length g.taken) g.begun g.keeps r.keeps;
        calm_reads = λ calm h. r.calm_reads (g.keeps.calm_shelf calm);
        calm_writes = λ calm. r.calm_writes (g.keeps.calm_out calm);
        calm_decodes = λ texts h served calm. decodes texts (g.told texts (as_done texts h)) served (g.keeps.calm_core calm);
        no_core = r.no_core;
        untouched = λ unused. r.untouched unused ∙ g.untouched unused;
      }
    where
      decodes : (texts : List (List ℕ)) → LedTold s from at before.bytes rest texts g.taken (traces before now) → ServesInputs s from texts → now.calm_core → o ≢ is.CoreFault
      decodes texts l served calm = by_more l.more (subst (λ (x : List (List ℕ)). AreHeld before.bytes x l.more) follows l.held) (l.serves served)
        where
          by_more : (more : List (List ℕ)) → AreHeld before.bytes (name ∷ later) more → ServesInputs s at more → o ≢ is.CoreFault
          by_more [] h v = absurd h
          by_more (text ∷ more) h v = r.calm_decodes text (at_bytes name ∙ h.0) v.0 calm

  -- it passed
  pub passed_here : (next : At) (name : List ℕ) (later : List (List ℕ)) (after : World H K C) → rest ≡ name ∷ later → RunsOne s at next name before now after is.Done → GoesOnTo s from next (done ++ name ∷ []) later before after
  passed_here next name later after follows r =
      let p = r.does in
      let m : Middle = record { written = now.written; fed = now.fed } in
      record {
        taken = g.taken ++ p.taken ∷ [];
        number = omega (arith, g.number, length-append g.taken (p.taken ∷ []), length-append done (name ∷ []));
        taken_of = one_more next name after is.Done r;
        begun = omega (arith, r.begun, g.begun, length-append g.taken (p.taken ∷ []));
        told = λ texts h.
            let h' = subst (λ (x : List (List ℕ)). AreHeld before.bytes x texts) (append_assoc done (name ∷ []) later ∙ ap (λ (x : List (List ℕ)). done ++ x) (sym follows)) h in
            told_more s from at next before.bytes name later texts g.taken (traces before after) m r.left (after.left now.begun) (r.start ∙ at_bytes name) (subst (λ (x : List (List ℕ)). LedTold s from at before.bytes x texts g.taken (traces before now)) follows (g.told texts h')) p;
        alone = alone_more s from at next g.taken (traces before after) m r.left (after.left now.begun) g.alone p;
        held = λ tells. held_more before.bytes done g.taken name p.taken (g.held tells) g.number (subst (λ (b : List ℕ → Option (List ℕ)). IsSome (b name)) g.keeps.names (r.held (subst (λ (b : Bool). IsTrue b) (sym g.keeps.tells) tells)));
        first = λ none. absurd (some_taken done name none);
        faults = r.caused ∙ g.faults;
        keeps = keeps_on before now after (length g.taken) g.begun g.keeps r.keeps;
        untouched = λ unused. r.untouched unused ∙ g.untouched unused;
        fed = omega (arith, r.few, g.fed, length-append done (name ∷ []));
      }

-- ---- the frames of one of several inputs

-- where they lead, and how it stands there
pub handed_on : {At : Type 0} (command : At → Command) (then : At → List Frame → At) (plays : Bool) (at : At) (Holds : List Frame → Type 0) (Ready : At → Type 0) (left0 left1 : Option (List ℕ)) (t : Traces) (o : Outcome)
    → (o ≡ is.Done → (frames : List Frame) → Holds frames → Ready (then at frames)) → DoesFrames (command at) Holds left0 left1 t o → LeadsOn (several command then plays) at Ready left0 left1 t o
handed_on command then plays at Holds Ready left0 left1 t o turned q =
    let p = q.does in
    record {
      next = then at q.frames;
      ready = λ done. turned done q.frames (q.holds done);
      does = record {
        taken = p.taken;
        from = p.from;
        within = p.within;
        ended = p.ended;
        at_end = p.at_end;
        ends = λ rest e.
            let k = p.ends rest e in
            (k.0, λ done. let h = k.1 done in (q.frames, h.passes, refl));
      };
    }
