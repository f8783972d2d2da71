-- What is answered to `play` and to `start`, from what they take and from what is answered of a file's frames.
use Rattle.std.proofs.Common.{◌≡◌, ℕ, List, [], map, refl, ap, sym, ◌∙◌, ◌⊎◌, inl, inr, arith}
use Rattle.std.specs.Io.KnownBytes.{append_known}
use Rattle.plans.specs.Coded.{Coded}
use Rattle.plans.specs.Parts.{Part}
use Rattle.plans.specs.OwnPlan.{own_plan}
use Rattle.plans.specs.SoundPlan.{IsSoundPlan}
use Rattle.core_iface.specs.Decoding.{Definitions}
use Rattle.au_stream.specs.Frames.{Frame}
use Rattle.au_stream.specs.Script.{End}
use Rattle.commands.specs.Ending.{Traces, Passes}
use Rattle.commands.specs.Ran.{Notes}
use Rattle.playing.specs.Playing.{playing, output}
use Rattle.playing.specs.Starting.{starting}
use Rattle.playing.specs.Spliced.{coded, CarriesSplice, CarriesNoSplice, CarriesOwn, own_bytes, TakesFilesOfSplices}
use Rattle.playing.specs.FileAnswers.{WroteBytes, AnswersTaken, AnswersRefused, AnswersTooLarge, AnswersFile}
use Rattle.playing.specs.SoundStarts.{CarriesStream, IsSoundStart, TakesSoundStarts, AnswersStream, AnswersStart}
use Rattle.playing.specs.Headline.{AnswersPlan, AnswersFrames, AnswersRefusal, AnswersLarge, AnswersSplices}
use Rattle.playing.proofs.FileAnswers.{IsSilent}

-- ---- play

pub playing_silent : (d : Definitions) → IsSilent (playing d [])
playing_silent d = record { opening = λ before f. refl; closing = λ frames text is. is }

module _ (d : Definitions) (takes : TakesFilesOfSplices d) (text : List ℕ) (t : Traces) (n : Notes) (status : ℕ) (a : AnswersFile (playing d []) text t n status) where
  wrote_own : (frames : List Frame) → WroteBytes t (output d frames) → WroteBytes t (own_bytes d frames)
  wrote_own frames w = w ∙ ap (append_known t.written_before) (takes.output_of frames)

  plan_of : (frames : List Frame) → AnswersTaken (playing d []) text frames t n status → AnswersPlan d (own_plan (map coded frames)) t n status
  plan_of frames h = record {
    status_is = h.status_is;
    wrote = wrote_own frames h.wrote;
    each = takes.each (own_plan (map coded frames)) ((takes.file text).own frames h.passes).sound;
    quiet = h.quiet;
  }

  refusal_of : AnswersRefused (playing d []) text t n status → AnswersRefusal d text t n status
  refusal_of h = record { status_is = h.status_is; frames = h.frames; reason = h.reason; refused = h.refused; wrote = wrote_own h.frames h.wrote; noted = h.noted }

  large_of : AnswersTooLarge (playing d []) text t n status → AnswersLarge d text t n status
  large_of h = record { status_is = h.status_is; frames = h.frames; passes = h.passes; wrote = wrote_own h.frames h.wrote; noted = h.noted }

  taken : (frames : List Frame) → Passes (playing d []) text frames End → AnswersPlan d (own_plan (map coded frames)) t n status ⊎ (status ≡ 6)
  taken frames p = elim (a.taken frames p (λ r never. never)) [ inl h ↦ inl (plan_of frames h) | inr e ↦ inr e ]

  splice : (plan : List Part) → IsSoundPlan d.warm plan → CarriesSplice text plan → AnswersPlan d plan t n status ⊎ (status ≡ 6)
  splice plan sound is =
      let x = (takes.file text).splice plan sound is in
      elim (a.taken x.0 x.1 (λ r never. never)) [
        | inl h ↦ inl (record { status_is = h.status_is; wrote = h.wrote ∙ ap (append_known t.written_before) x.2; each = takes.each plan sound; quiet = h.quiet })
        | inr e ↦ inr e
      ]

  other : CarriesNoSplice d text → AnswersRefusal d text t n status ⊎ (AnswersLarge d text t n status ⊎ (status ≡ 6))
  other none = elim a.verdict [
    | inl h ↦ (let own = (takes.file text).own h.0 h.1.passes in absurd (none (own_plan (map coded h.0)) own.sound (h.0, h.1.passes.script, sym own.splice)))
    | inr h ↦ elim h [ inl r ↦ inl (refusal_of r) | inr l ↦ elim l [ inl x ↦ inr (inl (large_of x)) | inr e ↦ inr (inr e) ] ]
  ]

  own : status ≡ 0 → CarriesOwn d text
  own zero = elim a.verdict [
    | inl h ↦ (h.0, h.1.passes.script, (takes.file text).own h.0 h.1.passes)
    | inr h ↦ elim h [ inl r ↦ absurd (omega (arith, r.status_is, zero)) | inr l ↦ elim l [ inl x ↦ absurd (omega (arith, x.status_is, zero)) | inr e ↦ absurd (omega (arith, e, zero)) ] ]
  ]

  verdict : AnswersFrames d text t n status ⊎ (AnswersRefusal d text t n status ⊎ (AnswersLarge d text t n status ⊎ (status ≡ 6)))
  verdict = elim a.verdict [
    | inl h ↦ inl (record { frames = h.0; passes = h.1.passes; answers = plan_of h.0 h.1 })
    | inr h ↦ elim h [ inl r ↦ inr (inl (refusal_of r)) | inr l ↦ elim l [ inl x ↦ inr (inr (inl (large_of x))) | inr e ↦ inr (inr (inr e)) ] ]
  ]

  pub answers_splices : AnswersSplices d text t n status
  answers_splices = record { splice = splice; other = other; own = own; verdict = verdict; taken = taken }

-- ---- start

pub starting_silent : (d : Definitions) (first : ℕ) → IsSilent (starting d first)
starting_silent d first = record { opening = λ before f. refl; closing = λ frames text is. is }

pub answers_start : (d : Definitions) → TakesSoundStarts d → (first : ℕ) (text : List ℕ) (t : Traces) (n : Notes) (status : ℕ) → AnswersFile (starting d first) text t n status → AnswersStart d first text t n status
answers_start d takes first text t n status a = record { sound = sound; answers = a }
  where
    sound : (stream : List Coded) → CarriesStream text stream → IsSoundStart d.warm stream first → AnswersStream d stream first t n status ⊎ (status ≡ 6)
    sound stream carries start =
        let x = takes text stream first carries start in
        elim (a.taken x.frames x.passes x.ends) [
          | inl h ↦ inl (record { status_is = h.status_is; wrote = h.wrote ∙ ap (append_known t.written_before) x.gives; quiet = h.quiet })
          | inr e ↦ inr e
        ]
