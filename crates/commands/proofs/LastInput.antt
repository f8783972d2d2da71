-- A command whose write failed stops in the last input that was begun.
use Rattle.std.proofs.Common.{◌≡◌, ℕ, Bool, List, [], ◌∷◌, refl, ap, arith, inl, inr}
use Rattle.au_stream.specs.Frames.{Frame}
use Rattle.commands.specs.declared.outcome.Outcome.TheVariants as is
use Rattle.commands.specs.Commands.{Command}
use Rattle.commands.specs.OnInputs.{from_middle}
use Rattle.commands.specs.LastInput.{StopsInTheLastInput}

pub stops_in_the_last : {At : Type 0} (command : At → Command) (then : At → List Frame → At) (plays : Bool) → StopsInTheLastInput command then plays
stops_in_the_last command then plays from [] [] t d = elim d.1 [ inl done ↦ absurd (let never : is.WriteFault ≡ is.Done = done.0 in cc) | inr none ↦ absurd none ]
stops_in_the_last command then plays from (text ∷ texts) [] t d = elim d.1 [ inl done ↦ absurd (let never : is.WriteFault ≡ is.Done = done.0 in cc) | inr none ↦ absurd none ]
stops_in_the_last command then plays from [] (front ∷ taken) t d = absurd d
stops_in_the_last command then plays from (text ∷ texts) (front ∷ taken) t (inl s) = record {
  passed = [];
  text = text;
  later = texts;
  all = refl;
  fronts = [];
  front = front;
  begun = ap (λ (x : List (List ℕ)). front ∷ x) s.last;
  number = refl;
  at = from;
  middle = record { written = t.written_before; fed = t.fed_before };
  led = (refl, record { written = refl; fed = refl });
  frames = s.ends.0;
  stops = s.ends.1;
}
stops_in_the_last command then plays from (text ∷ texts) (front ∷ taken) t (inr (next, m, p, d)) =
    let k = stops_in_the_last command then plays next texts taken (from_middle t m) d in
    record {
      passed = text ∷ k.passed;
      text = k.text;
      later = k.later;
      all = ap (λ (x : List (List ℕ)). text ∷ x) k.all;
      fronts = front ∷ k.fronts;
      front = k.front;
      begun = ap (λ (x : List (List ℕ)). front ∷ x) k.begun;
      number = omega (arith, k.number);
      at = k.at;
      middle = k.middle;
      led = (next, m, record { ends = p.ends; leads = p.leads }, k.led);
      frames = k.frames;
      stops = k.stops;
    }
