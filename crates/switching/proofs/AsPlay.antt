-- What `switch` writes and feeds is what `play` writes and feeds of the frames that are given, behind those of the files before.
use Rattle.std.proofs.Common.{◌≡◌, ℕ, ◌+◌, ◌<◌, Bool, true, false, List, [], ◌∷◌, ◌++◌, length, drop, refl, sym, ap, ◌∙◌, arith, append_assoc}
use Rattle.std.specs.Io.KnownBytes.{append_known}
use Rattle.std.proofs.lemmas.List.{append-nil}
use Rattle.std.proofs.Math.Seq.{drop-append_seam}
use Rattle.splicer.specs.Runs.{RunValue, behind}
use Rattle.core_iface.specs.Decoding.{Definitions}
use Rattle.au_stream.specs.Frames.{Frame}
use Rattle.commands.specs.Commands.{Command, units_over, work}
use Rattle.commands.specs.Ending.{Traces, IsIdle, WroteAll, WroteBefore}
use Rattle.commands.specs.OnInputs.{Middle, until_middle, from_middle}
use Rattle.commands.proofs.Going.{append-none, work_more}
use Rattle.playing.specs.Playing.{playing, play_units, output, output_on}
use Rattle.playing.specs.Spliced.{coded}
use Rattle.playing.proofs.Growing.{play_command}
use Rattle.joining.specs.Renditions.{run_at}
use Rattle.joining.proofs.PlanSteps.{run_at_push}
use Rattle.joining.proofs.Told.{wrote_both}
use Rattle.switching.specs.Switching.{SwitchAt, given, given_if, given_at, given_so_far, is_given_at, units_if, switching}
use Rattle.switching.proofs.GivenFrames.{given_here, given_none}
use Rattle.switching.proofs.PlayedPlan.{output_both}

-- ---- units

module _ (d : Definitions) (at : SwitchAt) where
  units_given : (before fs : List Frame) → units_over (switching d at) before fs ≡ units_over (playing d at.earlier) (given_at at before) (given (run_at at.piece before) fs)
  units_given before [] = refl
  units_given before (f ∷ fs) = by_test (is_given_at at before f) refl (units_given (before ++ f ∷ []) fs ∙ ap (λ (v : RunValue). units_over (playing d at.earlier) (given_at at (before ++ f ∷ [])) (given v fs)) (run_at_push at.piece before f))
    where
      by_test : (b : Bool) → is_given_at at before f ≡ b → units_over (switching d at) (before ++ f ∷ []) fs ≡ units_over (playing d at.earlier) (given_at at (before ++ f ∷ [])) (given (behind (run_at at.piece before) (coded f)) fs)
          → units_if b (given_so_far at before) f + units_over (switching d at) (before ++ f ∷ []) fs ≡ units_over (playing d at.earlier) (given_at at before) (given_if b f (given (behind (run_at at.piece before) (coded f)) fs))
      by_test true is more =
          let e = more ∙ ap (λ (xs : List Frame). units_over (playing d at.earlier) xs (given (behind (run_at at.piece before) (coded f)) fs)) (given_here at before f is) in
          ap (λ (n : ℕ). play_units (given_so_far at before) f + n) e
      by_test false is more =
          let e = more ∙ ap (λ (xs : List Frame). units_over (playing d at.earlier) xs (given (behind (run_at at.piece before) (coded f)) fs)) (given_none at before f is) in
          omega (arith, e)

  -- all frames of a file
  pub plays_given : (frames : List Frame) (t : Traces) → WroteAll (switching d at) frames t → WroteAll (playing d at.earlier) (given_at at frames) t
  plays_given frames t h = let e = units_given [] frames in record { written = h.written; fed = omega (arith, h.fed, e) }

module _ (d : Definitions) (at : SwitchAt) where
  -- a frame at which units were fed is of the piece
  pub some_given : (before : List Frame) (f : Frame) → work (switching d at) before < work (switching d at) (before ++ f ∷ []) → is_given_at at before f ≡ true
  some_given before f more = by_test (is_given_at at before f) refl
    where
      by_test : (b : Bool) → is_given_at at before f ≡ b → is_given_at at before f ≡ true
      by_test true is = is
      by_test false is =
          let grows = work_more (switching d at) before f in
          let none : (switching d at).units before f ≡ 0 = ap (λ (b : Bool). units_if b (given_so_far at before) f) is in
          absurd (omega (arith, more, grows, none))

  -- it is the one at which the core failed
  pub fails_given : (frames : List Frame) (f : Frame) (t : Traces) → WroteBefore (switching d at) frames f t → (is_given_at at frames f ≡ true) × WroteBefore (playing d at.earlier) (given_at at frames) f t
  fails_given frames f t h =
      let before = units_given d at [] frames in
      let behind = units_given d at [] (frames ++ f ∷ []) in
      let given = some_given frames f (omega (arith, h.fed, h.less)) in
      let one = ap (λ (xs : List Frame). work (playing d at.earlier) xs) (given_here at frames f given) in
      (given, record { written = h.written; fed = omega (arith, h.fed, before); less = omega (arith, h.less, behind, one) })

units_both : (c : Command) (before fs gs : List Frame) → units_over c before (fs ++ gs) ≡ units_over c before fs + units_over c (before ++ fs) gs
units_both c before [] gs = let e = ap (λ (xs : List Frame). units_over c xs gs) (append-nil before) in omega (arith, e)
units_both c before (f ∷ fs) gs =
    let more = units_both c (before ++ f ∷ []) fs gs in
    let same = ap (λ (xs : List Frame). units_over c xs gs) (append_assoc before (f ∷ []) fs) in
    omega (arith, more, same)

module _ (d : Definitions) where
  -- behind earlier frames of other files, or of the same
  units_behind : (earlier before : List Frame) (fs gs : List Frame) → units_over (playing d earlier) (fs ++ before) gs ≡ units_over (playing d (earlier ++ fs)) before gs
  units_behind earlier before fs [] = refl
  units_behind earlier before fs (g ∷ gs) =
      let here = ap (λ (xs : List Frame). play_units xs g) (sym (append_assoc earlier fs before)) in
      let more = ap (λ (xs : List Frame). units_over (playing d earlier) xs gs) (append_assoc fs before (g ∷ [])) ∙ units_behind earlier (before ++ g ∷ []) fs gs in
      omega (arith, here, more)

  output_two : (earlier fs gs : List Frame) → output_on d earlier (fs ++ gs) ≡ output_on d earlier fs ++ output_on d (earlier ++ fs) gs
  output_two earlier fs gs =
      let all = output d earlier in
      ap (λ (xs : List ℕ). drop (length all) xs)
      (ap (output d) (sym (append_assoc earlier fs gs))
      ∙ (output_both d (earlier ++ fs) gs
      ∙ (ap (λ (xs : List ℕ). xs ++ output_on d (earlier ++ fs) gs) (output_both d earlier fs) ∙ append_assoc all (output_on d earlier fs) (output_on d (earlier ++ fs) gs))))
      ∙ drop-append_seam all (output_on d earlier fs ++ output_on d (earlier ++ fs) gs)

  work_both : (earlier fs gs : List Frame) → work (playing d earlier) (fs ++ gs) ≡ work (playing d earlier) fs + work (playing d (earlier ++ fs)) gs
  work_both earlier fs gs =
      let units = units_both (playing d earlier) [] fs gs in
      let behind = ap (λ (xs : List Frame). units_over (playing d earlier) xs gs) (sym (append-nil fs)) ∙ units_behind earlier [] fs gs in
      omega (arith, units, behind)

  -- frames behind frames
  pub plays_both : (earlier fs gs : List Frame) (t : Traces) (m : Middle) → WroteAll (playing d earlier) fs (until_middle t m) → WroteAll (playing d (earlier ++ fs)) gs (from_middle t m) → WroteAll (playing d earlier) (fs ++ gs) t
  plays_both earlier fs gs t m h k =
      let units = work_both earlier fs gs in
      record {
        written = wrote_both t.written_before m.written t.written_after (output_on d earlier fs) (output_on d (earlier ++ fs) gs) h.written k.written ∙ ap (append_known t.written_before) (sym (output_two earlier fs gs));
        fed = omega (arith, h.fed, k.fed, units);
      }

  -- frames behind frames, of which the core failed at one
  pub fails_both : (earlier fs gs : List Frame) (f : Frame) (t : Traces) (m : Middle) → WroteAll (playing d earlier) fs (until_middle t m) → WroteBefore (playing d (earlier ++ fs)) gs f (from_middle t m) → WroteBefore (playing d earlier) (fs ++ gs) f t
  fails_both earlier fs gs f t m h k =
      let before = work_both earlier fs gs in
      let behind = work_both earlier fs (gs ++ f ∷ []) in
      let same = ap (λ (xs : List Frame). work (playing d earlier) xs) (append_assoc fs gs (f ∷ [])) in
      let written = wrote_both t.written_before m.written t.written_after (output_on d earlier fs) (output_on d (earlier ++ fs) gs ++ []) h.written k.written in
      record {
        written = written ∙ ap (append_known t.written_before) (sym (append_assoc (output_on d earlier fs) (output_on d (earlier ++ fs) gs) []) ∙ ap (λ (xs : List ℕ). xs ++ []) (sym (output_two earlier fs gs)));
        fed = omega (arith, h.fed, k.fed, before);
        less = omega (arith, h.fed, k.less, behind, same);
      }

  -- no frames
  pub plays_none : (earlier : List Frame) (t : Traces) → IsIdle t → WroteAll (playing d earlier) [] t
  plays_none earlier t h = record {
    written = h.written ∙ (append-none t.written_before ∙ ap (append_known t.written_before) (sym (play_command d earlier).nothing));
    fed = omega (arith, h.fed);
  }
