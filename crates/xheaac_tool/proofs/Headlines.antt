-- What `run` answers to single commands.
use Rattle.std.proofs.Common.{◌≡◌, ℕ, [], length, Option, Some, sym, subst, ◌∙◌}
use Rattle.std.proofs.lemmas.List.{length-map}
use Rattle.outside.specs.declared.shelf.Shelf
use Rattle.outside.specs.declared.sink.Sink
use Rattle.core_iface.specs.declared.cores.Core
use Rattle.core_iface.specs.Decoding.{Definitions}
use Rattle.commands.specs.Ran.{Notes}
use Rattle.commands.specs.Worlds.{world}
use Rattle.playing.specs.SoundStarts.{TakesSoundStarts}
use Rattle.playing.specs.Spliced.{TakesFilesOfSplices}
use Rattle.playing.specs.Playing.{playing}
use Rattle.playing.specs.Starting.{starting}
use Rattle.playing.proofs.FileAnswers.{answered}
use Rattle.playing.proofs.Headlines.{playing_silent, starting_silent, answers_splices, answers_start}
use Rattle.joining.specs.Answers.{NoEventIsAPlan}
use Rattle.joining.proofs.Answered.{plans_soundly}
use Rattle.joining.specs.SpliceAnswers.{NoStopIsASplice}
use Rattle.joining.proofs.SpliceAnswered.{splices_soundly}
use Rattle.switching.specs.PlayedPlan.{PlaysBeforeEvents}
use Rattle.switching.proofs.SwitchAnswered.{switches_soundly}
use Rattle.xheaac_tool.specs.Headline.{PlaysSplices, StartsStreams, PlansPieces, SplicesPieces, SwitchesPieces}
use Rattle.xheaac_tool.specs.Words.{Case, Play, Start, Plan, Splice, Switch, files_of, positions_of}
use Rattle.xheaac_tool.specs.Answered.{Answered}

module _ {H K C : Type 0} (h : Shelf.Ghosts H) (k : Sink.Ghosts K) (c : Core.Ghosts C) (d : Definitions) (s0 s1 : H) (o0 o1 : K) (c0 c1 : C) (n : Notes) (status : ℕ) (case : Option Case) (a : Answered d k case (world h k c s0 o0 c0) (λ sink. world h k c s1 sink c1) o1 n status) where
  -- what is answered where that is asked
  of_case : (x : Case) → case ≡ Some x → Answered d k (Some x) (world h k c s0 o0 c0) (λ sink. world h k c s1 sink c1) o1 n status
  of_case x is = subst (λ (y : Option Case). Answered d k y (world h k c s0 o0 c0) (λ sink. world h k c s1 sink c1) o1 n status) is a

  pub plays_splices : TakesFilesOfSplices d → PlaysSplices d case (world h k c s0 o0 c0) (world h k c s1 o1 c1) n status
  plays_splices takes = λ file text asked well.
      let b = of_case (Play file) asked in
      answers_splices d takes text _ n status (answered h k c (playing d []) (playing_silent d) s0 s1 o0 o1 c0 c1 n status file text b.does.1 b.causes well.0 well.1)

  pub starts_streams : TakesSoundStarts d → StartsStreams d case (world h k c s0 o0 c0) (world h k c s1 o1 c1) n status
  starts_streams takes = λ file text frame asked well.
      let b = of_case (Start file frame) asked in
      answers_start d takes frame text _ n status (answered h k c (starting d frame) (starting_silent d frame) s0 s1 o0 o1 c0 c1 n status file text b.does.1 b.causes well.0 well.1)

  pub plans_pieces : NoEventIsAPlan → PlansPieces d case (world h k c s0 o0 c0) (world h k c s1 o1 c1) n status
  plans_pieces law = λ pieces texts asked held.
      let b = of_case (Plan pieces) asked in
      let each : length (positions_of pieces) ≡ length (files_of pieces) = length-map pieces (λ p. p.position) ∙ sym (length-map pieces (λ p. p.file)) in
      plans_soundly h k c d law (positions_of pieces) (files_of pieces) texts s0 s1 o0 o1 c0 c1 n status (b.statuses, b.does.0) each b.does.1 b.causes held

  pub splices_pieces : NoEventIsAPlan → NoStopIsASplice → SplicesPieces d case (world h k c s0 o0 c0) (world h k c s1 o1 c1) n status
  splices_pieces law splice_law = λ pieces texts asked held.
      let b = of_case (Splice pieces) asked in
      let each : length (positions_of pieces) ≡ length (files_of pieces) = length-map pieces (λ p. p.position) ∙ sym (length-map pieces (λ p. p.file)) in
      splices_soundly h k c d law splice_law (positions_of pieces) (files_of pieces) texts s0 s1 o0 o1 c0 c1 n status (b.statuses, b.does.0) each b.does.1 b.causes held

  pub switches_pieces : NoEventIsAPlan → PlaysBeforeEvents d → SwitchesPieces d case (world h k c s0 o0 c0) (world h k c s1 o1 c1) n status
  switches_pieces law plays = λ pieces texts asked held.
      let b = of_case (Switch pieces) asked in
      let each : length (positions_of pieces) ≡ length (files_of pieces) = length-map pieces (λ p. p.position) ∙ sym (length-map pieces (λ p. p.file)) in
      switches_soundly h k c d law plays (positions_of pieces) (files_of pieces) texts s0 s1 o0 o1 c0 c1 n status (b.statuses, b.does.0) each b.does.1 b.causes held
