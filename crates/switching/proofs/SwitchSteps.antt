-- One frame of `switch`, and the end of a rendition.
use Rattle.std.proofs.Common.{◌≡◌, ℕ, ◌+◌, ◌≤◌, Bool, true, false, List, [], ◌∷◌, ◌++◌, Option, Some, None, Result, Ok, Err, ℤ, refl, sym, ap, subst, ◌∙◌, arith, inr}
use Rattle.std.specs.declared.alloc.AllocError.{AllocError}
use Rattle.std.proofs.lemmas.List.{append-nil}
use Rattle.usac_cfg.specs.declared.usac_config.UsacConfig.{UsacConfig}
use Rattle.usac_cfg.specs.UsacConfig.{IsWellFormed}
use Rattle.timeline.specs.declared.piece.Piece.{Piece}
use Rattle.plans.specs.Coded.{Coded}
use Rattle.splicer.specs.declared.turn.Turn.{Turn}
use Rattle.splicer.specs.declared.fault.SpliceFault.{SpliceFault}
use Rattle.splicer.specs.Pieces.{is_given}
use Rattle.splicer.specs.Runs.{RunValue, fault, end}
use Rattle.core_iface.specs.Answering.{Running, Meaning}
use Rattle.core_iface.specs.Decoding.{Definitions}
use Rattle.core_iface.specs.Samples.{sample_bytes}
use Rattle.switch_player.specs.declared.fault.PlayFault.{PlayFault}
use Rattle.switch_player.specs.PlayerValue.{PlayerValue}
use Rattle.switch_player.specs.Playing.{played_block, before_it}
use Rattle.switch_player.specs.Rules.{Refuses, TakesBy}
use Rattle.switch_player.specs.Feeding.{IsPlayed}
use Rattle.tool_text.specs.declared.refusal.Refusal.{Refusal}
use Rattle.au_stream.specs.Frames.{Frame, config_of}
use Rattle.commands.specs.declared.frame_end.FrameEnd.{FrameEnd}
use Rattle.commands.specs.declared.frame_end.FrameEnd.TheVariants as ends
use Rattle.commands.specs.Commands.{IsCommand, Takes}
use Rattle.commands.specs.OneFrame.{Handles, DidFrame, HandlesEnd, DidEnd}
use Rattle.commands.proofs.Going.{append-none}
use Rattle.playing.specs.declared.frame_player.Entry.TheVariants.{Next}
use Rattle.playing.specs.Playing.{play_shown, last_config, output_on}
use Rattle.playing.specs.Spliced.{coded}
use Rattle.playing.specs.Standing.{PlayerStands}
use Rattle.playing.proofs.Growing.{play_grows, play_command}
use Rattle.playing.proofs.PlayerSteps.{Follows}
use Rattle.playing.proofs.PlaySteps.{rules_here, stands_more}
use Rattle.joining.specs.Refusals.{refusal_of_splice}
use Rattle.joining.specs.Renditions.{run_at, LacksPiece, ChecksFrame, StopsBy}
use Rattle.joining.proofs.PlanSteps.{there, turn_there, keeps_rules, breaks_rule}
use Rattle.switching.specs.declared.switch_task.Switch.{Switch}
use Rattle.switching.specs.Switching.{SwitchAt, given_at, given_so_far, is_given_at, units_if, switching}
use Rattle.switching.specs.Standing.{ArePlanned, SwitchStands}
use Rattle.switching.proofs.GivenFrames.{given_here, given_one, given_none}
use Rattle.switching.proofs.Taken.{planned_more, given_taken}

pub switch_command : (d : Definitions) (at : SwitchAt) → IsCommand (switching d at)
switch_command d at = record { nothing = (play_command d at.earlier).nothing; few = λ before f. by_test before f (is_given_at at before f) }
  where
    by_test : (before : List Frame) (f : Frame) (b : Bool) → units_if b (given_so_far at before) f ≤ 19
    by_test before f true = (play_command d []).few (given_so_far at before) f
    by_test before f false = omega arith

-- ---- a frame

-- there was no memory
pub switch_memory : (d : Definitions) (at : SwitchAt) (before : List Frame) (f : Frame) (m : Meaning) (w : Option (List ℕ)) (x : AllocError) → Handles (switching d at) before f m m w w (Err (ends.Memory x))
switch_memory d at before f m w x = inr (record { fed = omega arith; written = (0, append-none w) })

module _ (d : Definitions) (at : SwitchAt) (before : List Frame) (f : Frame) (config : UsacConfig) (au : List ℕ) (task : Switch) (ready : Option Running) (ce : config ≡ config_of f) (ae : au ≡ f.au) (st : SwitchStands d at before task ready) where
  abbrev here : Coded
  here = record { config = config; au = au }

  -- it breaks a rule
  pub switch_stopped : (m : Meaning) (w : Option (List ℕ)) (stop : FrameEnd) → StopsBy (fault task.renditions.run (d.warm config) here) stop → Handles (switching d at) before f m m w w (Err stop)
  switch_stopped m w (ends.Refused q) h = record { refuses = breaks_rule d at.piece before f config au task.renditions ce ae st.rendition q h; fed = refl; written = append-none w }
  switch_stopped m w ends.WriteFault h = absurd h
  switch_stopped m w ends.CoreFault h = absurd h
  switch_stopped m w (ends.Memory x) h = switch_memory d at before f m w x

  -- it breaks none, and has this turn
  module _ (t : Turn) (new : RunValue) (h : ChecksFrame (Ok t) (d.warm config) here task.renditions.run new) where
    taken : Takes (switching d at) before f
    taken = keeps_rules d at.piece before f config au task.renditions ce ae st.rendition h.0

    pub turn_is : is_given t ≡ is_given_at at before f
    turn_is = ap is_given (h.1 ∙ turn_there d at.piece before f config au task.renditions ce ae st.rendition)

    pub planned_here : task.follows ≡ true → IsWellFormed config → ArePlanned d.warm at (before ++ f ∷ [])
    planned_here follows fits =
        let none : fault (run_at at.piece before) (d.warm (config_of f)) (coded f) ≡ None = sym (there d at.piece before f config au task.renditions ce ae st.rendition) ∙ h.0 in
        planned_more d.warm at before f (st.planned follows) (subst IsWellFormed ce fits) none

    -- it is not of the piece
    pub switch_skips : (m : Meaning) (w : Option (List ℕ)) → is_given t ≡ false → DidFrame (switching d at) before f m m w w
    switch_skips m w skipped =
        let skip : is_given_at at before f ≡ false = sym turn_is ∙ skipped in
        let none : units_if (is_given_at at before f) (given_so_far at before) f ≡ 0 = ap (λ (b : Bool). units_if b (given_so_far at before) f) skip in
        record {
          takes = taken;
          fed = omega (arith, none);
          bytes = [];
          grows = ap (output_on d at.earlier) (given_none at before f skip) ∙ sym (append-nil (output_on d at.earlier (given_at at before)));
          written = append-none w;
        }

    pub skip_stands : (p : PlayerValue) (r : Option Running) → is_given t ≡ false → PlayerStands d (given_so_far at before) p r → PlayerStands d (given_so_far at (before ++ f ∷ [])) p r
    skip_stands p r skipped stands =
        subst (λ (xs : List Frame). PlayerStands d (at.earlier ++ xs) p r) (sym (given_none at before f (sym turn_is ∙ skipped))) stands

    -- it is of the piece: `switch` follows its player, which refuses it by no rule
    pub switch_follows : (p : PlayerValue) (k : Meaning) → is_given t ≡ true → task.follows ≡ true → IsWellFormed config → PlayerStands d (given_so_far at before) p k.ready → Follows (Refuses d p.last config au) d (switching d at) before f config au p k
    switch_follows p k given follows fits stands =
        let now = last_config (given_so_far at before) in
        let is : is_given_at at before f ≡ true = sym turn_is ∙ given in
        let never : TakesBy (Refuses d p.last config au) = λ e x. given_taken d at before f (planned_here follows fits) is e (rules_here d f Next p.last now config au e stands.last ce ae x) in
        record {
          fits = fits;
          config_is = ce;
          au_is = ae;
          takes = λ accepts. taken;
          refuses = λ e r x why. absurd (never e x);
          silent = refl;
          units = ap (λ (b : Bool). units_if b (given_so_far at before) f) is ∙ ap (λ (o : Option UsacConfig). before_it o (play_shown f) + 1) (sym stands.last);
          grows = ap (output_on d at.earlier) (given_here at before f is)
              ∙ (play_grows d at.earlier (given_at at before) f
              ∙ ap (λ (x : Option Running). output_on d at.earlier (given_at at before) ++ sample_bytes (played_block d x (play_shown f))) (sym stands.behind));
        }

    pub play_stands : (R : PlayFault → Type 0) (p q : PlayerValue) (k m : Meaning) (x y : List ℤ) → is_given t ≡ true → IsWellFormed config → PlayerStands d (given_so_far at before) p k.ready → IsPlayed R d config au p q k m x y
        → PlayerStands d (given_so_far at (before ++ f ∷ [])) q m.ready
    play_stands R p q k m x y given fits stands played =
        subst (λ (xs : List Frame). PlayerStands d xs q m.ready) (sym (given_one at before f (sym turn_is ∙ given))) (stands_more R d (given_so_far at before) f config au p q k m x y fits ce ae stands played)

-- ---- the end of a rendition

none_here : (piece : Result Piece SpliceFault) (p : Piece) (e : SpliceFault) → piece ≡ Ok p → piece ≡ Err e → ⊥
none_here piece p e is lacks = let x : Ok p ≡ Err e = sym is ∙ lacks in cc

stop_is : (q : Refusal) (e : SpliceFault) → StopsBy (Some e) (ends.Refused q) → refusal_of_splice e ≡ Some q
stop_is q e stop = let same : e ≡ stop.0 = cc in ap refusal_of_splice same ∙ stop.2

module _ (d : Definitions) (at : SwitchAt) (frames : List Frame) (task : Switch) (ready : Option Running) (st : SwitchStands d at frames task ready) where
  same_end : end task.renditions.run ≡ end (run_at at.piece frames)
  same_end = ap end st.rendition.run

  pub switch_closed : (p : Piece) (w : Option (List ℕ)) → end task.renditions.run ≡ Ok p → DidEnd (LacksPiece at.piece frames) (λ text. text ≡ []) w w
  switch_closed p w is = record { takes = λ q lacks. none_here _ p lacks.0 (sym same_end ∙ is) lacks.1; closing = []; closes = refl; written = append-none w }

  pub switch_refused : (w : Option (List ℕ)) (stop : FrameEnd) → (e : SpliceFault) → end task.renditions.run ≡ Err e → StopsBy (Some e) stop → HandlesEnd (LacksPiece at.piece frames) (λ text. text ≡ []) w w (Err stop)
  switch_refused w (ends.Refused q) e is stop = ((e, sym same_end ∙ is, stop_is q e stop), refl)
  switch_refused w ends.WriteFault e is stop = absurd stop
  switch_refused w ends.CoreFault e is stop = absurd stop
  switch_refused w (ends.Memory x) e is stop = inr refl
