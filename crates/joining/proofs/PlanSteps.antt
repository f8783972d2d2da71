-- One frame of `plan`, and the end of a rendition.
use Rattle.std.proofs.Common.{◌≡◌, ℕ, ◌+◌, ◌<◌, Bool, List, [], ◌∷◌, ◌++◌, length, map, Option, Some, None, Ok, Err, true, false, refl, sym, ap, ◌∙◌, arith, inl, inr}
use Rattle.std.specs.Io.KnownBytes.{append_known}
use Rattle.std.specs.Prelude.{nat_lt, if◌then◌else◌}
use Rattle.std.proofs.lemmas.Bool.{ltb-true}
use Rattle.std.proofs.lemmas.List.{length-append, map-append}
use Rattle.usac_cfg.specs.declared.usac_config.UsacConfig.{UsacConfig}
use Rattle.timeline.specs.declared.piece.Piece.{Piece}
use Rattle.plans.specs.Coded.{Coded}
use Rattle.plans.specs.WholeStream.{stream_config}
use Rattle.splicer.specs.declared.turn.Turn.{Turn}
use Rattle.splicer.specs.declared.fault.SpliceFault.{SpliceFault}
use Rattle.splicer.specs.declared.fault.SpliceFault.TheVariants as splices
use Rattle.splicer.specs.Runs.{RunValue, new_run, run_over, fault, turn, behind, end}
use Rattle.splicer.specs.Checks.{Checks}
use Rattle.splicer.proofs.Held.{run_more, holds_last_units}
use Rattle.core_iface.specs.Answering.{Meaning}
use Rattle.core_iface.specs.Decoding.{Definitions}
use Rattle.tool_text.specs.declared.refusal.Refusal.{Refusal}
use Rattle.outside.specs.declared.fault.DeviceFault.{DeviceFault}
use Rattle.outside.specs.declared.fault.DeviceFault.TheVariants as devices
use Rattle.au_stream.specs.Frames.{Frame, config_of}
use Rattle.std.specs.declared.alloc.AllocError.{AllocError}
use Rattle.commands.specs.declared.frame_end.FrameEnd.{FrameEnd}
use Rattle.commands.specs.declared.frame_end.FrameEnd.TheVariants as ends
use Rattle.commands.specs.Handing.{WroteLess}
use Rattle.commands.specs.OneFrame.{Handles, DidFrame, HandlesEnd, DidEnd, DidEndPart, from_device}
use Rattle.commands.proofs.Going.{append-none}
use Rattle.playing.specs.Spliced.{coded}
use Rattle.joining.specs.declared.plan_task.Lead.{Lead}
use Rattle.joining.specs.declared.plan_task.Plan.{Plan}
use Rattle.joining.specs.declared.renditions.Renditions.{Renditions}
use Rattle.joining.specs.Refusals.{refusal_of_splice, IsEndOf}
use Rattle.joining.specs.Renditions.{PieceAt, asked_at, run_at, next_place, next_at, BreaksRule, LacksPiece, RenditionStands, StopsBy, ChecksFrame}
use Rattle.joining.specs.Planning.{turns, no_lead, lead_behind, lead_of, lead_at, line_of, TellsPiece, planning, PlanStands}

-- ---- one frame more

turns_push : (v : RunValue) (fs : List Coded) (f : Coded) → turns v (fs ++ f ∷ []) ≡ turns v fs ++ turn (run_over v fs) f ∷ []
turns_push v [] f = refl
turns_push v (g ∷ fs) f = ap (λ (ts : List Turn). turn v g ∷ ts) (turns_push (behind v g) fs f)

lead_push : (l : Lead) (ts : List Turn) (t : Turn) → lead_of l (ts ++ t ∷ []) ≡ lead_behind (lead_of l ts) t
lead_push l [] t = refl
lead_push l (x ∷ ts) t = lead_push (lead_behind l x) ts t

coded_push : (fs : List Frame) (f : Frame) → map coded (fs ++ f ∷ []) ≡ map coded fs ++ coded f ∷ []
coded_push fs f = map-append coded fs (f ∷ [])

pub run_at_push : (at : PieceAt) (fs : List Frame) (f : Frame) → run_at at (fs ++ f ∷ []) ≡ behind (run_at at fs) (coded f)
run_at_push at fs f = ap (run_over (new_run (asked_at at))) (coded_push fs f) ∙ run_more (new_run (asked_at at)) (map coded fs) (coded f ∷ [])

lead_at_push : (at : PieceAt) (fs : List Frame) (f : Frame) → lead_at at (fs ++ f ∷ []) ≡ lead_behind (lead_at at fs) (turn (run_at at fs) (coded f))
lead_at_push at fs f =
    let v = new_run (asked_at at) in
    ap (λ (xs : List Coded). lead_of no_lead (turns v xs)) (coded_push fs f)
    ∙ (ap (lead_of no_lead) (turns_push v (map coded fs) (coded f)) ∙ lead_push no_lead (turns v (map coded fs)) (turn (run_at at fs) (coded f)))

none_some : {A : Type 0} (o : Option A) (e : A) → o ≡ None → o ≡ Some e → ⊥
none_some o e n s = let x : None ≡ Some e = sym n ∙ s in cc

-- ---- what the check of a frame answers

pub stops_by : (e : SpliceFault) (stop : FrameEnd) (need : ℕ) (f : Coded) (old new : RunValue) → old.ended ≡ false → Checks (Err e) need f old new → IsEndOf (refusal_of_splice e) stop → StopsBy (fault old need f) stop
stops_by e (ends.Memory x) need f old new going h is = tt
stops_by e ends.WriteFault need f old new going h is = absurd is
stops_by e ends.CoreFault need f old new going h is = absurd is
stops_by (splices.Plan p) (ends.Refused r) need f old new going h is = (splices.Plan p, h.breaks, is)
stops_by (splices.ConfigChanges n) (ends.Refused r) need f old new going h is = (splices.ConfigChanges n, h.breaks, is)
stops_by (splices.Frame n at) (ends.Refused r) need f old new going h is = (splices.Frame n at, h.breaks, is)
stops_by (splices.NotIndependent n) (ends.Refused r) need f old new going h is = (splices.NotIndependent n, h.breaks, is)
stops_by (splices.Carry n x) (ends.Refused r) need f old new going h is = (splices.Carry n x, h.breaks, is)
stops_by (splices.SameConfig n) (ends.Refused r) need f old new going h is = (splices.SameConfig n, h.breaks, is)
stops_by (splices.TooFew n have wanted) (ends.Refused r) need f old new going h is = (splices.TooFew n have wanted, h.breaks, is)
stops_by (splices.PrerollForeign n k) (ends.Refused r) need f old new going h is = (splices.PrerollForeign n k, h.breaks, is)
stops_by splices.Ended (ends.Refused r) need f old new going h is = absurd cc
stops_by (splices.Memory x) (ends.Refused r) need f old new going h is = absurd cc

pub ends_by : (e : SpliceFault) (stop : FrameEnd) → IsEndOf (refusal_of_splice e) stop → StopsBy (Some e) stop
ends_by e (ends.Refused r) is = (e, refl, is)
ends_by e ends.WriteFault is = absurd is
ends_by e ends.CoreFault is = absurd is
ends_by e (ends.Memory x) is = tt

-- ---- a frame of a rendition

module _ (d : Definitions) (at : PieceAt) (before : List Frame) (f : Frame) (config : UsacConfig) (au : List ℕ) (r : Renditions) (ce : config ≡ config_of f) (ae : au ≡ f.au) (st : RenditionStands at before r) where
  pub same_coded : record { config = config; au = au } ≡ coded f
  same_coded = ap (λ (c : UsacConfig). let x : Coded = record { config = c; au = au } in x) ce ∙ ap (λ (a : List ℕ). let x : Coded = record { config = config_of f; au = a } in x) ae

  pub there : fault r.run (d.warm config) (record { config = config; au = au }) ≡ fault (run_at at before) (d.warm (config_of f)) (coded f)
  there =
      ap (λ (v : RunValue). fault v (d.warm config) (record { config = config; au = au })) st.run
      ∙ (ap (λ (c : UsacConfig). fault (run_at at before) (d.warm c) (record { config = config; au = au })) ce ∙ ap (fault (run_at at before) (d.warm (config_of f))) same_coded)

  pub behind_there : behind r.run (record { config = config; au = au }) ≡ run_at at (before ++ f ∷ [])
  behind_there = ap (λ (v : RunValue). behind v (record { config = config; au = au })) st.run ∙ (ap (behind (run_at at before)) same_coded ∙ sym (run_at_push at before f))

  pub turn_there : turn r.run (record { config = config; au = au }) ≡ turn (run_at at before) (coded f)
  turn_there = ap (λ (v : RunValue). turn v (record { config = config; au = au })) st.run ∙ ap (turn (run_at at before)) same_coded

  -- it breaks no rule
  pub keeps_rules : fault r.run (d.warm config) (record { config = config; au = au }) ≡ None → (q : Refusal) → BreaksRule d at before f q → ⊥
  keeps_rules none q broken = none_some _ broken.0 (sym there ∙ none) broken.1

  -- it breaks one
  pub breaks_rule : (q : Refusal) → StopsBy (fault r.run (d.warm config) (record { config = config; au = au })) (ends.Refused q) → BreaksRule d at before f q
  breaks_rule q stop = (stop.0, sym there ∙ stop.1, stop.2)

  pub rendition_stands : (new : Renditions) → new.run ≡ behind r.run (record { config = config; au = au }) → new.positions ≡ r.positions → new.place ≡ r.place → RenditionStands at (before ++ f ∷ []) new
  rendition_stands new run positions place =
      let frames : new.run.frames ≡ r.run.frames + 1 = ap (λ (v : RunValue). v.frames) run in
      record {
        positions = ap (λ v. v.items) positions ∙ st.positions;
        place = place ∙ st.place;
        within = st.within;
        few = st.few;
        run = run ∙ behind_there;
        number = omega (arith, frames, st.number, length-append before (f ∷ []));
        going = ap (λ (v : RunValue). v.ended) run ∙ st.going;
      }

  -- ---- of `plan`

  pub plan_did : (m : Meaning) (w : Option (List ℕ)) (t : Turn) (new : RunValue) → ChecksFrame (Ok t) (d.warm config) (record { config = config; au = au }) r.run new → DidFrame (planning d at) before f m m w w
  plan_did m w t new h = record { takes = keeps_rules h.0; fed = omega arith; bytes = []; grows = refl; written = append-none w }

  pub plan_stopped : (m : Meaning) (w : Option (List ℕ)) (stop : FrameEnd) → StopsBy (fault r.run (d.warm config) (record { config = config; au = au })) stop → Handles (planning d at) before f m m w w (Err stop)
  plan_stopped m w (ends.Refused q) h = record { refuses = breaks_rule q h; fed = refl; written = append-none w }
  plan_stopped m w ends.WriteFault h = absurd h
  plan_stopped m w ends.CoreFault h = absurd h
  plan_stopped m w (ends.Memory x) h = inr (record { fed = omega arith; written = (0, append-none w) })

  pub plan_stands : (old new : Lead) (t : Turn) → old ≡ lead_at at before → t ≡ turn r.run (record { config = config; au = au }) → new ≡ lead_behind old t → new ≡ lead_at at (before ++ f ∷ [])
  plan_stands old new t was is now =
      now ∙ (ap (λ (l : Lead). lead_behind l t) was ∙ (ap (lead_behind (lead_at at before)) (is ∙ turn_there) ∙ sym (lead_at_push at before f)))

pub plan_memory : (d : Definitions) (at : PieceAt) (before : List Frame) (f : Frame) (m : Meaning) (w : Option (List ℕ)) (x : AllocError) → Handles (planning d at) before f m m w w (Err (ends.Memory x))
plan_memory d at before f m w x = inr (record { fed = omega arith; written = (0, append-none w) })

-- ---- the end of a rendition

stop_is : (q : Refusal) (e : SpliceFault) → StopsBy (Some e) (ends.Refused q) → refusal_of_splice e ≡ Some q
stop_is q e stop = let same : e ≡ stop.0 = cc in ap refusal_of_splice same ∙ stop.2

module _ (at : PieceAt) (frames : List Frame) (task : Plan) (st : PlanStands at frames task) where
  same_end : end task.renditions.run ≡ end (run_at at frames)
  same_end = ap end st.rendition.run

  -- there is its piece
  has_piece : (p : Piece) → end task.renditions.run ≡ Ok p → (q : Refusal) → LacksPiece at frames q → ⊥
  has_piece p is q lacks = let x : Ok p ≡ Err lacks.0 = sym is ∙ (same_end ∙ lacks.1) in cc

  tells : (p : Piece) (line : List ℕ) → end task.renditions.run ≡ Ok p → line ≡ line_of task.renditions.place p task.lead → TellsPiece at frames line
  tells p line is same = (p, sym same_end ∙ is, same ∙ (ap (λ (k : ℕ). line_of k p task.lead) st.rendition.place ∙ ap (line_of at.place p) st.lead))

  pub plan_closed : (p : Piece) (line : List ℕ) (w0 w1 : Option (List ℕ)) → end task.renditions.run ≡ Ok p → line ≡ line_of task.renditions.place p task.lead → w1 ≡ append_known w0 line → DidEnd (LacksPiece at frames) (TellsPiece at frames) w0 w1
  plan_closed p line w0 w1 is same written = record { takes = has_piece p is; closing = line; closes = tells p line is same; written = written }

  -- a front of the line was written
  pub plan_unwritten : (p : Piece) (line : List ℕ) (w0 w1 : Option (List ℕ)) (fault : DeviceFault) → end task.renditions.run ≡ Ok p → line ≡ line_of task.renditions.place p task.lead → WroteLess w0 w1 line
      → HandlesEnd (LacksPiece at frames) (TellsPiece at frames) w0 w1 (Err (from_device fault))
  plan_unwritten p line w0 w1 fault is same part = by_fault fault
    where
      did : DidEndPart (LacksPiece at frames) (TellsPiece at frames) w0 w1
      did = record { takes = has_piece p is; closing = line; closes = tells p line is same; written = part }

      by_fault : (x : DeviceFault) → HandlesEnd (LacksPiece at frames) (TellsPiece at frames) w0 w1 (Err (from_device x))
      by_fault devices.Failed = did
      by_fault (devices.Memory e) = inl did

  pub plan_refused : (w : Option (List ℕ)) (stop : FrameEnd) → (e : SpliceFault) → end task.renditions.run ≡ Err e → StopsBy (Some e) stop → HandlesEnd (LacksPiece at frames) (TellsPiece at frames) w w (Err stop)
  plan_refused w (ends.Refused q) e is stop = ((e, sym same_end ∙ is, stop_is q e stop), refl)
  plan_refused w ends.WriteFault e is stop = absurd stop
  plan_refused w ends.CoreFault e is stop = absurd stop
  plan_refused w (ends.Memory x) e is stop = inr refl

-- ---- the next rendition

place_within : (place : ℕ) (positions : List ℕ) → place < length positions → next_place place positions < length positions
place_within place positions lt = by_test (nat_lt (place + 1) (length positions)) refl
  where
    by_test : (b : Bool) → nat_lt (place + 1) (length positions) ≡ b → (if b then place + 1 else place) < length positions
    by_test true e = ltb-true (place + 1) (length positions) e
    by_test false e = lt

pub rendition_next : (at : PieceAt) (frames : List Frame) (old new : Renditions) → RenditionStands at frames old
    → new.run ≡ new_run (asked_at (record { positions = old.positions.items; place = next_place old.place old.positions.items; before = old.run.first })) → new.positions ≡ old.positions → new.place ≡ next_place old.place old.positions.items
    → RenditionStands (next_at at frames) [] new
rendition_next at frames old new st run positions place =
    let first : old.run.first ≡ stream_config (map coded frames) = ap (λ (v : RunValue). v.first) st.run ∙ holds_last_units.first (asked_at at) (map coded frames) in
    let same : next_place old.place old.positions.items ≡ next_place at.place at.positions = ap (λ (k : ℕ). next_place k old.positions.items) st.place ∙ ap (next_place at.place) st.positions in
    let there : PieceAt = record { positions = old.positions.items; place = next_place old.place old.positions.items; before = old.run.first } in
    let is : there ≡ next_at at frames =
    ap (λ (xs : List ℕ). let x : PieceAt = record { positions = xs; place = next_place old.place old.positions.items; before = old.run.first } in x) st.positions
    ∙ (ap (λ (k : ℕ). let x : PieceAt = record { positions = at.positions; place = k; before = old.run.first } in x) same
    ∙ ap (λ (o : Option UsacConfig). let x : PieceAt = record { positions = at.positions; place = next_place at.place at.positions; before = o } in x) first) in
    record {
      positions = ap (λ v. v.items) positions ∙ st.positions;
      place = place ∙ same;
      within = place_within at.place at.positions st.within;
      few = st.few;
      run = run ∙ ap (λ (x : PieceAt). new_run (asked_at x)) is;
      number = ap (λ (v : RunValue). v.frames) run;
      going = ap (λ (v : RunValue). v.ended) run;
    }
