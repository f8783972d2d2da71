-- One frame of `splice`, and the end of a rendition.
use Rattle.std.proofs.Common.{◌≡◌, ℕ, ◌<◌, ◌≤◌, Bool, List, [], ◌∷◌, ◌++◌, length, map, Option, Some, None, Ok, Err, Result, true, false, refl, sym, ap, subst, ◌∙◌, arith, append_assoc, inl, inr}
use Rattle.std.specs.Prelude.{◌||◌, OnOk}
use Rattle.std.specs.Io.KnownBytes.{append_known}
use Rattle.std.proofs.lemmas.List.{append-nil}
use Rattle.std.proofs.lemmas.Grind.{flat_map-append}
use Rattle.std.proofs.lemmas.Bool.{lt-ltb, le-ltb}
use Rattle.latm.specs.Written.{canonical_bytes, canonical_length, is_memory}
use Rattle.latm.specs.declared.fault.WriteFault.{WriteFault}
use Rattle.latm.specs.declared.fault.WriteFault.TheVariants as writes
use Rattle.latm.specs.declared.mux_config.MuxConfig.{MuxConfig}
use Rattle.plans.specs.Coded.{Coded}
use Rattle.splicer.specs.declared.turn.Turn.{Turn}
use Rattle.splicer.specs.declared.fault.SpliceFault.{SpliceFault}
use Rattle.splicer.specs.Runs.{RunValue, new_run, run_over, fault, turn, behind}
use Rattle.core_iface.specs.Answering.{Meaning}
use Rattle.core_iface.specs.Decoding.{Definitions}
use Rattle.tool_text.specs.declared.refusal.Refusal.{Refusal}
use Rattle.tool_text.specs.declared.refusal.Reason.TheVariants as reasons
use Rattle.tool_text.specs.Faults.{at_frame}
use Rattle.outside.specs.declared.fault.DeviceFault.{DeviceFault}
use Rattle.outside.specs.declared.fault.DeviceFault.TheVariants as devices
use Rattle.au_stream.specs.Frames.{Frame, config_of}
use Rattle.au_stream.specs.Canonical.{Handed, bytes_of_handed}
use Rattle.std.specs.declared.alloc.AllocError.{AllocError}
use Rattle.commands.specs.declared.frame_end.FrameEnd.{FrameEnd}
use Rattle.commands.specs.declared.frame_end.FrameEnd.TheVariants as ends
use Rattle.commands.specs.Handing.{WroteLess}
use Rattle.commands.proofs.Handing.{less_part}
use Rattle.commands.specs.Commands.{Takes, Grows}
use Rattle.commands.specs.OneFrame.{Handles, from_device}
use Rattle.commands.proofs.Going.{append-none}
use Rattle.playing.specs.Spliced.{coded}
use Rattle.joining.specs.declared.renditions.Renditions.{Renditions}
use Rattle.joining.specs.Renditions.{PieceAt, asked_at, run_at, RenditionStands, StopsBy}
use Rattle.joining.specs.Splicing.{handed_with, handed_of, handed_over, some_long, Halt, Breaks, Long, halt_with, halt, Halts, splicing, SpliceStands, HandsOver, IsUnwritten}
use Rattle.joining.proofs.PlanSteps.{there, turn_there}

-- ---- one frame more

handed_push : (v : RunValue) (fs : List Frame) (f : Frame) → handed_over v (fs ++ f ∷ []) ≡ handed_over v fs ++ handed_of (run_over v (map coded fs)) f
handed_push v [] f = append-nil (handed_of v f)
handed_push v (g ∷ fs) f = ap (λ (hs : List Handed). handed_of v g ++ hs) (handed_push (behind v (coded g)) fs f) ∙ sym (append_assoc (handed_of v g) (handed_over (behind v (coded g)) fs) (handed_of (run_over (behind v (coded g)) (map coded fs)) f))

pub handed_more : (at : PieceAt) (fs : List Frame) (f : Frame) → handed_over (new_run (asked_at at)) (fs ++ f ∷ []) ≡ handed_over (new_run (asked_at at)) fs ++ handed_of (run_at at fs) f
handed_more at fs f = handed_push (new_run (asked_at at)) fs f

pub bytes_append : (hs gs : List Handed) → bytes_of_handed (hs ++ gs) ≡ bytes_of_handed hs ++ bytes_of_handed gs
bytes_append hs gs = flat_map-append (λ (h : Handed). canonical_bytes h.asc h.au) hs gs

pub splice_grows : (d : Definitions) (at : PieceAt) (before : List Frame) (f : Frame) → Grows (splicing d at) before f (bytes_of_handed (handed_of (run_at at before) f))
splice_grows d at before f = ap bytes_of_handed (handed_more at before f) ∙ bytes_append (handed_over (new_run (asked_at at)) before) (handed_of (run_at at before) f)

-- ---- what is handed on

short_one : (h : Handed) → canonical_length h.asc h.au ≤ 8191 → some_long (h ∷ []) ≡ false
short_one h le = ap (λ (b : Bool). b || false) (le-ltb 8191 (canonical_length h.asc h.au) le)

long_one : (h : Handed) → 8191 < canonical_length h.asc h.au → some_long (h ∷ []) ≡ true
long_one h lt = ap (λ (b : Bool). b || false) (lt-ltb 8191 (canonical_length h.asc h.au) lt)

one_bytes : (h : Handed) → bytes_of_handed (h ∷ []) ≡ canonical_bytes h.asc h.au
one_bytes h = append-nil (canonical_bytes h.asc h.au)

module _ (n : ℕ) (h : Handed) where
  -- all its bytes were written
  pub hands_all : (w0 w1 : Option (List ℕ)) (bytes : List ℕ) → bytes ≡ canonical_bytes h.asc h.au → canonical_length h.asc h.au ≤ 8191 → w1 ≡ append_known w0 bytes → HandsOver n (h ∷ []) w0 w1 (Ok tt)
  hands_all w0 w1 bytes is short written = (short_one h short, written ∙ ap (append_known w0) (is ∙ sym (one_bytes h)))

  -- a front of them was
  pub hands_part : (w0 w1 : Option (List ℕ)) (bytes : List ℕ) (fault : DeviceFault) → bytes ≡ canonical_bytes h.asc h.au → canonical_length h.asc h.au ≤ 8191 → WroteLess w0 w1 bytes → HandsOver n (h ∷ []) w0 w1 (Err (from_device fault))
  hands_part w0 w1 bytes fault is short part = by_fault fault
    where
      front : WroteLess w0 w1 (bytes_of_handed (h ∷ []))
      front = subst (λ (x : List ℕ). WroteLess w0 w1 x) (is ∙ sym (one_bytes h)) part

      by_fault : (x : DeviceFault) → HandsOver n (h ∷ []) w0 w1 (Err (from_device x))
      by_fault devices.Failed = (short_one h short, front)
      by_fault (devices.Memory e) = inl (short_one h short, front)

  -- its element was not made
  pub hands_none : (w : Option (List ℕ)) (fault : WriteFault) (stop : FrameEnd) → (is_memory fault ≡ false → 8191 < canonical_length h.asc h.au) → IsUnwritten n fault stop → HandsOver n (h ∷ []) w w (Err stop)
  hands_none w writes.TooLong stop long is = subst (λ (s : FrameEnd). let q : Result (Unit {0}) FrameEnd = Err s in HandsOver n (h ∷ []) w w q) (sym is) (long_one h (long refl), refl, refl)
  hands_none w (writes.Memory e) stop long is = subst (λ (s : FrameEnd). let q : Result (Unit {0}) FrameEnd = Err s in HandsOver n (h ∷ []) w w q) (sym is) (inr refl)

-- ---- a frame of a rendition

halt_none : (v : RunValue) (need : ℕ) (f : Frame) → fault v need (coded f) ≡ None → some_long (handed_of v f) ≡ false → halt v need f ≡ None
halt_none v need f keeps short =
    ap (λ (o : Option SpliceFault). halt_with o (some_long (handed_of v f)) v.frames) keeps ∙ ap (λ (b : Bool). let o : Option SpliceFault = None in halt_with o b v.frames) short

halt_long : (v : RunValue) (need : ℕ) (f : Frame) → fault v need (coded f) ≡ None → some_long (handed_of v f) ≡ true → halt v need f ≡ Some (Long v.frames)
halt_long v need f keeps long =
    ap (λ (o : Option SpliceFault). halt_with o (some_long (handed_of v f)) v.frames) keeps ∙ ap (λ (b : Bool). let o : Option SpliceFault = None in halt_with o b v.frames) long

halt_broken : (v : RunValue) (need : ℕ) (f : Frame) (e : SpliceFault) → fault v need (coded f) ≡ Some e → halt v need f ≡ Some (Breaks e)
halt_broken v need f e broken = ap (λ (o : Option SpliceFault). halt_with o (some_long (handed_of v f)) v.frames) broken

no_halt : (o : Option Halt) (h : Halt) → o ≡ None → o ≡ Some h → ⊥
no_halt o h none some = let x : None ≡ Some h = sym none ∙ some in cc

module _ (d : Definitions) (at : PieceAt) (before : List Frame) (f : Frame) where
  abbrev need : ℕ
  need = d.warm (config_of f)

  takes_frame : fault (run_at at before) need (coded f) ≡ None → some_long (handed_of (run_at at before) f) ≡ false → Takes (splicing d at) before f
  takes_frame keeps short r halts = no_halt _ halts.0 (halt_none (run_at at before) need f keeps short) halts.1

  refuses_long : (n : ℕ) (r : Refusal) → fault (run_at at before) need (coded f) ≡ None → some_long (handed_of (run_at at before) f) ≡ true → (let v = run_at at before in v.frames ≡ n) → r ≡ at_frame n reasons.TooLong → Halts d at before f r
  refuses_long n r keeps long number is = (
    Long (let v = run_at at before in v.frames),
    halt_long (run_at at before) need f keeps long,
    ap (λ (k : ℕ). let o : Option Refusal = Some (at_frame k reasons.TooLong) in o) number ∙ ap (λ (x : Refusal). let o : Option Refusal = Some x in o) (sym is),
  )

  -- it broke no rule, and was handed on or not
  pub handed_handles : (n : ℕ) (m : Meaning) (w0 w1 : Option (List ℕ)) (q : Result (Unit {0}) FrameEnd) → fault (run_at at before) need (coded f) ≡ None → (let v = run_at at before in v.frames ≡ n) → HandsOver n (handed_of (run_at at before) f) w0 w1 q
      → Handles (splicing d at) before f m m w0 w1 q
  handed_handles n m w0 w1 (Ok x) keeps number h = record { takes = takes_frame keeps h.0; fed = omega arith; bytes = bytes_of_handed (handed_of (run_at at before) f); grows = splice_grows d at before f; written = h.1 }
  handed_handles n m w0 w1 (Err (ends.Refused r)) keeps number h = record { refuses = refuses_long n r keeps h.0 number h.1; fed = refl; written = h.2 ∙ append-none w0 }
  handed_handles n m w0 w1 (Err ends.WriteFault) keeps number h =
      inl (record { takes = takes_frame keeps h.0; fed = omega arith; bytes = bytes_of_handed (handed_of (run_at at before) f); grows = splice_grows d at before f; written = h.1 })
  handed_handles n m w0 w1 (Err ends.CoreFault) keeps number h = absurd h
  handed_handles n m w0 w1 (Err (ends.Memory e)) keeps number (inl h) =
      inl (record { takes = takes_frame keeps h.0; fed = omega arith; bytes = bytes_of_handed (handed_of (run_at at before) f); grows = splice_grows d at before f; written = less_part w0 w1 (bytes_of_handed (handed_of (run_at at before) f)) h.1 })
  handed_handles n m w0 w1 (Err (ends.Memory e)) keeps number (inr same) = inr (record { fed = omega arith; written = (0, same ∙ append-none w0) })

  -- there was no memory for its access unit
  pub splice_memory : (m : Meaning) (w : Option (List ℕ)) (x : AllocError) → Handles (splicing d at) before f m m w w (Err (ends.Memory x))
  splice_memory m w x = inr (record { fed = omega arith; written = (0, append-none w) })

-- by what the code holds
module _ (d : Definitions) (at : PieceAt) (before : List Frame) (f : Frame) (mux : MuxConfig) (au : List ℕ) (r : Renditions) (me : mux ≡ f.mux) (ae : au ≡ f.au) (st : RenditionStands at before r) where
  abbrev frame_here : Coded
  frame_here = record { config = mux.asc.usac; au = au }

  ce : mux.asc.usac ≡ config_of f
  ce = ap (λ (x : MuxConfig). x.asc.usac) me

  counted : (let v = run_at at before in v.frames ≡ length before)
  counted = sym (ap (λ (v : RunValue). v.frames) st.run) ∙ st.number

  handed_is : (t : Turn) → t ≡ turn r.run frame_here → handed_with t mux.asc au ≡ handed_of (run_at at before) f
  handed_is t is =
      ap (λ (x : Turn). handed_with x mux.asc au) (is ∙ turn_there d at before f mux.asc.usac au r ce ae st)
      ∙ (ap (λ (x : MuxConfig). handed_with (turn (run_at at before) (coded f)) x.asc au) me ∙ ap (handed_with (turn (run_at at before) (coded f)) f.mux.asc) ae)

  pub splice_handles : (n : ℕ) (m : Meaning) (w0 w1 : Option (List ℕ)) (t : Turn) (q : Result (Unit {0}) FrameEnd) → fault r.run (d.warm mux.asc.usac) frame_here ≡ None → t ≡ turn r.run frame_here → n ≡ length before → HandsOver n (handed_with t mux.asc au) w0 w1 q
      → Handles (splicing d at) before f m m w0 w1 q
  splice_handles n m w0 w1 t q keeps is number h =
      handed_handles d at before f n m w0 w1 q (sym (there d at before f mux.asc.usac au r ce ae st) ∙ keeps) (counted ∙ sym number)
      (subst (λ (hs : List Handed). HandsOver n hs w0 w1 q) (handed_is t is) h)

  pub splice_stopped : (m : Meaning) (w : Option (List ℕ)) (stop : FrameEnd) → StopsBy (fault r.run (d.warm mux.asc.usac) frame_here) stop → Handles (splicing d at) before f m m w w (Err stop)
  splice_stopped m w (ends.Refused q) h =
      record { refuses = (Breaks h.0, halt_broken (run_at at before) (d.warm (config_of f)) f h.0 (sym (there d at before f mux.asc.usac au r ce ae st) ∙ h.1), h.2); fed = refl; written = append-none w }
  splice_stopped m w ends.WriteFault h = absurd h
  splice_stopped m w ends.CoreFault h = absurd h
  splice_stopped m w (ends.Memory x) h = inr (record { fed = omega arith; written = (0, append-none w) })

-- the rendition stands, where the frame was handed on
pub splice_stands : (at : PieceAt) (frames : List Frame) (r : Renditions) (q : Result (Unit {0}) FrameEnd) → RenditionStands at frames r → OnOk q (SpliceStands at frames (record { renditions = r }))
splice_stands at frames r (Ok x) st = record { rendition = st }
splice_stands at frames r (Err e) st = tt
