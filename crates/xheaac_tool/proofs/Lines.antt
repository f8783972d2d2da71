-- Lemmas on lines that are written one after another.
use Rattle.std.proofs.Common.{◌≡◌, ℕ, zero, suc, ◌<◌, List, [], ◌∷◌, ◌++◌, length, take, drop, get_or, Bool, true, false, Option, None, Result, Ok, Err, inl, inr, refl, sym, ap, subst, ◌∙◌, append_assoc, arith, Some}
use Rattle.std.specs.Prelude.{if◌then◌else◌, OnErr}
use Rattle.std.specs.Io.KnownBytes.{append_known}
use Rattle.std.proofs.lemmas.List.{take_all}
use Rattle.commands.specs.Handing.{WrotePart, WroteLess}
use Rattle.latm.specs.declared.mux_config.MuxConfig.{MuxConfig}
use Rattle.core_iface.specs.Answering.{Meaning}
use Rattle.outside.specs.declared.fault.DeviceFault.{DeviceFault}
use Rattle.outside.specs.Answers.{IsFailed}
use Rattle.outside.specs.declared.fault.DeviceFault.TheVariants as devices
use Rattle.tool_text.specs.MuxText.{lines_of_mux}
use Rattle.layout.specs.Text.{bits_of}
use Rattle.usac_cfg.specs.declared.usac_config.UsacConfig.{UsacConfig}
use Rattle.usac_frame.specs.declared.frame.Frame.{Frame as UsacFrame}
use Rattle.usac_frame.specs.declared.fault.FrameFault.TheVariants as faults
use Rattle.usac_frame.specs.Frame.{FrameFaults}
use Rattle.usac_frame.specs.AccessUnit.{IsFrame, frame_of}
use Rattle.usac_frame.specs.FrameExact.{decided}
use Rattle.usac_frame.specs.FrameFound.{frame_of_is}
use Rattle.usac_frame.specs.Units.{first_payload, is_immediate}
use Rattle.preroll.specs.declared.fault.PreFault.{PreFault}
use Rattle.preroll.specs.declared.fault.PreFault.TheVariants as prerolls
use Rattle.preroll.specs.declared.preroll.PreRoll.{PreRoll}
use Rattle.preroll.specs.PreRoll.{IsWellFormed, preroll_text, PreRollFaults}
use Rattle.preroll.specs.Payload.{fault_of}
use Rattle.preroll.specs.PayloadFound.{preroll_of_is, fault_of_is}
use Rattle.tool_text.specs.PreRollText.{bad_line, lines_of_preroll}
use Rattle.tool_text.specs.declared.refusal.Refusal.{Refusal}
use Rattle.tool_text.specs.declared.refusal.Place.TheVariants as places
use Rattle.tool_text.specs.declared.refusal.Reason.TheVariants as reasons
use Rattle.au_stream.specs.declared.event.Event.{Event}
use Rattle.au_stream.specs.Events.{IsEvent}
use Rattle.au_stream.specs.Frames.{Frame, config_of}
use Rattle.commands.specs.OneFrame.{Handles, DidFrame, from_device}
use Rattle.xheaac_tool.specs.Reading.{IsTooShort, ReadsUnit}
use Rattle.commands.specs.declared.frame_end.FrameEnd.{FrameEnd}
use Rattle.commands.specs.declared.frame_end.FrameEnd.TheVariants as ends
use Rattle.xheaac_tool.specs.Showing.{joined, mux_where, lines_where, payload_lines, preroll_where, frame_text, text_where, shown_of, opening_of, showing}
use Rattle.xheaac_tool.proofs.Growing.{show_grows}
use Rattle.commands.proofs.Handing.{append-append, part_behind, less_part, less_behind, less_in_front}

-- what holds of an error holds where a write failed
pub on_failed : (r : Result (Unit {0}) DeviceFault) (P : Type 0) → OnErr r P → IsFailed r → P
on_failed (Ok x) P h failed = absurd (let never : false ≡ true = failed in cc)
on_failed (Err x) P h failed = h

-- bytes, and those behind them
pub both_all : (w0 w1 w2 : Option (List ℕ)) (a b : List ℕ) → w1 ≡ append_known w0 a → w2 ≡ append_known w1 b → w2 ≡ append_known w0 (a ++ b)
both_all w0 w1 w2 a b one two = two ∙ ap (λ (x : Option (List ℕ)). append_known x b) one ∙ append-append w0 a b

-- the lines before one of them, that line, and the others
joined_split : (lines : List (List ℕ)) (i : ℕ) (line : List ℕ) → i < length lines → line ≡ get_or lines i line → joined lines ≡ joined (take i lines) ++ (line ++ joined (drop (suc i) lines))
joined_split [] i line lt e = absurd (omega arith)
joined_split (x ∷ lines) zero line lt e = ap (λ (y : List ℕ). y ++ joined lines) (sym e)
joined_split (x ∷ lines) (suc i) line lt e =
    ap (λ (y : List ℕ). x ++ y) (joined_split lines i line (omega arith) e) ∙ sym (append_assoc x (joined (take i lines)) (line ++ joined (drop (suc i) lines)))

-- a part of one line behind the lines before it
pub part_of_line : (before mid after : Option (List ℕ)) (lines : List (List ℕ)) (i : ℕ) (line bytes : List ℕ) → i < length lines → line ≡ get_or lines i line → bytes ≡ line
    → mid ≡ append_known before (joined (take i lines)) → WroteLess mid after bytes → WroteLess before after (joined lines)
part_of_line before mid after lines i line bytes lt e is_line so_far part =
    let rest = joined (drop (suc i) lines) in
    subst (λ (x : List ℕ). WroteLess before after x) (sym (joined_split lines i line lt e))
    (less_behind before mid after (joined (take i lines)) (line ++ rest) so_far (less_in_front mid after line rest (subst (λ (x : List ℕ). WroteLess mid after x) is_line part)))

-- ---- a frame of `show`

-- the lines of a mux
pub lines_all : (before after : Option (List ℕ)) (mux : MuxConfig) (lines : List (List ℕ)) → lines ≡ lines_of_mux mux → after ≡ append_known before (joined lines) → after ≡ append_known before (mux_where true mux)
lines_all before after mux lines is written = written ∙ ap (λ (x : List (List ℕ)). append_known before (joined x)) is

pub lines_part : (before after : Option (List ℕ)) (mux : MuxConfig) (lines : List (List ℕ)) → lines ≡ lines_of_mux mux → WroteLess before after (joined lines) → WroteLess before after (mux_where true mux)
lines_part before after mux lines is part = subst (λ (x : List (List ℕ)). WroteLess before after (joined x)) is part

-- the lines of a payload that is a preroll, and of one that is none
pub payload_good : (payload : List ℕ) (p : PreRoll) → IsWellFormed p → bits_of payload ≡ preroll_text p → payload_lines payload ≡ lines_of_preroll p
payload_good payload p fits spelled = ap (λ (o : Option PreRoll). lines_where o (fault_of payload)) (preroll_of_is.found payload p fits spelled)

pub payload_bad : (payload : List ℕ) (at : ℕ) → PreRollFaults (prerolls.Short at) payload → payload_lines payload ≡ bad_line at ∷ []
payload_bad payload at bad =
    ap (λ (o : Option PreRoll). lines_where o (fault_of payload)) (preroll_of_is.none payload (prerolls.Short at) bad)
    ∙ ap (λ (o : Option PreFault). lines_where None o) (fault_of_is.found payload (prerolls.Short at) bad)

pub preroll_all : (c : UsacConfig) (g : UsacFrame) (lines : List (List ℕ)) → is_immediate c g ≡ true → lines ≡ payload_lines (first_payload g) → joined lines ≡ preroll_where c g
preroll_all c g lines immediate is = ap joined is ∙ sym (ap (λ (b : Bool). if b then joined (payload_lines (first_payload g)) else []) immediate)

-- what is written of a frame before it is judged, and behind that
pub opening_is : (before : List Frame) (f : Frame) (event : Event) (mux : MuxConfig) → IsEvent before f event → mux ≡ f.mux → mux_where event.opens mux ≡ opening_of before f
opening_is before f event mux e is = ap (λ (x : Bool). mux_where x mux) e.opens ∙ ap (λ (x : MuxConfig). mux_where f.opens x) is

text_is : (number : ℕ) (f : Frame) (bytes : ℕ) (config : UsacConfig) (event_number : ℕ) (g : UsacFrame) → config ≡ config_of f → event_number ≡ number → bytes ≡ length f.au → frame_of (config_of f) f.au ≡ Some g
    → frame_text config event_number bytes g ≡ text_where (config_of f) number (length f.au) (frame_of (config_of f) f.au)
text_is number f bytes config event_number g c n b found =
    ap (λ (x : UsacConfig). frame_text x event_number bytes g) c
    ∙ ap (λ (x : ℕ). frame_text (config_of f) x bytes g) n
    ∙ ap (λ (x : ℕ). frame_text (config_of f) number x g) b
    ∙ ap (λ (x : Option UsacFrame). text_where (config_of f) number (length f.au) x) (sym found)

-- the frame that was read, of the access unit of a frame
pub frame_is : (f : Frame) (config : UsacConfig) (au : List ℕ) (g : UsacFrame) → config ≡ config_of f → au ≡ f.au → IsFrame config au g → IsFrame (config_of f) f.au g
frame_is f config au g c a is = subst (λ (x : List ℕ). IsFrame (config_of f) x g) a (subst (λ (x : UsacConfig). IsFrame x au g) c is)

-- no frame is too short
pub not_short : (before : List Frame) (f : Frame) (config : UsacConfig) (au : List ℕ) (g : UsacFrame) → config ≡ config_of f → au ≡ f.au → IsFrame config au g → (r : Refusal) → IsTooShort before f r → ⊥
not_short before f config au g c a is r short =
    let i = frame_is f config au g c a is in
    (decided (config_of f)).not_both (bits_of f.au) (faults.Short short.at) (g, i.fits, i.spelled) short.fault

pub too_short : (before : List Frame) (f : Frame) (config : UsacConfig) (au : List ℕ) (number : ℕ) (at : ℕ) (r : Refusal) → config ≡ config_of f → au ≡ f.au → number ≡ length before → FrameFaults config (faults.Short at) (bits_of au)
    → r ≡ record { place = places.FrameBit number at; reason = reasons.FrameTooShort } → IsTooShort before f r
too_short before f config au number at r c a n bad is = record {
  at = at;
  fault = subst (λ (x : List ℕ). FrameFaults (config_of f) (faults.Short at) (bits_of x)) a (subst (λ (x : UsacConfig). FrameFaults x (faults.Short at) (bits_of au)) c bad);
  refusal = is ∙ ap (λ (k : ℕ). record { place = places.FrameBit k at; reason = reasons.FrameTooShort }) n;
}

-- what opens it was not written to its end
pub show_unopened : (before : List Frame) (f : Frame) (m : Meaning) (w0 w1 : Option (List ℕ)) (event : Event) (mux : MuxConfig) (fault : DeviceFault) → IsEvent before f event → mux ≡ f.mux → WroteLess w0 w1 (mux_where event.opens mux)
    → Handles showing before f m m w0 w1 (Err (from_device fault))
show_unopened before f m w0 w1 event mux devices.Failed e is part = inr (record { fed = refl; written = subst (λ (x : List ℕ). WroteLess w0 w1 x) (opening_is before f event mux e is) part })
show_unopened before f m w0 w1 event mux (devices.Memory x) e is part = inr (record { fed = omega arith; written = less_part w0 w1 (opening_of before f) (subst (λ (x : List ℕ). WroteLess w0 w1 x) (opening_is before f event mux e is) part) })

-- a frame of which a part was written
pub show_stopped : (before : List Frame) (f : Frame) (m : Meaning) (w0 w1 w2 : Option (List ℕ)) (event : Event) (mux : MuxConfig) (g : UsacFrame) (fault : DeviceFault) → IsEvent before f event → mux ≡ f.mux → IsFrame mux.asc.usac event.au g
    → w1 ≡ append_known w0 (mux_where event.opens mux) → WrotePart w1 w2 (frame_text mux.asc.usac event.frame (length event.au) g)
    → (let r : Result (Unit {0}) DeviceFault = Err fault in IsFailed r → WroteLess w1 w2 (frame_text mux.asc.usac event.frame (length event.au) g)) → Handles showing before f m m w0 w2 (Err (from_device fault))
show_stopped before f m w0 w1 w2 event mux g fault e is frame opened part less = by_fault fault less
  where
    config : mux.asc.usac ≡ config_of f
    config = ap (λ (x : MuxConfig). x.asc.usac) is

    line : frame_text mux.asc.usac event.frame (length event.au) g ≡ text_where (config_of f) (length before) (length f.au) (frame_of (config_of f) f.au)
    line = text_is (length before) f (length event.au) mux.asc.usac event.frame g config e.number (ap (λ (x : List ℕ). length x) e.au) (frame_of_is.found (config_of f) f.au g (frame_is f mux.asc.usac event.au g config e.au frame))

    first : w1 ≡ append_known w0 (mux_where f.opens f.mux)
    first = opened ∙ ap (λ (x : List ℕ). append_known w0 x) (opening_is before f event mux e is)

    by_fault : (x : DeviceFault) → (let r : Result (Unit {0}) DeviceFault = Err x in IsFailed r → WroteLess w1 w2 (frame_text mux.asc.usac event.frame (length event.au) g)) → Handles showing before f m m w0 w2 (Err (from_device x))
    by_fault devices.Failed h =
        inl (record { takes = not_short before f mux.asc.usac event.au g config e.au frame; fed = omega arith; bytes = shown_of (length before) f; grows = show_grows before f; written = less_behind w0 w1 w2 _ _ first (subst (λ (x : List ℕ). WroteLess w1 w2 x) line (h refl)) })
    by_fault (devices.Memory x) h =
        inl (record { takes = not_short before f mux.asc.usac event.au g config e.au frame; fed = omega arith; bytes = shown_of (length before) f; grows = show_grows before f; written = part_behind w0 w1 w2 _ _ first (subst (λ (x : List ℕ). WrotePart w1 w2 x) line part) })

-- a frame that was shown
pub show_did : (before : List Frame) (f : Frame) (m : Meaning) (w0 w1 w2 : Option (List ℕ)) (event : Event) (mux : MuxConfig) (g : UsacFrame) → IsEvent before f event → mux ≡ f.mux → IsFrame mux.asc.usac event.au g
    → w1 ≡ append_known w0 (mux_where event.opens mux) → w2 ≡ append_known w1 (frame_text mux.asc.usac event.frame (length event.au) g) → DidFrame showing before f m m w0 w2
show_did before f m w0 w1 w2 event mux g e is frame opened written =
    let config : mux.asc.usac ≡ config_of f = ap (λ (x : MuxConfig). x.asc.usac) is in
    let found = frame_of_is.found (config_of f) f.au g (frame_is f mux.asc.usac event.au g config e.au frame) in
    let line = text_is (length before) f (length event.au) mux.asc.usac event.frame g config e.number (ap (λ (x : List ℕ). length x) e.au) found in
    record {
      takes = not_short before f mux.asc.usac event.au g config e.au frame;
      fed = omega arith;
      bytes = shown_of (length before) f;
      grows = show_grows before f;
      written = both_all w0 w1 w2 (mux_where f.opens f.mux) (text_where (config_of f) (length before) (length f.au) (frame_of (config_of f) f.au)) (opened ∙ ap (λ (x : List ℕ). append_known w0 x) (opening_is before f event mux e is)) (written ∙ ap (λ (x : List ℕ). append_known w1 x) line);
    }

-- a frame that was opened, and not read
pub show_unread : (before : List Frame) (f : Frame) (m : Meaning) (w0 w1 : Option (List ℕ)) (event : Event) (mux : MuxConfig) (end : FrameEnd) → IsEvent before f event → mux ≡ f.mux → ReadsUnit event.frame mux.asc.usac event.au (Err end)
    → w1 ≡ append_known w0 (mux_where event.opens mux) → Handles showing before f m m w0 w1 (Err end)
show_unread before f m w0 w1 event mux (ends.Refused r) e is bad opened = record {
  refuses = too_short before f mux.asc.usac event.au event.frame bad.0 r (ap (λ (x : MuxConfig). x.asc.usac) is) e.au e.number bad.1 bad.2;
  fed = refl;
  written = opened ∙ ap (λ (x : List ℕ). append_known w0 x) (opening_is before f event mux e is);
}
show_unread before f m w0 w1 event mux ends.WriteFault e is bad opened = absurd bad
show_unread before f m w0 w1 event mux ends.CoreFault e is bad opened = absurd bad
show_unread before f m w0 w1 event mux (ends.Memory x) e is bad opened =
    let xs = opening_of before f in
    inr (record { fed = omega arith; written = (length xs, opened ∙ ap (λ (y : List ℕ). append_known w0 y) (opening_is before f event mux e is ∙ sym (take_all (length xs) xs (omega arith)))) })
