-- One frame of `check`.
use Rattle.std.proofs.Common.{◌≡◌, ℕ, ◌+◌, ◌≤◌, Bool, true, false, List, [], ◌∷◌, ◌++◌, length, Option, Some, Err, refl, sym, ap, subst, ◌∙◌, arith, inl, inr, ◌⊎◌}
use Rattle.std.specs.Option.{option_map_or}
use Rattle.std.specs.Io.KnownBytes.{append_known}
use Rattle.std.proofs.lemmas.List.{length-append}
use Rattle.layout.specs.Text.{digit}
use Rattle.latm.specs.declared.mux_config.MuxConfig.{MuxConfig}
use Rattle.usac_cfg.specs.declared.usac_config.UsacConfig.{UsacConfig}
use Rattle.usac_frame.specs.declared.frame.Frame.{Frame as UsacFrame}
use Rattle.usac_frame.specs.AccessUnit.{IsFrame}
use Rattle.usac_frame.specs.FrameExact.{spelled_once}
use Rattle.usac_frame.specs.FrameFound.{frame_of_is}
use Rattle.usac_frame.specs.Units.{is_immediate}
use Rattle.preroll.specs.declared.fault.CarryFault.{CarryFault}
use Rattle.preroll.specs.declared.fault.CarryFault.TheVariants as carries
use Rattle.preroll.specs.Faults.{is_carry_memory}
use Rattle.preroll.specs.Carried.{IsFirst}
use Rattle.outside.specs.declared.fault.DeviceFault.{DeviceFault}
use Rattle.outside.specs.declared.fault.DeviceFault.TheVariants as devices
use Rattle.core_iface.specs.Answering.{Meaning}
use Rattle.tool_text.specs.declared.refusal.Refusal.{Refusal}
use Rattle.tool_text.specs.Faults.{refusal_of_carry}
use Rattle.tool_text.specs.CheckText.{check_line}
use Rattle.au_stream.specs.declared.event.Event.{Event}
use Rattle.au_stream.specs.Events.{IsEvent}
use Rattle.au_stream.specs.Frames.{Frame, config_of}
use Rattle.au_stream.specs.Script.{most_bytes}
use Rattle.au_stream.proofs.SegmentLists.{split_more, segments_few}
use Rattle.xheaac_tool.specs.declared.check_task.Check.{Check}
use Rattle.commands.specs.declared.frame_end.FrameEnd.{FrameEnd}
use Rattle.commands.specs.declared.frame_end.FrameEnd.TheVariants as ends
use Rattle.commands.specs.Commands.{RefusesNoEnd}
use Rattle.commands.specs.Handing.{WroteLess}
use Rattle.xheaac_tool.specs.Reading.{ReadsUnit, IsJudgement}
use Rattle.commands.specs.OneFrame.{Handles, DidFrame, DidPart, DidSome, DidRefuse, DidEnd, DidEndPart, HandlesEnd, from_device}
use Rattle.xheaac_tool.specs.Checking.{ClosesCounted, CheckRefuses, TooShort, Uncarried, how_many, flag_of, is_independent, is_play_out, checking}
use Rattle.xheaac_tool.specs.Counting.{HoldsCounts, AreFew, counted, EndsBy, KeepsRules, BreaksRule, IsGood, IsBad}
use Rattle.commands.proofs.Going.{append-none}
use Rattle.xheaac_tool.proofs.Lines.{frame_is, not_short, too_short}

-- ---- counts

many_push : {A : Type 0} (p : A → Bool) (xs : List A) (x : A) → how_many p (xs ++ x ∷ []) ≡ how_many p xs + digit (p x)
many_push p [] x = omega arith
many_push p (y ∷ xs) x = omega (arith, many_push p xs x)

one_at_most : (b : Bool) → digit b ≤ 1
one_at_most true = omega arith
one_at_most false = omega arith

many_few : {A : Type 0} (p : A → Bool) (xs : List A) → how_many p xs ≤ length xs
many_few p [] = omega arith
many_few p (x ∷ xs) = omega (arith, one_at_most (p x), many_few p xs)

pub counts_more : (c now : Check) (before : List Frame) (f : Frame) (event : Event) (config : UsacConfig) (g : UsacFrame) → IsEvent before f event → config ≡ config_of f → IsFrame config event.au g → now ≡ counted event.changed g.independent (is_immediate config g) c
    → HoldsCounts c before → HoldsCounts now (before ++ f ∷ [])
counts_more c now before f event config g e same is made h =
    let found = frame_of_is.found (config_of f) f.au g (frame_is f config event.au g same e.au is) in
    let flag : is_independent f ≡ g.independent = ap (λ (o : Option UsacFrame). option_map_or flag_of o false) found in
    let immediate : is_play_out f ≡ is_immediate config g = ap (λ (o : Option UsacFrame). option_map_or (is_immediate (config_of f)) o false) found ∙ ap (λ (x : UsacConfig). is_immediate x g) (sym same) in
    let more = split_more before h.segments f event.changed h.split e.changed in
    record {
      frames = ap (λ (x : Check). x.frames) made ∙ ap (λ (n : ℕ). n + 1) h.frames ∙ sym (length-append before (f ∷ []));
      segments = more.0;
      split = more.1;
      configurations = ap (λ (x : Check). x.configurations) made ∙ ap (λ (n : ℕ). n + digit event.changed) h.configurations ∙ sym more.2;
      independent = ap (λ (x : Check). x.independent) made ∙ ap (λ (n : ℕ). n + digit g.independent) h.independent ∙ ap (λ (b : Bool). how_many is_independent before + digit b) (sym flag) ∙ sym (many_push is_independent before f);
      immediate = ap (λ (x : Check). x.immediate) made ∙ ap (λ (n : ℕ). n + digit (is_immediate config g)) h.immediate ∙ ap (λ (b : Bool). how_many is_play_out before + digit b) (sym immediate) ∙ sym (many_push is_play_out before f);
    }

-- ---- what is judged

-- a fault that is a refusal is not out of memory
pub is_judgement : (number : ℕ) (e : CarryFault) (r : Refusal) → refusal_of_carry number e ≡ Some r → is_carry_memory e ≡ false
is_judgement number carries.NotImmediate r is = refl
is_judgement number carries.Split r is = refl
is_judgement number (carries.BadPreroll at) r is = refl
is_judgement number carries.BadConfig r is = refl
is_judgement number carries.ConfigDiffers r is = refl
is_judgement number (carries.BadUnit k at) r is = refl
is_judgement number (carries.Nested k) r is = refl
is_judgement number carries.FirstDependent r is = refl
is_judgement number (carries.Memory a) r is = absurd cc

pub breaks_rule : (number : ℕ) (c : UsacConfig) (g : UsacFrame) (e : CarryFault) (end : FrameEnd) → (is_carry_memory e ≡ false → IsFirst c g e) → EndsBy number e end → BreaksRule number c g end
breaks_rule number c g e (ends.Refused r) first ended = (e, first (is_judgement number e r ended), ended)
breaks_rule number c g e ends.WriteFault first ended = absurd ended
breaks_rule number c g e ends.CoreFault first ended = absurd ended
breaks_rule number c g e (ends.Memory a) first ended = tt

-- ---- the frame

-- it is taken
pub check_takes : (before : List Frame) (f : Frame) (config : UsacConfig) (au : List ℕ) (g : UsacFrame) → config ≡ config_of f → au ≡ f.au → IsFrame config au g → (is_immediate config g ≡ true → KeepsRules config g) → (r : Refusal) → CheckRefuses before f r → ⊥
check_takes before f config au g c a is keeps r (TooShort short) = not_short before f config au g c a is r short
check_takes before f config au g c a is keeps r (Uncarried h here immediate e first why) =
    let i = frame_is f config au g c a is in
    let same : h ≡ g = spelled_once (config_of f) h g here.fits i.fits (sym here.spelled ∙ i.spelled) in
    let now : is_immediate config g ≡ true = ap (λ (x : UsacConfig). is_immediate x g) c ∙ sym (ap (is_immediate (config_of f)) same) ∙ immediate in
    let there : IsFirst config g e = subst (λ (x : UsacConfig). IsFirst x g e) (sym c) (subst (λ (x : UsacFrame). IsFirst (config_of f) x e) same first) in
    keeps now e there.breaks

pub check_did : (before : List Frame) (f : Frame) (m : Meaning) (w : Option (List ℕ)) (config : UsacConfig) (au : List ℕ) (g : UsacFrame) → config ≡ config_of f → au ≡ f.au → IsFrame config au g → (is_immediate config g ≡ true → KeepsRules config g)
    → w ≡ append_known w [] → DidFrame checking before f m m w w
check_did before f m w config au g c a is keeps same = record { takes = check_takes before f config au g c a is keeps; fed = omega arith; bytes = []; grows = refl; written = same }

-- it is refused, or memory ran out
untaken : (before : List Frame) (f : Frame) (m : Meaning) (w : Option (List ℕ)) (r : Refusal) → CheckRefuses before f r → DidRefuse checking before f r m m w w
untaken before f m w r bad = record { refuses = bad; fed = refl; written = append-none w }

out_of_memory : (before : List Frame) (f : Frame) (m : Meaning) (w : Option (List ℕ)) → DidPart checking before f m m w w ⊎ DidSome checking before f m m w w
out_of_memory before f m w = inr (record { fed = omega arith; written = (0, append-none w) })

-- its preroll breaks a rule
pub check_broken : (before : List Frame) (f : Frame) (m : Meaning) (w : Option (List ℕ)) (config : UsacConfig) (au : List ℕ) (number : ℕ) (g : UsacFrame) (end : FrameEnd) → config ≡ config_of f → au ≡ f.au → number ≡ length before → IsFrame config au g
    → (is_immediate config g ≡ true) × BreaksRule number config g end → Handles checking before f m m w w (Err end)
check_broken before f m w config au number g (ends.Refused r) c a n is bad =
    let rule = bad.1 in
    let first : IsFirst (config_of f) g rule.0 = subst (λ (x : UsacConfig). IsFirst x g rule.0) c rule.1 in
    let immediate : is_immediate (config_of f) g ≡ true = ap (λ (x : UsacConfig). is_immediate x g) (sym c) ∙ bad.0 in
    untaken before f m w r (Uncarried g (frame_is f config au g c a is) immediate rule.0 first (ap (λ (k : ℕ). refusal_of_carry k rule.0) (sym n) ∙ rule.2))
check_broken before f m w config au number g ends.WriteFault c a n is bad = absurd bad.1
check_broken before f m w config au number g ends.CoreFault c a n is bad = absurd bad.1
check_broken before f m w config au number g (ends.Memory x) c a n is bad = out_of_memory before f m w

-- it was not read
pub check_unread : (before : List Frame) (f : Frame) (m : Meaning) (w : Option (List ℕ)) (event : Event) (mux : MuxConfig) (end : FrameEnd) → IsEvent before f event → mux ≡ f.mux → ReadsUnit event.frame mux.asc.usac event.au (Err end)
    → Handles checking before f m m w w (Err end)
check_unread before f m w event mux (ends.Refused r) e is bad =
    untaken before f m w r (TooShort (too_short before f mux.asc.usac event.au event.frame bad.0 r (ap (λ (x : MuxConfig). x.asc.usac) is) e.au e.number bad.1 bad.2))
check_unread before f m w event mux ends.WriteFault e is bad = absurd bad
check_unread before f m w event mux ends.CoreFault e is bad = absurd bad
check_unread before f m w event mux (ends.Memory x) e is bad = out_of_memory before f m w

-- an access unit is one frame at most
same_frame : (c : UsacConfig) (au : List ℕ) (g h : UsacFrame) → IsFrame c au g → IsFrame c au h → g ≡ h
same_frame c au g h p q = spelled_once c g h p.fits q.fits (sym p.spelled ∙ q.spelled)

-- the frame that it is keeps the rules, where one that it is does
pub good_keeps : (c : UsacConfig) (au : List ℕ) (h : UsacFrame) → IsFrame c au h → IsGood c au → KeepsRules c h
good_keeps c au h is good = subst (λ (x : UsacFrame). KeepsRules c x) (same_frame c au good.0 h good.1 is) good.2

-- it is immediate, and was not read, or its preroll breaks a rule
pub check_bad : (before : List Frame) (f : Frame) (m : Meaning) (w : Option (List ℕ)) (event : Event) (mux : MuxConfig) (h : UsacFrame) (end : FrameEnd) → IsEvent before f event → mux ≡ f.mux → IsFrame mux.asc.usac event.au h → is_immediate mux.asc.usac h ≡ true
    → IsBad event.frame mux.asc.usac event.au end → Handles checking before f m m w w (Err end)
check_bad before f m w event mux h end e is frame immediate (inl unread) = check_unread before f m w event mux end e is unread
check_bad before f m w event mux h end e is frame immediate (inr bad) =
    let c = mux.asc.usac in
    let same : bad.0 ≡ h = same_frame c event.au bad.0 h bad.1 frame in
    check_broken before f m w c event.au event.frame bad.0 end (ap (λ (x : MuxConfig). x.asc.usac) is) e.au e.number bad.1 (ap (is_immediate c) same ∙ immediate, bad.2)

-- a frame whose preroll breaks a rule is no fault of a device or of the core
pub broken_is_judgement : (number : ℕ) (c : UsacConfig) (g : UsacFrame) (end : FrameEnd) → BreaksRule number c g end → IsJudgement end
broken_is_judgement number c g (ends.Refused r) bad = tt
broken_is_judgement number c g ends.WriteFault bad = absurd bad
broken_is_judgement number c g ends.CoreFault bad = absurd bad
broken_is_judgement number c g (ends.Memory a) bad = tt

-- the counts of a file are few
pub counts_few : (c : Check) (before : List Frame) (number : ℕ) → number ≤ most_bytes → length before ≡ number → HoldsCounts c before → AreFew c
counts_few c before number few long h = record {
  frames = omega (arith, few, long, h.frames);
  configurations = omega (arith, few, long, h.configurations, segments_few before h.segments h.split.are);
  independent = omega (arith, few, long, h.independent, many_few is_independent before);
  immediate = omega (arith, few, long, h.immediate, many_few is_play_out before);
}

-- ---- the end

pub closes_counted : (c : Check) (frames : List Frame) (line : List ℕ) → HoldsCounts c frames → line ≡ check_line c.frames c.configurations c.independent c.immediate → ClosesCounted frames line
closes_counted c frames line h is = record {
  segments = h.segments;
  are = h.split.are;
  line = is ∙ ap (λ (n : ℕ). check_line n c.configurations c.independent c.immediate) h.frames ∙ ap (λ (n : ℕ). check_line (length frames) n c.independent c.immediate) h.configurations
      ∙ ap (λ (n : ℕ). check_line (length frames) (length h.segments) n c.immediate) h.independent ∙ ap (λ (n : ℕ). check_line (length frames) (length h.segments) (how_many is_independent frames) n) h.immediate;
}

-- the line was written
pub check_closed : (c : Check) (frames : List Frame) (w0 w1 : Option (List ℕ)) (line bytes : List ℕ) → HoldsCounts c frames → line ≡ check_line c.frames c.configurations c.independent c.immediate → bytes ≡ line → w1 ≡ append_known w0 bytes → DidEnd (RefusesNoEnd frames) (ClosesCounted frames) w0 w1
check_closed c frames w0 w1 line bytes h is same written = record { takes = λ r never. never; closing = bytes; closes = closes_counted c frames bytes h (same ∙ is); written = written }

-- a front of it was written
pub check_stopped : (c : Check) (frames : List Frame) (w0 w1 : Option (List ℕ)) (line bytes : List ℕ) (fault : DeviceFault) → HoldsCounts c frames → line ≡ check_line c.frames c.configurations c.independent c.immediate → bytes ≡ line → WroteLess w0 w1 bytes
    → HandlesEnd (RefusesNoEnd frames) (ClosesCounted frames) w0 w1 (Err (from_device fault))
check_stopped c frames w0 w1 line bytes fault h is same part = by_fault fault
  where
    did : DidEndPart (RefusesNoEnd frames) (ClosesCounted frames) w0 w1
    did = record { takes = λ r never. never; closing = bytes; closes = closes_counted c frames bytes h (same ∙ is); written = part }

    by_fault : (x : DeviceFault) → HandlesEnd (RefusesNoEnd frames) (ClosesCounted frames) w0 w1 (Err (from_device x))
    by_fault devices.Failed = did
    by_fault (devices.Memory e) = inl did
