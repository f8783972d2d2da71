-- Where a frame was given, little was read behind its element.
use Rattle.std.proofs.Common.{◌≡◌, ℕ, ◌+◌, false, List, [], ◌∷◌, ◌++◌, length, take, Option, None, sym, ap, subst, ◌∙◌, arith, inl, inr}
use Rattle.std.proofs.lemmas.List.{length-append, take_at}
use Rattle.latm.specs.declared.mux_config.MuxConfig.{MuxConfig}
use Rattle.latm.specs.declared.mux_element.MuxElement.{MuxElement}
use Rattle.au_stream.specs.Elements.{Carries}
use Rattle.au_stream.specs.Frames.{Frame, frames_from}
use Rattle.au_stream.specs.Frames.{frames_under}
use Rattle.au_stream.specs.Reading.{Reading, pending_frames, KnowsChange, HasRead}
use Rattle.au_stream.specs.Ahead.{ReadsNear}
use Rattle.au_stream.proofs.FrameLists.{last_split}
use Rattle.au_stream.proofs.Runs.{carries_front}

-- nothing was read yet
pub nothing_read : (r : Reading) → r.framer.held ≡ [] → r.framer.passed ≡ 0 → r.in_force ≡ None → r.pending ≡ [] → r.count ≡ 0 → r.failed ≡ false → HasRead [] [] r
nothing_read r held passed none pending count going =
    let no_frames : pending_frames r ≡ [] = ap (λ (m : Option MuxConfig). frames_under m r.opens r.pending) none in
    record {
      holds = record {
        elements = [];
        carried = sym held;
        in_force = none;
        some = λ e. pending;
        frames = sym no_frames;
        change = subst (λ (x : List Frame). KnowsChange None x r.changed) (sym no_frames) tt;
        counted = count;
        pushed = omega (arith, passed, ap (λ (x : List ℕ). length x) held);
        few = omega arith;
        going = going;
      };
      last = none;
      ahead = omega (arith, ap (λ (x : List ℕ). length x) held);
      newest = λ front e is. absurd (omega (arith, ap (λ (x : List MuxElement). length x) is, length-append front (e ∷ [])));
    }

pub reads_near : ReadsNear
reads_near got given f r h =
    let s = h.holds in
    let all : length (frames_from None s.elements) ≡ length given + 1 + length (pending_frames r) =
    omega (arith, ap (λ (x : List Frame). length x) s.frames, length-append (given ++ f ∷ []) (pending_frames r), length-append given (f ∷ [])) in
    elim (last_split s.elements) [
      | inl none ↦ absurd (omega (arith, all, ap (λ (x : List MuxElement). length (frames_from None x)) none))
      | inr last ↦
          let own = carries_front None got (last.0 ++ last.1 ∷ []) r.framer.held (subst (λ (x : List MuxElement). Carries None got x r.framer.held) last.2 s.carried) in
          let end = length own.0 in
          let long : length got ≡ end + length r.framer.held = omega (arith, ap (λ (x : List ℕ). length x) own.1, length-append own.0 r.framer.held) in
          let front : take end got ≡ own.0 = ap (λ (x : List ℕ). take end x) own.1 ∙ take_at own.0 r.framer.held end (omega arith) in (
            end,
            record {
              earlier = last.0;
              own = last.1;
              within = omega (arith, long);
              carried = subst (λ (x : List ℕ). Carries None x (last.0 ++ last.1 ∷ []) []) (sym front) own.2;
              not_before = omega (arith, h.newest last.0 last.1 last.2, length-append given (f ∷ []));
              has = omega (arith, all, ap (λ (x : List MuxElement). length (frames_from None x)) last.2);
            },
            omega (arith, long, h.ahead),
          )
    ]
