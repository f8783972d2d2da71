-- Elements that are written one after another.
use Rattle.std.proofs.Common.{◌≡◌, ℕ, ◌<◌, List, [], ◌∷◌, ◌++◌, length, Some, None, Ok, Err, refl, sym, ap, subst, ◌∙◌, arith}
use Rattle.std.specs.declared.option.Option.{Option}
use Rattle.std.specs.Io.KnownBytes.{append_known}
use Rattle.std.proofs.lemmas.List.{length-append, append_assoc}
use Rattle.latm.specs.declared.mux_element.MuxElement.{MuxElement}
use Rattle.commands.specs.declared.frame_end.FrameEnd.{FrameEnd}
use Rattle.commands.specs.declared.frame_end.FrameEnd.TheVariants as ends
use Rattle.commands.specs.Handing.{HandedOver, WroteLess}
use Rattle.commands.proofs.Handing.{append-append, handed-stopped, less_behind, less_in_front}
use Rattle.stream_edit.specs.declared.editor.Given.{Given}
use Rattle.stream_edit.specs.Giving.{given, GivesNext}
use Rattle.editing.specs.Runs.{frame_of, run_of, WritesBytes}
use Rattle.editing.proofs.Written.{some_bytes}

-- bytes more were written
pub bytes_more : (before mid now : Option (List ℕ)) (bytes first rest : List ℕ) → HandedOver before mid bytes (first ++ rest) → now ≡ append_known mid first → HandedOver before now bytes rest
bytes_more before mid now bytes first rest held wrote = record {
  done = held.done ++ first;
  all = held.all ∙ sym (append_assoc held.done first rest);
  grown = wrote ∙ (ap (λ (known : Option (List ℕ)). append_known known first) held.grown ∙ append-append before held.done first);
}

-- and less than these
less_more : (before mid now : Option (List ℕ)) (bytes first rest : List ℕ) → HandedOver before mid bytes (first ++ rest) → WroteLess mid now first → WroteLess before now bytes
less_more before mid now bytes first rest held less =
    subst (λ (xs : List ℕ). WroteLess before now xs) (sym held.all) (less_behind before mid now held.done (first ++ rest) held.grown (less_in_front mid now first rest less))

pub stopped_more : (before mid now : Option (List ℕ)) (bytes first rest : List ℕ) (fault : FrameEnd) → HandedOver before mid bytes (first ++ rest) → WritesBytes first mid now (Err fault) → WritesBytes bytes before now (Err fault)
stopped_more before mid now bytes first rest (ends.Refused refusal) held wrote = wrote
stopped_more before mid now bytes first rest ends.WriteFault held wrote = less_more before mid now bytes first rest held wrote
stopped_more before mid now bytes first rest ends.CoreFault held wrote = wrote
stopped_more before mid now bytes first rest (ends.Memory e) held wrote = less_more before mid now bytes first rest held wrote

-- the bytes that were to be written before an element was given
pub run_before : (old new : List MuxElement) (answer : Option Given) (one : Given) → answer ≡ Some one → GivesNext old new (Ok answer) → run_of old ≡ frame_of (given one) ++ run_of new
run_before old new None one is gives = cc
run_before old new (Some other) one is gives =
    let same : other ≡ one = cc in
    ap (λ (xs : List MuxElement). run_of xs) gives.0 ∙ ap (λ (it : Given). frame_of (given it) ++ run_of new) same

pub held_before : (before mid : Option (List ℕ)) (bytes : List ℕ) (old new : List MuxElement) (answer : Option Given) (one : Given) → answer ≡ Some one → GivesNext old new (Ok answer) → HandedOver before mid bytes (run_of old) → HandedOver before mid bytes (frame_of (given one) ++ run_of new)
held_before before mid bytes old new answer one is gives held = subst (λ (xs : List ℕ). HandedOver before mid bytes xs) (run_before old new answer one is gives) held

some_run : (es : List MuxElement) → 0 < length es → 0 < length (run_of es)
some_run [] some = absurd (omega (arith, some))
some_run (e ∷ es) some = omega (arith, some_bytes e, length-append (frame_of e) (run_of es))

-- There was no memory before an element that is still to be given.
pub stopped_before : (before mid : Option (List ℕ)) (bytes : List ℕ) (es : List MuxElement) → HandedOver before mid bytes (run_of es) → 0 < length es → WroteLess before mid bytes
stopped_before before mid bytes es held some = handed-stopped before mid mid bytes (run_of es) held (some_run es some) refl
