-- What a command on a source did is what the bytes of the file say.
use Rattle.std.proofs.Common.{◌≡◌, ℕ, ◌<◌, false, eqb, List, [], ◌∷◌, ◌++◌, Option, Some, None, refl, sym, ap, subst, ◌∙◌, arith}
use Rattle.std.proofs.lemmas.Bool.{ne_eqb}
use Rattle.outside.specs.Other.{all_but}
use Rattle.std.specs.Io.KnownBytes.{prepend_known}
use Rattle.core_iface.specs.Answering.{Meaning}
use Rattle.latm.specs.declared.mux_config.MuxConfig.{MuxConfig}
use Rattle.au_stream.specs.declared.event.Event.{Event}
use Rattle.au_stream.specs.Frames.{Frame}
use Rattle.au_stream.specs.Script.{HasFrames}
use Rattle.au_stream.specs.Reading.{Reading}
use Rattle.au_stream.specs.Events.{Reads}
use Rattle.au_stream.proofs.Steps.{read_frames}
use Rattle.std.specs.Prelude.{Ok}
use Rattle.commands.specs.Commands.{Command, Takes}
use Rattle.commands.specs.Ending.{OfFile}
use Rattle.commands.specs.Doing.{GoesOn}
use Rattle.commands.proofs.Going.{prepend-prepend, takes_push, Next}

-- the bytes of a source that tells
pub told : (text got : List ℕ) (left : Option (List ℕ)) → Some text ≡ prepend_known got left → (more : List ℕ) × (left ≡ Some more) × (text ≡ got ++ more)
told text got None e = absurd cc
told text got (Some more) e = (more, refl, cc)

-- What is so of each frame of the file is so of the one that is handled.
pub frame_of_file : (j : Command) (H : List Frame → Type 0) (serves : List Frame → Frame → Type 0) (old mid : Meaning) (text : List ℕ) (left1 left2 before w1 : Option (List ℕ)) (r1 r2 : Reading) (f1 f2 : ℕ) (event : Event) (mux : MuxConfig)
    → (s : GoesOn j H old mid (Some text) left1 before w1 r1) → (p : Reads s.got s.given r1 r2 (record { left = left1; faults = f1 }) (record { left = left2; faults = f2 }) (Ok (Some event)))
    → (n : Next (s.got ++ p.more) s.given r2 event mux) → OfFile j serves text → Takes j s.given n.frame → serves s.given n.frame
frame_of_file j H serves old mid text left1 left2 before w1 r1 r2 f1 f2 event mux s p n each takes =
    let from : Some text ≡ prepend_known (s.got ++ p.more) left2 = s.from ∙ ap (prepend_known s.got) p.from ∙ prepend-prepend s.got p.more left2 in
    let k = told text (s.got ++ p.more) left2 from in
    let a = read_frames (s.got ++ p.more) k.0 (s.given ++ n.frame ∷ []) r2 n.read in
    each s.given n.frame (record { later = a.0; of_file = subst (λ (x : List ℕ). HasFrames x ((s.given ++ n.frame ∷ []) ++ a.0)) (sym k.2) a.1; takes = takes_push j [] s.given n.frame s.takes takes })

-- what is left of the other inputs
pub left_of_others : (id n other : ℕ) (left_old left_mid left_new : ℕ → Option (List ℕ)) → id ≡ n → other < n → left_mid other ≡ left_old other → all_but id left_new ≡ all_but id left_mid → left_new other ≡ left_old other
left_of_others id n other left_old left_mid left_new id-is lt begun rest =
    let apart : eqb other id ≡ false = ne_eqb other id (λ e. omega arith) in
    let at : all_but id left_new other ≡ all_but id left_mid other = ap (λ (f : ℕ → Option (List ℕ)). f other) rest in
    (rw apart at at) ∙ begun
