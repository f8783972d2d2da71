-- What the output of `play` grows by at a frame.
use Rattle.std.proofs.Common.{◌≡◌, ℕ, List, [], ◌∷◌, ◌++◌, length, map, drop, Option, Some, None, ℤ, arith, refl, sym, ap, ◌∙◌, append_assoc}
use Rattle.std.proofs.lemmas.List.{append-nil, map-append}
use Rattle.std.proofs.Math.Seq.{drop-append_seam}
use Rattle.preroll.specs.Carrying.{Shown}
use Rattle.core_iface.specs.Decoding.{Definitions, samples_of}
use Rattle.core_iface.specs.Answering.{Running}
use Rattle.core_iface.specs.Samples.{sample_bytes, sample_bytes-append}
use Rattle.switch_player.specs.Playing.{played_block, played_state, played, state_over}
use Rattle.switch_player.specs.PlayingFound.{played_both, state_both}
use Rattle.switch_player.specs.CarriedFound.{few_before}
use Rattle.switch_player.specs.SegmentedFound.{plays_segments}
use Rattle.au_stream.specs.Frames.{Frame, config_of}
use Rattle.commands.specs.Commands.{IsCommand, Grows}
use Rattle.playing.specs.Playing.{playing, play_shown, last_config, output, output_on}
use Rattle.playing.specs.Standing.{state_behind}

pub last_config-push : (before : List Frame) (f : Frame) → last_config (before ++ f ∷ []) ≡ Some (config_of f)
last_config-push [] f = refl
last_config-push (g ∷ []) f = refl
last_config-push (g ∷ h ∷ before) f = last_config-push (h ∷ before) f

-- the sample bytes of blocks, and of blocks behind blocks
bytes_of : List (List ℤ) → List ℕ
bytes_of blocks = sample_bytes (samples_of blocks)

bytes_of-append : (xs ys : List (List ℤ)) → bytes_of (xs ++ ys) ≡ bytes_of xs ++ bytes_of ys
unfolding bytes_of
bytes_of-append [] ys = refl
bytes_of-append (b ∷ bs) ys =
    sample_bytes-append b (samples_of (bs ++ ys))
    ∙ (ap (λ (xs : List ℕ). sample_bytes b ++ xs) (bytes_of-append bs ys)
    ∙ (sym (append_assoc (sample_bytes b) (bytes_of bs) (bytes_of ys))
    ∙ ap (λ (xs : List ℕ). xs ++ bytes_of ys) (sym (sample_bytes-append b (samples_of bs)))))

-- the sample bytes of frames behind a core
abbrev bytes_from : Definitions → Option Running → List Frame → List ℕ
bytes_from d at frames = bytes_of (played d at (map play_shown frames))

bytes_both : (d : Definitions) (at : Option Running) (fs gs : List Frame) → bytes_from d at (fs ++ gs) ≡ bytes_from d at fs ++ bytes_from d (state_over d at (map play_shown fs)) gs
bytes_both d at fs gs =
    ap (λ (xs : List Shown). bytes_of (played d at xs)) (map-append play_shown fs gs)
    ∙ (ap bytes_of (played_both d at (map play_shown fs) (map play_shown gs))
    ∙ bytes_of-append (played d at (map play_shown fs)) (played d (state_over d at (map play_shown fs)) (map play_shown gs)))

state_behind-append : (d : Definitions) (fs gs : List Frame) → state_behind d (fs ++ gs) ≡ state_over d (state_behind d fs) (map play_shown gs)
state_behind-append d fs gs = ap (state_over d None) (map-append play_shown fs gs) ∙ state_both d None (map play_shown fs) (map play_shown gs)

pub state_push : (d : Definitions) (fs : List Frame) (f : Frame) → state_behind d (fs ++ f ∷ []) ≡ played_state d (state_behind d fs) (play_shown f)
state_push d fs f = state_behind-append d fs (f ∷ [])

-- the output is what one core gives that runs on through the frames
output_is : (d : Definitions) (frames : List Frame) → output d frames ≡ bytes_from d None frames
unfolding bytes_of
output_is d frames = ap bytes_of (sym (plays_segments d (map play_shown frames)))

output_on_is : (d : Definitions) (earlier frames : List Frame) → output_on d earlier frames ≡ bytes_from d (state_behind d earlier) frames
output_on_is d earlier frames =
    ap (λ (xs : List ℕ). drop (length (output d earlier)) xs)
    (output_is d (earlier ++ frames) ∙ (bytes_both d None earlier frames ∙ ap (λ (xs : List ℕ). xs ++ bytes_from d (state_behind d earlier) frames) (sym (output_is d earlier))))
    ∙ drop-append_seam (output d earlier) (bytes_from d (state_behind d earlier) frames)

-- a frame more is written
pub play_grows : (d : Definitions) (earlier before : List Frame) (f : Frame) → Grows (playing d earlier) before f (sample_bytes (played_block d (state_behind d (earlier ++ before)) (play_shown f)))
unfolding bytes_of
play_grows d earlier before f =
    let start = state_behind d earlier in
    let mid = state_over d start (map play_shown before) in
    let block = played_block d mid (play_shown f) in
    output_on_is d earlier (before ++ f ∷ [])
    ∙ (bytes_both d start before (f ∷ [])
    ∙ (ap (λ (xs : List ℕ). xs ++ sample_bytes (block ++ [])) (sym (output_on_is d earlier before))
    ∙ (ap (λ (xs : List ℤ). output_on d earlier before ++ sample_bytes xs) (append-nil block)
    ∙ ap (λ (x : Option Running). output_on d earlier before ++ sample_bytes (played_block d x (play_shown f))) (sym (state_behind-append d earlier before)))))

pub play_command : (d : Definitions) (earlier : List Frame) → IsCommand (playing d earlier)
unfolding bytes_of
play_command d earlier = record {
  nothing = output_on_is d earlier [];
  few = λ before f. (let few = few_before (last_config (earlier ++ before)) (config_of f) f.au in omega (arith, few));
}
