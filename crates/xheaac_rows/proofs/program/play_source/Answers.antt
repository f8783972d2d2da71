use Rattle.std.proofs.Common.{◌≡◌, List, [], ◌∷◌, ◌++◌, length, Some, None, ap, ◌∙◌, arith, length-append}
use Rattle.std.specs.Option.{option_map}
use Rattle.au_stream.specs.Frames.{Frame, config_of, last_of}
use Rattle.au_stream.proofs.FrameLists.{last-push}
use Rattle.xheaac_rows.proofs.program.play_source.Goals as goal

-- behind a frame there is a configuration
no_config : (given : List Frame) (f : Frame) → None ≡ option_map config_of (last_of (given ++ f ∷ [])) → ⊥
no_config given f e = let never : None ≡ Some (config_of f) = e ∙ ap (option_map config_of) (last-push given f) in cc

pub unreachable-requires : goal.unreachable-requires
unreachable-requires g c =
    let s = c.loop-samples.invariant in
    let next = rw c.in-Some.is at c.in_ok-frame.ensures in
    let k = (next.reads s.read.0 s.read.1 s.read.2).leaves in
    let last = rw c.in_default-config.is at c.config.ensures.last in
    no_config s.read.1 k.0 (last _ _ k.2)

pub feed-requires-clause-size : goal.feed-requires-clause-size
feed-requires-clause-size g c =
    let s = c.loop-samples.invariant in
    let next = rw c.in-Some.is at c.in_ok-frame.ensures in
    omega (arith, next.small s.read.0 s.read.1 s.read.2, ap length c.as_slice.ensures)

pub loop-samples-preserved : goal.loop-samples-preserved
loop-samples-preserved g c =
    let s = c.loop-samples.invariant in
    let next = rw c.in-Some.is at c.in_ok-frame.ensures in
    let k = (next.reads s.read.0 s.read.1 s.read.2).leaves in
    record {
      read = (_, _, k.2);
      few = next.few;
      fed = omega (arith, s.fed, c.in_ok-feed.ensures.feeds.few, s.read.2.holds.counted, k.2.holds.counted, length-append s.read.1 (k.0 ∷ []));
      in_step = c.in_ok-feed.ensures.feeds.in_step;
    }
