use Rattle.std.proofs.Common.{None}
use Rattle.latm.specs.Stream.{frames_of}
use Rattle.stream_edit.proofs.Elements.{small_frames}
use Rattle.ipf_strip.proofs.Passed.{short_frames}
use Rattle.ipf_strip.proofs.immediate.immediate_frames.Goals as goal

pub immediate_among-requires : goal.immediate_among-requires
immediate_among-requires c = rw (c.deref.ensures.value, c.in_ok-frames.ensures) (short_frames (frames_of c.args.stream.now) (small_frames None c.args.stream.now.elements c.requires.elements))
