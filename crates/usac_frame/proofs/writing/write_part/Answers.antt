use Rattle.std.proofs.Common.{append_assoc}
use Rattle.layout.specs.Text.{bits_of}
use Rattle.usac_frame.proofs.writing.write_part.Goals as goal

pub returns-in_ok-put_bytes-in-Present : goal.returns-in_ok-put_bytes-in-Present
unfolding bits_of
returns-in_ok-put_bytes-in-Present c = rw (c.in-Present.is, c.in_ok-put_bytes-in-Present.ensures.ok, c.in_ok-write_marks-in-Present.ensures, c.in_ok-write_length-in-Present.ensures, c.in_ok-put_flag-in-Present.ensures.ok, c.has_marks.ensures, c.len-length.ensures, c.as_slice.ensures) (simp append_assoc)
