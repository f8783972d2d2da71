-- The frame of an access unit is the one whose spelling it is.
use Rattle.layout.specs.Text.{bits_of}
use Rattle.layout.proofs.Whole.{value_of_is}
use Rattle.usac_frame.specs.Frame.{frame}
use Rattle.usac_frame.specs.FrameExact.{spelled_once, decided}
use Rattle.usac_frame.specs.AccessUnit.{IsFrameOf, frame_of}

pub frame_of_is : IsFrameOf
unfolding frame_of
frame_of_is = record {
  is = λ c au f e. let v = (value_of_is (frame c) (decided c) (spelled_once c)).is (bits_of au) f e in record { fits = v.0; spelled = v.1 };
  found = λ c au f is. (value_of_is (frame c) (decided c) (spelled_once c)).found (bits_of au) f is.fits is.spelled;
}
