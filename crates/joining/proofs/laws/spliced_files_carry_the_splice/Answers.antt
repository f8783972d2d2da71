use Rattle.joining.proofs.Carrying.{no_stop_is_a_splice}
use Rattle.joining.proofs.laws.spliced_files_carry_the_splice.Goals as goal

pub returns : goal.returns
returns c =
    no_stop_is_a_splice c.orders_are_judged.ensures c.sound_plans_are_given.ensures c.sound_pieces_are_given.ensures c.given_frames_are_the_piece.ensures c.canonical_frames_are_read_back.ensures
