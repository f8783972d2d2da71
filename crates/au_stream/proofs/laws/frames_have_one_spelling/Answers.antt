use Rattle.au_stream.proofs.Written.{one_element_of, one_frame_of}
use Rattle.au_stream.proofs.laws.frames_have_one_spelling.Goals as goal

pub returns-clause-one_element : goal.returns-clause-one_element
returns-clause-one_element c before text one other rest remains a b = one_element_of before text one other rest remains a b

pub returns-clause-one_frame : goal.returns-clause-one_frame
returns-clause-one_frame c before later wanted frame other bytes others a b = one_frame_of before later wanted frame other bytes others a b
