use Rattle.au_stream.proofs.Marks.{script_frames, same_frames}
use Rattle.au_stream.proofs.laws.has_frames.Goals as goal

pub returns-clause-of_script : goal.returns-clause-of_script
returns-clause-of_script c text frames mark s = script_frames text frames mark s

pub returns-clause-unique : goal.returns-clause-unique
returns-clause-unique c text frames others mark s h = same_frames text frames others mark s h
