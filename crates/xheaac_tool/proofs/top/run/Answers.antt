use Rattle.xheaac_tool.proofs.Headlines.{plays_splices, starts_streams, plans_pieces, splices_pieces, switches_pieces}
use Rattle.xheaac_tool.proofs.top.run.Goals as goal

pub returns-clause-promises : goal.returns-clause-promises
returns-clause-promises g c = record {
  splices = plays_splices g.H.Shelf g.K.Sink g.C.Core g.C.Core.does _ _ _ _ _ _ _ _ _ c.answer.ensures c.play_takes_splices_alone.ensures;
  starts = starts_streams g.H.Shelf g.K.Sink g.C.Core g.C.Core.does _ _ _ _ _ _ _ _ _ c.answer.ensures c.start_takes_sound_starts.ensures;
  plans = plans_pieces g.H.Shelf g.K.Sink g.C.Core g.C.Core.does _ _ _ _ _ _ _ _ _ c.answer.ensures c.no_event_is_a_sound_plan.ensures;
  joins = splices_pieces g.H.Shelf g.K.Sink g.C.Core g.C.Core.does _ _ _ _ _ _ _ _ _ c.answer.ensures c.no_event_is_a_sound_plan.ensures c.spliced_files_carry_the_splice.ensures;
  programmes = switches_pieces g.H.Shelf g.K.Sink g.C.Core g.C.Core.does _ _ _ _ _ _ _ _ _ c.answer.ensures c.no_event_is_a_sound_plan.ensures c.switch_plays_before_events.ensures;
}
