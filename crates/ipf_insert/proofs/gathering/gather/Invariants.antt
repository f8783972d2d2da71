use Rattle.std.proofs.Common.{◌≡◌, ◌++◌, length, drop, map}
use Rattle.std.specs.Option.{option_copied}
use Rattle.layout.specs.Layout.{FitsOption}
use Rattle.latm.specs.MuxConfig.{IsWellFormed as IsMux}
use Rattle.latm.specs.Stream.{AreElements, slots_from, frames_of, au_in}
use Rattle.ipf_insert.specs.Rules.{frames_rule}
use Rattle.ipf_insert.specs.Steps.{IsSame, refs}
use Rattle.ipf_insert.proofs.gathering.gather.Given as goal

abbrev pub invariant-loop-element : goal.invariant-loop-element
invariant-loop-element l = record {
  elements : AreElements (option_copied l.in_force) (drop l.element-index l.element-items);
  in_force : FitsOption IsMux (option_copied l.in_force);
  same : IsSame l.same l.fn.first (option_copied l.in_force);
  so_far : frames_rule l.fn.first (length (refs l.aus.items)) (slots_from (option_copied l.in_force) (drop l.element-index l.element-items)) ≡ frames_rule l.fn.first 0 (frames_of l.fn.stream);
  all : refs l.aus.items ++ map au_in (slots_from (option_copied l.in_force) (drop l.element-index l.element-items)) ≡ map au_in (frames_of l.fn.stream);
}
