-- The immediate frames that a word of the command line asks `strip` to take out.
use Rattle.std.specs.Prelude.{ℕ, List, codes, Some, if◌then◌else◌}
use Rattle.std.specs.declared.option.Option.{Option}
use Rattle.std.specs.Option.{option_map}
use Rattle.std.specs.Str.{bytes_eq}
use Rattle.editing.specs.declared.strip.StripTargets.{StripTargets}
use Rattle.editing.specs.declared.strip.StripTargets.TheVariants.{Each, All}
use Rattle.xheaac_tool.specs.TargetWords.{between_commas, numbers_of}

-- TARGETS of `strip`: `all`, or NUMBERs joined by single commas
abbrev pub strip_targets_of : List ℕ → Option StripTargets
strip_targets_of word = if bytes_eq word (codes "all") then Some All else option_map Each (numbers_of (between_commas word))
