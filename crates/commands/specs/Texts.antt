-- The texts that a command notes, beside its refusals.
use Rattle.std.specs.Prelude.{ℕ, List, codes}

abbrev pub read_text : List ℕ
read_text = codes "read fault\n"

abbrev pub write_text : List ℕ
write_text = codes "write fault\n"

abbrev pub core_text : List ℕ
core_text = codes "core fault\n"

abbrev pub memory_text : List ℕ
memory_text = codes "out of memory\n"

abbrev pub large_text : List ℕ
large_text = codes "too large\n"
