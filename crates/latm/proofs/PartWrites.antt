-- Parts of a configuration that are written one after another.
use Rattle.std.proofs.Common.{◌≡◌, Bool, List, ◌++◌, append_assoc}

pub behind_parts : (old a b c d e new s t u v w x : List Bool) → a ≡ old ++ s → b ≡ a ++ t → c ≡ b ++ u → d ≡ c ++ v → e ≡ d ++ w → new ≡ e ++ x → new ≡ old ++ (s ++ ((t ++ u) ++ (v ++ (w ++ x))))
behind_parts old a b c d e new s t u v w x p1 p2 p3 p4 p5 p6 = rw (p6, p5, p4, p3, p2, p1) (simp append_assoc)
