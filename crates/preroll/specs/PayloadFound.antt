-- The preroll of a payload is the one whose spelling it is; and what is written is read back.
use Rattle.std.proofs.Common.{◌≡◌, ℕ, ◌-◌, ◌%◌, false, ◌++◌, length, replicate, ◌∙◌, append_assoc, arith}
use Rattle.layout.specs.Text.{bits_of}
use Rattle.layout.proofs.Whole.{value_of_is, fault_of_is as fault_is}
use Rattle.preroll.specs.declared.preroll.PreRoll.{PreRoll}
use Rattle.preroll.specs.PreRoll.{IsWellFormed, preroll, preroll_text}
use Rattle.preroll.specs.PreRollExact.{spelled_once, decided}
use Rattle.preroll.specs.Payload.{preroll_of, fault_of}
use Rattle.preroll.specs.Laws.{IsPreRollOf, IsFaultOf, with_zeros, IsReadBack}

pub preroll_of_is : IsPreRollOf
unfolding preroll_of
preroll_of_is = record {
  is = λ payload p same. (value_of_is preroll decided spelled_once).is (bits_of payload) p same;
  found = λ payload p fits spelled. (value_of_is preroll decided spelled_once).found (bits_of payload) p fits spelled;
  none = λ payload e bad. (value_of_is preroll decided spelled_once).none (bits_of payload) e bad;
}

pub fault_of_is : IsFaultOf
unfolding fault_of
fault_of_is = record {
  is = λ payload e same. (fault_is preroll decided).is (bits_of payload) e same;
  found = λ payload e bad. (fault_is preroll decided).found (bits_of payload) e bad;
}

zeros_behind : (p : PreRoll) (n : ℕ) → preroll_text p ++ replicate n false ≡ preroll_text (with_zeros p n)
zeros_behind p n = simp append_assoc

pub read_back : IsReadBack
read_back p bytes result fits written reads =
    let n = (8 - length (preroll_text p) % 8) % 8 in
    let fit : IsWellFormed (with_zeros p n) = record { config = fits.config; few = fits.few; units = fits.units } in
    let both = reads.only (with_zeros p n) fit (written ∙ zeros_behind p n) in
    (n, omega arith, both.0, both.1)
