-- A number that is one field: its fault stands where the reader does.
use Rattle.std.proofs.Common.{◌≡◌, Err, sym, ap, subst}
use Rattle.bit_core.specs.declared.faults.Short.{Short}
use Rattle.bit_core.specs.Plain.{short_at}
use Rattle.layout.specs.Exact.{IsExact}
use Rattle.layout.specs.Layout.{Layout}
use Rattle.layout.specs.Reader.{Reader}
use Rattle.layout.specs.Reading.{Gives, Reads}
use Rattle.layout.proofs.Layouts.{reads_back}

-- a refused read that went back to where it began
pub refused : {A : Type 0} (L : Layout A Short) → IsExact L → (old middle new back : Reader) (g : Short) → Gives L old middle (Err (short_at old.at)) → new ≡ back → back.text ≡ middle.text → back.at ≡ old.at → g.at ≡ old.at → Reads L old new (Err g)
refused L l old middle new back g gives is text place there =
    let went : new ≡ record { text = middle.text; at = back.at } = subst (λ t. new ≡ record { text = t; at = back.at }) text is in
    subst (λ (s : Short). Reads L old new (Err s)) (ap short_at (sym there)) (reads_back L l old middle new (short_at old.at) back.at gives place went)
