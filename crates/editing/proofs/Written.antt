-- The bytes of the LOAS frame of an element.
use Rattle.std.proofs.Common.{◌≡◌, ℕ, zero, suc, ◌/◌, ◌%◌, ◌<◌, ◌≤◌, Bool, List, [], ◌∷◌, ◌++◌, length, Some, None, Ok, Err, All, refl, sym, ap, subst, ◌∙◌, arith}
use Rattle.std.specs.declared.option.Option.{Option}
use Rattle.std.specs.Io.KnownBytes.{append_known}
use Rattle.std.proofs.lemmas.List.{length-append, append-nil}
use Rattle.std.proofs.lemmas.List.Elements.{All-append}
use Rattle.layout.specs.Text.{bits_of}
use Rattle.layout.proofs.TextLemmas.{bits_of-append}
use Rattle.loas.specs.Framing.{header, framed}
use Rattle.latm.specs.Bytes.{bytes_of}
use Rattle.latm.specs.Written.{element_text, Frames}
use Rattle.latm.proofs.ByteTexts.{length-bytes_of, bits_of-bytes_of, bytes_of-small, bytes_back}
use Rattle.latm.specs.declared.mux_config.MuxConfig.{MuxConfig}
use Rattle.latm.specs.declared.mux_element.MuxElement.{MuxElement}
use Rattle.latm.specs.MuxElement.{then_in_force}
use Rattle.latm.specs.Stream.{AreElements}
use Rattle.au_stream.specs.Written.{IsWritten, AreWritten}
use Rattle.outside.specs.declared.fault.DeviceFault.{DeviceFault}
use Rattle.outside.specs.declared.fault.DeviceFault.TheVariants as devices
use Rattle.commands.specs.Handing.{WroteLess}
use Rattle.commands.specs.OneFrame.{from_device}
use Rattle.editing.specs.Runs.{frame_of, run_of, WritesBytes, WritesRuns}

header_small : (n : ℕ) → n ≤ 8191 → All (λ byte. byte < 256) (header n)
header_small n le zero d lt = omega arith
header_small n le (suc zero) d lt = omega (arith, le)
header_small n le (suc (suc zero)) d lt = omega arith
header_small n le (suc (suc (suc k))) d lt = absurd (omega (arith, lt))

framed_small : (text : List Bool) → length text % 8 ≡ 0 → length text ≤ 65528 → All (λ byte. byte < 256) (framed (bytes_of text))
framed_small text whole few =
    let count = length-bytes_of text in
    All-append (λ byte. byte < 256) (header (length (bytes_of text))) (bytes_of text) (header_small (length (bytes_of text)) (omega (arith, count, few))) (bytes_of-small text whole)

framed_bits : (text : List Bool) → length text % 8 ≡ 0 → bits_of (framed (bytes_of text)) ≡ bits_of (header (length text / 8)) ++ text
framed_bits text whole =
    let count = length-bytes_of text in
    bits_of-append (header (length (bytes_of text))) (bytes_of text)
    ∙ (ap (λ (n : ℕ). bits_of (header n) ++ bits_of (bytes_of text)) count
    ∙ ap (λ (t : List Bool). bits_of (header (length text / 8)) ++ t) (bits_of-bytes_of text whole))

framed_is : (text : List Bool) (frame : List ℕ) → length text % 8 ≡ 0 → length text ≤ 65528 → All (λ byte. byte < 256) frame → bits_of frame ≡ bits_of (header (length text / 8)) ++ text → frame ≡ framed (bytes_of text)
framed_is text frame whole few small spelled =
    bytes_back frame (bits_of (header (length text / 8)) ++ text) small spelled
    ∙ sym (bytes_back (framed (bytes_of text)) (bits_of (header (length text / 8)) ++ text) (framed_small text whole few) (framed_bits text whole))

-- what makes a LOAS frame of the element makes its bytes
frame_is : (e : MuxElement) (frame : List ℕ) → length (element_text e) % 8 ≡ 0 → All (λ byte. byte < 256) frame → Frames (element_text e) (Ok frame) → frame ≡ frame_of e
unfolding frame_of
frame_is e frame whole small made = framed_is (element_text e) frame whole made.ok.1 small made.ok.0

pub frame_there : (e : MuxElement) (frame slice : List ℕ) → slice ≡ frame → length (element_text e) % 8 ≡ 0 → All (λ byte. byte < 256) slice → Frames (element_text e) (Ok frame) → slice ≡ frame_of e
frame_there e frame slice same whole small made = frame_is e slice whole small (subst (λ (xs : List ℕ). Frames (element_text e) (Ok xs)) (sym same) made)

pub some_bytes : (e : MuxElement) → 0 < length (frame_of e)
unfolding frame_of
some_bytes e = omega (arith, length-append (header (length (bytes_of (element_text e)))) (bytes_of (element_text e)))

-- ---- all elements of a stream

is_written : (e : MuxElement) → length (element_text e) % 8 ≡ 0 → length (element_text e) ≤ 65528 → IsWritten e (frame_of e)
unfolding frame_of
is_written e whole few = record {
  bytes = framed_small (element_text e) whole few;
  frames = record { ok = (framed_bits (element_text e) whole, few); err = tt };
}

are_written : (before : Option MuxConfig) (es : List MuxElement) → AreElements before es → AreWritten es (run_of es)
are_written before [] are = refl
are_written before (e ∷ es) are = (frame_of e, run_of es, is_written e are.0.whole are.0.few, refl, are_written (then_in_force before e.config) es are.1)

pub runs_written : WritesRuns
runs_written stream fits = are_written None stream.elements fits.elements

append_none : (known : Option (List ℕ)) → known ≡ append_known known []
append_none None = refl
append_none (Some xs) = ap (λ (ys : List ℕ). Some ys) (sym (append-nil xs))

-- ---- what was written where it was not all

pub nothing_yet : (known : Option (List ℕ)) (bytes : List ℕ) → 0 < length bytes → WroteLess known known bytes
nothing_yet known bytes some = (0, some, append_none known)

pub device_stopped : (fault : DeviceFault) (old new : Option (List ℕ)) (bytes : List ℕ) → WroteLess old new bytes → WritesBytes bytes old new (Err (from_device fault))
device_stopped devices.Failed old new bytes less = less
device_stopped (devices.Memory e) old new bytes less = less

pub less_of : (old new : Option (List ℕ)) (bytes others : List ℕ) → bytes ≡ others → WroteLess old new bytes → WroteLess old new others
less_of old new bytes others same less = subst (λ (xs : List ℕ). WroteLess old new xs) same less
