-- No fault of a frame's layout or of a preroll's is out of memory: that a text has a fault never depends on memory.
use Rattle.std.proofs.Common.{◌≡◌, ℕ, zero, suc, Bool, true, false, List, [], ◌∷◌, refl, ap, ◌∙◌, inl, inr}
use Rattle.std.specs.Prelude.{not, ◌==◌}
use Rattle.layout.specs.Layout.{Layout, both, shaped, fitted, wrapped, where_set}
use Rattle.layout.specs.ToEnd.{rest}
use Rattle.layout.specs.Times.{TimesFaults, times}
use Rattle.layout.specs.Each.{EachFaults, each}
use Rattle.bit_core.specs.Plain.{bits, bit, number, flag, run_of_bytes}
use Rattle.esc_value.specs.Escaped.{escaped}
use Rattle.usac_cfg.specs.declared.extension_element.ExtConfig.{ExtConfig}
use Rattle.usac_cfg.specs.declared.usac_config.UsacConfig.{UsacConfig}
use Rattle.usac_frame.specs.Faults.{is_memory as is_frame_memory, from_short as frame_short, from_read as frame_read}
use Rattle.usac_frame.specs.Frame.{frame, leading_exts}
use Rattle.usac_frame.specs.Part.{part, part_length, marks, has_marks}
use Rattle.preroll.specs.Faults.{is_memory, from_short, from_read}
use Rattle.preroll.specs.PreRoll.{preroll, counted_bytes, units}

-- no fault of the layout passes the test
pub record IsNever {A F : Type 0} (free : F → Bool) (L : Layout A F) : Type 0 where
  pub never : (at : ℕ) (f : F) (t : List Bool) → L.Faults at f t → free f ≡ false

both_faults : {A B F : Type 0} (free : F → Bool) (H : Layout A F) (K : A → Layout B F) → IsNever free H → ((a : A) → IsNever free (K a)) → (at : ℕ) (f : F) (t : List Bool) → (both H K).Faults at f t → free f ≡ false
both_faults free H K h k at f t (inl x) = h.never at f t x
both_faults free H K h k at f t (inr x) = (k x.0).never _ f x.1 x.4

both_never : {A B F : Type 0} (free : F → Bool) (H : Layout A F) (K : A → Layout B F) → IsNever free H → ((a : A) → IsNever free (K a)) → IsNever free (both H K)
both_never free H K h k = record { never = both_faults free H K h k }

where_never : {A F : Type 0} (free : F → Bool) (b : Bool) (H : Layout A F) → IsNever free H → IsNever free (where_set b H)
where_never free b H h = record { never = λ at f t x. h.never at f t x.1 }

fitted_never : {A B F : Type 0} (free : F → Bool) (fits : B → Type 0) (parts : B → A) (made : A → B) (H : Layout A F) → IsNever free H → IsNever free (fitted fits parts made H)
fitted_never free fits parts made H h = record { never = h.never }

shaped_never : {A B F : Type 0} (free : F → Bool) (parts : B → A) (made : A → B) (H : Layout A F) → IsNever free H → IsNever free (shaped parts made H)
shaped_never free parts made H h = record { never = h.never }

wrapped_never : {A F G : Type 0} (free : G → Bool) (wrap : F → G) (H : Layout A F) → ((f : F) → free (wrap f) ≡ false) → IsNever free (wrapped wrap H)
wrapped_never free wrap H w = record { never = λ at f t x. ap free x.2 ∙ w x.0 }

rest_never : {F : Type 0} (free : F → Bool) → IsNever free rest
rest_never free = record { never = λ at f t x. absurd x }

times_faults : {A F : Type 0} (free : F → Bool) (n : ℕ) (H : Layout A F) → IsNever free H → (at : ℕ) (f : F) (t : List Bool) → TimesFaults H n at f t → free f ≡ false
times_faults free zero H h at f t x = absurd x
times_faults free (suc n) H h at f t (inl x) = h.never at f t x
times_faults free (suc n) H h at f t (inr x) = times_faults free n H h _ f x.1 x.4

times_never : {A F : Type 0} (free : F → Bool) (n : ℕ) (H : Layout A F) → IsNever free H → IsNever free (times n H)
times_never free n H h = record { never = times_faults free n H h }

each_faults : {X A F : Type 0} (free : F → Bool) (H : X → Layout A F) → ((x : X) → IsNever free (H x)) → (xs : List X) (at : ℕ) (f : F) (t : List Bool) → EachFaults H xs at f t → free f ≡ false
each_faults free H h [] at f t x = absurd x
each_faults free H h (y ∷ xs) at f t (inl x) = (h y).never at f t x
each_faults free H h (y ∷ xs) at f t (inr x) = each_faults free H h xs _ f x.1 x.4

each_never : {X A F : Type 0} (free : F → Bool) (H : X → Layout A F) → ((x : X) → IsNever free (H x)) → (xs : List X) → IsNever free (each H xs)
each_never free H h xs = record { never = each_faults free H h xs }

-- ---- a preroll

bytes_never : (n : ℕ) → IsNever is_memory (run_of_bytes from_read n)
bytes_never n = record { never = λ at f t x. ap is_memory (x.2 ∙ ap from_read x.1.2) }

counted_never : (a b c : ℕ) → IsNever is_memory (counted_bytes a b c)
counted_never a b c = shaped_never is_memory _ _ _ (both_never is_memory _ _ (wrapped_never is_memory from_short (escaped a b c) (λ s. refl)) bytes_never)

flag_never : IsNever is_memory (flag from_short)
flag_never = wrapped_never is_memory from_short bit (λ s. refl)

units_never : IsNever is_memory units
units_never = shaped_never is_memory _ _ _ (both_never is_memory _ _ (wrapped_never is_memory from_short (escaped 2 4 0) (λ s. refl)) (λ n. times_never is_memory n (counted_bytes 16 16 0) (counted_never 16 16 0)))

pub preroll_never : IsNever is_memory preroll
preroll_never =
    let fields = both_never is_memory (counted_bytes 4 4 8) _ (counted_never 4 4 8) (λ _. both_never is_memory (flag from_short) _ flag_never (λ _. both_never is_memory (flag from_short) _ flag_never (λ _. both_never is_memory units _ units_never (λ _. rest_never is_memory)))) in
    record { never = fields.never }

-- ---- a frame

frame_flag_never : IsNever is_frame_memory (flag frame_short)
frame_flag_never = wrapped_never is_frame_memory frame_short bit (λ s. refl)

frame_number_never : (n : ℕ) → IsNever is_frame_memory (number frame_short n)
frame_number_never n = wrapped_never is_frame_memory frame_short (bits n) (λ s. refl)

frame_bytes_never : (n : ℕ) → IsNever is_frame_memory (run_of_bytes frame_read n)
frame_bytes_never n = record { never = λ at f t x. ap is_frame_memory (x.2 ∙ ap frame_read x.1.2) }

length_never : (default : ℕ) → IsNever is_frame_memory (part_length default)
length_never default = fitted_never is_frame_memory _ _ _ _ (both_never is_frame_memory _ _ frame_flag_never (λ d. where_never is_frame_memory (not d) _ (both_never is_frame_memory _ _ (frame_number_never 8) (λ byte. where_never is_frame_memory (byte == 255) _ (frame_number_never 16)))))

marks_never : (b : Bool) → IsNever is_frame_memory (marks b)
marks_never true = both_never is_frame_memory _ _ frame_flag_never (λ _. frame_flag_never)
marks_never false = record { never = λ at f t x. absurd x }

part_never : (e : ExtConfig) → IsNever is_frame_memory (part e)
part_never e = fitted_never is_frame_memory _ _ _ _ (both_never is_frame_memory _ _ frame_flag_never (λ there. where_never is_frame_memory there _ (both_never is_frame_memory _ _ (length_never e.default_length) (λ l. both_never is_frame_memory _ _ (marks_never (has_marks e l.1)) (λ _. frame_bytes_never l.1)))))

pub frame_never : (c : UsacConfig) → IsNever is_frame_memory (frame c)
frame_never c = fitted_never is_frame_memory _ _ _ _ (both_never is_frame_memory _ _ frame_flag_never (λ _. both_never is_frame_memory _ _ (each_never is_frame_memory part part_never (leading_exts c)) (λ _. rest_never is_frame_memory)))
