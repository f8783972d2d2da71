-- A text of whole bytes and its bytes tell each other.
use Rattle.std.proofs.Common.{◌≡◌, ℕ, zero, suc, ◌+◌, ◌*◌, ◌/◌, ◌%◌, ◌^◌, ◌<◌, Bool, List, [], ◌∷◌, ◌++◌, length, take, drop, All, refl, sym, ap, ◌∙◌, arith}
use Rattle.std.proofs.lemmas.List.{length-take-le, length-drop, take-append-drop, take_at, drop_at}
use Rattle.layout.specs.Text.{num, value_after, bits_of}
use Rattle.layout.proofs.TextLemmas.{length-num, length-bits_of, num-value_after, value_after-num, value_after-lt}
use Rattle.latm.specs.Bytes.{front_bytes, bytes_of}

length-front : (n : ℕ) (text : List Bool) → length (front_bytes n text) ≡ n
unfolding front_bytes
length-front zero text = refl
length-front (suc n) text = ap (λ (k : ℕ). suc k) (length-front n (drop 8 text))

pub length-bytes_of : (text : List Bool) → length (bytes_of text) ≡ length text / 8
unfolding bytes_of
length-bytes_of text = length-front (length text / 8) text

-- the byte of eight bits spells them
byte_bits : (bits : List Bool) → length bits ≡ 8 → num 8 (value_after 0 bits) ≡ bits
unfolding num
byte_bits bits eight = ap (λ (n : ℕ). num n (value_after 0 bits)) (let n : 8 ≡ 0 + length bits = omega (arith, eight) in n) ∙ num-value_after 0 0 bits

byte_small : (bits : List Bool) → length bits ≡ 8 → value_after 0 bits < 256
byte_small bits eight =
    let p : 2 ^ length bits ≡ 256 = ap (λ (n : ℕ). 2 ^ n) eight in
    omega (arith, p, value_after-lt bits 0)

front_bits : (n : ℕ) (text : List Bool) → length text ≡ 8 * n → bits_of (front_bytes n text) ≡ text
unfolding bits_of front_bytes
front_bits zero [] e = refl
front_bits zero (b ∷ text) e = absurd (omega (arith, e))
front_bits (suc n) text e =
    let eight : length (take 8 text) ≡ 8 = length-take-le 8 text (omega (arith, e)) in
    let behind : length (drop 8 text) ≡ 8 * n = omega (arith, e, length-drop 8 text) in
    ap (λ (t : List Bool). t ++ bits_of (front_bytes n (drop 8 text))) (byte_bits (take 8 text) eight)
    ∙ ap (λ (t : List Bool). take 8 text ++ t) (front_bits n (drop 8 text) behind)
    ∙ take-append-drop 8 text

pub bits_of-bytes_of : (text : List Bool) → length text % 8 ≡ 0 → bits_of (bytes_of text) ≡ text
unfolding bytes_of
bits_of-bytes_of text whole = front_bits (length text / 8) text (omega (arith, whole))

front_small : (n : ℕ) (text : List Bool) → length text ≡ 8 * n → All (λ byte. byte < 256) (front_bytes n text)
unfolding front_bytes
front_small zero text e i d lt = absurd (omega (arith, lt))
front_small (suc n) text e zero d lt = byte_small (take 8 text) (length-take-le 8 text (omega (arith, e)))
front_small (suc n) text e (suc i) d lt = front_small n (drop 8 text) (omega (arith, e, length-drop 8 text)) i d (omega (arith, lt))

pub bytes_of-small : (text : List Bool) → length text % 8 ≡ 0 → All (λ byte. byte < 256) (bytes_of text)
unfolding bytes_of
bytes_of-small text whole = front_small (length text / 8) text (omega (arith, whole))

front_back : (xs : List ℕ) → All (λ byte. byte < 256) xs → front_bytes (length xs) (bits_of xs) ≡ xs
unfolding bits_of front_bytes
front_back [] small = refl
front_back (x ∷ xs) small =
    let lt : x < 2 ^ 8 = small 0 0 (omega arith) in
    let byte : value_after 0 (take 8 (num 8 x ++ bits_of xs)) ≡ x =
    ap (λ (t : List Bool). value_after 0 t) (take_at (num 8 x) (bits_of xs) 8 (length-num 8 x)) ∙ value_after-num 0 8 x lt ∙ (let n : 0 * 2 ^ 8 + x ≡ x = omega arith in n) in
    let behind : front_bytes (length xs) (drop 8 (num 8 x ++ bits_of xs)) ≡ xs =
    ap (λ (t : List Bool). front_bytes (length xs) t) (drop_at (num 8 x) (bits_of xs) 8 (length-num 8 x)) ∙ front_back xs (λ i d lt. small (suc i) d (omega (arith, lt))) in
    ap (λ (b : ℕ). b ∷ front_bytes (length xs) (drop 8 (num 8 x ++ bits_of xs))) byte ∙ ap (λ (bs : List ℕ). x ∷ bs) behind

-- bytes are those that their bits spell
pub bytes_back : (xs : List ℕ) (text : List Bool) → All (λ byte. byte < 256) xs → bits_of xs ≡ text → xs ≡ bytes_of text
unfolding bytes_of
bytes_back xs text small spelled =
    let n : length xs ≡ length text / 8 = omega (arith, length-bits_of xs, ap (λ (t : List Bool). length t) spelled) in
    sym (front_back xs small) ∙ ap (λ (k : ℕ). front_bytes k (bits_of xs)) n ∙ ap (λ (t : List Bool). front_bytes (length text / 8) t) spelled
