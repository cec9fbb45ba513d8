-- Bytes whose bits are a row's.
use Rattle.std.proofs.Common.{◌≡◌, ℕ, zero, suc, ◌+◌, ◌*◌, ◌/◌, ◌%◌, ◌<◌, Bool, true, cond, eqb, List, map, length, get_or, sym, refl, ap, ◌∙◌, arith}
use Rattle.std.specs.List.{range_with_len}
use Rattle.std.proofs.lemmas.List.FromFn.{fill_by_all}
use Rattle.std.proofs.lemmas.Bool.{eqb-true}
use Rattle.film.specs.Packed.{binary, byte_of}
use Rattle.bits.specs.Bits.{bit_in, bit_of}
use Rattle.bits.proofs.Masks.{each}

-- a byte is the number that its bits make
self_made : (b : ℕ) → b < 256 → eqb b (binary (bit_in b) 0 8) ≡ true
self_made b h = each (λ b. eqb b (binary (bit_in b) 0 8)) 256 refl b h

-- equal bits make equal numbers
same_bits : (p q : ℕ → Bool) (c d n : ℕ) → ((j : ℕ) → j < n → p (c + j) ≡ q (d + j)) → binary p c n ≡ binary q d n
same_bits p q c d zero h = refl
same_bits p q c d (suc n) h =
    ap (λ x. 2 * x + cond (p (c + n)) 1 0) (same_bits p q c d n (λ j l. h j (omega arith))) ∙ ap (λ b. 2 * binary q d n + cond b 1 0) (h n (omega arith))

-- a byte whose bits are those of byte k of a row is that byte
pub byte_is : (p : ℕ → Bool) (k b : ℕ) → b < 256 → ((j : ℕ) → j < 8 → bit_in b j ≡ p (8 * k + j)) → b ≡ byte_of p k
unfolding byte_of
byte_is p k b h e = eqb-true b (binary (bit_in b) 0 8) (self_made b h) ∙ same_bits (bit_in b) p 0 (8 * k) 8 (λ j l. let z : 0 + j ≡ j = omega arith in ap (bit_in b) z ∙ e j l)

-- bytes whose bits are those of a row are the row's
pub bytes_are : (p : ℕ → Bool) (n : ℕ) (xs : List ℕ) → length xs ≡ n → ((k : ℕ) → k < n → get_or xs k 0 < 256) → ((m : ℕ) → m / 8 < n → bit_of xs m ≡ p m)
    → xs ≡ map (byte_of p) (range_with_len 0 n)
bytes_are p n xs e f b = fill_by_all (byte_of p) xs n 0 e (λ k h. byte_is p k (get_or xs k 0) (f k h) (λ j l.
    let a : (8 * k + j) / 8 ≡ k = omega arith in
    let z : (8 * k + j) % 8 ≡ j = omega arith in
    sym (ap (λ i. bit_in (get_or xs i 0) ((8 * k + j) % 8)) a ∙ ap (bit_in (get_or xs k 0)) z) ∙ b (8 * k + j) (omega arith)))
