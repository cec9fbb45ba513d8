-- A bit of a byte under a mask of several bits.
use Rattle.std.proofs.Common.{◌≡◌, ℕ, zero, suc, ◌-◌, ◌/◌, ◌%◌, ◌^◌, ◌<◌, ◌≤◌, min, max, Bool, true, false, cond, ◌&&◌, eqb, leb, refl, ap, ◌∙◌, arith}
use lib.Bits.{bit_and, bit_or, or_shr, and_shr, or_step, and_step}
use Rattle.std.proofs.lemmas.Bool.Decides.{Decides-below_and, nat_tests}
use Rattle.bits.specs.Bits.{bit_in, among}

or_odd : (x y : ℕ) → bit_or x y % 2 ≡ max (x % 2) (y % 2)
or_odd x y = omega (arith, or_step x y)

and_odd : (x y : ℕ) → bit_and x y % 2 ≡ min (x % 2) (y % 2)
and_odd x y = omega (arith, and_step x y)

-- a test below n
abbrev pub upto : (ℕ → Bool) → ℕ → Bool
upto p zero = true
upto p (suc n) = p n && upto p n

pub each : (p : ℕ → Bool) (n : ℕ) → upto p n ≡ true → (i : ℕ) → i < n → p i ≡ true
each p n t = (Decides-below_and p (λ i. p i ≡ true) (upto p) (λ i. ((λ e. e), (λ e. e))) refl (λ _. refl) n).0 t

abbrev pub mask : ℕ → ℕ → ℕ
mask i j = 255 / 2 ^ i - 255 / 2 ^ j

-- the mask of i to j fits a byte, and so does its complement
abbrev fits : ℕ → ℕ → Bool
fits i j = cond (leb i j) (leb (255 / 2 ^ j) (255 / 2 ^ i) && leb (mask i j) 255) true

abbrev mask_bit : ℕ → ℕ → ℕ → Bool
mask_bit i j k = cond (leb i j) (eqb (mask i j / 2 ^ (7 - k) % 2) (cond (among i j k) 1 0)) true

abbrev rest_bit : ℕ → ℕ → ℕ → Bool
rest_bit i j k = cond (leb i j) (eqb ((255 - mask i j) / 2 ^ (7 - k) % 2) (cond (among i j k) 0 1)) true

pub fit : (i j : ℕ) → i ≤ j → j ≤ 8 → (255 / 2 ^ j ≤ 255 / 2 ^ i) × (mask i j ≤ 255)
fit i j h l =
    let t = each (fits i) 9 (each (λ i. upto (fits i) 9) 9 refl i (omega arith)) j (omega arith) in
    (grind (arith, nat_tests), grind (arith, nat_tests))

mask_bit_lem : (i j k : ℕ) → i < 9 → j < 9 → k < 8 → mask_bit i j k ≡ true
mask_bit_lem i j k a b d = each (mask_bit i j) 8 (each (λ j. upto (mask_bit i j) 8) 9 (each (λ i. upto (λ j. upto (mask_bit i j) 8) 9) 9 refl i a) j b) k d

rest_bit_lem : (i j k : ℕ) → i < 9 → j < 9 → k < 8 → rest_bit i j k ≡ true
rest_bit_lem i j k a b d = each (rest_bit i j) 8 (each (λ j. upto (rest_bit i j) 8) 9 (each (λ i. upto (λ j. upto (rest_bit i j) 8) 9) 9 refl i a) j b) k d

pub or_mask : (b i j k : ℕ) → i ≤ j → j ≤ 8 → k < 8 → bit_in (bit_or b (mask i j)) k ≡ cond (among i j k) true (bit_in b k)
or_mask b i j k h l q =
    let m = mask_bit_lem i j k (omega arith) (omega arith) q in
    let e : bit_or b (mask i j) / 2 ^ (7 - k) % 2 ≡ max (b / 2 ^ (7 - k) % 2) (mask i j / 2 ^ (7 - k) % 2)
    = ap (λ z. z % 2) (or_shr b (mask i j) (7 - k)) ∙ or_odd (b / 2 ^ (7 - k)) (mask i j / 2 ^ (7 - k)) in
    grind (arith, nat_tests, e, m)

pub and_rest : (b i j k : ℕ) → i ≤ j → j ≤ 8 → k < 8 → bit_in (bit_and b (255 - mask i j)) k ≡ cond (among i j k) false (bit_in b k)
and_rest b i j k h l q =
    let m = rest_bit_lem i j k (omega arith) (omega arith) q in
    let e : bit_and b (255 - mask i j) / 2 ^ (7 - k) % 2 ≡ min (b / 2 ^ (7 - k) % 2) ((255 - mask i j) / 2 ^ (7 - k) % 2)
    = ap (λ z. z % 2) (and_shr b (255 - mask i j) (7 - k)) ∙ and_odd (b / 2 ^ (7 - k)) ((255 - mask i j) / 2 ^ (7 - k)) in
    grind (arith, nat_tests, e, m)
