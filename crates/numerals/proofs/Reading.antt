use Rattle.std.proofs.Common.{◌≡◌, ℕ, ◌+◌, ◌-◌, ◌*◌, ◌^◌, ◌<◌, ◌≤◌, true, false, List, [], ◌∷◌, length, get_or, drop, Some, None, sym, ◌∙◌, pow-suc, add-one, arith}
use native.Mathlib.Nat.{pow-le-pow_right}
use Rattle.std.proofs.lemmas.List.{at_drop_more, at_drop_all}
use Rattle.std.proofs.lemmas.Bool.Decides.{nat_tests}
use Rattle.std.proofs.lemmas.Bool.{cond-true, cond-false}
use Rattle.numerals.specs.Numerals.{is_digit, read_on, code_number}

-- one more digit makes a number of one more digit
pub grown : (v d i : ℕ) → v < 10 ^ i → d ≤ 9 → v * 10 + d < 10 ^ (i + 1)
grown v d i h k = rw (add-one, pow-suc) (omega arith)

-- a number of i digits is one of n digits
pub room : (v i n : ℕ) → v < 10 ^ i → i ≤ n → v < 10 ^ n
room v i n h k = let p : 0 < 10 = omega arith in omega (arith, pow-le-pow_right {n = 10} p {i = i} {j = n} k)

pub read_more : (v : ℕ) (xs : List ℕ) (i : ℕ) → i < length xs → is_digit (get_or xs i 0) ≡ true → read_on (v * 10 + (get_or xs i 0 - 48)) (drop (i + 1) xs) ≡ read_on v (drop i xs)
read_more v xs i h e = sym (at_drop_more (read_on v) xs i 0 h ∙ cond-true (is_digit (get_or xs i 0)) _ None e)

pub read_no : (v : ℕ) (xs : List ℕ) (i : ℕ) → i < length xs → is_digit (get_or xs i 0) ≡ false → read_on v (drop i xs) ≡ None
read_no v xs i h e = at_drop_more (read_on v) xs i 0 h ∙ cond-false (is_digit (get_or xs i 0)) _ None e

pub read_all : (v : ℕ) (xs : List ℕ) (i : ℕ) → length xs ≤ i → read_on v (drop i xs) ≡ Some v
read_all v xs i h = at_drop_all (read_on v) xs i h

-- what the loop over the digits needs
pub ruleset digits = (read_more, read_no, read_all, grown)

pub codes_in_range : (xs : List ℕ) (k : ℕ) → code_number xs ≡ Some k → (10 ≤ k) × (k ≤ 999)
codes_in_range [] k e = grind arith
codes_in_range (a ∷ []) k e = grind (arith, nat_tests)
codes_in_range (a ∷ (b ∷ [])) k e = grind (arith, nat_tests)
codes_in_range (a ∷ (b ∷ (c ∷ []))) k e = grind (arith, nat_tests)
codes_in_range (a ∷ (b ∷ (c ∷ (d ∷ xs)))) k e = grind (arith, nat_tests)
