-- sizes of products, and the number types that hold them
use Rattle.std.proofs.Common.{◌^◌, ◌≤◌, ℤ, ◌+ℤ◌, ◌-ℤ◌, ◌*ℤ◌, nat_abs, mul-le-mul, arith, lit<, w64, SFits}
use mir.Syntax.{w128}
use borrow.Author.Differences.{ints}
use Rattle.std.proofs.lemmas.Int.{fits_signed_mul, to_z-of_z, unsigned_abs-mul}

-- what the parts of vectors make together
pub product_size : (a b : ℤ) → nat_abs a ≤ 2000000 → nat_abs b ≤ 2000000 → nat_abs (a *ℤ b) ≤ 4000000000000
product_size a b p q = rw (unsigned_abs-mul a b) (mul-le-mul p q)

pub product_fits : (a b : ℤ) → nat_abs a ≤ 2000000 → nat_abs b ≤ 2000000 → SFits w64 (a *ℤ b)
product_fits a b p q = fits_signed_mul w64 a b 2000000 2000000 p q (lit< tt)

-- a product of two numbers of 64 bits fits 128
pub wide_mul : {a b : ℤ} → SFits w64 a → SFits w64 b → SFits w128 (a *ℤ b)
wide_mul {a} {b} f g = fits_signed_mul w128 a b (2 ^ 63) (2 ^ 63) (omega (arith, ints)) (omega (arith, ints)) (lit< tt)

pub wider : {a : ℤ} → SFits w64 a → SFits w128 a
wider {a} f = omega (arith, ints)

pub ruleset sizes = (to_z-of_z, wide_mul, wider)

-- cross and dot of two ways
module _ (a b c d : ℤ) (p : nat_abs a ≤ 2000000) (q : nat_abs b ≤ 2000000) (r : nat_abs c ≤ 2000000) (s : nat_abs d ≤ 2000000) where
  pub minus_fits : SFits w64 ((a *ℤ b) -ℤ (c *ℤ d))
  minus_fits = omega (arith, ints, product_size a b p q, product_size c d r s)

  pub plus_size : nat_abs ((a *ℤ b) +ℤ (c *ℤ d)) ≤ 8000000000000
  plus_size = omega (arith, ints, product_size a b p q, product_size c d r s)

  pub plus_fits : SFits w64 ((a *ℤ b) +ℤ (c *ℤ d))
  plus_fits = omega (arith, ints, plus_size)

pub ruleset products = (to_z-of_z, product_fits, minus_fits, plus_fits, plus_size)
