use Rattle.std.proofs.Common.{◌≡◌, ℕ, zero, suc, ◌+◌, ◌*◌, ◌<◌, ◌≤◌, true, false, ℤ, pos, negsuc, ◌-ℤ◌, ◌*ℤ◌, neg_ℤ, nat_abs, sym, refl, ap, ◌∙◌, subst, mul-le-mul_right, suc-mul, mul-le-mul_left, zero-mul, div-mul-le_self, mul_left_comm, arith}
use Rattle.std.proofs.lemmas.Int.{ints}
use Rattle.std.proofs.lemmas.Bool.{ltb-true}
use Rattle.ticks.specs.Ticks.{Nearest, NearestIsOne, SignSymmetric, divisor, factor, nearest, nearest_z}
use Rattle.ticks.specs.declared.Decimals.TheVariants.{Five, Four, Six}
use Rattle.ticks.specs.declared.Decimals.{Decimals}
use lib.IntN.{neg_ℤ-neg_ℤ}
use lib.Signed.{lt_z}
use native.Mathlib.Nat.{div-eq_of_lt, lt-div-mul-add}

-- d × nearest n d lies within half of d of n, and below it strictly
pub nearest_low : (n d : ℕ) → 2 * (nearest n d * d) ≤ 2 * n + d
nearest_low n d = omega (arith, div-mul-le_self (2 * n + d) (2 * d), mul_left_comm (nearest n d) 2 d)

pub nearest_high : (n d : ℕ) → 0 < d → 2 * n < 2 * (nearest n d * d) + d
nearest_high n d h =
    let p : 0 < 2 * d = omega arith in
    omega (arith, lt-div-mul-add {a = 2 * n + d} {b = 2 * d} p, mul_left_comm (nearest n d) 2 d)

close : (a q d : ℕ) → 2 * (q * d) ≤ 2 * a + d → 2 * a < 2 * (q * d) + d → Nearest (pos a) d (pos q)
close a q d l h = record { near = omega (arith, ints); tie = λ e. omega (arith, ints) }

close_neg : (a q d : ℕ) → 2 * (q * d) ≤ 2 * suc a + d → 2 * suc a < 2 * (q * d) + d → Nearest (negsuc a) d (neg_ℤ (pos q))
close_neg a zero d l h = record { near = omega (arith, ints); tie = λ e. omega (arith, ints) }
close_neg a (suc q) d l h = record { near = omega (arith, ints); tie = λ e. omega (arith, ints) }

-- what is computed is nearest
pub nearest_law : (v : ℤ) (d : ℕ) → 0 < d → Nearest v d (nearest_z v d)
nearest_law (pos n) d p = close n (nearest n d) d (nearest_low n d) (nearest_high n d p)
nearest_law (negsuc n) d p = close_neg n (nearest (suc n) d) d (nearest_low (suc n) d) (nearest_high (suc n) d p)

bound_of : (q s k d : ℕ) → 2 * (q * d) ≤ 2 * (s * k) + d → k ≤ 5080 → 10000 ≤ d → 20000 * q ≤ 10160 * s + 10000
bound_of zero s k d h p l = omega arith
bound_of (suc q) s k d h p l = omega (arith, suc-mul q d, mul-le-mul_left {m = 10000} {n = d} q l, mul-le-mul_left {m = k} {n = 5080} s p)

-- the answer is little more than half of the size
pub nearest_bound : (s k d : ℕ) → k ≤ 5080 → 10000 ≤ d → 20000 * nearest (s * k) d ≤ 10160 * s + 10000
nearest_bound s k d p l = bound_of (nearest (s * k) d) s k d (nearest_low (s * k) d) p l

zero_near : (d : ℕ) → 0 < d → nearest 0 d ≡ 0
zero_near d p = let h : 2 * 0 + d < 2 * d = omega arith in div-eq_of_lt h

negated_near : (n d : ℕ) → 0 < d → nearest_z (neg_ℤ (pos n)) d ≡ neg_ℤ (pos (nearest n d))
negated_near zero d p = rw (zero_near d p)
negated_near (suc n) d p = refl

-- a number with a sign, by its size
pub signed_below : (v : ℤ) (k d q : ℕ) → 0 < d → lt_z v (pos 0) ≡ true → q ≡ nearest (nat_abs v * k) d → neg_ℤ (pos q) ≡ nearest_z (v *ℤ pos k) d
signed_below (pos n) k d q p h e = absurd (let l : n < 0 = ltb-true n 0 h in omega arith)
signed_below (negsuc n) k d q p h e = ap (λ x. neg_ℤ (pos x)) e ∙ sym (negated_near (suc n * k) d p)

pub signed_from : (v : ℤ) (k d q : ℕ) → lt_z v (pos 0) ≡ false → q ≡ nearest (nat_abs v * k) d → pos q ≡ nearest_z (v *ℤ pos k) d
signed_from (pos n) k d q h e = ap pos e
signed_from (negsuc n) k d q h e = absurd (let z : ◌≡◌ {A = ℕ} 0 1 = cc in omega arith)

-- multiples of d that are not the same lie d apart
apart : (a b d : ℕ) → a < b → a * d + d ≤ b * d
apart a b d h = omega (arith, suc-mul a d, mul-le-mul_right {m = suc a} {n = b} d h)

not_below : (v : ℤ) (a b d : ℕ) → 0 < d → Nearest v d (pos a) → Nearest v d (pos b) → a < b → ⊥
not_below (pos n) a b d p x y h = let k = apart a b d h in omega (arith, ints, x.near, y.near, x.tie)
not_below (negsuc n) a b d p x y h = let k = apart a b d h in omega (arith, ints, x.near, y.near, x.tie)

abs_turned : (v : ℤ) (m : ℕ) → nat_abs (v -ℤ neg_ℤ (pos m)) ≡ nat_abs (neg_ℤ v -ℤ pos m)
abs_turned v m = omega (arith, ints)

abs_negated : (v : ℤ) → nat_abs (neg_ℤ v) ≡ nat_abs v
abs_negated v = omega (arith, ints)

-- the same below zero, where v, and so its nearest number, is turned
turned : (v : ℤ) (d n : ℕ) → Nearest v d (negsuc n) → Nearest (neg_ℤ v) d (pos (suc n))
turned v d n x = record { near = subst (λ z. 2 * z ≤ d) (abs_turned v (suc n * d)) x.near; tie = λ e. rw (abs_negated v) (x.tie (ap (λ z. 2 * z) (abs_turned v (suc n * d)) ∙ e)) }

not_across : (v : ℤ) (a b d : ℕ) → 0 < d → Nearest v d (pos a) → Nearest v d (negsuc b) → ⊥
not_across (pos n) a b d p x y =
    let yn : 2 * nat_abs (pos n -ℤ neg_ℤ (pos (suc b * d))) ≤ d = y.near in
    omega (arith, ints, suc-mul b d, x.near, x.tie)
not_across (negsuc n) a b d p x y =
    let yn : 2 * nat_abs (negsuc n -ℤ neg_ℤ (pos (suc b * d))) ≤ d = y.near in
    omega (arith, ints, suc-mul b d, x.near, x.tie)

same_from : (a b : ℕ) → (a < b → ⊥) → (b < a → ⊥) → a ≡ b
same_from a b l r = omega arith

pub one_nearest : NearestIsOne
one_nearest v d (pos a) (pos b) p x y = ap pos (same_from a b (not_below v a b d p x y) (not_below v b a d p y x))
one_nearest v d (pos a) (negsuc b) p x y = absurd (not_across v a b d p x y)
one_nearest v d (negsuc a) (pos b) p x y = absurd (not_across v b a d p y x)
one_nearest v d (negsuc a) (negsuc b) p x y =
    let x' = turned v d a x in
    let y' = turned v d b y in
    ap negsuc (same_from a b (λ h. not_below (neg_ℤ v) (suc a) (suc b) d p x' y' (omega arith)) (λ h. not_below (neg_ℤ v) (suc b) (suc a) d p y' x' (omega arith)))

negated_product : (v : ℤ) (k : ℕ) → neg_ℤ v *ℤ pos k ≡ neg_ℤ (v *ℤ pos k)
negated_product (pos zero) k = rw zero-mul
negated_product (pos (suc n)) k = refl
negated_product (negsuc n) k = sym (neg_ℤ-neg_ℤ (pos (suc n * k)))

negated_nearest : (w : ℤ) (d : ℕ) → 0 < d → nearest_z (neg_ℤ w) d ≡ neg_ℤ (nearest_z w d)
negated_nearest (pos n) d p = negated_near n d p
negated_nearest (negsuc n) d p = sym (neg_ℤ-neg_ℤ (pos (nearest (suc n) d)))

divisor_positive : (m : Decimals) → 0 < divisor m
divisor_positive Four = omega arith
divisor_positive Five = omega arith
divisor_positive Six = omega arith

pub symmetric : SignSymmetric
symmetric u m v = ap (λ w. nearest_z w (divisor m)) (negated_product v (factor u)) ∙ negated_nearest (v *ℤ pos (factor u)) (divisor m) (divisor_positive m)
