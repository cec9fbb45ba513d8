-- the laws of a ring, and squares
use Rattle.std.proofs.Common.{◌≡◌, ℕ, ◌+◌, ◌*◌, ◌<◌, ◌≤◌, ℤ, pos, negsuc, ◌+ℤ◌, ◌-ℤ◌, ◌*ℤ◌, neg_ℤ, nat_abs, refl, ap, ◌∙◌, ⊎_elim, mul_assoc, add-mul, mul-le-mul, mul-add, arith}
use lib.IntN.{*ℤ_comm}
use borrow.Author.Differences.{ints, up, down, product_is, sum_is_lem, neg_is, same_in}
use Rattle.std.proofs.lemmas.Bool.{cases_lt}
use Rattle.plane.specs.Plane.{At, norm_of, way, moved}

pub sq_le : (m n : ℕ) → m * m ≤ n * n → m ≤ n
sq_le m n h =
    ⊎_elim
    (λ (l : n < m). let k : (n + 1) * (n + 1) ≤ m * m = mul-le-mul (omega arith) (omega arith) in omega (arith, simp (mul-add, add-mul) at k))
    (λ (l : m ≤ n). l)
    (cases_lt n m)

pub sq_pos : (a : ℤ) → a *ℤ a ≡ pos (nat_abs a * nat_abs a)
sq_pos (pos a) = refl
sq_pos (negsuc a) = refl

pub norm_pos : (u : At) → norm_of u ≡ pos (nat_abs u.x * nat_abs u.x + nat_abs u.y * nat_abs u.y)
norm_pos u = rw (sq_pos u.x, sq_pos u.y)

pub mul_z_add : (a b c : ℤ) → a *ℤ (b +ℤ c) ≡ (a *ℤ b) +ℤ (a *ℤ c)
mul_z_add a b c =
    same_in _ _ (omega (arith, product_is a (b +ℤ c), product_is a b, product_is a c, sum_is_lem (a *ℤ b) (a *ℤ c), simp mul-add at (ap (λ (t : ℕ). up a * t) (sum_is_lem b c)), simp mul-add at (ap (λ (t : ℕ). down a * t) (sum_is_lem b c))))

pub mul_z_neg : (a b : ℤ) → a *ℤ neg_ℤ b ≡ neg_ℤ (a *ℤ b)
mul_z_neg a b =
    same_in _ _ (omega (arith, product_is a (neg_ℤ b), neg_is (a *ℤ b), product_is a b, ap (λ (t : ℕ). up a * t) (neg_is b).0, ap (λ (t : ℕ). down a * t) (neg_is b).0, ap (λ (t : ℕ). up a * t) (neg_is b).1, ap (λ (t : ℕ). down a * t) (neg_is b).1))

pub mul_z_assoc : (a b c : ℤ) → (a *ℤ b) *ℤ c ≡ a *ℤ (b *ℤ c)
mul_z_assoc a b c =
    same_in _ _ (simp ((product_is (a *ℤ b) c).0, (product_is (a *ℤ b) c).1, (product_is a (b *ℤ c)).0, (product_is a (b *ℤ c)).1, (product_is a b).0, (product_is a b).1, (product_is b c).0, (product_is b c).1, add-mul, mul-add, mul_assoc) (omega arith))

pub add_z_mul : (a b c : ℤ) → (a +ℤ b) *ℤ c ≡ (a *ℤ c) +ℤ (b *ℤ c)
add_z_mul a b c = *ℤ_comm (a +ℤ b) c ∙ (mul_z_add c a b ∙ simp (*ℤ_comm c a, *ℤ_comm c b))

-- moving two points together leaves the way between them
pub way_moved : (m a b : At) → way (moved m a) (moved m b) ≡ way a b
way_moved m a b =
    let x : (b.x +ℤ m.x) -ℤ (a.x +ℤ m.x) ≡ b.x -ℤ a.x = omega (arith, ints) in
    let y : (b.y +ℤ m.y) -ℤ (a.y +ℤ m.y) ≡ b.y -ℤ a.y = omega (arith, ints) in
    cc
