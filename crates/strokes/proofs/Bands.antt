-- each covered point of a straight stroke lies in its box
use Rattle.std.proofs.Common.{◌≡◌, ℕ, ◌+◌, ◌*◌, ◌<◌, ◌≤◌, Bool, true, false, not, ◌&&◌, ◌||◌, ltb, ℤ, pos, negsuc, ◌+ℤ◌, ◌-ℤ◌, ◌*ℤ◌, neg_ℤ, nat_abs, ◌≤ℤ◌, sym, refl, ap, ◌∙◌, ⊎_elim, mul-le-mul_right, mul_assoc, mul_comm, mul-le-mul, mul-add, mul_left_comm, arith}
use native.Mathlib.Nat.{le_of_mul-le-mul_left}
use lib.IntN.{*ℤ_comm, +ℤ_comm}
use lib.Signed.{le_z}
use borrow.Author.Differences.{ints, up, down, product_is}
use Rattle.std.specs.Int.{int_min, int_max}
use Rattle.std.proofs.lemmas.Bool.{and_parts, or_cases, and_from, cases_eq, not-true, both_ways}
use Rattle.std.proofs.lemmas.Int.{clamps, unsigned_abs-mul}
use Rattle.plane.specs.Plane.{At, spot, way, eq_z, same}
use Rattle.plane.proofs.Equal.{eq_z_refl}
use Rattle.plane.proofs.Ring.{sq_le, sq_pos, norm_pos, mul_z_neg, mul_z_assoc, add_z_mul}
use Rattle.shapes.specs.Box.{Encloses}
use Rattle.shapes.specs.Flashes.{in_circle}
use Rattle.shapes.proofs.Boxes.{circle_spans}
use Rattle.strokes.specs.Strokes.{in_band, stroke_at, stroke_box}

-- (u² + v²) x = (u x + v y) u - (u y - v x) v
sorted : (a b c l p q : ℤ) → l ≡ a +ℤ b → p ≡ a +ℤ c → q ≡ c -ℤ b → l ≡ p -ℤ q
sorted a b c l p q e f g = omega (arith, ints)

along_across : (u v x y : ℤ) → ((u *ℤ u) +ℤ (v *ℤ v)) *ℤ x ≡ (((u *ℤ x) +ℤ (v *ℤ y)) *ℤ u) -ℤ (((u *ℤ y) -ℤ (v *ℤ x)) *ℤ v)
along_across u v x y =
    let ux_u : (u *ℤ x) *ℤ u ≡ u *ℤ (u *ℤ x) = *ℤ_comm (u *ℤ x) u in
    let vy_u : (v *ℤ y) *ℤ u ≡ u *ℤ (v *ℤ y) = *ℤ_comm (v *ℤ y) u in
    let uy_v : (u *ℤ y) *ℤ v ≡ u *ℤ (v *ℤ y) = mul_z_assoc u y v ∙ ap (λ (t : ℤ). u *ℤ t) (*ℤ_comm y v) in
    let vx_v : neg_ℤ (v *ℤ x) *ℤ v ≡ neg_ℤ (v *ℤ (v *ℤ x)) = *ℤ_comm (neg_ℤ (v *ℤ x)) v ∙ mul_z_neg v (v *ℤ x) in
    sorted (u *ℤ (u *ℤ x)) (v *ℤ (v *ℤ x)) (u *ℤ (v *ℤ y)) _ _ _
    (add_z_mul (u *ℤ u) (v *ℤ v) x ∙ simp mul_z_assoc)
    (add_z_mul (u *ℤ x) (v *ℤ y) u ∙ simp (ux_u, vy_u))
    (add_z_mul (u *ℤ y) (neg_ℤ (v *ℤ x)) v ∙ simp (uy_v, vx_v))

pub mul_swap : (a b : ℕ) → (a * b) * (a * b) ≡ (a * a) * (b * b)
mul_swap a b = mul_assoc a b (a * b) ∙ (ap (λ (t : ℕ). a * t) (mul_left_comm b a b) ∙ sym (mul_assoc a a (b * b)))

-- c² ≤ r² n and v² ≤ n give |c v| ≤ r n
across_size : (c v r n : ℕ) → c * c ≤ (r * r) * n → v * v ≤ n → c * v ≤ r * n
across_size c v r n p q =
    let k : (c * c) * (v * v) ≤ ((r * r) * n) * n = mul-le-mul p q in
    sq_le (c * v) (r * n) (omega (arith, mul_swap c v, mul_swap r n, mul_assoc (r * r) n n))

-- n x = t u - q, where 0 ≤ t ≤ n and |q| ≤ r n: x is at most r past the way from 0 to u
reach_up : (n t r : ℕ) (x u q : ℤ) → 0 < n → t ≤ n → nat_abs q ≤ r * n → pos n *ℤ x ≡ (pos t *ℤ u) -ℤ q → up x ≤ up u + r
reach_up n t r (pos a) u q z l h e =
    le_of_mul-le-mul_left (rw (mul-add n (up u) r) (omega (arith, ints, product_is (pos t) u, mul-le-mul_right (up u) l, mul_comm r n))) z
reach_up n t r (negsuc a) u q z l h e = omega arith

reach_down : (n t r : ℕ) (x u q : ℤ) → 0 < n → t ≤ n → nat_abs q ≤ r * n → pos n *ℤ x ≡ (pos t *ℤ u) -ℤ q → down x ≤ down u + r
reach_down n t r (pos a) u q z l h e = omega arith
reach_down n t r (negsuc a) u q z l h e =
    le_of_mul-le-mul_left (rw (mul-add n (down u) r) (omega (arith, ints, product_is (pos n) (negsuc a), product_is (pos t) u, mul-le-mul_right (down u) l, mul_comm r n))) z

-- x lies at most r outside the way from s to e, on one axis
record Beside (r : ℕ) (s e x : ℤ) : Type 0 where
  low : (int_min s e -ℤ pos r) ≤ℤ x
  high : x ≤ℤ (int_max s e +ℤ pos r)

beside_start : (r : ℕ) (s e x : ℤ) → nat_abs (x -ℤ s) ≤ r → Beside r s e x
beside_start r s e x h = record { low = omega (arith, ints, clamps); high = omega (arith, ints, clamps) }

beside_end : (r : ℕ) (s e x : ℤ) → nat_abs (x -ℤ e) ≤ r → Beside r s e x
beside_end r s e x h = record { low = omega (arith, ints, clamps); high = omega (arith, ints, clamps) }

beside_way : (r : ℕ) (s e x d w : ℤ) → d ≡ e -ℤ s → w ≡ x -ℤ s → up w ≤ up d + r → down w ≤ down d + r → Beside r s e x
beside_way r s e x (pos n) w p q h k = record { low = omega (arith, ints, clamps); high = omega (arith, ints, clamps) }
beside_way r s e x (negsuc n) w p q h k = record { low = omega (arith, ints, clamps); high = omega (arith, ints, clamps) }

pub pos_le : (A B : ℤ) (a b : ℕ) → A ≡ pos a → B ≡ pos b → le_z A B ≡ true → a ≤ b
pos_le A B a b p q e = omega (arith, ints)

-- one part of a point of the band: u and v are the parts of d, x that of w
band_part : (r : ℕ) (u v x t c : ℤ) → 0 < nat_abs u * nat_abs u + nat_abs v * nat_abs v → le_z (pos 0) t ≡ true → le_z t ((u *ℤ u) +ℤ (v *ℤ v)) ≡ true → le_z (c *ℤ c) (pos (r * r) *ℤ ((u *ℤ u) +ℤ (v *ℤ v))) ≡ true → ((u *ℤ u) +ℤ (v *ℤ v)) *ℤ x ≡ (t *ℤ u) -ℤ (c *ℤ v) → (up x ≤ up u + r) × (down x ≤ down u + r)
band_part r u v x t c n0 lo hi cr eq =
    let n : ℕ = nat_abs u * nat_abs u + nat_abs v * nat_abs v in
    let np : (u *ℤ u) +ℤ (v *ℤ v) ≡ pos n = norm_pos (spot u v) in
    let tp : t ≡ pos (nat_abs t) = omega (arith, ints) in
    let tn : nat_abs t ≤ n = pos_le t ((u *ℤ u) +ℤ (v *ℤ v)) (nat_abs t) n tp np hi in
    let cs : nat_abs c * nat_abs c ≤ (r * r) * n = pos_le (c *ℤ c) (pos (r * r) *ℤ ((u *ℤ u) +ℤ (v *ℤ v))) (nat_abs c * nat_abs c) ((r * r) * n) (sq_pos c) (ap (λ (z : ℤ). pos (r * r) *ℤ z) np) cr in
    let qs : nat_abs (c *ℤ v) ≤ r * n = rw (unsigned_abs-mul c v) (across_size (nat_abs c) (nat_abs v) r n cs (omega arith)) in
    let e : pos n *ℤ x ≡ (pos (nat_abs t) *ℤ u) -ℤ (c *ℤ v) = ap (λ (z : ℤ). z *ℤ x) (sym np) ∙ (eq ∙ ap (λ (z : ℤ). (z *ℤ u) -ℤ (c *ℤ v)) tp) in
    (reach_up n (nat_abs t) r x u (c *ℤ v) n0 tn qs e, reach_down n (nat_abs t) r x u (c *ℤ v) n0 tn qs e)

pub sub_swap : (p q : ℤ) → q -ℤ p ≡ neg_ℤ (p -ℤ q)
sub_swap p q = omega (arith, ints)

pub sq_neg : (c : ℤ) → neg_ℤ c *ℤ neg_ℤ c ≡ c *ℤ c
sq_neg c = let e : nat_abs (neg_ℤ c) ≡ nat_abs c = omega (arith, ints) in sq_pos (neg_ℤ c) ∙ (ap (λ (t : ℕ). pos (t * t)) e ∙ sym (sq_pos c))

le_at : (a b c d : ℤ) → a ≡ b → c ≡ d → le_z b d ≡ true → le_z a c ≡ true
le_at a b c d p q h = cc

none_same : (a b : ℤ) → nat_abs (b -ℤ a) ≡ 0 → eq_z a b ≡ true
none_same a b h = let e : b ≡ a = omega (arith, ints) in ap (eq_z a) e ∙ eq_z_refl a

-- where s ≠ e the way between them has a length
apart : (s e : At) → same s e ≡ false → 0 < nat_abs (e.x -ℤ s.x) * nat_abs (e.x -ℤ s.x) + nat_abs (e.y -ℤ s.y) * nat_abs (e.y -ℤ s.y)
apart s e h =
    let x : ℕ = nat_abs (e.x -ℤ s.x) in
    let y : ℕ = nat_abs (e.y -ℤ s.y) in
    ⊎_elim
    (λ (z : x * x + y * y ≡ 0).
    let p : x ≤ 0 = sq_le x 0 (omega arith) in
    let q : y ≤ 0 = sq_le y 0 (omega arith) in
    absurd (both_ways (same s e) h (and_from (eq_z s.x e.x) (eq_z s.y e.y) (none_same s.x e.x (omega arith)) (none_same s.y e.y (omega arith)))))
    (λ (z : x * x + y * y ≡ 0 → ⊥). omega arith)
    (cases_eq (x * x + y * y) 0)

band_beside : (r : ℕ) (s e : At) (x y : ℤ) → same s e ≡ false → in_band r (way s e) (way s (spot x y)) ≡ true → Beside r s.x e.x x × Beside r s.y e.y y
band_beside r s e x y d h =
    let u = e.x -ℤ s.x in
    let v = e.y -ℤ s.y in
    let a = x -ℤ s.x in
    let b = y -ℤ s.y in
    let t = (u *ℤ a) +ℤ (v *ℤ b) in
    let c = (u *ℤ b) -ℤ (v *ℤ a) in
    let n = (u *ℤ u) +ℤ (v *ℤ v) in
    let p = and_parts (le_z (pos 0) t && le_z t n) (le_z (c *ℤ c) (pos (r * r) *ℤ n)) h in
    let q = and_parts (le_z (pos 0) t) (le_z t n) p.0 in
    let tt : (v *ℤ b) +ℤ (u *ℤ a) ≡ t = +ℤ_comm (v *ℤ b) (u *ℤ a) in
    let nn : (v *ℤ v) +ℤ (u *ℤ u) ≡ n = +ℤ_comm (v *ℤ v) (u *ℤ u) in
    let cn : (v *ℤ a) -ℤ (u *ℤ b) ≡ neg_ℤ c = sub_swap (u *ℤ b) (v *ℤ a) in
    let c2 : ((v *ℤ a) -ℤ (u *ℤ b)) *ℤ ((v *ℤ a) -ℤ (u *ℤ b)) ≡ c *ℤ c = ap (λ (z : ℤ). z *ℤ z) cn ∙ sq_neg c in
    let z = apart s e d in
    let g = band_part r u v a t c z q.0 q.1 p.1 (along_across u v a b) in
    let k = band_part r v u b ((v *ℤ b) +ℤ (u *ℤ a)) ((v *ℤ a) -ℤ (u *ℤ b)) (omega arith) (le_at (pos 0) (pos 0) _ _ refl tt q.0) (le_at _ _ _ _ tt nn q.1) (le_at _ _ _ _ c2 (ap (λ (z : ℤ). pos (r * r) *ℤ z) nn) p.1) (along_across v u b a) in
    (beside_way r s.x e.x x u a refl refl g.0 g.1, beside_way r s.y e.y y v b refl refl k.0 k.1)

stroke_beside : (r : ℕ) (s e : At) (x y : ℤ) → stroke_at r s e x y ≡ true → Beside r s.x e.x x × Beside r s.y e.y y
unfolding stroke_at
stroke_beside r s e x y h =
    let p : At = spot x y in
    let band : Bool = not (same s e) && in_band r (way s e) (way s p) in
    let g = and_parts (ltb 0 r) (in_circle r (way s p) || in_circle r (way e p) || band) h in
    ⊎_elim
    (λ (k : (in_circle r (way s p) || in_circle r (way e p)) ≡ true).
    ⊎_elim
    (λ (l : in_circle r (way s p) ≡ true). let c = circle_spans r (way s p) l in (beside_start r s.x e.x x c.wide, beside_start r s.y e.y y c.high))
    (λ (l : in_circle r (way e p) ≡ true). let c = circle_spans r (way e p) l in (beside_end r s.x e.x x c.wide, beside_end r s.y e.y y c.high))
    (or_cases (in_circle r (way s p)) (in_circle r (way e p)) k))
    (λ (k : band ≡ true). let l = and_parts (not (same s e)) (in_band r (way s e) (way s p)) k in band_beside r s e x y (not-true (same s e) l.0) l.1)
    (or_cases (in_circle r (way s p) || in_circle r (way e p)) band g.1)

pub stroke_boxed : (r : ℕ) (s e : At) → Encloses (stroke_at r s e) (stroke_box r s e)
stroke_boxed r s e = record { inside = λ x y h. let b = stroke_beside r s e x y h in record { left = b.0.low; right = b.0.high; bottom = b.1.low; top = b.1.high } }
