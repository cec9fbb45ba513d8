-- each covered point of an arc stroke lies in its box
use Rattle.std.proofs.Common.{◌≡◌, ℕ, zero, suc, ◌+◌, ◌-◌, ◌*◌, ◌<◌, ◌≤◌, Bool, true, ◌&&◌, ◌||◌, ltb, leb, ℤ, pos, ◌-ℤ◌, ◌*ℤ◌, nat_abs, sym, ap, ◌∙◌, inl, inr, ⊎_elim, mul_assoc, mul_comm, add-mul, mul-le-mul, mul-le-mul_left, mul-add, arith}
use lib.Signed.{le_z}
use borrow.Author.Differences.{ints}
use Rattle.std.proofs.lemmas.Bool.{and_parts, or_cases, cases_Bool, cases_lt, leb-true, leb-false}
use Rattle.plane.specs.Plane.{At, spot, way, norm_of}
use Rattle.plane.proofs.Ring.{sq_le, sq_pos, norm_pos}
use Rattle.shapes.specs.Box.{Encloses}
use Rattle.shapes.specs.Flashes.{in_circle}
use Rattle.shapes.proofs.Boxes.{Spans, about_inside, circle_spans}
use Rattle.strokes.specs.Arcs.{in_sweep, excess_of, is_close, in_ring, in_ring_of, in_arc, arc_at, root, reach_of, arc_box}
use Rattle.strokes.proofs.Bands.{mul_swap, pos_le}

-- the root: its square is at most n, and the next square is past n

pub root_low : (n : ℕ) → root n * root n ≤ n
unfolding root
root_low zero = omega arith
root_low (suc n) =
    let R : ℕ = root n in
    elim (cases_Bool (leb (suc R * suc R) (suc n))) [ inl h ↦ simp h (leb-true (suc R * suc R) (suc n) h) | inr h ↦ simp h (omega (arith, root_low n)) ]

next_square : (n R : ℕ) → n < suc R * suc R → suc n < suc (suc R) * suc (suc R)
next_square n R h = let k : (suc R + 1) * (suc R + 1) ≤ suc (suc R) * suc (suc R) = mul-le-mul (omega arith) (omega arith) in omega (arith, simp (mul-add, add-mul) at k)

pub root_high : (n : ℕ) → n < suc (root n) * suc (root n)
unfolding root
root_high zero = omega arith
root_high (suc n) =
    let R : ℕ = root n in
    elim (cases_Bool (leb (suc R * suc R) (suc n))) [ inl h ↦ simp h (next_square n R (root_high n)) | inr h ↦ simp h (leb-false (suc R * suc R) (suc n) h) ]

square_lt : (m n : ℕ) → m * m < n * n → m < n
square_lt m n h = elim (cases_lt m n) [ inl l ↦ l | inr l ↦ let k : n * n ≤ m * m = mul-le-mul l l in absurd (omega arith) ]

-- whatever squares to at most n is at most the root
pub under_root : (a n : ℕ) → a * a ≤ n → a ≤ root n
under_root a n h = let l = square_lt a (suc (root n)) (omega (arith, root_high n)) in omega arith

pub root_is : (n r : ℕ) → r * r ≤ n → n < (r + 1) * (r + 1) → r ≡ root n
root_is n r h k =
    let l = under_root r n h in
    let m = square_lt (root n) (r + 1) (omega (arith, root_low n)) in
    omega arith

-- a² ≤ n + r² + k with k² ≤ 4 r² n: a is at most r past the root of n
ring_part : (a n r k : ℕ) → a * a ≤ n + r * r + k → k * k ≤ (4 * (r * r)) * n → a ≤ root n + r
ring_part a n r k h q =
    elim (cases_lt r a) [
      | inl l ↦
          let d : ℕ = a - r in
          let s : a ≡ d + r = omega arith in
          let e : (d + r) * (d + r) ≤ n + r * r + k = simp (← s) h in
          let x : d * d + 2 * (d * r) ≤ n + k = omega (arith, mul_comm r d, simp (mul-add, add-mul) at e) in
          let t : (2 * (d * r)) * (2 * (d * r)) ≡ (4 * (r * r)) * (d * d) = mul_swap 2 (d * r) ∙ (ap (λ (z : ℕ). 4 * z) (mul_swap d r ∙ mul_comm (d * d) (r * r)) ∙ sym (mul_assoc 4 (r * r) (d * d))) in
          let in_root : d * d ≤ n =
          elim (cases_lt n (d * d)) [
            | inl m ↦
                let big : (2 * (d * r) + 1) * (2 * (d * r) + 1) ≤ k * k = mul-le-mul (omega arith) (omega arith) in
                let up : (4 * (r * r)) * n ≤ (4 * (r * r)) * (d * d) = mul-le-mul_left (4 * (r * r)) (omega arith) in
                let no : 2 * (d * r) + 1 ≤ 2 * (d * r) = sq_le (2 * (d * r) + 1) (2 * (d * r)) (omega (arith, t)) in
                absurd (omega arith)
            | inr m ↦ m
          ] in
          let f = under_root d n in_root in
          omega arith
      | inr l ↦ omega arith
    ]

excess_size : (M N : ℤ) (m n s : ℕ) → M ≡ pos m → N ≡ pos n → m ≤ n + s + nat_abs ((M -ℤ N) -ℤ pos s)
excess_size M N m n s a b = omega (arith, ints)

no_excess : (M N : ℤ) (m n s : ℕ) → M ≡ pos m → N ≡ pos n → le_z ((M -ℤ N) -ℤ pos s) (pos 0) ≡ true → m ≤ n + s
no_excess M N m n s a b h = omega (arith, ints)

-- a point of the ring
ring_spans : (r : ℕ) (c s p : At) → in_ring_of r c s p ≡ true → Spans (root (nat_abs (norm_of (way c s))) + r) (root (nat_abs (norm_of (way c s))) + r) (way c p)
unfolding in_ring
ring_spans r c s p h =
    let u : At = way c s in
    let t : At = way c p in
    let n : ℕ = nat_abs u.x * nat_abs u.x + nat_abs u.y * nat_abs u.y in
    let m : ℕ = nat_abs t.x * nat_abs t.x + nat_abs t.y * nat_abs t.y in
    let np : norm_of u ≡ pos n = norm_pos u in
    let mp : norm_of t ≡ pos m = norm_pos t in
    let k : ℤ = excess_of r (norm_of u) t in
    let outer = (and_parts (le_z k (pos 0) || is_close r (norm_of u) k) _ h).0 in
    let size : (j : ℕ) × ((m ≤ n + r * r + j) × (j * j ≤ (4 * (r * r)) * n)) =
    ⊎_elim
    (λ (q : le_z k (pos 0) ≡ true). let i = no_excess (norm_of t) (norm_of u) m n (r * r) mp np q in (0, (omega arith, omega arith)))
    (λ (q : is_close r (norm_of u) k ≡ true). (
      nat_abs k,
      (
        excess_size (norm_of t) (norm_of u) m n (r * r) mp np,
        pos_le (k *ℤ k) (pos (4 * (r * r)) *ℤ norm_of u) (nat_abs k * nat_abs k) ((4 * (r * r)) * n) (sq_pos k) (ap (λ (z : ℤ). pos (4 * (r * r)) *ℤ z) np) q,
      ),
    ))
    (or_cases (le_z k (pos 0)) (is_close r (norm_of u) k) outer) in
    let e : root n ≡ root (nat_abs (norm_of u)) = ap (λ (z : ℤ). root (nat_abs z)) (sym np) in
    let wide = ring_part (nat_abs t.x) n r size.0 (omega arith) size.1.1 in
    let high = ring_part (nat_abs t.y) n r size.0 (omega arith) size.1.1 in
    record { wide = omega arith; high = omega arith }

-- a part of u is at most the root of |u|²
part_root : (u : At) → (nat_abs u.x ≤ root (nat_abs (norm_of u))) × (nat_abs u.y ≤ root (nat_abs (norm_of u)))
part_root u =
    let n : ℕ = nat_abs u.x * nat_abs u.x + nat_abs u.y * nat_abs u.y in
    let e : root n ≡ root (nat_abs (norm_of u)) = ap (λ (z : ℤ). root (nat_abs z)) (sym (norm_pos u)) in
    let x = under_root (nat_abs u.x) n (omega arith) in
    let y = under_root (nat_abs u.y) n (omega arith) in
    (omega arith, omega arith)

-- a point of the circle at a, whose way from c is at most n on either axis
circle_reach : (r n : ℕ) (c a p : At) → nat_abs (a.x -ℤ c.x) ≤ n → nat_abs (a.y -ℤ c.y) ≤ n → in_circle r (way a p) ≡ true → Spans (n + r) (n + r) (way c p)
circle_reach r n c a p i j h = let s = circle_spans r (way a p) h in record { wide = omega (arith, ints); high = omega (arith, ints) }

more_spans : (m n : ℕ) (w : At) → m ≤ n → Spans m m w → Spans n n w
more_spans m n w l s = record { wide = omega arith; high = omega arith }

arc_spans : (r : ℕ) (clockwise : Bool) (c s e p : At) → in_arc r clockwise c s e p ≡ true → Spans (reach_of (way c s) (way c e) + r) (reach_of (way c s) (way c e) + r) (way c p)
arc_spans r clockwise c s e p h =
    let n : ℕ = reach_of (way c s) (way c e) in
    let R : ℕ = root (nat_abs (norm_of (way c s))) in
    let u = part_root (way c s) in
    let ring : Bool = in_sweep clockwise c s e p && in_ring_of r c s p in
    let g = and_parts (ltb 0 r) (in_circle r (way s p) || in_circle r (way e p) || ring) h in
    ⊎_elim
    (λ (k : (in_circle r (way s p) || in_circle r (way e p)) ≡ true).
    ⊎_elim
    (λ (l : in_circle r (way s p) ≡ true). circle_reach r n c s p (omega arith) (omega arith) l)
    (λ (l : in_circle r (way e p) ≡ true). circle_reach r n c e p (omega arith) (omega arith) l)
    (or_cases (in_circle r (way s p)) (in_circle r (way e p)) k))
    (λ (k : ring ≡ true). more_spans (R + r) (n + r) (way c p) (omega arith) (ring_spans r c s p (and_parts (in_sweep clockwise c s e p) (in_ring_of r c s p) k).1))
    (or_cases (in_circle r (way s p) || in_circle r (way e p)) ring g.1)

pub arc_boxed : (r : ℕ) (clockwise : Bool) (c s e : At) → Encloses (arc_at r clockwise c s e) (arc_box r c s e)
unfolding arc_at
arc_boxed r clockwise c s e =
    let n : ℕ = reach_of (way c s) (way c e) + r in
    record { inside = λ x y h. about_inside c n n x y (arc_spans r clockwise c s e (spot x y) h) }
