-- laws of the strokes
use Rattle.std.proofs.Common.{◌≡◌, ℕ, ◌+◌, ◌-◌, ◌*◌, ◌≤◌, Bool, true, false, not, ◌&&◌, ◌||◌, eqb, ltb, leb, ℤ, pos, negsuc, ◌+ℤ◌, ◌-ℤ◌, ◌*ℤ◌, neg_ℤ, nat_abs, sym, refl, ap, ◌∙◌, inl, inr, mul_assoc, mul_comm, add-mul, mul-le-mul, mul-add, arith}
use lib.IntN.{*ℤ_comm}
use lib.Signed.{le_z}
use borrow.Author.Differences.{ints}
use Rattle.std.proofs.lemmas.Bool.{cases_Bool, cases_lt, both_ways, le-leb, lt-leb}
use Rattle.std.proofs.lemmas.Bool.Decides.{nat_tests}
use Rattle.plane.specs.Plane.{At, spot, way, moved, norm_of, eq_z, same}
use Rattle.plane.proofs.Ring.{sq_pos, norm_pos, mul_z_add, mul_z_neg, way_moved}
use Rattle.plane.proofs.Equal.{eq_z_refl, eq_z_equal, same_refl}
use Rattle.shapes.specs.Flashes.{near, in_circle}
use Rattle.strokes.specs.Strokes.{in_band, in_stroke, stroke_at}
use Rattle.strokes.specs.Arcs.{in_sector, in_sweep, in_turn, is_close, in_ring, in_ring_of, excess_of, in_arc, arc_at}
use Rattle.strokes.specs.Laws.{StrokeToItselfIsDisc, StrokeReversed, ArcReversed, RingByRadius, NothingAtHalf0, StrokesMove}
use Rattle.strokes.proofs.Bands.{sq_neg, mul_swap}

eqb_swap : (a b : ℕ) → eqb a b ≡ eqb b a
eqb_swap a b = grind (arith, nat_tests)

eq_z_swap : (a b : ℤ) → eq_z a b ≡ eq_z b a
eq_z_swap (pos a) (pos b) = eqb_swap a b
eq_z_swap (pos a) (negsuc b) = refl
eq_z_swap (negsuc a) (pos b) = refl
eq_z_swap (negsuc a) (negsuc b) = eqb_swap a b

same_swap : (a b : At) → same a b ≡ same b a
same_swap a b = let x = eq_z_swap a.x b.x in let y = eq_z_swap a.y b.y in cc

-- Booleans

disc_alone : (g d b : Bool) → (g && ((g && d) || (g && d) || (not true && b))) ≡ (g && d)
disc_alone true true b = refl
disc_alone true false b = refl
disc_alone false d b = refl

pub stroke_to_itself : StrokeToItselfIsDisc
stroke_to_itself r s p =
    ap (λ (t : Bool). ltb 0 r && (in_circle r (way s p) || in_circle r (way s p) || (not t && in_band r (way s s) (way s p)))) (same_refl s)
    ∙ disc_alone (ltb 0 r) (near r (way s p)) (in_band r (way s s) (way s p))

or_swap : (a b c : Bool) → (a || b || c) ≡ (b || a || c)
or_swap true true c = refl
or_swap true false c = refl
or_swap false true c = refl
or_swap false false c = refl

and_swap : (a b c : Bool) → (a && b && c) ≡ (b && a && c)
and_swap true true c = refl
and_swap true false c = refl
and_swap false true c = refl
and_swap false false c = refl

-- the band of the way back

neg_mul : (a b : ℤ) → neg_ℤ a *ℤ b ≡ neg_ℤ (a *ℤ b)
neg_mul a b = *ℤ_comm (neg_ℤ a) b ∙ (mul_z_neg b a ∙ ap neg_ℤ (*ℤ_comm b a))

back_product : (u v a : ℤ) → neg_ℤ u *ℤ (a -ℤ v) ≡ (u *ℤ v) -ℤ (u *ℤ a)
back_product u v a =
    let e : u *ℤ (a -ℤ v) ≡ (u *ℤ a) +ℤ neg_ℤ (u *ℤ v) = mul_z_add u a (neg_ℤ v) ∙ ap (λ (z : ℤ). (u *ℤ a) +ℤ z) (mul_z_neg u v) in
    let f : (p q : ℤ) → neg_ℤ (p +ℤ neg_ℤ q) ≡ q -ℤ p = λ p q. omega (arith, ints) in
    neg_mul u (a -ℤ v) ∙ (ap neg_ℤ e ∙ f (u *ℤ a) (u *ℤ v))

regroup_sum : (p q r s : ℤ) → (p -ℤ q) +ℤ (r -ℤ s) ≡ (p +ℤ r) -ℤ (q +ℤ s)
regroup_sum p q r s = omega (arith, ints)

regroup_difference : (p q r s : ℤ) → p ≡ r → (p -ℤ q) -ℤ (r -ℤ s) ≡ neg_ℤ (q -ℤ s)
regroup_difference p q r s h = omega (arith, ints)

from_end : (t n : ℤ) → le_z (pos 0) (n -ℤ t) ≡ le_z t n
from_end t n = grind (arith, ints)

to_start : (t n : ℤ) → le_z (n -ℤ t) n ≡ le_z (pos 0) t
to_start t n = grind (arith, ints)

band_reversed : (r : ℕ) (u v a b : ℤ) → in_band r (spot (neg_ℤ u) (neg_ℤ v)) (spot (a -ℤ u) (b -ℤ v)) ≡ in_band r (spot u v) (spot a b)
band_reversed r u v a b =
    let t = (u *ℤ a) +ℤ (v *ℤ b) in
    let c = (u *ℤ b) -ℤ (v *ℤ a) in
    let n = (u *ℤ u) +ℤ (v *ℤ v) in
    let t' : ℤ = (neg_ℤ u *ℤ (a -ℤ u)) +ℤ (neg_ℤ v *ℤ (b -ℤ v)) in
    let c' : ℤ = (neg_ℤ u *ℤ (b -ℤ v)) -ℤ (neg_ℤ v *ℤ (a -ℤ u)) in
    let n' : ℤ = (neg_ℤ u *ℤ neg_ℤ u) +ℤ (neg_ℤ v *ℤ neg_ℤ v) in
    let te : t' ≡ n -ℤ t = ap (λ (z : ℤ). z +ℤ (neg_ℤ v *ℤ (b -ℤ v))) (back_product u u a) ∙ (ap (λ (z : ℤ). ((u *ℤ u) -ℤ (u *ℤ a)) +ℤ z) (back_product v v b) ∙ regroup_sum (u *ℤ u) (u *ℤ a) (v *ℤ v) (v *ℤ b)) in
    let ce : c' ≡ neg_ℤ c = ap (λ (z : ℤ). z -ℤ (neg_ℤ v *ℤ (a -ℤ u))) (back_product u v b) ∙ (ap (λ (z : ℤ). ((u *ℤ v) -ℤ (u *ℤ b)) -ℤ z) (back_product v u a) ∙ regroup_difference (u *ℤ v) (u *ℤ b) (v *ℤ u) (v *ℤ a) (*ℤ_comm u v)) in
    let ne : n' ≡ n = ap (λ (z : ℤ). z +ℤ (neg_ℤ v *ℤ neg_ℤ v)) (sq_neg u) ∙ ap (λ (z : ℤ). (u *ℤ u) +ℤ z) (sq_neg v) in
    let c2 : c' *ℤ c' ≡ c *ℤ c = ap (λ (z : ℤ). z *ℤ z) ce ∙ sq_neg c in
    let F : ℤ → ℤ → ℤ → Bool = λ t n q. le_z (pos 0) t && le_z t n && le_z q (pos (r * r) *ℤ n) in
    let e1 : F t' n' (c' *ℤ c') ≡ F (n -ℤ t) n (c *ℤ c) = ap (λ (z : ℤ). F z n' (c' *ℤ c')) te ∙ (ap (λ (z : ℤ). F (n -ℤ t) z (c' *ℤ c')) ne ∙ ap (F (n -ℤ t) n) c2) in
    let last : Bool = le_z (c *ℤ c) (pos (r * r) *ℤ n) in
    e1 ∙ (ap (λ (z : Bool). z && le_z (n -ℤ t) n && last) (from_end t n) ∙ (ap (λ (z : Bool). le_z t n && z && last) (to_start t n) ∙ and_swap (le_z t n) (le_z (pos 0) t) last))

pub stroke_reversed : StrokeReversed
stroke_reversed r s e p =
    let u = e.x -ℤ s.x in
    let v = e.y -ℤ s.y in
    let a = p.x -ℤ s.x in
    let b = p.y -ℤ s.y in
    let ux : s.x -ℤ e.x ≡ neg_ℤ u = omega (arith, ints) in
    let vy : s.y -ℤ e.y ≡ neg_ℤ v = omega (arith, ints) in
    let ax : p.x -ℤ e.x ≡ a -ℤ u = omega (arith, ints) in
    let by : p.y -ℤ e.y ≡ b -ℤ v = omega (arith, ints) in
    let d : way e s ≡ spot (neg_ℤ u) (neg_ℤ v) = ap (λ (z : ℤ). spot z (s.y -ℤ e.y)) ux ∙ ap (spot (neg_ℤ u)) vy in
    let w : way e p ≡ spot (a -ℤ u) (b -ℤ v) = ap (λ (z : ℤ). spot z (p.y -ℤ e.y)) ax ∙ ap (spot (a -ℤ u)) by in
    let band : in_band r (way e s) (way e p) ≡ in_band r (way s e) (way s p) = ap (λ (z : At). in_band r z (way e p)) d ∙ (ap (in_band r (spot (neg_ℤ u) (neg_ℤ v))) w ∙ band_reversed r u v a b) in
    ap (λ (z : Bool). ltb 0 r && (in_circle r (way e p) || in_circle r (way s p) || (not z && in_band r (way e s) (way e p)))) (same_swap e s)
    ∙ (ap (λ (z : Bool). ltb 0 r && (in_circle r (way e p) || in_circle r (way s p) || (not (same s e) && z))) band
    ∙ ap (λ (z : Bool). ltb 0 r && z) (or_swap (in_circle r (way e p)) (in_circle r (way s p)) (not (same s e) && in_band r (way s e) (way s p))))

pub arc_reversed : ArcReversed
arc_reversed r c s e p h =
    ap (λ (n : ℤ). ltb 0 r && (in_circle r (way s p) || in_circle r (way e p) || (in_sector c e s p && in_ring r n (excess_of r n (way c p))))) h
    ∙ ap (λ (z : Bool). ltb 0 r && z) (or_swap (in_circle r (way s p)) (in_circle r (way e p)) (in_sector c e s p && in_ring_of r c e p))

-- moving

eq_z_moved : (m a b : ℤ) → eq_z (a +ℤ m) (b +ℤ m) ≡ eq_z a b
eq_z_moved m a b =
    elim (cases_Bool (eq_z a b)) [
      | inl h ↦ ap (λ (z : ℤ). eq_z (z +ℤ m) (b +ℤ m)) (eq_z_equal a b h) ∙ (eq_z_refl (b +ℤ m) ∙ sym h)
      | inr h ↦
          elim (cases_Bool (eq_z (a +ℤ m) (b +ℤ m))) [
            | inl k ↦
                let f = eq_z_equal (a +ℤ m) (b +ℤ m) k in
                let e : a ≡ b = omega (arith, ints) in
                absurd (both_ways (eq_z a b) h (ap (λ (z : ℤ). eq_z z b) e ∙ eq_z_refl b))
            | inr k ↦ k ∙ sym h
          ]
    ]

same_moved : (m a b : At) → same (moved m a) (moved m b) ≡ same a b
same_moved m a b = ap (λ (z : Bool). z && eq_z (a.y +ℤ m.y) (b.y +ℤ m.y)) (eq_z_moved m.x a.x b.x) ∙ ap (λ (z : Bool). eq_z a.x b.x && z) (eq_z_moved m.y a.y b.y)

stroke_moved : (m s e p : At) (r : ℕ) → in_stroke r (moved m s) (moved m e) (moved m p) ≡ in_stroke r s e p
stroke_moved m s e p r =
    let F : At → At → At → Bool → Bool = λ w x d t. ltb 0 r && (in_circle r w || in_circle r x || (not t && in_band r d w)) in
    let sm = moved m s in
    let em = moved m e in
    let pm = moved m p in
    ap (λ (z : At). F z (way em pm) (way sm em) (same sm em)) (way_moved m s p)
    ∙ (ap (λ (z : At). F (way s p) z (way sm em) (same sm em)) (way_moved m e p)
    ∙ (ap (λ (z : At). F (way s p) (way e p) z (same sm em)) (way_moved m s e) ∙ ap (F (way s p) (way e p) (way s e)) (same_moved m s e)))

sector_moved : (m c s e p : At) → in_sector (moved m c) (moved m s) (moved m e) (moved m p) ≡ in_sector c s e p
sector_moved m c s e p =
    let cm = moved m c in
    let sm = moved m s in
    let em = moved m e in
    let pm = moved m p in
    ap (λ (z : Bool). z || in_turn (way cm sm) (way cm em) (way cm pm)) (same_moved m s e)
    ∙ (ap (λ (z : At). same s e || in_turn z (way cm em) (way cm pm)) (way_moved m c s)
    ∙ (ap (λ (z : At). same s e || in_turn (way c s) z (way cm pm)) (way_moved m c e) ∙ ap (λ (z : At). same s e || in_turn (way c s) (way c e) z) (way_moved m c p)))

sweep_moved : (m c s e p : At) (clockwise : Bool) → in_sweep clockwise (moved m c) (moved m s) (moved m e) (moved m p) ≡ in_sweep clockwise c s e p
sweep_moved m c s e p true = sector_moved m c e s p
sweep_moved m c s e p false = sector_moved m c s e p

ring_moved : (m c s p : At) (r : ℕ) → in_ring_of r (moved m c) (moved m s) (moved m p) ≡ in_ring_of r c s p
ring_moved m c s p r =
    let G : At → At → Bool = λ u t. in_ring r (norm_of u) (excess_of r (norm_of u) t) in
    ap (λ (z : At). G z (way (moved m c) (moved m p))) (way_moved m c s) ∙ ap (G (way c s)) (way_moved m c p)

arc_moved : (m c s e p : At) (r : ℕ) (clockwise : Bool) → in_arc r clockwise (moved m c) (moved m s) (moved m e) (moved m p) ≡ in_arc r clockwise c s e p
arc_moved m c s e p r clockwise =
    let F : At → At → Bool → Bool → Bool = λ w x a b. ltb 0 r && (in_circle r w || in_circle r x || (a && b)) in
    let cm = moved m c in
    let sm = moved m s in
    let em = moved m e in
    let pm = moved m p in
    ap (λ (z : At). F z (way em pm) (in_sweep clockwise cm sm em pm) (in_ring_of r cm sm pm)) (way_moved m s p)
    ∙ (ap (λ (z : At). F (way s p) z (in_sweep clockwise cm sm em pm) (in_ring_of r cm sm pm)) (way_moved m e p)
    ∙ (ap (λ (z : Bool). F (way s p) (way e p) z (in_ring_of r cm sm pm)) (sweep_moved m c s e p clockwise) ∙ ap (F (way s p) (way e p) (in_sweep clockwise c s e p)) (ring_moved m c s p r)))

pub strokes_move : StrokesMove
unfolding stroke_at arc_at
strokes_move = record { stroke = λ m s e r x y. stroke_moved m s e (spot x y) r; arc = λ m c s e r clockwise x y. arc_moved m c s e (spot x y) r clockwise }

pub nothing_at_half_0 : NothingAtHalf0
nothing_at_half_0 = record { stroke = λ s e p. refl; arc = λ clockwise c s e p. refl }

-- the ring, by squares

square_leb : (x y : ℕ) → leb (x * x) (y * y) ≡ leb x y
square_leb x y =
    elim (cases_lt y x) [
      | inl h ↦ let k : (y + 1) * (y + 1) ≤ x * x = mul-le-mul (omega arith) (omega arith) in lt-leb (x * x) (y * y) (omega (arith, simp (mul-add, add-mul) at k)) ∙ sym (lt-leb x y h)
      | inr h ↦ le-leb (x * x) (y * y) (mul-le-mul h h) ∙ sym (le-leb x y h)
    ]

outer_edge : (k : ℤ) (m a s d : ℕ) → k ≡ (pos m -ℤ pos a) -ℤ pos s → (le_z k (pos 0) || leb (nat_abs k) (2 * d)) ≡ leb m (a + s + 2 * d)
outer_edge k m a s d h = grind (arith, ints, nat_tests)

inner_edge : (k : ℤ) (m a s d e : ℕ) → k ≡ (pos m -ℤ pos a) -ℤ pos s → e + 2 * d ≡ a + s → (le_z (pos 0) k || leb (nat_abs k) (2 * d)) ≡ leb e m
inner_edge k m a s d e h q = grind (arith, ints, nat_tests)

sum_square : (n r : ℕ) → n * n + r * r + 2 * (r * n) ≡ (n + r) * (n + r)
sum_square n r = simp (mul-add, add-mul) (omega (arith, mul_comm n r))

difference_square : (n r : ℕ) → r ≤ n → (n - r) * (n - r) + 2 * (r * n) ≡ n * n + r * r
difference_square n r h =
    let d : ℕ = n - r in
    let e : n ≡ d + r = omega arith in
    let f : d * d + 2 * (r * (d + r)) ≡ (d + r) * (d + r) + r * r = simp (mul-add, add-mul) (omega (arith, mul_comm d r)) in
    ap (λ (z : ℕ). d * d + 2 * (r * z)) e ∙ (f ∙ ap (λ (z : ℕ). z * z + r * r) (sym e))

close_by_radius : (r n : ℕ) (k : ℤ) → is_close r (pos (n * n)) k ≡ leb (nat_abs k) (2 * (r * n))
close_by_radius r n k =
    let t : (2 * (r * n)) * (2 * (r * n)) ≡ (4 * (r * r)) * (n * n) = mul_swap 2 (r * n) ∙ (ap (λ (z : ℕ). 4 * z) (mul_swap r n) ∙ sym (mul_assoc 4 (r * r) (n * n))) in
    ap (λ (z : ℤ). le_z z (pos ((4 * (r * r)) * (n * n)))) (sq_pos k) ∙ (ap (leb (nat_abs k * nat_abs k)) (sym t) ∙ square_leb (nat_abs k) (2 * (r * n)))

inner_by_radius : (r n m : ℕ) (k : ℤ) → k ≡ (pos m -ℤ pos (n * n)) -ℤ pos (r * r) → (leb n r || le_z (pos 0) k || leb (nat_abs k) (2 * (r * n))) ≡ (leb n r || leb ((n - r) * (n - r)) m)
inner_by_radius r n m k h =
    let c : Bool = leb (nat_abs k) (2 * (r * n)) in
    elim (cases_lt r n) [
      | inl l ↦
          let b : leb n r ≡ false = lt-leb n r l in
          ap (λ (z : Bool). z || le_z (pos 0) k || c) b
          ∙ (inner_edge k m (n * n) (r * r) (r * n) ((n - r) * (n - r)) h (difference_square n r (omega arith)) ∙ ap (λ (z : Bool). z || leb ((n - r) * (n - r)) m) (sym b))
      | inr l ↦
          let b : leb n r ≡ true = le-leb n r l in
          ap (λ (z : Bool). z || le_z (pos 0) k || c) b ∙ ap (λ (z : Bool). z || leb ((n - r) * (n - r)) m) (sym b)
    ]

ring_at : (r n m : ℕ) → in_ring r (pos (n * n)) ((pos m -ℤ pos (n * n)) -ℤ pos (r * r)) ≡ (leb m ((n + r) * (n + r)) && (leb n r || leb ((n - r) * (n - r)) m))
unfolding in_ring
ring_at r n m =
    let k : ℤ = (pos m -ℤ pos (n * n)) -ℤ pos (r * r) in
    let c : Bool = leb (nat_abs k) (2 * (r * n)) in
    ap (λ (z : Bool). (le_z k (pos 0) || z) && (leb (n * n) (r * r) || le_z (pos 0) k || z)) (close_by_radius r n k)
    ∙ (ap (λ (z : Bool). (le_z k (pos 0) || c) && (z || le_z (pos 0) k || c)) (square_leb n r)
    ∙ (ap (λ (z : Bool). z && (leb n r || le_z (pos 0) k || c)) (outer_edge k m (n * n) (r * r) (r * n) refl ∙ ap (leb m) (sum_square n r))
    ∙ ap (λ (z : Bool). leb m ((n + r) * (n + r)) && z) (inner_by_radius r n m k refl)))

pub ring_by_radius : RingByRadius
ring_by_radius r n t =
    let m : ℕ = nat_abs t.x * nat_abs t.x + nat_abs t.y * nat_abs t.y in
    let e : norm_of t ≡ pos m = norm_pos t in
    ap (λ (z : ℤ). in_ring r (pos (n * n)) ((z -ℤ pos (n * n)) -ℤ pos (r * r))) e
    ∙ (ring_at r n m ∙ ap (λ (z : ℤ). le_z z (pos ((n + r) * (n + r))) && (leb n r || le_z (pos ((n - r) * (n - r))) z)) (sym e))
