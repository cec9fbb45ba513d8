-- each covered point of a flash lies in its box
use Rattle.std.proofs.Common.{◌≡◌, ℕ, ◌+◌, ◌-◌, ◌*◌, ◌≤◌, true, false, ◌||◌, ltb, leb, ℤ, pos, ◌+ℤ◌, ◌-ℤ◌, nat_abs, ⊎_elim, arith}
use borrow.Author.Differences.{ints}
use Rattle.std.proofs.lemmas.Bool.{and_parts, or_cases, cases_Bool, leb-true, leb-false}
use Rattle.plane.specs.Plane.{At, spot, way}
use Rattle.plane.proofs.Ring.{sq_le, norm_pos}
use Rattle.shapes.specs.Box.{Inside, Encloses, box_about}
use Rattle.shapes.specs.Flashes.{near, in_circle, in_rectangle, in_lying, in_obround, circle_at, rectangle_at, obround_at}

-- w lies at most a to either side and b up and down
pub record Spans (a b : ℕ) (w : At) : Type 0 where
  pub wide : nat_abs w.x ≤ a
  pub high : nat_abs w.y ≤ b

pub about_inside : (q : At) (a b : ℕ) (x y : ℤ) → Spans a b (way q (spot x y)) → Inside (box_about q a b) x y
about_inside q a b x y p = record { left = omega (arith, ints); right = omega (arith, ints); bottom = omega (arith, ints); top = omega (arith, ints) }

pub near_spans : (r : ℕ) (w : At) → near r w ≡ true → Spans r r w
near_spans r w e =
    let k : nat_abs w.x * nat_abs w.x + nat_abs w.y * nat_abs w.y ≤ r * r = omega (arith, ints, norm_pos w) in
    record { wide = sq_le (nat_abs w.x) r (omega arith); high = sq_le (nat_abs w.y) r (omega arith) }

pub circle_spans : (r : ℕ) (w : At) → in_circle r w ≡ true → Spans r r w
circle_spans r w e = near_spans r w (and_parts (ltb 0 r) (near r w) e).1

rectangle_spans : (a b : ℕ) (w : At) → in_rectangle a b w ≡ true → Spans a b w
rectangle_spans a b w e =
    let p = and_parts (leb (nat_abs w.x) a) (leb (nat_abs w.y) b) e in
    record { wide = leb-true (nat_abs w.x) a p.0; high = leb-true (nat_abs w.y) b p.1 }

lying_spans : (e b : ℕ) (w : At) → in_lying e b w ≡ true → Spans (e + b) b w
lying_spans e b w h =
    ⊎_elim
    (λ (k : (in_rectangle e b w || near b (spot (w.x -ℤ pos e) w.y)) ≡ true).
    ⊎_elim
    (λ (l : in_rectangle e b w ≡ true). let p = rectangle_spans e b w l in record { wide = omega arith; high = p.high })
    (λ (l : near b (spot (w.x -ℤ pos e) w.y) ≡ true). let p = near_spans b (spot (w.x -ℤ pos e) w.y) l in record { wide = omega (arith, ints); high = p.high })
    (or_cases (in_rectangle e b w) (near b (spot (w.x -ℤ pos e) w.y)) k))
    (λ (k : near b (spot (w.x +ℤ pos e) w.y) ≡ true). let p = near_spans b (spot (w.x +ℤ pos e) w.y) k in record { wide = omega (arith, ints); high = p.high })
    (or_cases (in_rectangle e b w || near b (spot (w.x -ℤ pos e) w.y)) (near b (spot (w.x +ℤ pos e) w.y)) h)

obround_spans : (a b : ℕ) (w : At) → in_obround a b w ≡ true → Spans a b w
obround_spans a b w e =
    ⊎_elim
    (λ (h : leb b a ≡ true). let l = leb-true b a h in let p = lying_spans (a - b) b w (simp h at e) in record { wide = omega arith; high = p.high })
    (λ (h : leb b a ≡ false).
    let l = leb-false b a h in
    let p = lying_spans (b - a) a (spot w.y w.x) (simp h at e) in record { wide = p.high; high = omega arith })
    (cases_Bool (leb b a))

pub circle_boxed : (q : At) (r : ℕ) → Encloses (circle_at q r) (box_about q r r)
unfolding circle_at
circle_boxed q r = record { inside = λ x y e. about_inside q r r x y (circle_spans r (way q (spot x y)) e) }

pub rectangle_boxed : (q : At) (a b : ℕ) → Encloses (rectangle_at q a b) (box_about q a b)
unfolding rectangle_at
rectangle_boxed q a b = record { inside = λ x y e. about_inside q a b x y (rectangle_spans a b (way q (spot x y)) e) }

pub obround_boxed : (q : At) (a b : ℕ) → Encloses (obround_at q a b) (box_about q a b)
unfolding obround_at
obround_boxed q a b = record { inside = λ x y e. about_inside q a b x y (obround_spans a b (way q (spot x y)) e) }
