-- laws of the flashes
use Rattle.std.proofs.Common.{◌≡◌, ℕ, ◌+◌, ◌-◌, ◌*◌, ◌≤◌, Bool, true, false, cond, ◌&&◌, ◌||◌, ltb, leb, ℤ, pos, ◌+ℤ◌, ◌-ℤ◌, nat_abs, sym, refl, ap, ◌∙◌, mul-le-mul, arith}
use lib.Signed.{le_z}
use borrow.Author.Differences.{ints}
use Rattle.std.proofs.lemmas.Bool.{and_parts, leb-true, le-leb, lt-ltb}
use Rattle.plane.specs.Plane.{At, spot}
use Rattle.plane.proofs.Ring.{norm_pos, way_moved}
use Rattle.shapes.specs.Flashes.{near, in_circle, in_rectangle, in_lying, in_obround, circle_at, rectangle_at, obround_at}
use Rattle.shapes.specs.Laws.{EvenObroundIsCircle, FlashesMove}

-- the upright line through the middle lies in the circle
line_near : (r : ℕ) (w : At) → in_rectangle 0 r w ≡ true → near r w ≡ true
line_near r w e =
    let p = and_parts (leb (nat_abs w.x) 0) (leb (nat_abs w.y) r) e in
    let h : nat_abs w.y * nat_abs w.y ≤ r * r = mul-le-mul (leb-true (nat_abs w.y) r p.1) (leb-true (nat_abs w.y) r p.1) in
    let v : nat_abs w.x * nat_abs w.x ≤ 0 * 0 = mul-le-mul (leb-true (nat_abs w.x) 0 p.0) (leb-true (nat_abs w.x) 0 p.0) in
    let n : le_z (pos (nat_abs w.x * nat_abs w.x + nat_abs w.y * nat_abs w.y)) (pos (r * r)) ≡ true = le-leb _ (r * r) (omega arith) in
    ap (λ (z : ℤ). le_z z (pos (r * r))) (norm_pos w) ∙ n

absorbed : (a b : Bool) → (a ≡ true → b ≡ true) → (a || b || b) ≡ b
absorbed true b h = sym (h refl)
absorbed false true h = refl
absorbed false false h = refl

lying_round : (r : ℕ) (w : At) → in_lying 0 r w ≡ near r w
lying_round r w =
    let a : w.x -ℤ pos 0 ≡ w.x = omega (arith, ints) in
    let b : w.x +ℤ pos 0 ≡ w.x = omega (arith, ints) in
    ap (λ (z : ℤ). in_rectangle 0 r w || near r (spot z w.y) || near r (spot (w.x +ℤ pos 0) w.y)) a
    ∙ (ap (λ (z : ℤ). in_rectangle 0 r w || near r w || near r (spot z w.y)) b ∙ absorbed (in_rectangle 0 r w) (near r w) (line_near r w))

pub even_obround : EvenObroundIsCircle
even_obround r w z =
    let l : leb r r ≡ true = le-leb r r (omega arith) in
    let s : r - r ≡ 0 = omega arith in
    let p : ltb 0 r ≡ true = lt-ltb 0 r z in
    ap (λ (b : Bool). cond b (in_lying (r - r) r w) (in_lying (r - r) r (spot w.y w.x))) l
    ∙ (ap (λ (e : ℕ). in_lying e r w) s ∙ (lying_round r w ∙ ap (λ (b : Bool). b && near r w) (sym p)))

pub flashes_move : FlashesMove
unfolding circle_at rectangle_at obround_at
flashes_move =
    record {
      circle = λ m q r x y. ap (in_circle r) (way_moved m q (spot x y));
      rectangle = λ m q a b x y. ap (in_rectangle a b) (way_moved m q (spot x y));
      obround = λ m q a b x y. ap (in_obround a b) (way_moved m q (spot x y));
    }
