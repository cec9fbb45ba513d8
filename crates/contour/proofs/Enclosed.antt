-- each covered point of a closed contour lies in the box of its points
use Rattle.std.proofs.Common.{◌≡◌, ℕ, suc, ◌+◌, ◌*◌, ◌<◌, ◌≤◌, Bool, true, false, cond, not, ◌&&◌, List, [], ◌∷◌, map, ℤ, pos, negsuc, ◌-ℤ◌, ◌*ℤ◌, ◌≤ℤ◌, ◌<ℤ◌, sym, refl, ap, ◌∙◌, ⊎_elim, mul-le-mul_right, mul_comm, add-mul, mul-le-mul, arith}
use lib.Signed.{lt_z, le_z}
use borrow.Author.Differences.{ints, up, down, product_is}
use Rattle.std.proofs.lemmas.Bool.{cases_Bool, both_ways}
use Rattle.std.proofs.lemmas.Int.{by_lt_z}
use Rattle.plane.specs.declared.points.Bounds.{Bounds}
use Rattle.plane.specs.declared.points.Placing.{Placing}
use Rattle.plane.specs.Plane.{At, spot}
use Rattle.plane.specs.Points.{FilePoint, file_point_at}
use Rattle.plane.specs.Placed.{placed}
use Rattle.plane.proofs.Equal.{same_is_equal}
use Rattle.shapes.specs.Box.{Inside, Encloses}
use Rattle.contour.specs.declared.pieces.Piece.{Piece}
use Rattle.contour.specs.Closed.{ends_at, closed_from}
use Rattle.contour.specs.Placed.{piece_at, contour_of, box_of}
use Rattle.contour.specs.Chain.{differ, left_of, counts, last_of, lesser_of, greater_of, grow, box_from, single}
use Rattle.contour.proofs.Parity.{parity, odd_parity}

-- the box holds the points that it grew by

abbrev pub Holds : Bounds → At → Type 0
Holds b s = Inside b s.x s.y

abbrev pub HoldsAll : Bounds → List At → Type 0
HoldsAll b [] = Unit {0}
HoldsAll b (e ∷ es) = Holds b e × HoldsAll b es

lesser_is : (a b : ℤ) → (lesser_of a b ≤ℤ a) × (lesser_of a b ≤ℤ b)
unfolding lesser_of
lesser_is a b = (grind (arith, ints), grind (arith, ints))

greater_is : (a b : ℤ) → (a ≤ℤ greater_of a b) × (b ≤ℤ greater_of a b)
unfolding greater_of
greater_is a b = (grind (arith, ints), grind (arith, ints))

grow_here : (b : Bounds) (s : At) → Holds (grow b s) s
grow_here b s = record { left = (lesser_is s.x b.left).0; right = (greater_is s.x b.right).0; bottom = (lesser_is s.y b.bottom).0; top = (greater_is s.y b.top).0 }

grow_keeps : (b : Bounds) (s q : At) → Holds b q → Holds (grow b s) q
grow_keeps b s q h =
    record {
      left = omega (arith, ints, lesser_is s.x b.left);
      right = omega (arith, ints, greater_is s.x b.right);
      bottom = omega (arith, ints, lesser_is s.y b.bottom);
      top = omega (arith, ints, greater_is s.y b.top);
    }

pub from_keeps : (b : Bounds) (es : List At) (q : At) → Holds b q → Holds (box_from b es) q
from_keeps b [] q h = h
from_keeps b (e ∷ es) q h = from_keeps (grow b e) es q (grow_keeps b e q h)

pub from_holds : (b : Bounds) (es : List At) → HoldsAll (box_from b es) es
from_holds b [] = tt
from_holds b (e ∷ es) = (from_keeps (grow b e) es e (grow_here b e), from_holds (grow b e) es)

pub single_holds : (s : At) → Holds (single s) s
single_holds s = record { left = omega (arith, ints); right = omega (arith, ints); bottom = omega (arith, ints); top = omega (arith, ints) }

-- which side of a piece a point past all ends lies on

low_diff : (p q : ℤ) → up p + down q ≤ down p + up q → lt_z (pos 0) (p -ℤ q) ≡ false
low_diff p q h = grind (arith, ints)

high_diff : (p q : ℤ) → down p + up q < up p + down q → lt_z (pos 0) (p -ℤ q) ≡ true
high_diff p q h = grind (arith, ints)

cross_past : (a c : ℤ) (b h : ℕ) → b ≤ h → pos 0 <ℤ c → a <ℤ c → lt_z (pos 0) ((a *ℤ pos b) -ℤ (pos h *ℤ c)) ≡ false
cross_past (pos a) (pos c) b h l p q =
    let k : a * b ≤ c * h = mul-le-mul (omega (arith, ints)) l in low_diff (pos a *ℤ pos b) (pos h *ℤ pos c) (omega (arith, mul_comm c h))
cross_past (negsuc a) (pos c) b h l p q = low_diff (negsuc a *ℤ pos b) (pos h *ℤ pos c) (omega (arith, product_is (negsuc a) (pos b)))
cross_past (pos a) (negsuc c) b h l p q = absurd (omega (arith, ints))
cross_past (negsuc a) (negsuc c) b h l p q = absurd (omega (arith, ints))

cross_before : (a c : ℤ) (b h : ℕ) → b < h → c <ℤ pos 0 → c <ℤ a → lt_z (pos 0) ((a *ℤ pos b) -ℤ (pos h *ℤ c)) ≡ true
cross_before (pos a) (negsuc c) b h l p q =
    let k : 1 * 1 ≤ h * suc c = mul-le-mul {n₁ = 1} {m₁ = 1} {n₂ = h} {m₂ = suc c} (omega arith) (omega arith) in high_diff (pos a *ℤ pos b) (pos h *ℤ negsuc c) (omega (arith, product_is (pos h) (negsuc c)))
cross_before (negsuc a) (negsuc c) b h l p q =
    let m : suc a * b ≤ suc a * h = mul-le-mul (omega arith) (omega arith) in
    let k : (suc a + 1) * h ≤ suc c * h = mul-le-mul_right h (omega (arith, ints)) in
    high_diff (negsuc a *ℤ pos b) (pos h *ℤ negsuc c) (omega (arith, product_is (negsuc a) (pos b), product_is (pos h) (negsuc c), add-mul (suc a) 1 h, mul_comm (suc c) h))
cross_before (pos a) (pos c) b h l p q = absurd (omega (arith, ints))
cross_before (negsuc a) (pos c) b h l p q = absurd (omega (arith, ints))

not_negative : (z : ℤ) → pos 0 ≤ℤ z → z ≡ pos (up z)
not_negative (pos n) h = refl
not_negative (negsuc n) h = absurd (omega (arith, ints))

rest_pos : (a b : ℤ) → a ≤ℤ b → b -ℤ a ≡ pos (up (b -ℤ a))
rest_pos a b h = not_negative (b -ℤ a) (omega (arith, ints))

past_none : (lx ly hx hy x y : ℤ) → ly ≤ℤ y → y <ℤ hy → lx <ℤ x → hx <ℤ x → left_of (spot lx ly) (spot hx hy) (spot x y) ≡ false
past_none lx ly hx hy x y a b c d =
    let e = rest_pos ly y a in
    let f = rest_pos ly hy (omega (arith, ints)) in
    rw (e, f) (cross_past (hx -ℤ lx) (x -ℤ lx) (up (y -ℤ ly)) (up (hy -ℤ ly)) (omega (arith, ints)) (omega (arith, ints)) (omega (arith, ints)))

before_all : (lx ly hx hy x y : ℤ) → ly ≤ℤ y → y <ℤ hy → x <ℤ lx → x <ℤ hx → left_of (spot lx ly) (spot hx hy) (spot x y) ≡ true
before_all lx ly hx hy x y a b c d =
    let e = rest_pos ly y a in
    let f = rest_pos ly hy (omega (arith, ints)) in
    rw (e, f) (cross_before (hx -ℤ lx) (x -ℤ lx) (up (y -ℤ ly)) (up (hy -ℤ ly)) (omega (arith, ints)) (omega (arith, ints)) (omega (arith, ints)))

-- a point outside the box of all ends

-- above, below and right of the box no piece counts
pub record Clear (b : Bounds) (x y : ℤ) : Type 0 where
  pub none : (s e : At) → Holds b s → Holds b e → counts s e (spot x y) ≡ false

clear_parity : (b : Bounds) (x y : ℤ) (s : At) (es : List At) → Clear b x y → Holds b s → HoldsAll b es → parity s es (spot x y) ≡ false
clear_parity b x y s [] k p q = refl
clear_parity b x y s (e ∷ es) k p q = ap (λ (t : Bool). differ t (parity e es (spot x y))) (k.none s e p q.0) ∙ clear_parity b x y e es k q.0 q.1

-- how the two ends decide whether a piece counts
counts_low : (a b l m : Bool) → a ≡ true → b ≡ true → cond a (not b && l) (b && m) ≡ false
counts_low a b l m p q = simp (p, q)

counts_high : (a b l m : Bool) → a ≡ false → b ≡ false → cond a (not b && l) (b && m) ≡ false
counts_high a b l m p q = simp (p, q)

counts_up : (a b l m r : Bool) → a ≡ true → b ≡ false → l ≡ r → cond a (not b && l) (b && m) ≡ r
counts_up a b l m r p q k = simp (p, q, k)

counts_down : (a b l m r : Bool) → a ≡ false → b ≡ true → m ≡ r → cond a (not b && l) (b && m) ≡ r
counts_down a b l m r p q k = simp (p, q, k)

both_low : (s e : At) (x y : ℤ) → le_z s.y y ≡ true → le_z e.y y ≡ true → counts s e (spot x y) ≡ false
both_low s e x y p q = counts_low (le_z s.y y) (le_z e.y y) (left_of s e (spot x y)) (left_of e s (spot x y)) p q

both_high : (s e : At) (x y : ℤ) → le_z s.y y ≡ false → le_z e.y y ≡ false → counts s e (spot x y) ≡ false
both_high s e x y p q = counts_high (le_z s.y y) (le_z e.y y) (left_of s e (spot x y)) (left_of e s (spot x y)) p q

le_yes : (a b : ℤ) → a ≤ℤ b → le_z a b ≡ true
le_yes a b h = grind (arith, ints)

le_no : (a b : ℤ) → b <ℤ a → le_z a b ≡ false
le_no a b h = grind (arith, ints)

above : (b : Bounds) (x y : ℤ) → b.top <ℤ y → Clear b x y
above b x y h = record { none = λ s e p q. both_low s e x y (le_yes s.y y (omega (arith, ints))) (le_yes e.y y (omega (arith, ints))) }

under : (b : Bounds) (x y : ℤ) → y <ℤ b.bottom → Clear b x y
under b x y h = record { none = λ s e p q. both_high s e x y (le_no s.y y (omega (arith, ints))) (le_no e.y y (omega (arith, ints))) }

up_piece : (s e : At) (x y : ℤ) (r : Bool) → le_z s.y y ≡ true → le_z e.y y ≡ false → left_of s e (spot x y) ≡ r → counts s e (spot x y) ≡ r
up_piece s e x y r p q k = counts_up (le_z s.y y) (le_z e.y y) (left_of s e (spot x y)) (left_of e s (spot x y)) r p q k

down_piece : (s e : At) (x y : ℤ) (r : Bool) → le_z s.y y ≡ false → le_z e.y y ≡ true → left_of e s (spot x y) ≡ r → counts s e (spot x y) ≡ r
down_piece s e x y r p q k = counts_down (le_z s.y y) (le_z e.y y) (left_of s e (spot x y)) (left_of e s (spot x y)) r p q k

-- the four ways that the ends of a piece lie about a height
by_ends : {P : Type 0} (s e : At) (y : ℤ) → (le_z s.y y ≡ true → le_z e.y y ≡ true → P) → (le_z s.y y ≡ true → le_z e.y y ≡ false → P) → (le_z s.y y ≡ false → le_z e.y y ≡ true → P) → (le_z s.y y ≡ false → le_z e.y y ≡ false → P) → P
by_ends s e y a b c d =
    ⊎_elim
    (λ (p : le_z s.y y ≡ true). ⊎_elim (λ (q : le_z e.y y ≡ true). a p q) (λ (q : le_z e.y y ≡ false). b p q) (cases_Bool (le_z e.y y)))
    (λ (p : le_z s.y y ≡ false). ⊎_elim (λ (q : le_z e.y y ≡ true). c p q) (λ (q : le_z e.y y ≡ false). d p q) (cases_Bool (le_z e.y y)))
    (cases_Bool (le_z s.y y))

past : (b : Bounds) (x y : ℤ) → b.right <ℤ x → Clear b x y
past b x y h =
    record {
      none = λ s e p q.
          by_ends s e y
          (both_low s e x y)
          (λ i j. up_piece s e x y false i j (past_none s.x s.y e.x e.y x y (omega (arith, ints)) (omega (arith, ints)) (omega (arith, ints)) (omega (arith, ints))))
          (λ i j. down_piece s e x y false i j (past_none e.x e.y s.x s.y x y (omega (arith, ints)) (omega (arith, ints)) (omega (arith, ints)) (omega (arith, ints))))
          (both_high s e x y);
    }

-- left of the box every piece counts whose ends lie apart
differ_at : (c a b a' b' : Bool) → c ≡ differ a' b' → a ≡ a' → b ≡ b' → c ≡ differ a b
differ_at c a b a' b' h p q = cc

before_piece : (b : Bounds) (x y : ℤ) (s e : At) → x <ℤ b.left → Holds b s → Holds b e → counts s e (spot x y) ≡ differ (le_z s.y y) (le_z e.y y)
before_piece b x y s e h p q =
    by_ends s e y
    (λ i j. differ_at (counts s e (spot x y)) (le_z s.y y) (le_z e.y y) true true (both_low s e x y i j) i j)
    (λ i j. differ_at (counts s e (spot x y)) (le_z s.y y) (le_z e.y y) true false (up_piece s e x y true i j (before_all s.x s.y e.x e.y x y (omega (arith, ints)) (omega (arith, ints)) (omega (arith, ints)) (omega (arith, ints)))) i j)
    (λ i j. differ_at (counts s e (spot x y)) (le_z s.y y) (le_z e.y y) false true (down_piece s e x y true i j (before_all e.x e.y s.x s.y x y (omega (arith, ints)) (omega (arith, ints)) (omega (arith, ints)) (omega (arith, ints)))) i j)
    (λ i j. differ_at (counts s e (spot x y)) (le_z s.y y) (le_z e.y y) false false (both_high s e x y i j) i j)

differ_self : (a : Bool) → differ a a ≡ false
differ_self true = refl
differ_self false = refl

differ_join : (a b c : Bool) → differ (differ a b) (differ b c) ≡ differ a c
differ_join true true c = refl
differ_join true false c = refl
differ_join false true true = refl
differ_join false true false = refl
differ_join false false c = refl

-- the parity telescopes
before_parity : (b : Bounds) (x y : ℤ) (s : At) (es : List At) → x <ℤ b.left → Holds b s → HoldsAll b es → parity s es (spot x y) ≡ differ (le_z s.y y) (le_z (last_of s es).y y)
before_parity b x y s [] h p q = sym (differ_self (le_z s.y y))
before_parity b x y s (e ∷ es) h p q =
    ap (λ (t : Bool). differ t (parity e es (spot x y))) (before_piece b x y s e h p q.0)
    ∙ (ap (differ (differ (le_z s.y y) (le_z e.y y))) (before_parity b x y e es h q.0 q.1)
    ∙ differ_join (le_z s.y y) (le_z e.y y) (le_z (last_of e es).y y))

closed_parity : (b : Bounds) (x y : ℤ) (s : At) (es : List At) → x <ℤ b.left → Holds b s → HoldsAll b es → (last_of s es).y ≡ s.y → parity s es (spot x y) ≡ false
closed_parity b x y s es h p q k =
    before_parity b x y s es h p q ∙ (ap (λ (z : ℤ). differ (le_z s.y y) (le_z z y)) k ∙ differ_self (le_z s.y y))

never : {P : Type 0} (b : Bool) → b ≡ true → b ≡ false → P
never b p q = absurd (both_ways b q p)

chain_inside : (b : Bounds) (x y : ℤ) (s : At) (es : List At) → Holds b s → HoldsAll b es → (last_of s es).y ≡ s.y → parity s es (spot x y) ≡ true → Inside b x y
chain_inside b x y s es p q k o =
    record {
      left = by_lt_z x b.left (λ h. never _ o (closed_parity b x y s es h p q k)) (λ h. h);
      right = by_lt_z b.right x (λ h. never _ o (clear_parity b x y s es (past b x y h) p q)) (λ h. h);
      bottom = by_lt_z y b.bottom (λ h. never _ o (clear_parity b x y s es (under b x y h) p q)) (λ h. h);
      top = by_lt_z b.top y (λ h. never _ o (clear_parity b x y s es (above b x y h) p q)) (λ h. h);
    }

-- a chain that comes back in the file comes back where it is placed
ends_placed : (pl : Placing) (a s : At) (ps : List Piece) → ends_at a s ps ≡ true → last_of (placed pl s) (map (piece_at pl) ps) ≡ placed pl a
ends_placed pl a s [] h = ap (placed pl) (same_is_equal.yes s a h)
ends_placed pl a s (p ∷ ps) h = ends_placed pl a (file_point_at p.end) ps h

pub contour_boxed : (s : FilePoint) (ps : List Piece) (pl : Placing) → closed_from (file_point_at s) ps ≡ true → Encloses (contour_of s ps pl) (box_of s ps pl)
unfolding contour_of
contour_boxed s ps pl h =
    let a : At = placed pl (file_point_at s) in
    let es : List At = map (piece_at pl) ps in
    let back : (last_of a es).y ≡ a.y = ap (λ (z : At). z.y) (ends_placed pl (file_point_at s) (file_point_at s) ps h) in
    record { inside = λ x y o. chain_inside (box_from (single a) es) x y a es (from_keeps (single a) es a (single_holds a)) (from_holds (single a) es) back (sym (odd_parity a es (spot x y)) ∙ o) }
