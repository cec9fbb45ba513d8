-- laws of the contour
use Rattle.std.proofs.Common.{◌≡◌, ℕ, ◌+◌, ◌%◌, Bool, cond, not, ◌&&◌, eqb, List, [], ◌∷◌, ◌++◌, map, ℤ, pos, ◌+ℤ◌, sym, refl, ap, ◌∙◌, add_assoc, add_comm, zero-add, arith}
use lib.Signed.{le_z, lt_z}
use borrow.Author.Differences.{ints}
use Rattle.plane.specs.Plane.{At, spot, way, moved, cross_of}
use Rattle.plane.proofs.Ring.{way_moved}
use Rattle.contour.specs.Chain.{left_of, counts, crossings, in_contour, last_of}
use Rattle.contour.specs.Laws.{ContourRestarted, ContourMoves}

crossings_join : (s : At) (es fs : List At) (p : At) → crossings s (es ++ fs) p ≡ crossings s es p + crossings (last_of s es) fs p
crossings_join s [] fs p = sym (zero-add (crossings s fs p))
crossings_join s (e ∷ es) fs p = ap (λ (n : ℕ). cond (counts s e p) 1 0 + n) (crossings_join e es fs p) ∙ sym (add_assoc (cond (counts s e p) 1 0) (crossings e es p) (crossings (last_of e es) fs p))

last_join : (s : At) (es fs : List At) → last_of s (es ++ fs) ≡ last_of (last_of s es) fs
last_join s [] fs = refl
last_join s (e ∷ es) fs = last_join e es fs

pub contour_restarted : ContourRestarted
unfolding in_contour
contour_restarted s es fs p h =
    let t : At = last_of s es in
    let back : last_of t fs ≡ s = sym (last_join s es fs) ∙ h in
    ap (λ (n : ℕ). eqb (n % 2) 1)
    (crossings_join t fs es p
    ∙ (ap (λ (z : At). crossings t fs p + crossings z es p) back ∙ (add_comm (crossings t fs p) (crossings s es p) ∙ sym (crossings_join s es fs p))))

height_moved : (m a b : ℤ) → le_z (a +ℤ m) (b +ℤ m) ≡ le_z a b
height_moved m a b = grind (arith, ints)

left_moved : (m lo hi p : At) → left_of (moved m lo) (moved m hi) (moved m p) ≡ left_of lo hi p
left_moved m lo hi p =
    ap (λ (d : At). lt_z (pos 0) (cross_of d (way (moved m lo) (moved m p)))) (way_moved m lo hi) ∙ ap (λ (w : At). lt_z (pos 0) (cross_of (way lo hi) w)) (way_moved m lo p)

counts_moved : (m s e p : At) → counts (moved m s) (moved m e) (moved m p) ≡ counts s e p
counts_moved m s e p =
    let F : Bool → Bool → Bool → Bool → Bool = λ a b l r. cond a (not b && l) (b && r) in
    let sm = moved m s in
    let em = moved m e in
    let pm = moved m p in
    ap (λ (z : Bool). F z (le_z em.y pm.y) (left_of sm em pm) (left_of em sm pm)) (height_moved m.y s.y p.y)
    ∙ (ap (λ (z : Bool). F (le_z s.y p.y) z (left_of sm em pm) (left_of em sm pm)) (height_moved m.y e.y p.y)
    ∙ (ap (λ (z : Bool). F (le_z s.y p.y) (le_z e.y p.y) z (left_of em sm pm)) (left_moved m s e p) ∙ ap (F (le_z s.y p.y) (le_z e.y p.y) (left_of s e p)) (left_moved m e s p)))

crossings_moved : (m s : At) (es : List At) (p : At) → crossings (moved m s) (map (moved m) es) (moved m p) ≡ crossings s es p
crossings_moved m s [] p = refl
crossings_moved m s (e ∷ es) p =
    ap (λ (b : Bool). cond b 1 0 + crossings (moved m e) (map (moved m) es) (moved m p)) (counts_moved m s e p) ∙ ap (λ (n : ℕ). cond (counts s e p) 1 0 + n) (crossings_moved m e es p)

pub contour_moves : ContourMoves
unfolding in_contour
contour_moves m s es x y = ap (λ (n : ℕ). eqb (n % 2) 1) (crossings_moved m s es (spot x y))
