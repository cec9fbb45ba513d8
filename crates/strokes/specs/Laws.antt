-- what follows from the definitions of the strokes
use Rattle.std.specs.Prelude.{◌≡◌, ℕ, ◌+◌, ◌-◌, ◌*◌, Bool, true, false, ◌&&◌, ◌||◌, ℤ, pos, ◌+ℤ◌, int_le, nat_le}
use Rattle.plane.specs.Plane.{At, way, moved, norm_of}
use Rattle.shapes.specs.Flashes.{in_circle}
use Rattle.strokes.specs.Strokes.{in_stroke, stroke_at}
use Rattle.strokes.specs.Arcs.{excess_of, in_ring, in_arc, arc_at}

-- a stroke that goes nowhere is the disc at its place, and not a band
abbrev pub StrokeToItselfIsDisc : Type 0
StrokeToItselfIsDisc = (r : ℕ) (s p : At) → in_stroke r s s p ≡ in_circle r (way s p)

-- a stroke and its reverse cover the same points
abbrev pub StrokeReversed : Type 0
StrokeReversed = (r : ℕ) (s e p : At) → in_stroke r e s p ≡ in_stroke r s e p

-- where |s - c| = |e - c|, a clockwise arc covers what the counterclockwise arc from e to s covers
abbrev pub ArcReversed : Type 0
ArcReversed = (r : ℕ) (c s e p : At) → norm_of (way c s) ≡ norm_of (way c e) → in_arc r true c s e p ≡ in_arc r false c e s p

-- where the radius of the middle line is a whole number n, the ring holds what lies from n - r to n + r from the centre
abbrev pub RingByRadius : Type 0
RingByRadius = (r n : ℕ) (t : At) → in_ring r (pos (n * n)) (excess_of r (pos (n * n)) t) ≡ (int_le (norm_of t) (pos ((n + r) * (n + r))) && (nat_le n r || int_le (pos ((n - r) * (n - r))) (norm_of t)))

-- a stroke of half 0 covers nothing
pub record NothingAtHalf0 : Type 0 where
  pub stroke : (s e p : At) → in_stroke 0 s e p ≡ false
  pub arc : (clockwise : Bool) (c s e p : At) → in_arc 0 clockwise c s e p ≡ false

-- moving a stroke and the point together changes nothing
pub record StrokesMove : Type 0 where
  pub stroke : (m s e : At) (r : ℕ) (x y : ℤ) → stroke_at r (moved m s) (moved m e) (x +ℤ m.x) (y +ℤ m.y) ≡ stroke_at r s e x y
  pub arc : (m c s e : At) (r : ℕ) (clockwise : Bool) (x y : ℤ) → arc_at r clockwise (moved m c) (moved m s) (moved m e) (x +ℤ m.x) (y +ℤ m.y) ≡ arc_at r clockwise c s e x y
