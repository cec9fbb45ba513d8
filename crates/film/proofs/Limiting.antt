-- The limits as facts, and facts as the limits.
use Rattle.std.proofs.Common.{◌≡◌, ℕ, ◌+◌, ◌-◌, ◌*◌, ◌/◌, ◌%◌, ◌≤◌, true, ◌&&◌, ℤ, pos, ◌+ℤ◌, ◌≤ℤ◌, refl, arith}
use lib.Signed.{le_z}
use Rattle.std.proofs.lemmas.Nat.{mul-le}
use Rattle.std.proofs.lemmas.Bool.{and_parts, and_from, le-leb, eq-eqb}
use Rattle.std.proofs.lemmas.Int.{ints}
use Rattle.std.proofs.lemmas.Bool.Decides.{nat_tests}
use Rattle.film.specs.Made.{centred}
use Rattle.film.specs.Frame.{Frame, Limits, sized, in_limits, lowest, highest, EveryCentre}

-- a test of two signed numbers, as a fact
le_z_true : (a b : ℤ) → le_z a b ≡ true → a ≤ℤ b
le_z_true a b e = grind (arith, ints)

le_le_z : (a b : ℤ) → a ≤ℤ b → le_z a b ≡ true
le_le_z a b h = grind (arith, ints)

-- what lies from the first to the last centre lies between them
between : (o : ℤ) (p k n : ℕ) → k ≤ n → lowest ≤ℤ (o +ℤ pos (p * 0 + p / 2)) → (o +ℤ pos (p * n + p / 2)) ≤ℤ highest
    → (lowest ≤ℤ (o +ℤ pos (p * k + p / 2))) × ((o +ℤ pos (p * k + p / 2)) ≤ℤ highest)
between o p k n h a b = let q = mul-le p k p n (omega arith) h in (omega (arith, ints), omega (arith, ints))

-- the sizes and the pitch as facts
pub record Sized (w h p : ℕ) : Type 0 where
  pub wide : 1 ≤ w
  pub tall : 1 ≤ h
  pub least : 2 ≤ p
  pub most : p ≤ 64
  pub even : p % 2 ≡ 0
  pub across : w * p ≤ 60000
  pub down : h * p ≤ 60000

pub sizes : (w h p : ℕ) → sized w h p ≡ true → Sized w h p
sizes w h p e = record {
  wide = grind (arith, nat_tests);
  tall = grind (arith, nat_tests);
  least = grind (arith, nat_tests);
  most = grind (arith, nat_tests);
  even = grind (arith, nat_tests);
  across = grind (arith, nat_tests);
  down = grind (arith, nat_tests);
}

-- the limits row by row, each from its first centre to its last
pub limits_is : (f : Frame) → in_limits f ≡ (sized f.width f.height f.pitch && (centred f.ox f.pitch f.width && centred f.oy f.pitch f.height))
unfolding in_limits
limits_is f =
    let none : f.height - 1 - (f.height - 1) ≡ 0 = omega arith in
    let all : f.height - 1 - 0 ≡ f.height - 1 = omega arith in
    rw none (rw all refl)

pub limits_of : (f : Frame) → in_limits f ≡ true → Limits f
limits_of f e =
    let h = rw (limits_is f) at e in
    let a = and_parts (sized f.width f.height f.pitch) (centred f.ox f.pitch f.width && centred f.oy f.pitch f.height) h in
    let b = and_parts (centred f.ox f.pitch f.width) (centred f.oy f.pitch f.height) a.1 in
    let x = and_parts (le_z lowest (f.ox +ℤ pos (f.pitch * 0 + f.pitch / 2))) (le_z (f.ox +ℤ pos (f.pitch * (f.width - 1) + f.pitch / 2)) highest) b.0 in
    let y = and_parts (le_z lowest (f.oy +ℤ pos (f.pitch * 0 + f.pitch / 2))) (le_z (f.oy +ℤ pos (f.pitch * (f.height - 1) + f.pitch / 2)) highest) b.1 in
    let s = sizes f.width f.height f.pitch a.0 in
    record {
      wide = s.wide;
      tall = s.tall;
      least = s.least;
      most = s.most;
      even = s.even;
      across = s.across;
      down = s.down;
      columns = λ c h. between f.ox f.pitch c (f.width - 1) (omega arith) (le_z_true _ _ x.0) (le_z_true _ _ x.1);
      rows = λ r h. between f.oy f.pitch (f.height - 1 - r) (f.height - 1) (omega arith) (le_z_true _ _ y.0) (le_z_true _ _ y.1);
    }

pub limits_from : (f : Frame) → Limits f → in_limits f ≡ true
unfolding in_limits
limits_from f l =
    and_from _ _
    (and_from _ _ (le-leb 1 f.width l.wide) (and_from _ _ (le-leb 1 f.height l.tall)
    (and_from _ _ (le-leb 2 f.pitch l.least) (and_from _ _ (le-leb f.pitch 64 l.most)
    (and_from _ _ (eq-eqb (f.pitch % 2) 0 l.even)
    (and_from _ _ (le-leb (f.width * f.pitch) 60000 l.across) (le-leb (f.height * f.pitch) 60000 l.down)))))))
    (and_from _ _
    (and_from _ _ (le_le_z _ _ (l.columns 0 l.wide).0) (le_le_z _ _ (l.columns (f.width - 1) (omega (arith, l.wide))).1))
    (and_from _ _ (le_le_z _ _ (l.rows (f.height - 1) (omega (arith, l.tall))).0) (le_le_z _ _ (l.rows 0 l.tall).1)))

-- a film has at most 30,000 columns, and rows
pub narrow : (f : Frame) → Limits f → f.width ≤ 30000
narrow f l = omega (arith, mul-le f.width 2 f.width f.pitch (omega arith) l.least, l.across)

pub short : (f : Frame) → Limits f → f.height ≤ 30000
short f l = omega (arith, mul-le f.height 2 f.height f.pitch (omega arith) l.least, l.down)

pub every_centre : EveryCentre
every_centre f = (limits_of f, limits_from f)
