-- The ranges of numbers and points that a command gives.
use Rattle.std.proofs.Common.{◌≡◌, ℕ, ◌-◌, ◌*◌, ◌≤◌, true, ◌&&◌, leb, ℤ, ◌+ℤ◌, nat_abs, Some, None, Ok, Option, refl, subst, arith}
use Rattle.plane.specs.Plane.{At, spot}
use Rattle.recordlaws.proofs.Fits.{PointFit}
use Rattle.recordlaws.proofs.Holding.{Holds, held, then_holds}
use Rattle.recordlaws.specs.Laws.{Repeats, SideHalf, Within}
use Rattle.rules.specs.Rules.{centre_of, ends_of, given, given_both, offset, point_by, point_of, repeats, round_half, side_half, taken_over, ticks_of, wanted, within}
use Rattle.rules.specs.declared.measures.Scale.{Scale}
use Rattle.std.proofs.lemmas.Bool.{and_parts, leb-true}
use Rattle.std.specs.Option as options
use Rattle.words.specs.Words.{onward}
use borrow.Author.Differences.{ints}

pub round_fits : (h : ℕ) → Holds (λ h. h ≤ 5000) (round_half h)
round_fits h = held (λ h. h ≤ 5000) (leb h 5000) 22 (Ok h) (λ e. leb-true h 5000 e)

pub side_fits : (h : ℕ) → Holds SideHalf (side_half h)
side_fits h = held SideHalf (leb 1 h && leb h 5000) 22 (Ok h) (λ e. let p = and_parts (leb 1 h) (leb h 5000) e in (leb-true 1 h p.0, leb-true h 5000 p.1))

pub repeats_fit : (i step : ℕ) → repeats i step ≡ true → Repeats i step
repeats_fit i step e =
    let p = and_parts (leb 1 i && leb i 100) (leb ((i - 1) * step) 60000) e in
    let q = and_parts (leb 1 i) (leb i 100) p.0 in
    (leb-true 1 i q.0, leb-true i 100 q.1, leb-true ((i - 1) * step) 60000 p.1)

-- The ticks of a value, if it is written.
abbrev pub TicksFit : ℕ → Option ℤ → Type 0
TicksFit n None = Unit {0}
TicksFit n (Some t) = nat_abs t ≤ n

within_fits : (n : ℕ) (t : ℤ) → Holds (λ t. nat_abs t ≤ n) (within n t)
within_fits n t = held (λ t. nat_abs t ≤ n) (leb (nat_abs t) n) 22 (Ok t) (λ e. leb-true (nat_abs t) n e)

given_fits : (n : ℕ) (c : Scale) (v : Option ℤ) → Holds (TicksFit n) (given n c v)
given_fits n c None = tt
given_fits n c (Some v) = then_holds (λ t. nat_abs t ≤ n) (TicksFit n) (within n (ticks_of c v)) (λ t. Ok (Some t)) (within_fits n (ticks_of c v)) (λ t h. h)

-- The ticks of two values, as far as they are written.
abbrev pub BothFit : ℕ → Option ℤ × Option ℤ → Type 0
BothFit n p = TicksFit n p.0 × TicksFit n p.1

pub both_fit : (n : ℕ) (c : Scale) (x y : Option ℤ) → Holds (BothFit n) (given_both n c x y)
both_fit n c x y =
    then_holds (TicksFit n) (BothFit n) (given n c x) (λ x. onward (given n c y) (λ y. Ok (x, y))) (given_fits n c x) (λ x f.
    then_holds (TicksFit n) (BothFit n) (given n c y) (λ y. Ok (x, y)) (given_fits n c y) (λ y g. (f, g)))

pub wanted_is : {A : Type 0} (o : Option A) → Holds (λ a. o ≡ Some a) (wanted o)
wanted_is None = tt
wanted_is (Some a) = refl

-- A coordinate that is given, or that of the current point.
taken_over_lem : (z current : Option ℤ) → TicksFit 30000 z → TicksFit 30000 current → Holds (λ t. nat_abs t ≤ 30000) (taken_over z current)
taken_over_lem (Some z) current f g = f
taken_over_lem None None f g = tt
taken_over_lem None (Some c) f g = g

across : (p : Option At) → PointFit p → TicksFit 30000 (options.option_map (λ a. a.x) p)
across None f = tt
across (Some p) f = f.across

up : (p : Option At) → PointFit p → TicksFit 30000 (options.option_map (λ a. a.y) p)
up None f = tt
up (Some p) f = f.up

point_by_fits : (p : Option At) (to : Option ℤ × Option ℤ) → PointFit p → BothFit 30000 to → Holds (Within 30000) (point_by p to)
point_by_fits p to f g =
    then_holds (λ t. nat_abs t ≤ 30000) (Within 30000) (taken_over to.0 (options.option_map (λ a. a.x) p))
    (λ x. onward (taken_over to.1 (options.option_map (λ a. a.y) p)) (λ y. Ok (spot x y))) (taken_over_lem to.0 (options.option_map (λ a. a.x) p) g.0 (across p f)) (λ x i.
    then_holds (λ t. nat_abs t ≤ 30000) (Within 30000) (taken_over to.1 (options.option_map (λ a. a.y) p)) (λ y. Ok (spot x y))
    (taken_over_lem to.1 (options.option_map (λ a. a.y) p) g.1 (up p f)) (λ y j. record { across = i; up = j }))

pub point_of_fits : (c : Scale) (p : Option At) (x y : Option ℤ) → PointFit p → Holds (Within 30000) (point_of c p x y)
point_of_fits c p x y f =
    then_holds (BothFit 30000) (Within 30000) (given_both 30000 c x y) (point_by p) (both_fit 30000 c x y) (λ to g. point_by_fits p to f g)

-- A draw goes from a point within ±30,000 to another.
abbrev pub EndsFit : At × At → Type 0
EndsFit e = Within 30000 e.0 × Within 30000 e.1

pub ends_fit : (p : Option At) (to : Option ℤ × Option ℤ) → PointFit p → BothFit 30000 to → Holds EndsFit (ends_of p to)
ends_fit p to f g =
    then_holds (λ from. p ≡ Some from) EndsFit (wanted p) (λ from. onward (point_by (Some from) to) (λ q. Ok (from, q))) (wanted_is p) (λ from e.
    let h : Within 30000 from = subst PointFit e f in
    then_holds (Within 30000) EndsFit (point_by (Some from) to) (λ q. Ok (from, q)) (point_by_fits (Some from) to h g) (λ q k. (h, k)))

-- The centre of an arc.

offset_fits : (i : Option ℤ) → TicksFit 15000 i → nat_abs (offset i) ≤ 15000
offset_fits None f = omega arith
offset_fits (Some z) f = f

sum_fits : (a b : ℤ) → nat_abs a ≤ 30000 → nat_abs b ≤ 15000 → nat_abs (a +ℤ b) ≤ 45000
sum_fits a b f g = omega (arith, ints)

pub centre_fits : (a : At) (by : Option ℤ × Option ℤ) → Within 30000 a → BothFit 15000 by → Within 45000 (centre_of a by)
centre_fits a by w f =
    record { across = sum_fits a.x (offset by.0) w.across (offset_fits by.0 f.0); up = sum_fits a.y (offset by.1) w.up (offset_fits by.1 f.1) }
