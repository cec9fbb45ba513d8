use Rattle.std.specs.Prelude.{◌≡◌, ℕ, suc, ◌+◌, ◌*◌, ◌/◌, ◌<◌, ◌≤◌, ℤ, pos, negsuc, ◌-ℤ◌, ◌*ℤ◌, neg_ℤ, unsigned_abs}
use Rattle.ticks.specs.declared.Decimals.TheVariants.{Five, Four, Six}
use Rattle.ticks.specs.declared.Decimals.{Decimals}
use Rattle.ticks.specs.declared.Unit.TheVariants.{Inch, Millimetre}
use Rattle.ticks.specs.declared.Unit.{Unit as MeasureUnit}

-- A millimetre has 200 ticks, an inch 5,080.
abbrev pub factor : MeasureUnit → ℕ
factor Millimetre = 200
factor Inch = 5080

-- How many decimals there are.
abbrev pub places_of : Decimals → ℕ
places_of Four = 4
places_of Five = 5
places_of Six = 6

-- A coordinate with m decimals is written as 10^m times its number.
abbrev pub divisor : Decimals → ℕ
divisor Four = 10000
divisor Five = 100000
divisor Six = 1000000

-- n / d to the nearest whole number, a half going up.
abbrev pub nearest : ℕ → ℕ → ℕ
nearest n d = (2 * n + d) / (2 * d)

-- v / d to the nearest whole number, a half going away from zero.
abbrev pub nearest_z : ℤ → ℕ → ℤ
nearest_z (pos n) d = pos (nearest n d)
nearest_z (negsuc n) d = neg_ℤ (pos (nearest (suc n) d))

-- The ticks of a coordinate v.
abbrev pub to_ticks : MeasureUnit → Decimals → ℤ → ℤ
to_ticks u m v = nearest_z (v *ℤ pos (factor u)) (divisor m)

-- The ticks of half a size of s millionths.
abbrev pub half_ticks : MeasureUnit → ℕ → ℕ
half_ticks u s = nearest (s * factor u) 2000000

-- The ticks of a repeat step of s millionths.
abbrev pub step_ticks : MeasureUnit → ℕ → ℕ
step_ticks u s = nearest (s * factor u) 1000000

-- r is nearest to v / d: twice the distance of v from r × d is at most d, and at a tie r lies farther from zero.
pub record Nearest (v : ℤ) (d : ℕ) (r : ℤ) : Type 0 where
  pub near : 2 * unsigned_abs (v -ℤ (r *ℤ pos d)) ≤ d
  pub tie : 2 * unsigned_abs (v -ℤ (r *ℤ pos d)) ≡ d → unsigned_abs v < unsigned_abs r * d

-- No two numbers are nearest to v / d.
abbrev pub NearestIsOne : Type 0
NearestIsOne = (v : ℤ) (d : ℕ) (r q : ℤ) → 0 < d → Nearest v d r → Nearest v d q → r ≡ q

-- The negated coordinate has the negated ticks.
abbrev pub SignSymmetric : Type 0
SignSymmetric = (u : MeasureUnit) (m : Decimals) (v : ℤ) → to_ticks u m (neg_ℤ v) ≡ neg_ℤ (to_ticks u m v)
