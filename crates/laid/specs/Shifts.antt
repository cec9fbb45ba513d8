-- How far copies are moved.
use Rattle.std.specs.Prelude.{◌≡◌, ℕ, true, false, cond, Some, None, Option, nat_le}
use Rattle.laid.specs.Laid.{in_reach}
use Rattle.laid.specs.declared.kinds.Shift.{Shift}

-- A move along an axis, none past 60,000.
abbrev pub moved : ℕ → Option ℕ
moved x = cond (nat_le x 60000) (Some x) None

-- The answer is the shift by (x, y), none if that is out of reach.
abbrev pub ShiftOf : ℕ → ℕ → Option Shift → Type 0
ShiftOf x y (Some s) = (in_reach x y ≡ true) × (s.x ≡ x) × (s.y ≡ y)
ShiftOf x y None = in_reach x y ≡ false
