-- The steps of a film's grid along one axis.
use Rattle.std.specs.Prelude.{ℕ, ◌+◌, ◌*◌, ◌/◌, ℤ, pos, ◌+ℤ◌}

-- the middle of step k, from an origin and by a pitch
abbrev pub middle_of : ℤ → ℕ → ℕ → ℤ
middle_of origin pitch k = origin +ℤ pos (pitch * k + pitch / 2)
