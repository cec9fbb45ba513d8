-- Where a block, or a copy of a step and repeat, lays points.
use Rattle.std.specs.Prelude.{ℕ, Bool, false, pos}
use Rattle.contour.specs.Chain.{differ}
use Rattle.plane.specs.Placed.{turned}
use Rattle.plane.specs.Plane.{At, moved, spot}
use Rattle.plane.specs.declared.points.Placing.{Placing}
use Rattle.records.specs.declared.kinds.Mirror.{Mirror}

-- Mirrored along x, along y, and then moved.
pub record Put : Type 0 where
  pub mirror_x : Bool
  pub mirror_y : Bool
  pub by : At

-- A placing of the program as plain values.
abbrev pub seen_placing : Placing → Put
seen_placing p = record { mirror_x = p.mirror_x; mirror_y = p.mirror_y; by = spot p.dx p.dy }

-- Where a point comes to lie.
abbrev pub put_at : Put → At → At
put_at q a = moved q.by (spot (turned q.mirror_x a.x) (turned q.mirror_y a.y))

-- Moved by (x, y), and not mirrored.
abbrev pub shifted : ℕ → ℕ → Put
shifted x y = record { mirror_x = false; mirror_y = false; by = spot (pos x) (pos y) }

-- As the file has it.
abbrev pub still : Put
still = shifted 0 0

-- A block flashed at p: mirrored as the mirror says, then moved to p.
abbrev pub flashed_at : At → Mirror → Put
flashed_at p m = record { mirror_x = m.x; mirror_y = m.y; by = p }

-- The inner one first, and then the outer.
abbrev pub composed : Put → Put → Put
composed outer inner = record {
  mirror_x = differ outer.mirror_x inner.mirror_x;
  mirror_y = differ outer.mirror_y inner.mirror_y;
  by = put_at outer inner.by;
}
