-- What each step of laying a drawing lays.
use Rattle.std.specs.Prelude.{ℕ, ◌*◌, false, List, map, drop}
use Rattle.laid.specs.Laid.{LaidObject, laid_objects, lay_all, lay_block, lay_copy, lay_from, lay_one, lay_owned, up_to}
use Rattle.laid.specs.Puts.{shifted}
use Rattle.laid.specs.Stacks.{apertures_of, objects_of, pieces_in}
use Rattle.laid.specs.declared.drawing.Drawing.{Drawing}
use Rattle.laid.specs.declared.kinds.Shift.{Shift}
use Rattle.records.specs.Records.{seen_object}
use Rattle.records.specs.declared.kinds.Object.{Object}
use Rattle.records.specs.declared.kinds.Repeat.{Repeat}

-- An object of the layer, moved by a shift.
unfoldable pub moved_object : Drawing → Shift → Object → List LaidObject
moved_object d s o = lay_one (pieces_in d) (lay_block (apertures_of d) (objects_of d) (pieces_in d) 8) 128 (shifted s.x s.y) false (seen_object o)

-- Objects of a step and repeat, moved by a shift.
unfoldable pub moved_objects : Drawing → Shift → List Object → List LaidObject
moved_objects d s os =
    lay_all (pieces_in d) (lay_block (apertures_of d) (objects_of d) (pieces_in d) 8) 128 (shifted s.x s.y) false (map seen_object os)

-- The copy of a step and repeat in column a and row b.
unfoldable pub copy_at : Drawing → Repeat → ℕ → ℕ → List LaidObject
copy_at d r a b = lay_copy (apertures_of d) (objects_of d) (pieces_in d) 8 r (a * r.step_x) (b * r.step_y)

-- The copies in column a.
abbrev pub column_at : Drawing → Repeat → ℕ → List LaidObject
column_at d r a = up_to r.rows (copy_at d r a)

-- All copies.
abbrev pub all_copies : Drawing → Repeat → List LaidObject
all_copies d r = up_to r.columns (column_at d r)

-- The object with the number i.
unfoldable pub numbered : Drawing → ℕ → Object → List LaidObject
numbered d i o = lay_owned (apertures_of d) (objects_of d) (pieces_in d) 8 i (seen_object o) o.owner

-- The objects from the one with the number i on.
unfoldable pub from_number : Drawing → ℕ → List LaidObject
from_number d i = lay_from (apertures_of d) (objects_of d) (pieces_in d) 8 i (drop i (objects_of d))

-- The whole drawing.
abbrev pub whole_of : Drawing → List LaidObject
whole_of d = laid_objects (apertures_of d) (objects_of d) (pieces_in d)
