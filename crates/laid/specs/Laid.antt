-- The laid objects of a drawing, from its records: in file order, blocks and step and repeat written out.
use Rattle.std.specs.Prelude.{ℕ, zero, suc, ◌+◌, ◌*◌, Bool, true, false, cond, not, ◌&&◌, List, [], ◌∷◌, ◌++◌, map, take, drop, ◌==◌, nat_le, nat_lt}
use Rattle.contour.specs.Chain.{differ, last_of}
use Rattle.forms.specs.declared.Polarity.TheVariants.{Clear, Dark}
use Rattle.forms.specs.declared.Polarity.{Polarity}
use Rattle.laid.specs.Puts.{Put, composed, flashed_at, put_at, shifted, still}
use Rattle.plane.specs.Plane.{At, same}
use Rattle.records.specs.Records as seen
use Rattle.records.specs.Records.{ApertureSeen, FigureSeen, ObjectSeen, OutlineSeen}
use Rattle.records.specs.Weights.{figure_at, owned_from}
use Rattle.records.specs.declared.kinds.Owner.TheVariants.{Block, Layer, Repeat}
use Rattle.records.specs.declared.kinds.Owner.{Owner}
use Rattle.records.specs.declared.kinds.Repeat.{Repeat as RepeatRecord}
use Rattle.std.specs.List.{prefix_len}

-- What a laid object covers, by its placed points.
pub data LaidOutline : Type 0 where
  circle : At → ℕ → LaidOutline
  rectangle : At → ℕ → ℕ → LaidOutline
  obround : At → ℕ → ℕ → LaidOutline
  stroke : At → At → ℕ → LaidOutline
  arc : At → At → At → Bool → ℕ → LaidOutline
  contour : At → List At → LaidOutline

-- A laid object: dark or clear, and what it covers.
pub record LaidObject : Type 0 where
  pub dark : Bool
  pub outline : LaidOutline

-- A polarity as whether it is dark.
abbrev pub is_dark : Polarity → Bool
is_dark Dark = true
is_dark Clear = false

-- Each clear flash around an object turns its polarity.
abbrev pub laid_as : Bool → Polarity → LaidOutline → List LaidObject
laid_as turn p o = record { dark = differ turn (is_dark p); outline = o } ∷ []

-- One mirror axis turns the sense of an arc, two do not.
abbrev pub sense : Put → Bool → Bool
sense q clockwise = differ (differ q.mirror_x q.mirror_y) clockwise

-- A contour's pieces: n from the one with the number `first` on. (Pieces that do not lead back to the contour's first
-- point count as none; no file that is accepted has such.)
abbrev pub closed_only : At → List At → List At
closed_only a es = cond (same (last_of a es) a) es []

abbrev pub pieces_of : List At → At → ℕ → ℕ → List At
pieces_of pcs a first n = closed_only a (take n (drop first pcs))

-- What one object lays, put by q. A flash of a block lays the block, by `inner`, if its number is below k: a block
-- flashes only earlier ones.
abbrev pub lay_outline : List At → (Put → Bool → ℕ → List LaidObject) → ℕ → Put → Bool → Polarity → OutlineSeen → List LaidObject
lay_outline pcs inner k q turn p (seen.circle a h) = laid_as turn p (circle (put_at q a) h)
lay_outline pcs inner k q turn p (seen.rectangle a x y) = laid_as turn p (rectangle (put_at q a) x y)
lay_outline pcs inner k q turn p (seen.obround a x y) = laid_as turn p (obround (put_at q a) x y)
lay_outline pcs inner k q turn p (seen.stroke s e h) = laid_as turn p (stroke (put_at q s) (put_at q e) h)
lay_outline pcs inner k q turn p (seen.arc s e c clockwise h) = laid_as turn p (arc (put_at q s) (put_at q e) (put_at q c) (sense q clockwise) h)
lay_outline pcs inner k q turn p (seen.contour a first n) = laid_as turn p (contour (put_at q a) (map (put_at q) (pieces_of pcs a first n)))
lay_outline pcs inner k q turn p (seen.block n a m) =
    cond (nat_lt n k) (inner (composed q (flashed_at a m)) (cond (is_dark p) turn (not turn)) n) []

abbrev pub lay_one : List At → (Put → Bool → ℕ → List LaidObject) → ℕ → Put → Bool → ObjectSeen → List LaidObject
lay_one pcs inner k q turn o = lay_outline pcs inner k q turn o.polarity o.outline

-- What objects lay, one after another.
abbrev pub lay_all : List At → (Put → Bool → ℕ → List LaidObject) → ℕ → Put → Bool → List ObjectSeen → List LaidObject
lay_all pcs inner k q turn [] = []
lay_all pcs inner k q turn (o ∷ os) = lay_one pcs inner k q turn o ++ lay_all pcs inner k q turn os

-- The objects of the block with the number n.
abbrev pub objects_in : ℕ → List ObjectSeen → FigureSeen → List ObjectSeen
objects_in n os (seen.circle h) = []
objects_in n os (seen.rectangle a b) = []
objects_in n os (seen.obround a b) = []
objects_in n os (seen.block first) = owned_from n first os

abbrev pub block_objects : List ApertureSeen → List ObjectSeen → ℕ → List ObjectSeen
block_objects aps os n = objects_in n os (figure_at aps n)

-- What the block with the number n lays, put by q: its objects one after another, blocks in it at most `deep` deep.
abbrev pub lay_block : List ApertureSeen → List ObjectSeen → List At → ℕ → Put → Bool → ℕ → List LaidObject
lay_block aps os pcs zero q turn n = []
lay_block aps os pcs (suc deep) q turn n = lay_all pcs (lay_block aps os pcs deep) n q turn (block_objects aps os n)

-- f 0, f 1 and so on, below n.
abbrev pub up_to : {X : Type 0} → ℕ → (ℕ → List X) → List X
up_to zero f = []
up_to (suc n) f = up_to n f ++ f n

-- The object belongs to the step and repeat whose first object has this number.
abbrev pub is_repeat : ℕ → Owner → Bool
is_repeat first Layer = false
is_repeat first (Block k) = false
is_repeat first (Repeat r) = r.first == first

-- The objects of a step and repeat: from its first one on, as long as they belong to it.
abbrev pub repeat_objects : RepeatRecord → List ObjectSeen → List ObjectSeen
repeat_objects r os = take (prefix_len (λ o. is_repeat r.first o.owner) (drop r.first os)) (drop r.first os)

-- A copy is moved by at most 60,000 ticks along each axis. (One that is to be moved further lays nothing; no file that
-- is accepted has such.)
abbrev pub in_reach : ℕ → ℕ → Bool
in_reach x y = nat_le x 60000 && nat_le y 60000

-- A copy of a step and repeat: its objects, moved by (x, y).
abbrev pub lay_copy : List ApertureSeen → List ObjectSeen → List At → ℕ → RepeatRecord → ℕ → ℕ → List LaidObject
lay_copy aps os pcs deep r x y =
    cond (in_reach x y) (lay_all pcs (lay_block aps os pcs deep) 128 (shifted x y) false (repeat_objects r os)) []

-- Step and repeat lays its objects at the shifts (a × I, b × J): for each a from 0 on, all b from 0 on.
abbrev pub lay_repeat : List ApertureSeen → List ObjectSeen → List At → ℕ → RepeatRecord → List LaidObject
lay_repeat aps os pcs deep r =
    up_to r.columns (λ a. up_to r.rows (λ b. lay_copy aps os pcs deep r (a * r.step_x) (b * r.step_y)))

-- What the object with the number i lays: on the layer itself; in a block nothing by itself; the first one of a step
-- and repeat all copies of its objects.
abbrev pub lay_owned : List ApertureSeen → List ObjectSeen → List At → ℕ → ℕ → ObjectSeen → Owner → List LaidObject
lay_owned aps os pcs deep i o Layer = lay_one pcs (lay_block aps os pcs deep) 128 still false o
lay_owned aps os pcs deep i o (Block k) = []
lay_owned aps os pcs deep i o (Repeat r) = cond (r.first == i) (lay_repeat aps os pcs deep r) []

-- What the objects from the one with the number i on lay.
abbrev pub lay_from : List ApertureSeen → List ObjectSeen → List At → ℕ → ℕ → List ObjectSeen → List LaidObject
lay_from aps os pcs deep i [] = []
lay_from aps os pcs deep i (o ∷ rest) = lay_owned aps os pcs deep i o o.owner ++ lay_from aps os pcs deep (i + 1) rest

-- The laid objects of a drawing with these apertures, objects and pieces: blocks are at most eight deep.
unfoldable pub laid_objects : List ApertureSeen → List ObjectSeen → List At → List LaidObject
laid_objects aps os pcs = lay_from aps os pcs 8 0 os
