-- Laws of the records that reading a file takes, accepted or not.
use Rattle.std.specs.Prelude.{◌≡◌, ℕ, ◌+◌, ◌-◌, ◌*◌, ◌<◌, ◌≤◌, List, [], ◌∷◌, length, take, drop, unsigned_abs}
use Rattle.contour.specs.Chain.{last_of}
use Rattle.drawing.specs.Books.{Books, rooms_for}
use Rattle.drawing.specs.Reading.{read_file}
use Rattle.laid.specs.Laid.{laid_objects}
use Rattle.plane.specs.Plane.{At}
use Rattle.records.specs.Records as seen
use Rattle.records.specs.Records.{ApertureSeen, FigureSeen, ObjectSeen, OutlineSeen}
use Rattle.records.specs.Weights.{figure_at, weight_at}
use Rattle.records.specs.declared.kinds.Owner.TheVariants.{Block, Layer, Repeat}
use Rattle.records.specs.declared.kinds.Owner.{Owner}

-- The point lies within n either way, in x and in y.
pub record Within (n : ℕ) (a : At) : Type 0 where
  pub across : unsigned_abs a.x ≤ n
  pub up : unsigned_abs a.y ≤ n

-- The half of a side is 1 to 5,000.
abbrev pub SideHalf : ℕ → Type 0
SideHalf h = (1 ≤ h) × (h ≤ 5000)

-- Halves are within their ranges; a block begins at an object that may be the next one.
abbrev pub FigureSound : ℕ → FigureSeen → Type 0
FigureSound n (seen.circle h) = h ≤ 5000
FigureSound n (seen.rectangle a b) = SideHalf a × SideHalf b
FigureSound n (seen.obround a b) = SideHalf a × SideHalf b
FigureSound n (seen.block first) = first ≤ n

-- So are all apertures, n objects having been taken.
abbrev pub AperturesSound : ℕ → List ApertureSeen → Type 0
AperturesSound n [] = Unit {0}
AperturesSound n (a ∷ rest) = FigureSound n a.figure × AperturesSound n rest

-- The figure is a block.
abbrev pub IsBlock : FigureSeen → Type 0
IsBlock (seen.circle h) = ⊥
IsBlock (seen.rectangle a b) = ⊥
IsBlock (seen.obround a b) = ⊥
IsBlock (seen.block first) = Unit {0}

-- A contour's pieces are there, one or more, and lead back to its first point.
pub record ContourSound (pcs : List At) (a : At) (first count : ℕ) : Type 0 where
  pub some : 1 ≤ count
  pub there : first + count ≤ length pcs
  pub closed : last_of a (take count (drop first pcs)) ≡ a

-- Points within ±30,000, centres within ±45,000, halves within their ranges, contours closed, and flashes of blocks
-- that are there.
abbrev pub OutlineSound : List ApertureSeen → List At → OutlineSeen → Type 0
OutlineSound aps pcs (seen.circle p h) = Within 30000 p × (h ≤ 5000)
OutlineSound aps pcs (seen.rectangle p a b) = Within 30000 p × SideHalf a × SideHalf b
OutlineSound aps pcs (seen.obround p a b) = Within 30000 p × SideHalf a × SideHalf b
OutlineSound aps pcs (seen.stroke s e h) = Within 30000 s × Within 30000 e × (h ≤ 5000)
OutlineSound aps pcs (seen.arc s e c clockwise h) = Within 30000 s × Within 30000 e × Within 45000 c × (h ≤ 5000)
OutlineSound aps pcs (seen.contour a first count) = Within 30000 a × ContourSound pcs a first count
OutlineSound aps pcs (seen.block n p m) = Within 30000 p × (n < length aps) × IsBlock (figure_at aps n)

-- A block flashes only earlier blocks.
abbrev pub Earlier : ℕ → OutlineSeen → Type 0
Earlier k (seen.circle p h) = Unit {0}
Earlier k (seen.rectangle p a b) = Unit {0}
Earlier k (seen.obround p a b) = Unit {0}
Earlier k (seen.stroke s e h) = Unit {0}
Earlier k (seen.arc s e c clockwise h) = Unit {0}
Earlier k (seen.contour a first count) = Unit {0}
Earlier k (seen.block n p m) = n < k

-- A step and repeat repeats 1 to 100 times each way, and does not go past 60,000.
abbrev pub Repeats : ℕ → ℕ → Type 0
Repeats i step = (1 ≤ i) × (i ≤ 100) × ((i - 1) * step ≤ 60000)

-- An object belongs to the layer, to a block that is there and flashes only earlier blocks, or to a step and repeat.
abbrev pub OwnerSound : List ApertureSeen → OutlineSeen → Owner → Type 0
OwnerSound aps o Layer = Unit {0}
OwnerSound aps o (Block k) = (k < length aps) × IsBlock (figure_at aps k) × Earlier k o
OwnerSound aps o (Repeat r) = Repeats r.columns r.step_x × Repeats r.rows r.step_y

-- All objects are sound.
abbrev pub ObjectsSound : List ApertureSeen → List At → List ObjectSeen → Type 0
ObjectsSound aps pcs [] = Unit {0}
ObjectsSound aps pcs (o ∷ rest) = OutlineSound aps pcs o.outline × OwnerSound aps o.outline o.owner × ObjectsSound aps pcs rest

-- All pieces go on to points within ±30,000.
abbrev pub PiecesSound : List At → Type 0
PiecesSound [] = Unit {0}
PiecesSound (a ∷ rest) = Within 30000 a × PiecesSound rest

-- The records are within their ranges, contours are closed, the numbers of blocks fall, and no block is deeper than 8.
pub record RecordsSound (b : Books) : Type 0 where
  pub apertures : AperturesSound (length b.objects) b.apertures
  pub objects : ObjectsSound b.apertures b.pieces b.objects
  pub pieces : PiecesSound b.pieces
  pub depth : (k : ℕ) → k < length b.apertures → (weight_at b.apertures b.objects k).depth ≤ 8
  pub few : b.laid ≤ 1000000

-- So are the records of every file, whatever the numbers of slots, also those taken before a refusal.
abbrev pub FilesAreSound : Type 0
FilesAreSound = (a o p : ℕ) (xs : List ℕ) → RecordsSound (read_file (rooms_for a o p) xs).books

-- The laid count of a file is the number of its laid objects.
abbrev pub LaidCounted : Type 0
LaidCounted = (a o p : ℕ) (xs : List ℕ) → let b = (read_file (rooms_for a o p) xs).books in
    b.laid ≡ length (laid_objects b.apertures b.objects b.pieces)
