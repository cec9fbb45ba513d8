use Rattle.std.specs.Prelude.{ℕ, zero, suc, ◌+◌, min, max, Bool, false, cond, ◌&&◌, List, [], ◌∷◌, ◌++◌, get_or, take, drop, Some, None, Option, ◌==◌, nat_lt, slice_index_or}
use Rattle.records.specs.Records.{ApertureSeen, FigureSeen, ObjectSeen, OutlineSeen}
use Rattle.records.specs.Records as seen
use Rattle.records.specs.declared.kinds.Owner.TheVariants.{Block, Layer, Repeat}
use Rattle.records.specs.declared.kinds.Owner.{Owner}
use Rattle.records.specs.declared.weights.Weight.{Weight}
use Rattle.std.specs.List.{prefix_len}

-- Nothing: no depth, and nothing laid.
abbrev pub none : Weight
none = record { depth = 0; laid = 0 }

abbrev pub is_block : ℕ → Owner → Bool
is_block k Layer = false
is_block k (Block j) = j == k
is_block k (Repeat r) = false

-- The object belongs to block k.
abbrev pub owned_by : ℕ → ObjectSeen → Bool
owned_by k o = is_block k o.owner

-- The objects of block k, the first of which has the number n: from there on, as long as they belong to it.
abbrev pub owned_from : ℕ → ℕ → List ObjectSeen → List ObjectSeen
owned_from k n os = take (prefix_len (owned_by k) (drop n os)) (drop n os)

-- The depth of the block that an object flashes, 0 for any other object.
abbrev pub depth_by : List Weight → OutlineSeen → ℕ
depth_by ws (seen.circle p h) = 0
depth_by ws (seen.rectangle p a b) = 0
depth_by ws (seen.obround p a b) = 0
depth_by ws (seen.stroke s e h) = 0
depth_by ws (seen.arc s e c clockwise h) = 0
depth_by ws (seen.contour s first count) = 0
depth_by ws (seen.block n p m) = (get_or ws n none).depth

-- How many objects an object lays: a flash of a block those of the block, any other itself.
abbrev pub laid_by : List Weight → OutlineSeen → ℕ
laid_by ws (seen.circle p h) = 1
laid_by ws (seen.rectangle p a b) = 1
laid_by ws (seen.obround p a b) = 1
laid_by ws (seen.stroke s e h) = 1
laid_by ws (seen.arc s e c clockwise h) = 1
laid_by ws (seen.contour s first count) = 1
laid_by ws (seen.block n p m) = (get_or ws n none).laid

-- The greatest depth among the blocks that these objects flash.
abbrev pub deepest : List Weight → List ObjectSeen → ℕ
deepest ws [] = 0
deepest ws (o ∷ os) = max (depth_by ws o.outline) (deepest ws os)

-- How many objects these lay.
abbrev pub laid_in : List Weight → List ObjectSeen → ℕ
laid_in ws [] = 0
laid_in ws (o ∷ os) = laid_by ws o.outline + laid_in ws os

-- A block is one deeper than the deepest block that it flashes, and lays what its objects lay.
abbrev pub weight_of : List Weight → List ObjectSeen → Weight
weight_of ws os = record { depth = 1 + deepest ws os; laid = laid_in ws os }

-- The weight of aperture k, from those of the earlier ones: only a block has one.
abbrev pub weighed : List Weight → List ObjectSeen → ℕ → FigureSeen → Weight
weighed ws os k (seen.circle h) = none
weighed ws os k (seen.rectangle a b) = none
weighed ws os k (seen.obround a b) = none
weighed ws os k (seen.block n) = weight_of ws (owned_from k n os)

abbrev pub figure_at : List ApertureSeen → ℕ → FigureSeen
figure_at aps k = (get_or aps k (record { code = 0; figure = seen.circle 0 })).figure

-- The weights of the first k apertures.
abbrev pub weights : List ApertureSeen → List ObjectSeen → ℕ → List Weight
weights aps os zero = []
weights aps os (suc k) = weights aps os k ++ (weighed (weights aps os k) os k (figure_at aps k) ∷ [])

-- The weight of aperture k.
unfoldable pub weight_at : List ApertureSeen → List ObjectSeen → ℕ → Weight
weight_at aps os k = slice_index_or (weights aps os (suc k)) k none

-- A weight as the program holds it: past the limits of 8 and of 1,000,000 it says no more than that.
abbrev pub capped : Weight → Weight
capped w = record { depth = min 9 w.depth; laid = min 1000001 w.laid }

-- The weight of aperture k, if it is one of n, and of the 128 that a drawing may have.
abbrev pub weight_told : ℕ → List ApertureSeen → List ObjectSeen → ℕ → Option Weight
weight_told n aps os k = cond (nat_lt k n && nat_lt k 128) (Some (capped (weight_at aps os k))) None

-- A weight that is told, or nothing.
abbrev pub or_nothing : Option Weight → Weight
or_nothing (Some w) = w
or_nothing None = none
