-- How the graphics state and what it has a table take fit the records taken before.
use Rattle.std.proofs.Common.{◌≡◌, ℕ, ◌<◌, ◌≤◌, false, List, [], ◌∷◌, ◌++◌, length, drop, Some, None, Option}
use Rattle.contour.specs.Chain.{last_of}
use Rattle.plane.specs.Plane.{At}
use Rattle.recordlaws.specs.Laws.{Earlier, FigureSound, IsBlock, OutlineSound, OwnerSound, Repeats, Within}
use Rattle.records.specs.Records as seen
use Rattle.records.specs.Records.{ApertureSeen, FigureSeen, ObjectSeen}
use Rattle.records.specs.Weights.{figure_at}
use Rattle.records.specs.declared.kinds.Owner.TheVariants.{Block, Layer, Repeat}
use Rattle.records.specs.declared.kinds.Owner.{Owner}
use Rattle.records.specs.declared.kinds.Repeat.{Repeat as RepeatRecord}
use Rattle.rules.specs.Rules.{is_open}
use Rattle.rules.specs.States as state
use Rattle.rules.specs.States.{EffectSeen, RegionSeen, StateSeen}

abbrev pub PointFit : Option At → Type 0
PointFit None = Unit {0}
PointFit (Some p) = Within 30000 p

-- The selected aperture is there, and is not the open block.
abbrev pub ApertureFit : List ApertureSeen → Owner → Option ℕ → Type 0
ApertureFit aps w None = Unit {0}
ApertureFit aps w (Some n) = (n < length aps) × (is_open w n ≡ false)

-- Every flash is of a block below k.
abbrev pub AllEarlier : ℕ → List ObjectSeen → Type 0
AllEarlier k [] = Unit {0}
AllEarlier k (o ∷ os) = Earlier k o.outline × AllEarlier k os

abbrev pub AllOwned : Owner → List ObjectSeen → Type 0
AllOwned w [] = Unit {0}
AllOwned w (o ∷ os) = (o.owner ≡ w) × AllOwned w os

-- The open block is the last one, and is flashed nowhere.
pub record BlockFit (aps : List ApertureSeen) (os : List ObjectSeen) (k : ℕ) : Type 0 where
  pub there : k < length aps
  pub block : IsBlock (figure_at aps k)
  pub last : (n : ℕ) → IsBlock (figure_at aps n) → n ≤ k
  pub earlier : AllEarlier k os

-- The objects of the open step and repeat are the last ones.
pub record RepeatFit (os : List ObjectSeen) (r : RepeatRecord) : Type 0 where
  pub columns : Repeats r.columns r.step_x
  pub rows : Repeats r.rows r.step_y
  pub there : r.first ≤ length os
  pub owned : AllOwned (Repeat r) (drop r.first os)

abbrev pub OwnerFit : List ApertureSeen → List ObjectSeen → Owner → Type 0
OwnerFit aps os Layer = Unit {0}
OwnerFit aps os (Block k) = BlockFit aps os k
OwnerFit aps os (Repeat r) = RepeatFit os r

-- The contour begun at a, with its first piece the one with the number `first`, leads to the current point.
pub record ContourFit (pcs : List At) (p : Option At) (a : At) (first : ℕ) : Type 0 where
  pub begins : Within 30000 a
  pub there : first ≤ length pcs
  pub leads : p ≡ Some (last_of a (drop first pcs))

abbrev pub RegionFit : List At → Option At → RegionSeen → Type 0
RegionFit pcs p state.outside = Unit {0}
RegionFit pcs p state.inside = Unit {0}
RegionFit pcs p (state.begun a first) = ContourFit pcs p a first

pub record Fit (aps : List ApertureSeen) (os : List ObjectSeen) (pcs : List At) (p : Option At) (n : Option ℕ) (w : Owner) (g : RegionSeen) : Type 0 where
  pub point : PointFit p
  pub aperture : ApertureFit aps w n
  pub owner : OwnerFit aps os w
  pub region : RegionFit pcs p g

abbrev pub StateFit : List ApertureSeen → List ObjectSeen → List At → StateSeen → Type 0
StateFit aps os pcs s = Fit aps os pcs s.point s.aperture s.owner s.region

pub record ObjectFit (aps : List ApertureSeen) (os : List ObjectSeen) (pcs : List At) (o : ObjectSeen) : Type 0 where
  pub outline : OutlineSound aps pcs o.outline
  pub owned : OwnerSound aps o.outline o.owner
  pub owner : OwnerFit aps os o.owner

-- A block begins with the next object.
abbrev pub NewFigure : ℕ → FigureSeen → Type 0
NewFigure n (seen.circle h) = Unit {0}
NewFigure n (seen.rectangle a b) = Unit {0}
NewFigure n (seen.obround a b) = Unit {0}
NewFigure n (seen.block first) = first ≡ n

-- What a command has a table take is sound, and the next state fits the records then.
abbrev pub EffectFit : List ApertureSeen → List ObjectSeen → List At → StateSeen → EffectSeen → Type 0
EffectFit aps os pcs s state.nothing = StateFit aps os pcs s
EffectFit aps os pcs s (state.aperture a) = FigureSound (length os) a.figure × NewFigure (length os) a.figure × StateFit (aps ++ (a ∷ [])) os pcs s
EffectFit aps os pcs s (state.object o) = ObjectFit aps os pcs o × StateFit aps (os ++ (o ∷ [])) pcs s
EffectFit aps os pcs s (state.piece p) = Within 30000 p × StateFit aps os (pcs ++ (p ∷ [])) s
