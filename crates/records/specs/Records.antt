use Rattle.std.specs.Prelude.{ℕ, Bool}
use Rattle.contour.specs.declared.pieces.Piece.{Piece}
use Rattle.forms.specs.declared.Polarity.{Polarity}
use Rattle.plane.specs.Plane.{At}
use Rattle.plane.specs.Points.{file_centre_at, file_point_at}
use Rattle.records.specs.declared.kinds.Aperture.{Aperture}
use Rattle.records.specs.declared.kinds.Figure.TheVariants as figure
use Rattle.records.specs.declared.kinds.Figure.{Figure}
use Rattle.records.specs.declared.kinds.Mirror.{Mirror}
use Rattle.records.specs.declared.kinds.Object.{Object}
use Rattle.records.specs.declared.kinds.Outline.TheVariants as outline
use Rattle.records.specs.declared.kinds.Outline.{Outline}
use Rattle.records.specs.declared.kinds.Owner.{Owner}

-- A figure by its halves, or a block by the number of its first object.
pub data FigureSeen : Type 0 where
  circle : ℕ → FigureSeen
  rectangle : ℕ → ℕ → FigureSeen
  obround : ℕ → ℕ → FigureSeen
  block : ℕ → FigureSeen

abbrev pub seen_figure : Figure → FigureSeen
seen_figure (figure.Circle h) = circle h.ticks
seen_figure (figure.Rectangle a b) = rectangle a.ticks b.ticks
seen_figure (figure.Obround a b) = obround a.ticks b.ticks
seen_figure (figure.Block n) = block n

-- An aperture record.
pub record ApertureSeen : Type 0 where
  pub code : ℕ
  pub figure : FigureSeen

abbrev pub seen_aperture : Aperture → ApertureSeen
seen_aperture a = record { code = a.code; figure = seen_figure a.figure }

-- What an object covers, as the file has it.
pub data OutlineSeen : Type 0 where
  circle : At → ℕ → OutlineSeen
  rectangle : At → ℕ → ℕ → OutlineSeen
  obround : At → ℕ → ℕ → OutlineSeen
  stroke : At → At → ℕ → OutlineSeen
  arc : At → At → At → Bool → ℕ → OutlineSeen
  contour : At → ℕ → ℕ → OutlineSeen
  block : ℕ → At → Mirror → OutlineSeen

abbrev pub seen_outline : Outline → OutlineSeen
seen_outline (outline.Circle p h) = circle (file_point_at p) h.ticks
seen_outline (outline.Rectangle p a b) = rectangle (file_point_at p) a.ticks b.ticks
seen_outline (outline.Obround p a b) = obround (file_point_at p) a.ticks b.ticks
seen_outline (outline.Stroke s e h) = stroke (file_point_at s) (file_point_at e) h.ticks
seen_outline (outline.Arc s e c clockwise h) = arc (file_point_at s) (file_point_at e) (file_centre_at c) clockwise h.ticks
seen_outline (outline.Contour s first count) = contour (file_point_at s) first count
seen_outline (outline.Block n p m) = block n (file_point_at p) m

-- An object record.
pub record ObjectSeen : Type 0 where
  pub polarity : Polarity
  pub owner : Owner
  pub outline : OutlineSeen

abbrev pub seen_object : Object → ObjectSeen
seen_object o = record { polarity = o.polarity; owner = o.owner; outline = seen_outline o.outline }

-- A piece record is the point that the piece goes on to.
abbrev pub seen_piece : Piece → At
seen_piece p = file_point_at p.end
