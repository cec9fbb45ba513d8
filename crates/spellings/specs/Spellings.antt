use Rattle.std.specs.Prelude.{◌≡◌, ℕ, ◌+◌, Bool, cond, List, [], ◌∷◌, ◌++◌, length, Some, None, codes, Option}
use Rattle.forms.specs.Forms.{form_of}
use Rattle.forms.specs.Numbers.{Valued}
use Rattle.forms.specs.Orders as order
use Rattle.forms.specs.Orders.{Order}
use Rattle.forms.specs.declared.AttributeKind.TheVariants as kind
use Rattle.forms.specs.declared.AttributeKind.{AttributeKind}
use Rattle.forms.specs.declared.Mode.TheVariants.{Clockwise, Counterclockwise, Linear}
use Rattle.forms.specs.declared.Mode.{Mode}
use Rattle.forms.specs.declared.Polarity.TheVariants.{Clear, Dark}
use Rattle.forms.specs.declared.Polarity.{Polarity}
use Rattle.ticks.specs.declared.Unit.TheVariants.{Inch, Millimetre}
use Rattle.ticks.specs.declared.Unit.{Unit as LengthUnit}
use Rattle.words.specs.Words.{Piece, WordSeen}

-- A command is written in letters of its form and parts that it holds.
pub data Bit : Type 0 where
  letters : List ℕ → Bit
  part : Piece → Bit

abbrev pub bytes : Bit → List ℕ
bytes (letters xs) = xs
bytes (part p) = p.text

-- Letters and parts, written in order.
abbrev pub written : List Bit → List ℕ
written [] = []
written (b ∷ bs) = bytes b ++ written bs

-- Each part stands where what is written before it ends, the first bit standing at `at`.
abbrev pub Placed : ℕ → List Bit → Type 0
Placed at [] = Unit {0}
Placed at (letters xs ∷ bs) = Placed (at + length xs) bs
Placed at (part p ∷ bs) = (p.at ≡ at) × Placed (at + length p.text) bs

-- The letter b and the part of a value behind it.
abbrev pub lettered : {V : Type 0} → ℕ → Valued V → List Bit
lettered b v = letters (b ∷ []) ∷ (part v.part ∷ [])

abbrev pub maybe : {V : Type 0} → ℕ → Option (Valued V) → List Bit
maybe b None = []
maybe b (Some v) = lettered b v

abbrev pub unit_letters : LengthUnit → List ℕ
unit_letters Millimetre = codes "MM"
unit_letters Inch = codes "IN"

abbrev pub polarity_letters : Polarity → List ℕ
polarity_letters Dark = codes "D"
polarity_letters Clear = codes "C"

abbrev pub mode_letters : Mode → List ℕ
mode_letters Linear = codes "G01"
mode_letters Clockwise = codes "G02"
mode_letters Counterclockwise = codes "G03"

abbrev pub mirror_letters : Bool → Bool → List ℕ
mirror_letters x y = cond x (cond y (codes "XY") (codes "X")) (cond y (codes "Y") (codes "N"))

abbrev pub attribute_letters : AttributeKind → List ℕ
attribute_letters kind.File = codes "TF"
attribute_letters kind.Aperture = codes "TA"
attribute_letters kind.Object = codes "TO"
attribute_letters kind.Delete = codes "TD"

-- How each command is written: its head's letters, then the rest of its form.
abbrev pub spelling : Order → List Bit
spelling (order.format d f) = letters (codes "FS") ∷ (letters (codes "LAX") ∷ (part d ∷ (letters (codes "Y") ∷ (letters d.text ∷ []))))
spelling (order.unit u) = letters (codes "MO") ∷ (letters (unit_letters u) ∷ [])
spelling (order.circle k d) = letters (codes "AD") ∷ (lettered 68 k ++ (letters (codes "C") ∷ lettered 44 d))
spelling (order.rectangle k w h) = letters (codes "AD") ∷ (lettered 68 k ++ (letters (codes "R") ∷ (lettered 44 w ++ lettered 88 h)))
spelling (order.obround k w h) = letters (codes "AD") ∷ (lettered 68 k ++ (letters (codes "O") ∷ (lettered 44 w ++ lettered 88 h)))
spelling (order.block_open k) = letters (codes "AB") ∷ lettered 68 k
spelling order.block_close = letters (codes "AB") ∷ []
spelling (order.repeat_open i j x y) = letters (codes "SR") ∷ (lettered 88 i ++ (lettered 89 j ++ (lettered 73 x ++ lettered 74 y)))
spelling order.repeat_close = letters (codes "SR") ∷ []
spelling (order.polarity p) = letters (codes "LP") ∷ (letters (polarity_letters p) ∷ [])
spelling (order.mirror x y) = letters (codes "LM") ∷ (letters (mirror_letters x y) ∷ [])
spelling (order.attribute k t) = letters (attribute_letters k) ∷ (part t ∷ [])
spelling (order.comment t) = letters (codes "G04") ∷ (part t ∷ [])
spelling (order.mode m) = letters (mode_letters m) ∷ []
spelling order.multi_quadrant = letters (codes "G75") ∷ []
spelling order.region_open = letters (codes "G36") ∷ []
spelling order.region_close = letters (codes "G37") ∷ []
spelling order.end_of_file = letters (codes "M02") ∷ []
spelling (order.select k) = lettered 68 k
spelling (order.draw x y i j) = (maybe 88 x ++ maybe 89 y) ++ ((maybe 73 i ++ maybe 74 j) ++ (letters (codes "D01") ∷ []))
spelling (order.move x y) = (maybe 88 x ++ maybe 89 y) ++ (letters (codes "D02") ∷ [])
spelling (order.flash x y) = (maybe 88 x ++ maybe 89 y) ++ (letters (codes "D03") ∷ [])

-- A content is a command's letters and parts: they are its bytes, and each part stands where it says.
pub record Spelled (c : Piece) (o : Order) : Type 0 where
  pub text : c.text ≡ written (spelling o)
  pub placed : Placed c.at (spelling o)

-- Every word that has a form is its command's letters and parts.
abbrev pub CommandsAreTheirParts : Type 0
CommandsAreTheirParts = (longest : ℕ) (w : WordSeen) (o : Order) → form_of longest w ≡ Some o → Spelled w.content o
