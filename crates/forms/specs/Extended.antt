use Rattle.std.specs.Prelude.{ℕ, suc, ◌+◌, ◌-◌, Bool, true, false, cond, ◌&&◌, ◌||◌, List, [], ◌∷◌, length, Some, None, codes, Option, ◌==◌, nat_le, nat_lt, slice_index}
use Rattle.std.specs.List.{between}
use Rattle.std.specs.Option as options
use Rattle.ticks.specs.declared.Unit.TheVariants.{Millimetre, Inch}
use Rattle.ticks.specs.declared.Decimals.{Decimals}
use Rattle.ticks.specs.declared.Decimals.TheVariants.{Four, Five, Six}
use Rattle.numerals.specs.Numerals.{code_number, count_number, size_millionths}
use Rattle.words.specs.Words.{Piece}
use Rattle.forms.specs.Numbers.{Valued, after, past, seen_numeral}
use Rattle.forms.specs.Orders.{Order, format, unit, circle, rectangle, obround, block_open, block_close, repeat_open, repeat_close, polarity, mirror, attribute}
use Rattle.forms.specs.declared.Numeral.{Numeral}
use Rattle.forms.specs.declared.Format.{Format}
use Rattle.forms.specs.declared.Polarity.TheVariants.{Dark, Clear}
use Rattle.forms.specs.declared.AttributeKind.{AttributeKind}
use Rattle.forms.specs.declared.AttributeKind.TheVariants as kind

-- The bytes of xs from i on begin with p.
abbrev pub agrees : List ℕ → List ℕ → ℕ → Bool
agrees [] xs i = true
agrees (a ∷ p) xs i = slice_index xs i == a && agrees p xs (suc i)

-- The text begins with the letters p.
abbrev pub begins : List ℕ → List ℕ → Bool
begins p xs = nat_le (length p) (length xs) && agrees p xs 0

-- The text is p.
abbrev pub is : List ℕ → List ℕ → Bool
is p xs = length xs == length p && agrees p xs 0

-- Where something was read, f goes on.
abbrev pub and_then : {A B : Type 0} → Option A → (A → Option B) → Option B
and_then None f = None
and_then (Some x) f = f x

-- Nothing may follow the last part of a form.
abbrev pub closed : {A : Type 0} → Piece → A → Option A
closed rest o = cond (length rest.text == 0) (Some o) None

-- MM or IN
unfoldable pub unit_of : List ℕ → Option Order
unit_of xs = cond (is (codes "MM") xs) (Some (unit Millimetre)) (cond (is (codes "IN") xs) (Some (unit Inch)) None)

-- D or C
unfoldable pub polarity_of : List ℕ → Option Order
polarity_of xs = cond (is (codes "D") xs) (Some (polarity Dark)) (cond (is (codes "C") xs) (Some (polarity Clear)) None)

-- N, X, Y or XY
unfoldable pub mirror_of : List ℕ → Option Order
mirror_of xs =
    cond (is (codes "N") xs) (Some (mirror false false))
    (cond (is (codes "X") xs) (Some (mirror true false))
    (cond (is (codes "Y") xs) (Some (mirror false true))
    (cond (is (codes "XY") xs) (Some (mirror true true))
    None)))

-- nothing, or Dk
unfoldable pub block_of : Piece → Option Order
block_of c =
    cond (length c.text == 0) (Some block_close)
    (and_then (after code_number 68 c) (λ k. closed k.rest (block_open k.value)))

-- nothing, or XiYjIsJs
unfoldable pub repeat_of : Piece → Option Order
repeat_of c =
    cond (length c.text == 0) (Some repeat_close)
    (and_then (after count_number 88 c) (λ i.
    and_then (after count_number 89 i.rest) (λ j.
    and_then (after size_millionths 73 j.rest) (λ x.
    and_then (after size_millionths 74 x.rest) (λ y.
    closed y.rest (repeat_open i.value j.value x.value y.value))))))

-- The two sizes of a rectangle or an obround.
pub record Sides : Type 0 where
  pub width : Valued ℕ
  pub height : Valued ℕ

abbrev pub seen_sides : Option (Numeral ℕ × Numeral ℕ) → Option Sides
seen_sides r = options.option_map (λ t. record { width = seen_numeral t.0; height = seen_numeral t.1 }) r

-- ,sXs
unfoldable pub sides_of : Piece → Option Sides
sides_of c =
    and_then (after size_millionths 44 c) (λ w.
    and_then (after size_millionths 88 w.rest) (λ h.
    closed h.rest (record { width = w.value; height = h.value })))

-- ,s
abbrev pub circle_of : Valued ℕ → Piece → Option Order
circle_of k c = and_then (after size_millionths 44 c) (λ d. closed d.rest (circle k d.value))

abbrev pub rectangle_of : Valued ℕ → Piece → Option Order
rectangle_of k c = options.option_map (λ s. rectangle k s.width s.height) (sides_of c)

abbrev pub obround_of : Valued ℕ → Piece → Option Order
obround_of k c = options.option_map (λ s. obround k s.width s.height) (sides_of c)

-- C,s or R,sXs or O,sXs
unfoldable pub shape_of : Valued ℕ → Piece → Option Order
shape_of k c =
    cond (begins (codes "C") c.text) (circle_of k (past 1 c))
    (cond (begins (codes "R") c.text) (rectangle_of k (past 1 c))
    (cond (begins (codes "O") c.text) (obround_of k (past 1 c))
    None))

-- Dk and a shape
unfoldable pub aperture_of : Piece → Option Order
aperture_of c = and_then (after code_number 68 c) (λ k. shape_of k.value k.rest)

-- 4, 5 or 6 decimals
abbrev pub decimals_of : ℕ → Option Decimals
decimals_of b = cond (b == 52) (Some Four) (cond (b == 53) (Some Five) (cond (b == 54) (Some Six) None))

-- n from 1 to 6 and m decimals
abbrev pub format_digits : ℕ → ℕ → Option Format
format_digits n m = cond (nat_lt n 49 || nat_lt 54 n) None (options.option_map (λ d. record { whole = n - 48; decimals = d }) (decimals_of m))

-- LAXnmYnm, the two pairs alike
unfoldable pub format_of : Piece → Option Order
format_of c =
    cond (length c.text == 8 && (agrees (codes "LAX") c.text 0 && slice_index c.text 5 == 89))
    (cond (slice_index c.text 3 == slice_index c.text 6 && slice_index c.text 4 == slice_index c.text 7)
    (options.option_map (format (record { at = c.at + 3; text = between 3 5 c.text })) (format_digits (slice_index c.text 3) (slice_index c.text 4)))
    None)
    None

abbrev pub attribute_of : AttributeKind → Piece → Option Order
attribute_of k c = Some (attribute k c)

-- Extended commands, by their first two letters.
unfoldable pub extended_of : Piece → Option Order
extended_of c =
    cond (begins (codes "FS") c.text) (format_of (past 2 c))
    (cond (begins (codes "MO") c.text) (unit_of (past 2 c).text)
    (cond (begins (codes "AD") c.text) (aperture_of (past 2 c))
    (cond (begins (codes "AB") c.text) (block_of (past 2 c))
    (cond (begins (codes "SR") c.text) (repeat_of (past 2 c))
    (cond (begins (codes "LP") c.text) (polarity_of (past 2 c).text)
    (cond (begins (codes "LM") c.text) (mirror_of (past 2 c).text)
    (cond (begins (codes "TF") c.text) (attribute_of kind.File (past 2 c))
    (cond (begins (codes "TA") c.text) (attribute_of kind.Aperture (past 2 c))
    (cond (begins (codes "TO") c.text) (attribute_of kind.Object (past 2 c))
    (cond (begins (codes "TD") c.text) (attribute_of kind.Delete (past 2 c))
    None))))))))))
