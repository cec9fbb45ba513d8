use Rattle.std.specs.Prelude.{ℕ, Bool, cond, not, ◌&&◌, List, ℤ, Some, None, codes, Option}
use Rattle.std.specs.Option as options
use Rattle.numerals.specs.Numerals.{code_number, coordinate_value}
use Rattle.words.specs.Words.{Piece}
use Rattle.forms.specs.Numbers.{Then, Valued, after, past, leads, left, seen_numeral}
use Rattle.forms.specs.Orders.{Order, comment, mode, multi_quadrant, region_open, region_close, end_of_file, select, draw, move, flash}
use Rattle.forms.specs.Extended.{begins, is, and_then, closed}
use Rattle.forms.specs.declared.Mode.TheVariants.{Linear, Clockwise, Counterclockwise}
use Rattle.forms.specs.declared.plain.Pair.{Pair}

-- G04 and any text
abbrev pub comment_of : Piece → Option Order
comment_of c = cond (begins (codes "G04") c.text) (Some (comment (past 3 c))) None

-- G01, G02, G03, G75, G36, G37, M02
abbrev pub fixed_of : List ℕ → Option Order
fixed_of xs =
    cond (is (codes "G01") xs) (Some (mode Linear))
    (cond (is (codes "G02") xs) (Some (mode Clockwise))
    (cond (is (codes "G03") xs) (Some (mode Counterclockwise))
    (cond (is (codes "G75") xs) (Some multi_quadrant)
    (cond (is (codes "G36") xs) (Some region_open)
    (cond (is (codes "G37") xs) (Some region_close)
    (cond (is (codes "M02") xs) (Some end_of_file)
    None))))))

-- Dk
abbrev pub select_of : Piece → Option Order
select_of c = and_then (after code_number 68 c) (λ k. closed k.rest (select k.value))

-- The letter b and a value of at most `longest` digits, or nothing where the letter is absent.
unfoldable pub maybe_after : ℕ → ℕ → Piece → Option (Then (Option (Valued ℤ)))
maybe_after longest b c =
    cond (leads b c.text) (options.option_map (λ t. record { value = Some t.value; rest = t.rest }) (after (coordinate_value longest) b c))
    (Some (record { value = None; rest = c }))

-- Two coordinates, either of which may be absent, and what follows.
pub record Two : Type 0 where
  pub first : Option (Valued ℤ)
  pub second : Option (Valued ℤ)
  pub rest : Piece

abbrev pub seen_two : Pair → Two
seen_two p = record { first = options.option_map seen_numeral p.first; second = options.option_map seen_numeral p.second; rest = left p.rest }

abbrev pub seen_pair : Option Pair → Option Two
seen_pair r = options.option_map seen_two r

-- A value behind the letter a and then one behind b, either of which may be absent.
unfoldable pub pair_of : ℕ → ℕ → ℕ → Piece → Option Two
pair_of longest a b c =
    and_then (maybe_after longest a c) (λ x.
    and_then (maybe_after longest b x.rest) (λ y.
    Some (record { first = x.value; second = y.value; rest = y.rest })))

-- Neither of the two is there.
abbrev pub absent : Two → Bool
absent p = not (options.is_some p.first) && not (options.is_some p.second)

-- D01, or, without I and J, D02 or D03
abbrev pub deed_of : Two → Two → Option Order
deed_of p q =
    cond (is (codes "D01") q.rest.text) (Some (draw p.first p.second q.first q.second))
    (cond (is (codes "D02") q.rest.text && absent q) (Some (move p.first p.second))
    (cond (is (codes "D03") q.rest.text && absent q) (Some (flash p.first p.second))
    None))

-- Optional X, Y, I, J in this order, and then the operation's code.
abbrev pub operation_of : ℕ → Piece → Option Order
operation_of longest c =
    and_then (pair_of longest 88 89 c) (λ p.
    and_then (pair_of longest 73 74 p.rest) (λ q.
    deed_of p q))

-- The first, or else the second.
abbrev pub or_else : {A : Type 0} → Option A → Option A → Option A
or_else (Some x) o = Some x
or_else None o = o

-- Word commands.
abbrev pub plain_of : ℕ → Piece → Option Order
plain_of longest c = or_else (comment_of c) (or_else (fixed_of c.text) (or_else (select_of c) (operation_of longest c)))
