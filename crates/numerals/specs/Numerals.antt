use Rattle.std.specs.Prelude.{◌≡◌, ℕ, ◌+◌, ◌-◌, ◌*◌, ◌^◌, ◌≤◌, min, Bool, cond, ◌&&◌, ◌||◌, List, [], ◌∷◌, length, take, drop, ℤ, pos, neg_ℤ, Some, None, Option, ◌==◌, nat_le, nat_lt, slice_index}
use Rattle.std.specs.List.{prefix_len}
use Rattle.std.specs.Option as options
use Rattle.numerals.specs.declared.Decimal.{Decimal}

-- A digit is a byte from 0 to 9.
abbrev pub is_digit : ℕ → Bool
is_digit b = nat_le 48 b && nat_le b 57

-- The number that a becomes as the digits of xs are written after it; none where a byte is no digit.
abbrev pub read_on : ℕ → List ℕ → Option ℕ
read_on a [] = Some a
read_on a (x ∷ xs) = cond (is_digit x) (read_on (a * 10 + (x - 48)) xs) None

-- The number that `least` to `most` digits write.
abbrev pub digits_number : ℕ → ℕ → List ℕ → Option ℕ
digits_number least most xs = cond (nat_lt (length xs) least || nat_lt most (length xs)) None (read_on 0 xs)

-- The text begins with the byte b.
abbrev pub leads : ℕ → List ℕ → Bool
leads b xs = nat_le 1 (length xs) && slice_index xs 0 == b

-- An aperture code: 2 or 3 digits, the first of them no 0.
abbrev pub code_number : List ℕ → Option ℕ
code_number xs = cond (leads 48 xs) None (digits_number 2 3 xs)

-- Every code lies from 10 to 999.
abbrev pub CodesLieInRange : Type 0
CodesLieInRange = (xs : List ℕ) (k : ℕ) → code_number xs ≡ Some k → (10 ≤ k) × (k ≤ 999)

-- A repeat count: 1 to 3 digits.
abbrev pub count_number : List ℕ → Option ℕ
count_number xs = digits_number 1 3 xs

-- A value is below zero where its text begins with -.
abbrev pub is_negative : List ℕ → Bool
is_negative xs = leads 45 xs

-- What follows the sign, - or +, if there is one.
abbrev pub after_sign : List ℕ → List ℕ
after_sign xs = cond (leads 45 xs || leads 43 xs) (drop 1 xs) xs

-- The number n, below zero where `negative` says so.
abbrev pub with_sign : Bool → ℕ → ℤ
with_sign negative n = cond negative (neg_ℤ (pos n)) (pos n)

-- A coordinate: an optional sign and 1 to `longest` digits, of which 12 are the most.
abbrev pub coordinate_value : ℕ → List ℕ → Option ℤ
coordinate_value longest xs = options.option_map (with_sign (is_negative xs)) (digits_number 1 (min longest 12) (after_sign xs))

-- How many digits the text begins with.
abbrev pub digit_run : List ℕ → ℕ
digit_run xs = prefix_len is_digit xs

-- The digits before and after a point.
pub record Cut : Type 0 where
  pub whole : List ℕ
  pub part : List ℕ

abbrev pub seen_decimal : Option Decimal → Option Cut
seen_decimal r = options.option_map (λ d. record { whole = d.whole.now; part = d.part.now }) r

-- A text of digits alone has no part; else a point stands after the first digits.
abbrev pub split_point : List ℕ → Option Cut
split_point xs =
    cond (nat_le (length xs) (digit_run xs)) (Some (record { whole = xs; part = [] }))
    (cond (slice_index xs (digit_run xs) == 46) (Some (record { whole = take (digit_run xs) xs; part = drop (digit_run xs + 1) xs }))
    None)

-- Millionths from whole units and from k digits after the point.
abbrev pub scaled : ℕ → Option ℕ → Option ℕ → Option ℕ
scaled k None f = None
scaled k (Some w) None = None
scaled k (Some w) (Some f) = Some (w * 1000000 + f * 10 ^ (6 - k))

-- Up to 4 digits and up to 6 after the point, at least one in all.
abbrev pub decimal_number : Option Cut → Option ℕ
decimal_number None = None
decimal_number (Some d) =
    cond (length d.whole == 0 && length d.part == 0) None
    (scaled (length d.part) (digits_number 0 4 d.whole) (digits_number 0 6 d.part))

-- A size: up to 4 digits, optionally a point and up to 6 more, at least one digit in all; in millionths.
abbrev pub size_millionths : List ℕ → Option ℕ
size_millionths xs = decimal_number (split_point xs)
