use Rattle.std.specs.Prelude.{◌≡◌, ℕ, ◌^◌, ◌<◌, List, ◌==◌}
use Rattle.std.specs.List.{before_first, after_first}
use Rattle.std.specs.Str.Parse.{IsNumeral, digits_value, without_leading_plus}

-- The text writes this number: decimal digits, before which a plus may stand, of less than 2 ^ 32.
abbrev pub Writes : List ℕ → ℕ → Type 0
Writes xs n = IsNumeral 10 (without_leading_plus xs) × (n ≡ digits_value 10 (without_leading_plus xs)) × (n < 2 ^ 32)

-- What stands before the first comma of a text, and what behind it, if there is one.
abbrev pub front : List ℕ → List ℕ
front xs = before_first (λ b. b == 44) xs

abbrev pub back : List ℕ → List ℕ
back xs = after_first (λ b. b == 44) xs
