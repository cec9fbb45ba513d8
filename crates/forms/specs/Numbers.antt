use Rattle.std.specs.Prelude.{ℕ, ◌+◌, Bool, cond, ◌&&◌, ◌||◌, List, length, Some, None, Option, ◌==◌, nat_le, slice_index}
use Rattle.std.specs.List.{prefix_len, between}
use Rattle.std.specs.Option as options
use Rattle.words.specs.Words.{Piece, piece}
use Rattle.forms.specs.declared.Numeral.{Numeral}
use Rattle.forms.specs.declared.rest.Rest.{Rest}

-- A numeral has digits, signs and points.
abbrev pub is_numeral : ℕ → Bool
is_numeral b = (nat_le 48 b && nat_le b 57) || (b == 43 || (b == 45 || b == 46))

-- How many digits, signs and points the text begins with.
abbrev pub numeral_run : List ℕ → ℕ
numeral_run xs = prefix_len is_numeral xs

-- The text begins with the byte b.
abbrev pub leads : ℕ → List ℕ → Bool
leads b xs = nat_le 1 (length xs) && slice_index xs 0 == b

-- What is left of a content, as plain bytes with their place.
abbrev pub left : Rest → Piece
left r = piece r.part

-- What is left of c past its first k bytes.
abbrev pub past : ℕ → Piece → Piece
past k c = record { at = c.at + k; text = between k (length c.text) c.text }

-- The first k bytes of c.
abbrev pub front : ℕ → Piece → Piece
front k c = record { at = c.at; text = between 0 k c.text }

-- A numeral and what follows it.
pub record Then (V : Type 0) : Type 0 where
  pub value : V
  pub rest : Piece

-- The longest numeral that c begins with.
abbrev pub numeral : Piece → Then Piece
numeral c = record { value = front (numeral_run c.text) c; rest = past (numeral_run c.text) c }

-- The letter b and the numeral behind it.
unfoldable pub lettered : ℕ → Piece → Option (Then Piece)
lettered b c = cond (leads b c.text) (Some (numeral (past 1 c))) None

-- A numeral and its value.
pub record Valued (V : Type 0) : Type 0 where
  pub part : Piece
  pub value : V

-- A numeral of the program as plain values.
abbrev pub seen_numeral : {V : Type 0} → Numeral V → Valued V
seen_numeral n = record { part = piece n.part; value = n.value }

-- An answer of the program, a value and what follows it, as plain values.
abbrev pub seen_then : {X V : Type 0} → (X → V) → Option (X × Rest) → Option (Then V)
seen_then f r = options.option_map (λ t. record { value = f t.0; rest = left t.1 }) r

abbrev valued_by : {V : Type 0} → (List ℕ → Option V) → Option (Then Piece) → Option (Then (Valued V))
valued_by f None = None
valued_by f (Some t) = options.option_map (λ v. record { value = record { part = t.value; value = v }; rest = t.rest }) (f t.value.text)

-- The letter b and a numeral that f reads.
unfoldable pub after : {V : Type 0} → (List ℕ → Option V) → ℕ → Piece → Option (Then (Valued V))
after f b c = valued_by f (lettered b c)
