-- The program's numbers and refusals as plain values.
use Rattle.std.specs.Prelude.{ℕ, ℤ, Option, Result}
use Rattle.rules.specs.Numbers.{rule_number}
use Rattle.rules.specs.declared.rule.Rule.{Rule}
use Rattle.forms.specs.Numbers.{seen_numeral}
use Rattle.forms.specs.declared.Numeral.{Numeral}
use Rattle.plane.specs.declared.points.Half.{Half}
use Rattle.rules.specs.Rules.{value_of}
use Rattle.rules.specs.declared.measures.Pair.{Pair}
use Rattle.rules.specs.declared.measures.Within.{Within}
use Rattle.std.specs.Option as options
use Rattle.std.specs.Result as results

-- An answer of the program, with the number of its refusal.
abbrev pub ruled : {A B : Type 0} → (A → B) → Result A Rule → Result B ℕ
ruled f r = results.result_map_both f rule_number r

-- The value of a coordinate, if it is written.
abbrev pub written_in : Option (Numeral ℤ) → Option ℤ
written_in c = value_of (options.option_map seen_numeral c)

-- An X, Y, I or J in ticks.
abbrev pub seen_within : {n : ℕ} → Within n → ℤ
seen_within r = r.ticks

-- Half of a size in ticks.
abbrev pub seen_half : Half → ℕ
seen_half h = h.ticks

-- X and Y, or I and J, as far as they are written.
abbrev pub seen_both : {n : ℕ} → Pair (Within n) → Option ℤ × Option ℤ
seen_both t = (options.option_map seen_within t.x, options.option_map seen_within t.y)
