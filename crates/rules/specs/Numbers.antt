-- The numbers of the refusals of the rules.
use Rattle.std.specs.Prelude.{ℕ}
use Rattle.rules.specs.declared.rule.Rule.TheVariants as rule
use Rattle.rules.specs.declared.rule.Rule.{Rule}

-- The number of the refusal of a command that breaks a rule.
abbrev pub rule_number : Rule → ℕ
rule_number rule.Misplaced = 21
rule_number rule.Range = 22
rule_number rule.Code = 23
rule_number rule.Absent = 24
rule_number rule.NotRound = 25
rule_number rule.Arc = 26
rule_number rule.Long = 27
rule_number rule.Contour = 28
rule_number rule.Full = 29
rule_number rule.Weight = 30
