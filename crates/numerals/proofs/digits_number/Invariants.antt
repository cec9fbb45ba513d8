use Rattle.std.proofs.Common.{◌≡◌, ◌^◌, ◌<◌, drop}
use Rattle.numerals.specs.Numerals.{read_on}
use Rattle.numerals.proofs.digits_number.Given as goal

abbrev pub invariant-loop-digit : goal.invariant-loop-digit
invariant-loop-digit l = (read_on l.value (drop l.digit-index l.text) ≡ read_on 0 l.text) × (l.value < 10 ^ l.digit-index)
