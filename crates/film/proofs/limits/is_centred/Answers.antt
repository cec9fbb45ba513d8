use Rattle.std.proofs.Common.{ℕ, ◌-◌, ◌*◌, ◌≤◌, arith}
use Rattle.std.proofs.lemmas.Nat.{mul-le}
use Rattle.std.proofs.lemmas.Int.{ints}
use Rattle.film.proofs.limits.is_centred.Goals as goal

last : (p n : ℕ) → n * p ≤ 60000 → p * (n - 1) ≤ 60000
last p n h = omega (arith, mul-le p (n - 1) p n (omega arith) (omega arith))

pub returns-then-first-geminus30000 : goal.returns-then-first-geminus30000
returns-then-first-geminus30000 c = let k = last c.args.pitch c.args.count c.requires.0 in grind (arith, ints)
