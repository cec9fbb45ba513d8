-- odd counts, as a Bool that turns
use mathlib.Core.Bool.{beq}
use Rattle.std.proofs.Common.{◌≡◌, ℕ, ◌+◌, ◌%◌, Bool, true, false, cond, not, eqb, List, [], ◌∷◌, refl, ap, ◌∙◌, zero-add, arith}
use Rattle.std.proofs.lemmas.Bool.Decides.{nat_tests}
use Rattle.plane.specs.Plane.{At}
use Rattle.contour.specs.Chain.{counts, crossings, in_contour, differ}

abbrev pub parity : At → List At → At → Bool
parity s [] p = false
parity s (e ∷ es) p = differ (counts s e p) (parity e es p)

odd_step : (b : Bool) (n : ℕ) → eqb ((cond b 1 0 + n) % 2) 1 ≡ differ b (eqb (n % 2) 1)
odd_step true n = grind (arith, nat_tests)
odd_step false n = ap (λ (m : ℕ). eqb (m % 2) 1) (zero-add n)

pub odd_parity : (s : At) (es : List At) (p : At) → in_contour s es p ≡ parity s es p
unfolding in_contour
odd_parity s [] p = refl
odd_parity s (e ∷ es) p = odd_step (counts s e p) (crossings e es p) ∙ ap (differ (counts s e p)) (odd_parity e es p)

pub differ_assoc : (a b c : Bool) → differ a (differ b c) ≡ differ (differ a b) c
differ_assoc true true true = refl
differ_assoc true true false = refl
differ_assoc true false c = refl
differ_assoc false b c = refl

pub differ_false : (a : Bool) → differ a false ≡ a
differ_false true = refl
differ_false false = refl

-- the program's `^` of two flags
pub differ_is : (a b : Bool) → not (beq a b) ≡ differ a b
differ_is true true = refl
differ_is true false = refl
differ_is false true = refl
differ_is false false = refl
