-- the tests that tell whether two numbers or two points are equal
use Rattle.std.proofs.Common.{◌≡◌, ℕ, true, ◌&&◌, ℤ, pos, negsuc, int_eq, refl, ap, ◌∙◌, rules, arith}
use Rattle.std.proofs.lemmas.Bool.{and_parts, and_from, eqb-true, eq-eqb}
use Rattle.plane.specs.Plane.{At, spot, eq_z, same}
use Rattle.plane.specs.Laws.{SameIsEqual}

pub eq_z_refl : (a : ℤ) → eq_z a a ≡ true
eq_z_refl (pos a) = eq-eqb a a refl
eq_z_refl (negsuc a) = eq-eqb a a refl

pub eq_z_equal : (a b : ℤ) → eq_z a b ≡ true → a ≡ b
eq_z_equal (pos a) (pos b) h = ap pos (eqb-true a b h)
eq_z_equal (pos a) (negsuc b) h = let z : ◌≡◌ {A = ℕ} 0 1 = cc in absurd (omega arith)
eq_z_equal (negsuc a) (pos b) h = let z : ◌≡◌ {A = ℕ} 0 1 = cc in absurd (omega arith)
eq_z_equal (negsuc a) (negsuc b) h = ap negsuc (eqb-true a b h)

pub same_refl : (a : At) → same a a ≡ true
same_refl a = and_from (eq_z a.x a.x) (eq_z a.y a.y) (eq_z_refl a.x) (eq_z_refl a.y)

pub same_is_equal : SameIsEqual
same_is_equal =
    record {
      yes = λ a b h.
          let p = and_parts (eq_z a.x b.x) (eq_z a.y b.y) h in
          let x = eq_z_equal a.x b.x p.0 in
          let y = eq_z_equal a.y b.y p.1 in
          ap (λ (z : ℤ). spot z a.y) x ∙ ap (spot b.x) y;
      always = same_refl;
    }

-- the program's tests
pub int_eq_is : (a b : ℤ) → int_eq a b ≡ eq_z a b
int_eq_is (pos a) (pos b) = search rules
int_eq_is (pos a) (negsuc b) = refl
int_eq_is (negsuc a) (pos b) = refl
int_eq_is (negsuc a) (negsuc b) = grind (arith, rules)

pub eq_is_same : (a b : At) → (int_eq a.x b.x && int_eq a.y b.y) ≡ same a b
eq_is_same a b = simp int_eq_is
