use Rattle.std.proofs.Common.{◌≡◌, Bool, true, false, cond, not, eqb, [], length, Some, None, Option, refl, arith}
use Rattle.forms.specs.Extended.{and_then, closed}
use Rattle.std.proofs.lemmas.Bool.{eqb-true}
use Rattle.std.proofs.lemmas.List.{nil_from_length}
use Rattle.std.specs.Option as options
use Rattle.words.specs.Words.{Piece}
use Rattle.std.proofs.lemmas.Option.{same_Some}

pub cond_some : {A : Type 0} (P : Type 0) (b : Bool) (x y : Option A) (o : A) → cond b x y ≡ Some o → (b ≡ true → x ≡ Some o → P) → (b ≡ false → y ≡ Some o → P) → P
cond_some P true x y o e f g = f refl e
cond_some P false x y o e f g = g refl e

pub and_then_some : {A B : Type 0} (o : Option A) (f : A → Option B) (y : B) → and_then o f ≡ Some y → (x : A) × (o ≡ Some x) × (f x ≡ Some y)
and_then_some None f y e = cc
and_then_some (Some x) f y e = (x, refl, e)

pub mapped_some : {A B : Type 0} (g : A → B) (o : Option A) (y : B) → options.option_map g o ≡ Some y → (x : A) × (o ≡ Some x) × (g x ≡ y)
mapped_some g None y e = cc
mapped_some g (Some x) y e = (x, refl, same_Some (g x) y e)

pub closed_some : {A : Type 0} (r : Piece) (x o : A) → closed r x ≡ Some o → (r.text ≡ []) × (x ≡ o)
closed_some r x o e =
    cond_some ((r.text ≡ []) × (x ≡ o)) (eqb (length r.text) 0) (Some x) None o e
    (λ z s. (nil_from_length r.text (eqb-true (length r.text) 0 z), same_Some x o s))
    (λ _ n. cc)

pub is_none : {A : Type 0} (o : Option A) → not (options.is_some o) ≡ true → o ≡ None
is_none None e = refl
is_none (Some x) e = absurd (let z : false ≡ true = e in grind arith)
