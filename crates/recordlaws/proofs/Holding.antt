-- What holds of an answer that is no refusal.
use Rattle.std.proofs.Common.{◌≡◌, ℕ, Bool, true, false, Ok, Err, Result, refl}
use Rattle.rules.specs.Rules.{otherwise}
use Rattle.words.specs.Words.{onward}

abbrev pub Holds : {A : Type 0} → (A → Type 0) → Result A ℕ → Type 0
Holds P (Ok x) = P x
Holds P (Err n) = Unit {0}

pub then_holds : {A B : Type 0} (Q : A → Type 0) (P : B → Type 0) (r : Result A ℕ) (f : A → Result B ℕ)
    → Holds Q r → ((x : A) → Q x → Holds P (f x)) → Holds P (onward r f)
then_holds Q P (Ok x) f h g = g x h
then_holds Q P (Err n) f h g = tt

pub held : {A : Type 0} (P : A → Type 0) (b : Bool) (n : ℕ) (next : Result A ℕ) → (b ≡ true → Holds P next) → Holds P (otherwise b n next)
held P true n next h = h refl
held P false n next h = tt

pub anything : {A : Type 0} (r : Result A ℕ) → Holds (λ x. Unit {0}) r
anything (Ok x) = tt
anything (Err n) = tt
