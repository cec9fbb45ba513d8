-- The longest front of a list that passes a test, with one more element behind the list.
use Rattle.std.proofs.Common.{◌≡◌, suc, ◌+◌, Bool, true, false, cond, ◌⊎◌, List, [], ◌∷◌, ◌++◌, take, sym, refl, ap, ◌∙◌, inl, inr, arith}
use Rattle.std.proofs.lemmas.Bool.{cases_Bool}
use Rattle.std.specs.List.{prefix_len}

abbrev pub front : {X : Type 0} → (X → Bool) → List X → List X
front p xs = take (prefix_len p xs) xs

abbrev pub AllPass : {X : Type 0} → (X → Bool) → List X → Type 0
AllPass p [] = Unit {0}
AllPass p (x ∷ xs) = (p x ≡ true) × AllPass p xs

module _ {X : Type 0} (p : X → Bool) where
  one_on : (x : X) (xs : List X) (b : Bool) → take (cond b (1 + prefix_len p xs) 0) (x ∷ xs) ≡ cond b (x ∷ front p xs) []
  one_on x xs true = let e : 1 + prefix_len p xs ≡ suc (prefix_len p xs) = omega arith in ap (λ n. take n (x ∷ xs)) e
  one_on x xs false = refl

  pub front_on : (x : X) (xs : List X) → p x ≡ true → front p (x ∷ xs) ≡ x ∷ front p xs
  front_on x xs h = one_on x xs (p x) ∙ ap (λ b. cond b (x ∷ front p xs) []) h

  pub front_off : (x : X) (xs : List X) → p x ≡ false → front p (x ∷ xs) ≡ []
  front_off x xs h = one_on x xs (p x) ∙ ap (λ b. cond b (x ∷ front p xs) []) h

  -- an element that does not pass does not belong to it
  pub front_without : (xs : List X) (y : X) → p y ≡ false → front p (xs ++ (y ∷ [])) ≡ front p xs
  front_without [] y h = front_off y [] h
  front_without (x ∷ xs) y h = by_test (front_without xs y h) (cases_Bool (p x))
    where
      by_test : front p (xs ++ (y ∷ [])) ≡ front p xs → (p x ≡ true) ⊎ (p x ≡ false) → front p (x ∷ (xs ++ (y ∷ []))) ≡ front p (x ∷ xs)
      by_test rest (inl e) = front_on x (xs ++ (y ∷ [])) e ∙ ap (λ (l : List X). x ∷ l) rest ∙ sym (front_on x xs e)
      by_test rest (inr e) = front_off x (xs ++ (y ∷ [])) e ∙ sym (front_off x xs e)

  -- any other one may
  pub front_perhaps : (xs : List X) (y : X) → (front p (xs ++ (y ∷ [])) ≡ front p xs) ⊎ (front p (xs ++ (y ∷ [])) ≡ front p xs ++ (y ∷ []))
  front_perhaps [] y = by_test (cases_Bool (p y))
    where
      by_test : (p y ≡ true) ⊎ (p y ≡ false) → (front p (y ∷ []) ≡ []) ⊎ (front p (y ∷ []) ≡ y ∷ [])
      by_test (inl e) = inr (front_on y [] e)
      by_test (inr e) = inl (front_off y [] e)
  front_perhaps (x ∷ xs) y = by_test (cases_Bool (p x)) (front_perhaps xs y)
    where
      by_test : (p x ≡ true) ⊎ (p x ≡ false) → (front p (xs ++ (y ∷ [])) ≡ front p xs) ⊎ (front p (xs ++ (y ∷ [])) ≡ front p xs ++ (y ∷ []))
          → (front p (x ∷ (xs ++ (y ∷ []))) ≡ front p (x ∷ xs)) ⊎ (front p (x ∷ (xs ++ (y ∷ []))) ≡ front p (x ∷ xs) ++ (y ∷ []))
      by_test (inl e) (inl h) = inl (front_on x (xs ++ (y ∷ [])) e ∙ ap (λ (l : List X). x ∷ l) h ∙ sym (front_on x xs e))
      by_test (inl e) (inr h) =
          inr (front_on x (xs ++ (y ∷ [])) e ∙ ap (λ (l : List X). x ∷ l) h ∙ sym (ap (λ (l : List X). l ++ (y ∷ [])) (front_on x xs e)))
      by_test (inr e) h = inl (front_off x (xs ++ (y ∷ [])) e ∙ sym (front_off x xs e))

  pub front_all : (xs : List X) → AllPass p xs → front p xs ≡ xs
  front_all [] a = refl
  front_all (x ∷ xs) (e, a) = front_on x xs e ∙ ap (λ (l : List X). x ∷ l) (front_all xs a)

  pub pass_more : (xs : List X) (y : X) → AllPass p xs → p y ≡ true → AllPass p (xs ++ (y ∷ []))
  pass_more [] y a e = (e, tt)
  pass_more (x ∷ xs) y (h, a) e = (h, pass_more xs y a e)
