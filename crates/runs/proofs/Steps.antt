-- The functions of a row, step by step as the code goes.
use Rattle.std.proofs.Common.{◌≡◌, ℕ, ◌+◌, ◌-◌, ◌<◌, ◌≤◌, max, true, false, cond, ltb, List, [], ◌∷◌, ◌++◌, length, get_or, take, drop, set, sym, refl, ap, ◌∙◌, ⊎_elim, add-one, one-add, arith, rules}
use Rattle.std.specs.List.{insert, prefix_len}
use Rattle.std.proofs.lemmas.List.{take_rest, drop-drop, length-drop, append-nil, places, same_lists, at_drop_more, at_drop_all, set_split, take_at, drop_at, take_all, take-take, take-append-le, length-take-le, length-take, length-drop, length-append, get_or-take, get_or-set_same, get_or-set_other}
use Rattle.std.proofs.lemmas.Bool.{cases_Bool, cases_eq}
use Rattle.std.proofs.lemmas.Bool.Decides.{nat_tests}
use Rattle.runs.specs.declared.run.Run.{Run}
use Rattle.runs.specs.Rows.{run, absorbed, darkened, trimmed, dropped, left_of, cleared}

-- k runs end at or before a, and j at or before b
pub record Ends (a b : ℕ) (xs : List Run) (k j : ℕ) : Type 0 where
  pub low : k ≡ prefix_len (λ (x : Run). ltb x.end (a + 1)) xs
  pub high : j ≡ prefix_len (λ (x : Run). ltb x.end (b + 1)) xs
  pub order : k ≤ j
  pub bound : j ≤ length xs

pub take_set_in : {X : Type 0} (s : List X) (n j : ℕ) (v : X) → j < n → n ≤ length s → take n (set s j v) ≡ set (take n s) j v
take_set_in s n j v h l = same_lists _ _ (search (rules, places)) (λ k d q.
    ⊎_elim
    (λ (e : k ≡ j). let kn : k < n = grind (arith, places) in rw e (grind (arith, places, get_or-set_same)))
    (λ (e : k ≡ j → ⊥). let kn : k < n = grind (arith, places) in grind (arith, places, get_or-set_other))
    (cases_eq k j))

pub trim_some : (s : List Run) (n j b f : ℕ) → j < n → n ≤ length s → f ≡ max (get_or s j (run 0 0)).first b
    → take n (set s j (run f (get_or s j (run 0 0)).end)) ≡ take j (take n s) ++ trimmed b (drop j (take n s))
trim_some s n j b f h l e =
    let x = get_or s j (run 0 0) in
    let g : get_or (take n s) j (run 0 0) ≡ x = get_or-take n s j (run 0 0) h in
    let len : j < length (take n s) = simp length-take (omega arith) in
    take_set_in s n j (run f x.end) h l
    ∙ set_split (take n s) j (run f x.end) len
    ∙ ap (λ k. take j (take n s) ++ run f x.end ∷ drop k (take n s)) (sym (add-one j))
    ∙ ap (λ k. take j (take n s) ++ run k x.end ∷ drop (j + 1) (take n s)) e
    ∙ ap (λ y. take j (take n s) ++ trimmed b (y ∷ drop (j + 1) (take n s))) (sym g)
    ∙ sym (at_drop_more (λ ys. take j (take n s) ++ trimmed b ys) (take n s) j (run 0 0) len)

-- a run put where others were taken out
pub spliced : {X : Type 0} (xs ys : List X) (k : ℕ) (x : X) → k ≤ length xs → insert (take k xs ++ ys) k x ≡ take k xs ++ x ∷ ys
spliced xs ys k x h =
    let len = length-take-le k xs h in
    ap (λ z. z ++ x ∷ drop k (take k xs ++ ys)) (take_at (take k xs) ys k len) ∙ ap (λ z. take k xs ++ x ∷ z) (drop_at (take k xs) ys k len)

pub darkened_at : (a b : ℕ) (xs : List Run) → let k = prefix_len (λ (x : Run). ltb x.end a) xs in darkened a b xs ≡ take k xs ++ absorbed a b (drop k xs)
darkened_at a b [] = refl
darkened_at a b (x ∷ xs) =
    let k = prefix_len (λ (x : Run). ltb x.end a) xs in
    let i = darkened_at a b xs in
    ⊎_elim
    (λ (t : ltb x.end a ≡ true). rw t (rw (one-add k) (ap (λ z. x ∷ z) i)))
    (λ (t : ltb x.end a ≡ false). rw t)
    (cases_Bool (ltb x.end a))

pub cleared_at : (a b : ℕ) (xs : List Run) → let k = prefix_len (λ (x : Run). ltb x.end (a + 1)) xs in cleared a b xs ≡ take k xs ++ (left_of a (drop k xs) ++ dropped b (drop k xs))
cleared_at a b [] = refl
cleared_at a b (x ∷ xs) =
    let k = prefix_len (λ (x : Run). ltb x.end (a + 1)) xs in
    let i = cleared_at a b xs in
    ⊎_elim
    (λ (t : ltb x.end (a + 1) ≡ true). rw t (rw (one-add k) (ap (λ z. x ∷ z) i)))
    (λ (t : ltb x.end (a + 1) ≡ false). rw t)
    (cases_Bool (ltb x.end (a + 1)))

dropped_past : (a b : ℕ) (xs : List Run) → a ≤ b → let k = prefix_len (λ (x : Run). ltb x.end (a + 1)) xs in dropped b (drop k xs) ≡ dropped b xs
dropped_past a b [] h = refl
dropped_past a b (x ∷ xs) h =
    let k = prefix_len (λ (x : Run). ltb x.end (a + 1)) xs in
    let i = dropped_past a b xs h in
    ⊎_elim
    (λ (t : ltb x.end (a + 1) ≡ true). let u : ltb x.end (b + 1) ≡ true = grind (arith, nat_tests) in rw t (rw (one-add k) (rw u i)))
    (λ (t : ltb x.end (a + 1) ≡ false). rw t)
    (cases_Bool (ltb x.end (a + 1)))

dropped_is : (b : ℕ) (xs : List Run) → let j = prefix_len (λ (x : Run). ltb x.end (b + 1)) xs in dropped b xs ≡ trimmed b (drop j xs)
dropped_is b [] = refl
dropped_is b (x ∷ xs) =
    let j = prefix_len (λ (x : Run). ltb x.end (b + 1)) xs in
    let i = dropped_is b xs in
    ⊎_elim
    (λ (t : ltb x.end (b + 1) ≡ true). rw t (rw (one-add j) i))
    (λ (t : ltb x.end (b + 1) ≡ false). rw t)
    (cases_Bool (ltb x.end (b + 1)))

pub leading_mono : (a b : ℕ) (xs : List Run) → a ≤ b → prefix_len (λ (x : Run). ltb x.end (a + 1)) xs ≤ prefix_len (λ (x : Run). ltb x.end (b + 1)) xs
leading_mono a b [] h = omega arith
leading_mono a b (x ∷ xs) h =
    let i = leading_mono a b xs h in
    ⊎_elim
    (λ (t : ltb x.end (a + 1) ≡ true). let u : ltb x.end (b + 1) ≡ true = grind (arith, nat_tests) in rw t (rw u (omega arith)))
    (λ (t : ltb x.end (a + 1) ≡ false). rw t (omega arith))
    (cases_Bool (ltb x.end (a + 1)))

pub cleared_is : (a b k j : ℕ) (xs : List Run) → a ≤ b → k ≡ prefix_len (λ (x : Run). ltb x.end (a + 1)) xs → j ≡ prefix_len (λ (x : Run). ltb x.end (b + 1)) xs
    → cleared a b xs ≡ take k xs ++ (left_of a (drop k xs) ++ trimmed b (drop j xs))
cleared_is a b k j xs h e f =
    rw e (rw f (cleared_at a b xs ∙ ap (λ z. take (prefix_len (λ (x : Run). ltb x.end (a + 1)) xs) xs ++ (left_of a (drop (prefix_len (λ (x : Run). ltb x.end (a + 1)) xs) xs) ++ z)) (dropped_past a b xs h ∙ dropped_is b xs)))

pub dark_row : (a b k j : ℕ) (x : Run) (xs : List Run) → k ≡ prefix_len (λ (x : Run). ltb x.end a) xs → absorbed a b (drop k xs) ≡ x ∷ drop j xs
    → darkened a b xs ≡ take k xs ++ x ∷ drop j xs
dark_row a b k j x xs e f =
    let d : darkened a b xs ≡ take k xs ++ absorbed a b (drop k xs) = rw e (darkened_at a b xs) in
    d ∙ ap (λ z. take k xs ++ z) f

pub row_length : (xs ys ts : List Run) (k j : ℕ) (x : Run) → k ≤ j → j ≤ length xs → length ts ≡ length (drop j xs) → ys ≡ take k xs ++ x ∷ ts
    → length ys ≡ length xs - (j - k) + 1
row_length xs ys ts k j x a b t e = rw e (simp (length-append, length-take) (omega (arith, length-drop j xs)))

pub length_trimmed : (b : ℕ) (xs : List Run) → length (trimmed b xs) ≡ length xs
length_trimmed b [] = refl
length_trimmed b (x ∷ xs) = refl

pub cut_trimmed : {X : Type 0} (xs ts : List X) (k j : ℕ) → k ≤ j → j ≤ length xs → take k (take j xs ++ ts) ++ drop j (take j xs ++ ts) ≡ take k xs ++ ts
cut_trimmed xs ts k j a b =
    let len = length-take-le j xs b in
    let kl : k ≤ length (take j xs) = omega arith in
    ap (λ z. take k (take j xs ++ ts) ++ z) (drop_at (take j xs) ts j len)
    ∙ ap (λ z. z ++ ts) (take-append-le k (take j xs) ts kl ∙ take-take k j xs a)

pub clear_none : (a b k j : ℕ) (xs : List Run) → a ≤ b → Ends a b xs k j → length xs ≤ k → cleared a b xs ≡ xs
clear_none a b k j xs h e l =
    let jl : length xs ≤ j = omega arith in
    cleared_is a b k j xs h e.low e.high
    ∙ at_drop_all (λ ys. take k xs ++ (left_of a ys ++ trimmed b (drop j xs))) xs k l
    ∙ at_drop_all (λ ys. take k xs ++ trimmed b ys) xs j jl
    ∙ append-nil (take k xs) ∙ take_all k xs l

pub clear_left : (a b k j f : ℕ) (xs : List Run) → a ≤ b → Ends a b xs k j → k < length xs → f ≡ (get_or xs k (run 0 0)).first → f < a
    → cleared a b xs ≡ take k xs ++ run f a ∷ trimmed b (drop j xs)
clear_left a b k j f xs h e l q lt =
    let t : ltb f a ≡ true = grind (arith, nat_tests) in
    cleared_is a b k j xs h e.low e.high
    ∙ at_drop_more (λ ys. take k xs ++ (left_of a ys ++ trimmed b (drop j xs))) xs k (run 0 0) l
    ∙ ap (λ n. take k xs ++ (cond (ltb n a) (run n a ∷ []) [] ++ trimmed b (drop j xs))) (sym q)
    ∙ ap (λ v. take k xs ++ (cond v (run f a ∷ []) [] ++ trimmed b (drop j xs))) t

pub clear_right : (a b k j f : ℕ) (xs : List Run) → a ≤ b → Ends a b xs k j → k < length xs → f ≡ (get_or xs k (run 0 0)).first → a ≤ f
    → cleared a b xs ≡ take k xs ++ trimmed b (drop j xs)
clear_right a b k j f xs h e l q lt =
    let t : ltb f a ≡ false = grind (arith, nat_tests) in
    cleared_is a b k j xs h e.low e.high
    ∙ at_drop_more (λ ys. take k xs ++ (left_of a ys ++ trimmed b (drop j xs))) xs k (run 0 0) l
    ∙ ap (λ n. take k xs ++ (cond (ltb n a) (run n a ∷ []) [] ++ trimmed b (drop j xs))) (sym q)
    ∙ ap (λ v. take k xs ++ (cond v (run f a ∷ []) [] ++ trimmed b (drop j xs))) t

-- a run joined at place k takes the place of those up to j
pub record Joined (a b k j : ℕ) (x : Run) (xs : List Run) : Type 0 where
  pub is : darkened a b xs ≡ take k xs ++ x ∷ drop j xs
  pub order : k ≤ j
  pub bound : j ≤ length xs

pub joins : (a b k n : ℕ) (x : Run) (xs vs ws : List Run) → vs ≡ xs → ws ≡ xs → k ≤ length xs → k ≡ prefix_len (λ (x : Run). ltb x.end a) vs
    → absorbed a b (take (length ws - k) (drop k ws)) ≡ x ∷ drop n (take (length ws - k) (drop k ws)) → n ≤ length (take (length ws - k) (drop k ws))
    → Joined a b k (k + n) x xs
joins a b k n x xs vs ws e f q p h l =
    let rest : take (length ws - k) (drop k ws) ≡ drop k xs = take_rest ws k ∙ ap (drop k) f in
    let m : n ≤ length (drop k xs) = rw rest at l in
    let d = length-drop k xs in
    let g : absorbed a b (drop k xs) ≡ x ∷ drop (k + n) xs = rw rest at h ∙ ap (λ ys. x ∷ ys) (drop-drop n k xs) in
    record { is = dark_row a b k (k + n) x xs (rw e at p) g; order = omega arith; bound = omega arith }

-- the places where two limits fall
pub ends_are : (a b k j : ℕ) (xs vs ws : List Run) → a ≤ b → vs ≡ xs → ws ≡ xs → k ≡ prefix_len (λ (x : Run). ltb x.end (a + 1)) vs
    → j ≡ prefix_len (λ (x : Run). ltb x.end (b + 1)) ws → j ≤ length ws → Ends a b xs k j
ends_are a b k j xs vs ws h e f p q l =
    let low = rw e at p in
    let high = rw f at q in
    record { low = low; high = high; order = omega (arith, leading_mono a b xs h); bound = rw f at l }

-- there is a place for one run more
pub put_room : (xs ts hs : List Run) (k j len room : ℕ) → k ≤ j → j ≤ length xs → length ts ≡ length (drop j xs) → hs ≡ take k xs ++ ts → length hs ≡ len
    → length xs - (j - k) + 1 ≤ room → (k ≤ len) × (len < room)
put_room xs ts hs k j len room a b t e h r =
    let d = length-drop j xs in
    let p = length-take-le k xs (omega arith) in
    let q : length hs ≡ k + length ts = ap length e ∙ length-append (take k xs) ts ∙ ap (λ n. n + length ts) p in
    (omega arith, omega arith)

pub trimmed_length : (b j : ℕ) (xs ys : List Run) → j ≤ length xs → ys ≡ take j xs ++ trimmed b (drop j xs) → length ys ≡ length xs
trimmed_length b j xs ys h e =
    let d = length-drop j xs in
    let p = length-take-le j xs h in
    ap length e ∙ length-append (take j xs) (trimmed b (drop j xs)) ∙ omega (arith, length_trimmed b (drop j xs))
