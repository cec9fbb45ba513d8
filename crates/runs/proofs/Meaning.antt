-- What a row shows after a span is darkened or cleared, and that it stays in order.
use Rattle.std.proofs.Common.{◌≡◌, ℕ, suc, ◌+◌, ◌*◌, ◌<◌, ◌≤◌, min, max, Bool, true, false, cond, ◌&&◌, ◌||◌, ltb, leb, List, [], ◌∷◌, length, refl, ap, ⊎_elim, arith}
use Rattle.std.proofs.lemmas.Bool.{cases_lt, cases_Bool}
use Rattle.std.proofs.lemmas.Bool.Decides.{nat_tests}
use Rattle.std.specs.List.{list_any}
use Rattle.runs.specs.declared.run.Run.{Run}
use Rattle.runs.specs.Rows.{run, in_run, in_row, row_ok, absorbed, darkened, dropped, cleared, RowWritten}

-- a column is dark where one of the runs holds it
pub any_holds : (xs : List Run) (c : ℕ) → list_any (λ (x : Run). in_run x c) xs ≡ in_row xs c
any_holds [] c = refl
any_holds (x ∷ xs) c = ap (λ b. in_run x c || b) (any_holds xs c)

pub record Parts (lo w : ℕ) (x : Run) (xs : List Run) : Type 0 where
  pub low : lo ≤ x.first
  pub proper : x.first < x.end
  pub within : x.end ≤ w
  pub rest : row_ok (suc x.end) w xs ≡ true

pub parts : (lo w : ℕ) (x : Run) (xs : List Run) → row_ok lo w (x ∷ xs) ≡ true → Parts lo w x xs
parts lo w x xs h = record { low = grind (arith, nat_tests); proper = grind (arith, nat_tests); within = grind (arith, nat_tests); rest = grind (arith, nat_tests) }

pub below : (lo w : ℕ) (xs : List Run) (c : ℕ) → row_ok lo w xs ≡ true → c < lo → in_row xs c ≡ false
below lo w [] c h l = refl
below lo w (x ∷ xs) c h l =
    let p = parts lo w x xs h in
    let i = below (suc x.end) w xs c p.rest (omega arith) in
    grind (arith, nat_tests)

pub lower : (m lo w : ℕ) (xs : List Run) → row_ok lo w xs ≡ true → m ≤ lo → row_ok m w xs ≡ true
lower m lo w [] h l = refl
lower m lo w (x ∷ xs) h l = let p = parts lo w x xs h in grind (arith, nat_tests)

-- rows have at most half as many runs as columns, rounded up
pub room : (lo w : ℕ) (xs : List Run) → row_ok lo w xs ≡ true → lo ≤ w + 1 → 2 * length xs + lo ≤ w + 1
room lo w [] h l = omega arith
room lo w (x ∷ xs) h l =
    let p = parts lo w x xs h in
    let i = room (suc x.end) w xs p.rest (omega arith) in
    omega arith

-- the first run does not end before lo
abbrev Reach : ℕ → List Run → Type 0
Reach lo [] = Unit {0}
Reach lo (x ∷ xs) = lo ≤ x.end

reach : (lo m w : ℕ) (xs : List Run) → row_ok m w xs ≡ true → lo ≤ m → Reach lo xs
reach lo m w [] h l = tt
reach lo m w (x ∷ xs) h l = let p = parts m w x xs h in omega arith

pub absorbed_in : (m w lo hi : ℕ) (xs : List Run) (c : ℕ) → row_ok m w xs ≡ true → lo ≤ hi → Reach lo xs
    → in_row (absorbed lo hi xs) c ≡ (in_run (run lo hi) c || in_row xs c)
absorbed_in m w lo hi [] c h l r = refl
absorbed_in m w lo hi (x ∷ xs) c h l r =
    let p = parts m w x xs h in
    let i = absorbed_in (suc x.end) w (min lo x.first) (max hi x.end) xs c p.rest (omega arith) (reach _ (suc x.end) w xs p.rest (omega arith)) in
    ⊎_elim
    (λ (e : leb x.first hi ≡ true). rw e (grind (arith, nat_tests)))
    (λ (e : leb x.first hi ≡ false). rw e)
    (cases_Bool (leb x.first hi))

pub absorbed_ok : (l m w lo hi : ℕ) (xs : List Run) → row_ok m w xs ≡ true → l ≤ lo → l ≤ m → lo < hi → hi ≤ w
    → row_ok l w (absorbed lo hi xs) ≡ true
absorbed_ok l m w lo hi [] h a b d e = grind (arith, nat_tests)
absorbed_ok l m w lo hi (x ∷ xs) h a b d e =
    let p = parts m w x xs h in
    let i = absorbed_ok l (suc x.end) w (min lo x.first) (max hi x.end) xs p.rest (omega arith) (omega arith) (omega arith) (omega arith) in
    ⊎_elim
    (λ (t : leb x.first hi ≡ true). rw t i)
    (λ (t : leb x.first hi ≡ false). rw t (grind (arith, nat_tests)))
    (cases_Bool (leb x.first hi))

pub darkened_in : (m w a b : ℕ) (xs : List Run) (c : ℕ) → row_ok m w xs ≡ true → a ≤ b
    → in_row (darkened a b xs) c ≡ (in_run (run a b) c || in_row xs c)
darkened_in m w a b [] c h l = refl
darkened_in m w a b (x ∷ xs) c h l =
    let p = parts m w x xs h in
    let i = darkened_in (suc x.end) w a b xs c p.rest l in
    ⊎_elim
    (λ (e : ltb x.end a ≡ true). rw e (grind (arith, nat_tests)))
    (λ (e : ltb x.end a ≡ false). rw e (absorbed_in m w a b (x ∷ xs) c h l (grind (arith, nat_tests))))
    (cases_Bool (ltb x.end a))

pub darkened_ok : (m w a b : ℕ) (xs : List Run) → row_ok m w xs ≡ true → m ≤ a → a < b → b ≤ w
    → row_ok m w (darkened a b xs) ≡ true
darkened_ok m w a b [] h d e f = grind (arith, nat_tests)
darkened_ok m w a b (x ∷ xs) h d e f =
    let p = parts m w x xs h in
    ⊎_elim
    (λ (t : ltb x.end a ≡ true).
    let i = darkened_ok (suc x.end) w a b xs p.rest (grind (arith, nat_tests)) e f in rw t (grind (arith, nat_tests)))
    (λ (t : ltb x.end a ≡ false). rw t (absorbed_ok m m w a b (x ∷ xs) h d (omega arith) e f))
    (cases_Bool (ltb x.end a))

pub dropped_in : (m w b : ℕ) (xs : List Run) (c : ℕ) → row_ok m w xs ≡ true → in_row (dropped b xs) c ≡ (leb b c && in_row xs c)
dropped_in m w b [] c h = grind (arith, nat_tests)
dropped_in m w b (x ∷ xs) c h =
    let p = parts m w x xs h in
    let i = dropped_in (suc x.end) w b xs c p.rest in
    ⊎_elim
    (λ (t : ltb x.end (b + 1) ≡ true). rw t (grind (arith, nat_tests)))
    (λ (t : ltb x.end (b + 1) ≡ false). rw t (⊎_elim
    (λ (l : c < b). let z = below (suc x.end) w xs c p.rest (grind (arith, nat_tests)) in grind (arith, nat_tests))
    (λ (l : b ≤ c). grind (arith, nat_tests))
    (cases_lt c b)))
    (cases_Bool (ltb x.end (b + 1)))

pub dropped_ok : (l m w b : ℕ) (xs : List Run) → row_ok m w xs ≡ true → l ≤ max m b → row_ok l w (dropped b xs) ≡ true
dropped_ok l m w b [] h q = refl
dropped_ok l m w b (x ∷ xs) h q =
    let p = parts m w x xs h in
    let i = dropped_ok l (suc x.end) w b xs p.rest (omega arith) in
    ⊎_elim
    (λ (t : ltb x.end (b + 1) ≡ true). rw t i)
    (λ (t : ltb x.end (b + 1) ≡ false). rw t (grind (arith, nat_tests)))
    (cases_Bool (ltb x.end (b + 1)))

pub cleared_in : (m w a b : ℕ) (xs : List Run) (c : ℕ) → row_ok m w xs ≡ true → a ≤ b
    → in_row (cleared a b xs) c ≡ cond (leb a c && ltb c b) false (in_row xs c)
cleared_in m w a b [] c h l = grind (arith, nat_tests)
cleared_in m w a b (x ∷ xs) c h l =
    let p = parts m w x xs h in
    let i = cleared_in (suc x.end) w a b xs c p.rest l in
    let d = dropped_in m w b (x ∷ xs) c h in
    ⊎_elim
    (λ (t : ltb x.end (a + 1) ≡ true). rw t (grind (arith, nat_tests)))
    (λ (t : ltb x.end (a + 1) ≡ false). rw t (⊎_elim
    (λ (u : ltb x.first a ≡ true). rw u (⊎_elim
    (λ (q : c < a). let z = below (suc x.end) w xs c p.rest (grind (arith, nat_tests)) in grind (arith, nat_tests))
    (λ (q : a ≤ c). grind (arith, nat_tests))
    (cases_lt c a)))
    (λ (u : ltb x.first a ≡ false). rw u (⊎_elim
    (λ (q : c < a). let z = below (suc x.end) w xs c p.rest (grind (arith, nat_tests)) in grind (arith, nat_tests))
    (λ (q : a ≤ c). grind (arith, nat_tests))
    (cases_lt c a)))
    (cases_Bool (ltb x.first a))))
    (cases_Bool (ltb x.end (a + 1)))

pub cleared_ok : (m w a b : ℕ) (xs : List Run) → row_ok m w xs ≡ true → a < b → b ≤ w → row_ok m w (cleared a b xs) ≡ true
cleared_ok m w a b [] h e f = refl
cleared_ok m w a b (x ∷ xs) h e f =
    let p = parts m w x xs h in
    let i = cleared_ok (suc x.end) w a b xs p.rest e f in
    let d = dropped_ok (suc a) m w b (x ∷ xs) h (omega arith) in
    let g = dropped_ok m m w b (x ∷ xs) h (omega arith) in
    ⊎_elim
    (λ (t : ltb x.end (a + 1) ≡ true). rw t (grind (arith, nat_tests)))
    (λ (t : ltb x.end (a + 1) ≡ false). rw t (⊎_elim
    (λ (u : ltb x.first a ≡ true). rw u (grind (arith, nat_tests)))
    (λ (u : ltb x.first a ≡ false). rw u g)
    (cases_Bool (ltb x.first a))))
    (cases_Bool (ltb x.end (a + 1)))

pub dark_written : (w a b : ℕ) (dark : Bool) (xs ys : List Run) → dark ≡ true → row_ok 0 w xs ≡ true → a < b → b ≤ w → ys ≡ darkened a b xs → RowWritten w xs a b dark ys
dark_written w a b dark xs ys q h l k e = rw e (record {
  ordered = darkened_ok 0 w a b xs h (omega arith) l k;
  columns = λ c. let d = darkened_in 0 w a b xs c h (omega arith) in grind (arith, nat_tests);
})

pub clear_written : (w a b : ℕ) (dark : Bool) (xs ys : List Run) → dark ≡ false → row_ok 0 w xs ≡ true → a < b → b ≤ w → ys ≡ cleared a b xs → RowWritten w xs a b dark ys
clear_written w a b dark xs ys q h l k e = rw e (record {
  ordered = cleared_ok 0 w a b xs h l k;
  columns = λ c. rw q (cleared_in 0 w a b xs c h (omega arith));
})

pub darkened_room : (w a b n : ℕ) (xs : List Run) → row_ok 0 w xs ≡ true → a < b → b ≤ w → w ≤ 2 * n → length (darkened a b xs) ≤ n
darkened_room w a b n xs h l k r = omega (arith, room 0 w (darkened a b xs) (darkened_ok 0 w a b xs h (omega arith) l k) (omega arith))

pub cleared_room : (w a b n : ℕ) (xs : List Run) → row_ok 0 w xs ≡ true → a < b → b ≤ w → w ≤ 2 * n → length (cleared a b xs) ≤ n
cleared_room w a b n xs h l k r = omega (arith, room 0 w (cleared a b xs) (cleared_ok 0 w a b xs h l k) (omega arith))
