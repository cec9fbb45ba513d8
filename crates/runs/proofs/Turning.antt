-- A part of a row's slots turned by one place or more.
use Rattle.std.proofs.Common.{◌≡◌, ℕ, ◌+◌, ◌-◌, ◌<◌, ◌≤◌, List, [], ◌∷◌, ◌++◌, length, take, drop, set, sym, refl, ap, ◌∙◌, append_assoc, arith}
use borrow.Rule.Slice.PartMut.{put_mid, post_of}
use Rattle.std.specs.List.{insert}
use Rattle.std.proofs.lemmas.List.{take-append-drop, take_at, drop_at, take-take, take-set-le, take_more_set, drop-take, drop-drop, length-take-le, length-drop, length-append}

-- the part from k on of the first n + 1, once the last of them is x
last_put : {X : Type 0} (s : List X) (n k : ℕ) (x : X) → k ≤ n → n < length s
    → take (n + 1 - k) (drop k (set s n x)) ≡ drop k (take n s) ++ x ∷ []
last_put s n k x h l =
    let xs = take n s in
    let up : k + (n + 1 - k) ≡ n + 1 = omega arith in
    let long = length-take-le n s (omega arith) in
    sym (drop-take k (n + 1 - k) (set s n x))
    ∙ ap (λ m. drop k (take m (set s n x))) up
    ∙ ap (drop k) (take_more_set s n x l ∙ ap (λ ys. ys ++ x ∷ []) (sym (take-append-drop k xs)) ∙ append_assoc (take k xs) (drop k xs) (x ∷ []))
    ∙ drop_at (take k xs) (drop k xs ++ x ∷ []) k (length-take-le k xs (omega arith))

-- the last of them turned to the front
turned_right : {X : Type 0} (zs ys m : List X) (x : X) → m ≡ zs ++ x ∷ [] → ys ≡ drop (length m - 1) m ++ take (length m - 1) m → ys ≡ x ∷ zs
turned_right zs ys m x e f =
    let n : length m - 1 ≡ length zs = omega (arith, ap length e ∙ length-append zs (x ∷ [])) in
    f ∙ ap (λ i. drop i m ++ take i m) n ∙ ap (λ ws. drop (length zs) ws ++ take (length zs) ws) e
    ∙ ap (λ ws. ws ++ take (length zs) (zs ++ x ∷ [])) (drop_at zs (x ∷ []) (length zs) refl)
    ∙ ap (λ ws. x ∷ ws) (take_at zs (x ∷ []) (length zs) refl)

pub inserted : {X : Type 0} (s ys : List X) (n k : ℕ) (x : X) → k ≤ n → n < length s
    → ys ≡ drop (length (take (n + 1 - k) (drop k (set s n x))) - 1) (take (n + 1 - k) (drop k (set s n x))) ++ take (length (take (n + 1 - k) (drop k (set s n x))) - 1) (take (n + 1 - k) (drop k (set s n x)))
    → take (n + 1) (put_mid k (n + 1 - k) (set s n x) ys) ≡ insert (take n s) k x
inserted s ys n k x h l e =
    let xs = take n s in
    let long = length-take-le n s (omega arith) in
    let front : take k (set s n x) ≡ take k xs = take-set-le k s n x h ∙ sym (take-take k n s h) in
    let part = turned_right (drop k xs) ys _ x (last_put s n k x h l) e in
    let a = length-take-le k xs (omega arith) in
    let b = length-drop k xs in
    let n1 : length (take k xs ++ x ∷ drop k xs) ≡ n + 1 = omega (arith, length-append (take k xs) (x ∷ drop k xs)) in
    let rest = post_of k (n + 1 - k) (set s n x) in
    ap (λ zs. take (n + 1) (zs ++ (ys ++ rest))) front
    ∙ ap (λ zs. take (n + 1) (take k xs ++ (zs ++ rest))) part
    ∙ ap (take (n + 1)) (sym (append_assoc (take k xs) (x ∷ drop k xs) rest))
    ∙ take_at (take k xs ++ x ∷ drop k xs) rest (n + 1) n1

pub cut : {X : Type 0} (s ys : List X) (n k j : ℕ) → k ≤ j → j ≤ n → n ≤ length s
    → ys ≡ drop (j - k) (take (n - k) (drop k s)) ++ take (j - k) (take (n - k) (drop k s))
    → take (n - (j - k)) (put_mid k (n - k) s ys) ≡ take k (take n s) ++ drop j (take n s)
cut s ys n k j h l m e =
    let xs = take n s in
    let up : k + (n - k) ≡ n = omega arith in
    let on : k + (j - k) ≡ j = omega arith in
    let long = length-take-le n s m in
    let part : take (n - k) (drop k s) ≡ drop k xs = sym (drop-take k (n - k) s) ∙ ap (λ i. drop k (take i s)) up in
    let turned : ys ≡ drop j xs ++ take (j - k) (drop k xs)
    = e ∙ ap (λ zs. drop (j - k) zs ++ take (j - k) zs) part ∙ ap (λ zs. zs ++ take (j - k) (drop k xs)) (drop-drop (j - k) k xs ∙ ap (λ i. drop i xs) on) in
    let front : take k s ≡ take k xs = sym (take-take k n s (omega arith)) in
    let a = length-take-le k xs (omega arith) in
    let b = length-drop j xs in
    let n1 : length (take k xs ++ drop j xs) ≡ n - (j - k) = omega (arith, length-append (take k xs) (drop j xs)) in
    let rest = take (j - k) (drop k xs) ++ post_of k (n - k) s in
    ap (λ zs. take (n - (j - k)) (zs ++ (ys ++ post_of k (n - k) s))) front
    ∙ ap (λ zs. take (n - (j - k)) (take k xs ++ zs)) (ap (λ zs. zs ++ post_of k (n - k) s) turned ∙ append_assoc (drop j xs) (take (j - k) (drop k xs)) (post_of k (n - k) s))
    ∙ ap (take (n - (j - k))) (sym (append_assoc (take k xs) (drop j xs) rest))
    ∙ take_at (take k xs ++ drop j xs) rest (n - (j - k)) n1
