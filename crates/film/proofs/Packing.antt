-- One bit more of a byte, and one byte more of a row.
use Rattle.std.proofs.Common.{◌≡◌, ℕ, zero, suc, ◌+◌, ◌^◌, ◌<◌, ◌≤◌, Bool, true, false, cond, ◌&&◌, ltb, leb, List, [], ◌∷◌, ◌++◌, map, length, get_or, take, drop, set, Ok, Err, Result, sym, refl, ap, ◌∙◌, append_assoc, arith, pow_mono}
use native.Mathlib.Nat.{two-pow-succ}
use Rattle.std.specs.List.{range_with_len}
use Rattle.std.proofs.lemmas.List.FromFn.{map-range_with_len_more, length-map-range_with_len}
use Rattle.std.proofs.lemmas.List.{append-nil, drop_more, set_at, length-take-le}
use Rattle.std.proofs.Math.ListN.{drop_of_length-le}
use Rattle.std.proofs.lemmas.Bool.{ltb-true, leb-true}
use Rattle.std.proofs.lemmas.Bool.Decides.{nat_tests}
use Rattle.film.specs.Frame.{Frame}
use Rattle.film.specs.Film.{Meaning}
use Rattle.film.specs.Faults.{Told, call}
use Rattle.film.specs.Packed.{binary, inked, byte_of, row_bytes, bytes_for, packed_length, packed}

binary_lt : (p : ℕ → Bool) (c n : ℕ) → binary p c n < 2 ^ n
binary_lt p c zero = omega arith
binary_lt p c (suc n) = let h = binary_lt p c n in rw (two-pow-succ n) (grind (arith, nat_tests))

-- fewer than eight bits leave room for one more
pub room : (p : ℕ → Bool) (c n b : ℕ) → b ≡ binary p c n → n < 8 → b < 128
room p c n b e h = let m : 2 ^ n ≤ 2 ^ 7 = pow_mono {j = 7} (omega arith) in let l = binary_lt p c n in omega arith

pub byte_more : (f : ℕ → ℕ) (xs out : List ℕ) (k v : ℕ) → k < length out → xs ≡ map f (range_with_len 0 k) ++ drop k out → v ≡ f k
    → set xs k v ≡ map f (range_with_len 0 (k + 1)) ++ drop (k + 1) out
byte_more f xs out k v h e w =
    ap (λ ys. set ys k v) (e ∙ ap (λ ys. map f (range_with_len 0 k) ++ ys) (drop_more out k 0 h))
    ∙ set_at (map f (range_with_len 0 k)) (get_or out k 0) (drop (k + 1) out) v k (length-map-range_with_len f 0 k)
    ∙ ap (λ z. map f (range_with_len 0 k) ++ z ∷ drop (k + 1) out) w
    ∙ sym (append_assoc (map f (range_with_len 0 k)) (f k ∷ []) (drop (k + 1) out))
    ∙ ap (λ ys. ys ++ drop (k + 1) out) (sym (map-range_with_len_more f 0 k k (omega arith)))

pub length_row_bytes : (m : Meaning) (row : ℕ) → length (row_bytes m row) ≡ bytes_for m.frame.width
unfolding row_bytes
length_row_bytes m row = length-map-range_with_len (byte_of (inked m row)) 0 (bytes_for m.frame.width)

-- the row is on the film, and there is room for its n bytes
pub record Packs (f : Frame) (row room n : ℕ) : Type 0 where
  pub on : row < f.height
  pub is : n ≡ bytes_for f.width
  pub fits : bytes_for f.width ≤ room

packs_by : (a b : Bool) (k n : ℕ) → ◌≡◌ {A = Result ℕ Told} (Ok n) (cond a (cond b (Ok k) (Err (call 5))) (Err (call 4))) → (a ≡ true) × (b ≡ true) × (n ≡ k)
packs_by true true k n e = (refl, refl, cc)
packs_by true false k n e = absurd (cc)
packs_by false b k n e = absurd (cc)

pub packs_row : (f : Frame) (row room n : ℕ) → ◌≡◌ {A = Result ℕ Told} (Ok n) (packed_length f row room) → Packs f row room n
packs_row f row room n e =
    let p = packs_by (ltb row f.height) (leb (bytes_for f.width) room) (bytes_for f.width) n e in
    record { on = ltb-true _ _ p.0; is = p.2; fits = leb-true _ _ p.1 }

-- the loop over the bytes ends with the row's
pub pack_ends : (m : Meaning) (row : ℕ) (out xs : List ℕ) (k : ℕ) → row < m.frame.height → bytes_for m.frame.width ≤ length out
    → k ≡ bytes_for m.frame.width → xs ≡ map (byte_of (inked m row)) (range_with_len 0 k) ++ drop k out → xs ≡ packed m row out
unfolding row_bytes
pack_ends m row out xs k h l e i =
    let on : (ltb row m.frame.height && leb (bytes_for m.frame.width) (length out)) ≡ true = grind (arith, nat_tests) in
    (rw e at i) ∙ ap (λ b. cond b (row_bytes m row ++ drop (bytes_for m.frame.width) out) out) (sym on)

-- the same of a loop over the n bytes alone
pub pack_front : (m : Meaning) (row : ℕ) (out xs : List ℕ) (k n : ℕ) → row < m.frame.height → bytes_for m.frame.width ≤ length out
    → n ≡ bytes_for m.frame.width → k ≡ n → xs ≡ map (byte_of (inked m row)) (range_with_len 0 k) ++ drop k (take n out) → xs ++ drop n out ≡ packed m row out
pack_front m row out xs k n h l e j i =
    let f = byte_of (inked m row) in
    let t : length (take n out) ≡ n = length-take-le n out (omega arith) in
    let z : drop k (take n out) ≡ [] = drop_of_length-le (take n out) (omega arith) in
    let p : xs ≡ map f (range_with_len 0 k) = i ∙ ap (λ ys. map f (range_with_len 0 k) ++ ys) z ∙ append-nil (map f (range_with_len 0 k)) in
    pack_ends m row out (xs ++ drop n out) k h l (j ∙ e) (ap (λ ys. ys ++ drop n out) p ∙ ap (λ q. map f (range_with_len 0 k) ++ drop q out) (sym j))
