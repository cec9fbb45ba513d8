-- One byte of a fill.
use Rattle.std.proofs.Common.{◌≡◌, ℕ, ◌+◌, ◌-◌, ◌*◌, ◌/◌, ◌%◌, ◌<◌, ◌≤◌, min, Bool, cond, ◌&&◌, ltb, leb, List, length, get_or, set, sym, ap, ◌∙◌, ⊎_elim, arith, get_or-set_other, get_or-set_same}
use Rattle.std.proofs.lemmas.Bool.{cases_eq}
use Rattle.std.proofs.lemmas.Bool.Decides.{nat_tests}
use Rattle.bits.specs.Bits.{bit_in, bit_of, among}

pub byte_more : (xs : List ℕ) (from to k i j v : ℕ) (dark : Bool) (old : ℕ → Bool) → k < length xs → from / 8 ≤ k → 8 * k < to → i ≡ from - 8 * k → j ≡ min (to - 8 * k) 8
    → ((q : ℕ) → q < 8 → bit_in v q ≡ cond (among i j q) dark (bit_in (get_or xs k 0) q))
    → ((m : ℕ) → bit_of xs m ≡ cond (leb from m && (ltb m to && ltb m (8 * k))) dark (old m))
    → (m : ℕ) → bit_of (set xs k v) m ≡ cond (leb from m && (ltb m to && ltb m (8 * (k + 1)))) dark (old m)
byte_more xs from to k i j v dark old h f t ei ej w inv m = ⊎_elim
    (λ (e : m / 8 ≡ k).
    let g : get_or (set xs k v) (m / 8) 0 ≡ v = rw e (rw get_or-set_same) in
    let o : get_or xs (m / 8) 0 ≡ get_or xs k 0 = rw e in
    let x : bit_in (get_or xs k 0) (m % 8) ≡ old m = ap (λ z. bit_in z (m % 8)) (sym o) ∙ inv m ∙ grind (arith, nat_tests) in
    let y : cond (among i j (m % 8)) dark (old m) ≡ cond (leb from m && (ltb m to && ltb m (8 * (k + 1)))) dark (old m) = grind (arith, nat_tests) in
    ap (λ z. bit_in z (m % 8)) g ∙ w (m % 8) (omega arith) ∙ ap (λ z. cond (among i j (m % 8)) dark z) x ∙ y)
    (λ (e : m / 8 ≡ k → ⊥).
    let g : get_or (set xs k v) (m / 8) 0 ≡ get_or xs (m / 8) 0 = rw get_or-set_other in
    let y : cond (leb from m && (ltb m to && ltb m (8 * k))) dark (old m) ≡ cond (leb from m && (ltb m to && ltb m (8 * (k + 1)))) dark (old m) = grind (arith, nat_tests) in
    ap (λ z. bit_in z (m % 8)) g ∙ inv m ∙ y)
    (cases_eq (m / 8) k)

-- a byte that is written over is a byte
pub fit_more : (xs : List ℕ) (k v q : ℕ) → k < length xs → v < 256 → get_or xs q 0 < 256 → get_or (set xs k v) q 0 < 256
fit_more xs k v q h l o = ⊎_elim
    (λ (e : q ≡ k). rw e (rw get_or-set_same l))
    (λ (e : q ≡ k → ⊥). rw get_or-set_other o)
    (cases_eq q k)
