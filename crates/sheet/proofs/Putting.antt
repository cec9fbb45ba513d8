-- Bytes put into an output one after another.
use Rattle.std.proofs.Common.{◌≡◌, ℕ, ◌+◌, ◌/◌, ◌%◌, ◌^◌, ◌<◌, ◌≤◌, List, [], ◌∷◌, ◌++◌, length, decimal, sym, refl, ap, ◌∙◌, subst, add-one, arith, zero, suc, ◌*◌, max, ⊎_elim}
use lib.Seq.{paste}
use Rattle.std.proofs.Math.Nat.{pow-succ', one-le-pow}
use Rattle.std.proofs.lemmas.Bool.{cases_lt}
use Rattle.std.proofs.lemmas.Fmt.{decimal_digit, decimal_step, decimal_nonempty, length-decimal-le}
use Rattle.std.proofs.lemmas.List.Edits.{paste-paste, paste_all, length-paste}
use Rattle.std.proofs.lemmas.List.{length_push, length-append}
use Rattle.sheet.specs.Sheet.{put, Put, header, sheet_length}

put_paste : (at : ℕ) (ys out : List ℕ) → put at ys out ≡ paste out at ys (length ys)
put_paste at ys out = sym (paste_all out at ys (length ys) refl)

-- an output keeps its length
pub length_put : (at : ℕ) (ys out : List ℕ) → at + length ys ≤ length out → length (put at ys out) ≡ length out
length_put at ys out h = ap length (put_paste at ys out) ∙ length-paste out at ys (length ys) h (omega arith)

-- bytes and then more bytes are all of them put at once
pub put_put : (at : ℕ) (ys zs out : List ℕ) → at ≤ length out → put (at + length ys) zs (put at ys out) ≡ put at (ys ++ zs) out
put_put at ys zs out h =
    put_paste (at + length ys) zs (put at ys out)
    ∙ ap (λ xs. paste xs (at + length ys) zs (length zs)) (put_paste at ys out)
    ∙ paste-paste out at ys zs (length ys) (length zs) refl refl h
    ∙ ap (λ n. paste out at (ys ++ zs) n) (sym (length-append ys zs))
    ∙ sym (put_paste at (ys ++ zs) out)

pub puts : {at p q : ℕ} {ys zs out mid left : List ℕ} → at ≤ length out → Put at ys out mid p → Put p zs mid left q → Put at (ys ++ zs) out left q
puts {at = at} {ys = ys} {zs = zs} {out = out} {mid = mid} h a b = record {
  output = b.output ∙ ap (λ n. put n zs mid) a.ends ∙ ap (λ xs. put (at + length ys) zs xs) a.output ∙ put_put at ys zs out h;
  ends = let e = length-append ys zs in let f = a.ends in let g = b.ends in omega arith;
}

-- a number of one digit, and the last digit of a longer one
pub one_digit : {at p n q : ℕ} {out mid left : List ℕ} → n < 10 → p ≡ at → mid ≡ out → Put p ((48 + n % 10) ∷ []) mid left q → Put at (decimal n) out left q
one_digit {at = at} {n = n} {q = q} {out = out} {left = left} h e f b =
    let P : List ℕ → Type 0 = λ ys. Put at ys out left q in
    let d : n % 10 ≡ n = omega arith in
    subst P (sym (decimal_digit n h)) (subst (λ k. P ((48 + k) ∷ [])) d (rw e at (rw f at b)))

pub last_digit : {at n o p q : ℕ} {out mid seen left : List ℕ} → at ≤ length out → 10 ≤ n → n < 2 ^ 64
    → Put at (decimal (n / 10)) out mid o → p ≡ o → seen ≡ mid → Put p ((48 + n % 10) ∷ []) seen left q → Put at (decimal n) out left q
last_digit {at = at} {n = n} {q = q} {out = out} {left = left} h t l a e f b =
    let P : List ℕ → Type 0 = λ ys. Put at ys out left q in subst P (sym (decimal_step n t l)) (puts h a (rw e at (rw f at b)))

pub length_number : (n : ℕ) → 10 ≤ n → n < 2 ^ 64 → length (decimal n) ≡ length (decimal (n / 10)) + 1
length_number n t l = ap length (decimal_step n t l) ∙ length_push (decimal (n / 10)) (48 + n % 10)

pub length_digit : (n : ℕ) → n < 10 → length (decimal n) ≡ 1
length_digit n h = ap length (decimal_digit n h)

-- a number from the k-th power of 10 on has more than k digits
more_digits : (k n : ℕ) → 10 ^ k ≤ n → n < 2 ^ 64 → k < length (decimal n)
more_digits zero n h l = decimal_nonempty n l
more_digits (suc k) n h l =
    let p = pow-succ' 10 k in
    let one = one-le-pow k 10 (omega arith) in
    let q = more_digits k (n / 10) (omega arith) (omega arith) in
    omega (arith, length_number n (omega arith) l)

no_power : (k : ℕ) → 10 ^ k ≤ 1 → k ≡ 0
no_power zero h = refl
no_power (suc k) h = absurd (omega (arith, pow-succ' 10 k, one-le-pow k 10 (omega arith)))

-- digits are counted by the power of 10 that a number reaches
pub digit_count : (n m k : ℕ) → m ≡ max n 1 → n < 2 ^ 32 → 10 ^ k ≤ m → m < 10 * 10 ^ k → length (decimal n) ≡ k + 1
digit_count n m k e l a b = ⊎_elim
    (λ (z : n < 1). let none = no_power k (omega arith) in omega (arith, length_digit n (omega arith)))
    (λ (z : 1 ≤ n).
    let p = pow-succ' 10 k in
    let i = add-one k in
    let up = length-decimal-le (suc k) n (omega arith) (omega arith) (omega arith) in
    omega (arith, more_digits k n (omega arith) (omega arith)))
    (cases_lt n 1)

pub length_header : (w h : ℕ) → length (header w h) ≡ length (decimal w) + length (decimal h) + 5
unfolding header
length_header w h = simp length-append (omega arith)

pub header_fits : (w h : ℕ) → length (decimal w) + length (decimal h) + 5 ≤ sheet_length w h
unfolding sheet_length
header_fits w h = omega (arith, length_header w h)
