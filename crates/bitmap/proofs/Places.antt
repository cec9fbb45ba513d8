-- Where a pixel's bit lies.
use Rattle.std.proofs.Common.{◌≡◌, ℕ, ◌+◌, ◌-◌, ◌*◌, ◌/◌, ◌%◌, ◌^◌, ◌<◌, ◌≤◌, Bool, true, false, cond, ◌&&◌, eqb, ltb, leb, List, [], ◌++◌, map, length, get_or, take, drop, replicate, Some, None, Ok, sym, refl, ap, ◌∙◌, ⊎_elim, arith}
use native.Mathlib.Nat.{zero-div}
use lib.ListN.{length-replicate}
use Rattle.std.proofs.lemmas.Nat.{mul-le}
use Rattle.std.proofs.lemmas.List.{get_or_append_left, get_or-replicate, length-drop, length-take-le, places}
use Rattle.std.specs.List.{range_with_len}
use Rattle.std.proofs.lemmas.List.FromFn.{fill_by_all}
use Rattle.std.proofs.lemmas.Bool.{cases_order, cases_lt, le-leb}
use Rattle.std.proofs.lemmas.Bool.Decides.{nat_tests}
use Rattle.bits.specs.Bits.{bit_in, bit_of, among}
use Rattle.bits.proofs.Rows.{byte_is}
use Rattle.film.specs.Faults.{call}
use Rattle.film.specs.Film.{Beside, SpanWritten, in_span}
use Rattle.film.specs.Made.{frame_of}
use Rattle.film.specs.Packed.{bytes_for, inked, byte_of}
use Rattle.film.specs.declared.numbers.Numbers.{Numbers}
use Rattle.bitmap.specs.Made.{NewBitmap, bitmap_refusal}
use Rattle.bitmap.specs.Pixels.{own_bytes, pixel_of, bitmap_meaning, bitmap_beside, padding}

-- a row's bits end where the next row's begin
pub row_room : (row h s : ℕ) → row < h → row * (8 * s) + 8 * s ≤ 8 * (h * s)
row_room row h s lt = omega (arith, mul-le (row + 1) s h s (omega arith) (omega arith))

-- a bit of a row lies among the span's bits exactly if it is one of the span's
in_run_lem : (row first end s c r : ℕ) → end ≤ 8 * s → c < 8 * s
    → among (row * (8 * s) + first) (row * (8 * s) + end) (r * (8 * s) + c) ≡ in_span row first end c r
in_run_lem row first end s c r k lt = ⊎_elim
    (λ (e : r ≡ row). rw e (grind (arith, nat_tests)))
    (⊎_elim
    (λ (l : r < row). let q = mul-le (r + 1) (8 * s) row (8 * s) (omega arith) (omega arith) in grind (arith, nat_tests, q))
    (λ (l : row < r). let q = mul-le (row + 1) (8 * s) r (8 * s) (omega arith) (omega arith) in grind (arith, nat_tests, q)))
    (cases_order r row)

-- the span's bits of the bytes are written and no others, nor what follows them
pub record Filled (w row first end : ℕ) (dark : Bool) (xs ys : List ℕ) : Type 0 where
  pub bits : (m : ℕ) → m / 8 < length xs → bit_of ys m ≡ cond (among (row * (8 * bytes_for w) + first) (row * (8 * bytes_for w) + end) m) dark (bit_of xs m)
  pub after : (k : ℕ) → row * (8 * bytes_for w) + end ≤ 8 * k → drop k ys ≡ drop k xs

pub filled_at : (w row first end start : ℕ) (dark : Bool) (xs ys : List ℕ) → start ≡ row * (8 * bytes_for w)
    → ((m : ℕ) → m / 8 < length xs → bit_of ys m ≡ cond (among (start + first) (start + end) m) dark (bit_of xs m))
    → ((k : ℕ) → start + end ≤ 8 * k → drop k ys ≡ drop k xs) → Filled w row first end dark xs ys
filled_at w row first end start dark xs ys e b a = record { bits = rw e at b; after = rw e at a }

pixel_after : (w h row first end c r : ℕ) (dark : Bool) (xs ys : List ℕ) → Filled w row first end dark xs ys → h * bytes_for w ≤ length xs
    → end ≤ w → r < h → c < 8 * bytes_for w → pixel_of ys w c r ≡ cond (in_span row first end c r) dark (pixel_of xs w c r)
pixel_after w h row first end c r dark xs ys f l k hr lt =
    let q = row_room r h (bytes_for w) hr in
    f.bits (r * (8 * bytes_for w) + c) (omega arith)
    ∙ ap (λ t. cond t dark (pixel_of xs w c r)) (in_run_lem row first end (bytes_for w) c r (omega arith) lt)

pub still_padded : (n : Numbers) (row first end : ℕ) (dark : Bool) (xs ys : List ℕ) → Filled n.width row first end dark xs ys → own_bytes n ≤ length xs → end ≤ n.width
    → ((c r : ℕ) → padding n c r ≡ true → pixel_of xs n.width c r ≡ false)
    → (c r : ℕ) → padding n c r ≡ true → pixel_of ys n.width c r ≡ false
still_padded n row first end dark xs ys f l k p c r h =
    let b : c < 8 * bytes_for n.width = grind (arith, nat_tests) in
    let q : r < n.height = grind (arith, nat_tests) in
    let o : in_span row first end c r ≡ false = grind (arith, nat_tests) in
    pixel_after n.width n.height row first end c r dark xs ys f l k q b ∙ ap (λ t. cond t dark (pixel_of xs n.width c r)) o ∙ p c r h

pub span_written : (n : Numbers) (row first end : ℕ) (dark : Bool) (xs ys : List ℕ) → row < n.height → first ≤ end → end ≤ n.width
    → own_bytes n ≤ length xs → Filled n.width row first end dark xs ys
    → SpanWritten (bitmap_meaning xs n) row first end dark (Ok tt) (bitmap_meaning ys n)
span_written n row first end dark xs ys a b d l f =
    let u : (ltb row n.height && leb first end && leb end n.width) ≡ true = grind (arith, nat_tests) in
    record {
      answer = rw u;
      frame = refl;
      pixels = λ c r k q.
          let v : (ltb row n.height && leb first end && leb end n.width && in_span row first end c r) ≡ in_span row first end c r = grind (arith, nat_tests) in
          pixel_after n.width n.height row first end c r dark xs ys f l d q (omega arith) ∙ ap (λ t. cond t dark (pixel_of xs n.width c r)) (sym v);
    }

pub beside_kept : (n : Numbers) (row first end : ℕ) (dark : Bool) (xs ys : List ℕ) → row < n.height → end ≤ n.width
    → Filled n.width row first end dark xs ys → bitmap_beside ys n ≡ bitmap_beside xs n
beside_kept n row first end dark xs ys a d f =
    let q = row_room row n.height (bytes_for n.width) a in
    let B : List ℕ → Beside = λ zs. record { memory = zs; pixels = [] } in
    ap B (f.after (own_bytes n) (omega arith))

-- a byte of a row, as the row's pixels make it
pub row_byte : (n : Numbers) (xs : List ℕ) (row k b : ℕ) → ((c r : ℕ) → padding n c r ≡ true → pixel_of xs n.width c r ≡ false)
    → row < n.height → k < bytes_for n.width → b < 256 → b ≡ get_or xs (row * bytes_for n.width + k) 0
    → b ≡ byte_of (inked (bitmap_meaning xs n) row) k
row_byte n xs row k b p hr hk lt e = byte_is (inked (bitmap_meaning xs n) row) k b lt (λ j h.
    let s = bytes_for n.width in
    let a : (row * (8 * s) + (8 * k + j)) / 8 ≡ row * s + k = omega arith in
    let z : (row * (8 * s) + (8 * k + j)) % 8 ≡ j = omega arith in
    let q : pixel_of xs n.width (8 * k + j) row ≡ bit_in b j = ap (λ i. bit_in (get_or xs i 0) ((row * (8 * s) + (8 * k + j)) % 8)) a ∙ ap (λ i. bit_in (get_or xs (row * s + k) 0) i) z ∙ ap (λ v. bit_in v j) (sym e) in
    ⊎_elim
    (λ (w : 8 * k + j < n.width). sym q ∙ (let t : ltb (8 * k + j) n.width ≡ true = grind (arith, nat_tests) in ap (λ v. v && pixel_of xs n.width (8 * k + j) row) (sym t)))
    (λ (w : n.width ≤ 8 * k + j). sym q ∙ p (8 * k + j) row (grind (arith, nat_tests)) ∙ (let t : ltb (8 * k + j) n.width ≡ false = grind (arith, nat_tests) in ap (λ v. v && pixel_of xs n.width (8 * k + j) row) (sym t)))
    (cases_lt (8 * k + j) n.width))

-- the bytes of a row's place are the row's
pub row_packed : (n : Numbers) (xs ys zs : List ℕ) (row : ℕ) → ((c r : ℕ) → padding n c r ≡ true → pixel_of xs n.width c r ≡ false)
    → row < n.height → own_bytes n ≤ length xs → ((k : ℕ) → get_or (ys ++ zs) k 0 < 256)
    → ys ≡ take (bytes_for n.width) (drop (row * bytes_for n.width) xs)
    → ys ≡ map (byte_of (inked (bitmap_meaning xs n) row)) (range_with_len 0 (bytes_for n.width))
row_packed n xs ys zs row p h l f e =
    let s = bytes_for n.width in
    let q = row_room row n.height s h in
    let d = length-drop (row * s) xs in
    let t : length ys ≡ s = ap length e ∙ length-take-le s (drop (row * s) xs) (omega arith) in
    fill_by_all (byte_of (inked (bitmap_meaning xs n) row)) ys s 0 t (λ k lt.
    let a : get_or ys k 0 ≡ get_or xs (row * s + k) 0 = ap (λ ws. get_or ws k 0) e ∙ grind (arith, places) in
    let b : get_or ys k 0 < 256 = rw (get_or_append_left ys zs 0 k (omega arith)) at (f k) in
    row_byte n xs row k (get_or ys k 0) p h lt b a)

pub row_part : (xs ws : List ℕ) (row b n : ℕ) → b ≡ n → ws ≡ xs → take (row * b + b - row * b) (drop (row * b) ws) ≡ take n (drop (row * n) xs)
row_part xs ws row b n e f = let z : row * n + n - row * n ≡ n = omega arith in rw e (rw f (rw z))

-- a bit of bytes that were cleared
clear_bit : (n m : ℕ) (xs ys : List ℕ) → ys ≡ replicate n 0 ++ drop n xs → m / 8 < n → bit_of ys m ≡ false
clear_bit n m xs ys e h =
    let g : get_or ys (m / 8) 0 ≡ 0 = ap (λ zs. get_or zs (m / 8) 0) e ∙ get_or_append_left (replicate n 0) (drop n xs) 0 (m / 8) (simp length-replicate h) ∙ get_or-replicate n (m / 8) 0 0 h in
    ap (λ b. bit_in b (m % 8)) g ∙ ap (λ q. eqb (q % 2) 1) (zero-div (2 ^ (7 - m % 8)))

-- every bit of a cleared film's rows is clear
pub clear_row : (n : Numbers) (c r : ℕ) (xs ys : List ℕ) → ys ≡ replicate (own_bytes n) 0 ++ drop (own_bytes n) xs → r < n.height → c < 8 * bytes_for n.width
    → pixel_of ys n.width c r ≡ false
clear_row n c r xs ys e h l =
    let q = row_room r n.height (bytes_for n.width) h in
    clear_bit (own_bytes n) (r * (8 * bytes_for n.width) + c) xs ys e (omega arith)

pub new_padded : (n : Numbers) (xs ys : List ℕ) → ys ≡ replicate (own_bytes n) 0 ++ drop (own_bytes n) xs
    → (c r : ℕ) → padding n c r ≡ true → pixel_of ys n.width c r ≡ false
new_padded n xs ys e c r h =
    let b : c < 8 * bytes_for n.width = grind (arith, nat_tests) in
    let q : r < n.height = grind (arith, nat_tests) in
    clear_row n c r xs ys e q b

pub new_bitmap : (n : Numbers) (xs ys : List ℕ) → ys ≡ replicate (own_bytes n) 0 ++ drop (own_bytes n) xs → NewBitmap (frame_of n) xs n ys
new_bitmap n xs ys e = record { frame = refl; bytes = e; clear = λ c r h k. clear_row n c r xs ys e k (omega arith) }

pub not_refused : (n : Numbers) (room : ℕ) → own_bytes n ≤ room → bitmap_refusal (frame_of n) room ≡ None
not_refused n room h =
    let l = le-leb (own_bytes n) room h in
    ap (λ b. cond b (cond (leb (own_bytes n) room) None (Some (call 2))) (Some (call 1))) n.ok ∙ ap (λ b. cond b None (Some (call 2))) l
