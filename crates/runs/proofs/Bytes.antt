-- A row's runs as bytes.
use Rattle.std.proofs.Common.{◌≡◌, ℕ, suc, ◌/◌, ◌<◌, ◌≤◌, true, false, ◌&&◌, ltb, leb, List, [], ◌∷◌, ◌++◌, length, get_or, drop, sym, refl, ap, ◌∙◌, ⊎_elim, arith}
use Rattle.std.proofs.lemmas.Bool.{cases_lt, lt-ltb, le-ltb, and_parts}
use Rattle.std.proofs.lemmas.Bool.Decides.{nat_tests}
use Rattle.bits.specs.Bits.{bit_of}
use Rattle.bits.proofs.Rows.{bytes_are}
use Rattle.film.specs.Packed.{bytes_for, inked, packed}
use Rattle.film.proofs.Packing.{pack_ends}
use Rattle.film.specs.declared.numbers.Numbers.{Numbers}
use Rattle.runs.specs.declared.run.Run.{Run}
use Rattle.runs.specs.Rows.{in_row, row_ok}
use Rattle.runs.specs.Slots.{row_slots, runs_of, row_sound, run_meaning}
use Rattle.runs.proofs.Meaning.{parts}

-- no run reaches past the row
past_end : (lo w : ℕ) (xs : List Run) (c : ℕ) → row_ok lo w xs ≡ true → w ≤ c → in_row xs c ≡ false
past_end lo w [] c h l = refl
past_end lo w (x ∷ xs) c h l =
    let p = parts lo w x xs h in
    let i = past_end (suc x.end) w xs c p.rest l in
    grind (arith, nat_tests)

-- a column of the row as the film has it
inked_is : (w c : ℕ) (xs : List Run) → row_ok 0 w xs ≡ true → in_row xs c ≡ (ltb c w && in_row xs c)
inked_is w c xs h = ⊎_elim
    (λ (l : c < w). ap (λ b. b && in_row xs c) (sym (lt-ltb c w l)))
    (λ (l : w ≤ c). past_end 0 w xs c h l ∙ ap (λ b. b && in_row xs c) (sym (le-ltb c w l)))
    (cases_lt c w)

-- bytes with the row's bits, before what stood there, are the row packed
pub packs : (n : Numbers) (counts : List ℕ) (slots : List Run) (row : ℕ) (out ys : List ℕ) → row < n.height → bytes_for n.width ≤ length out
    → row_sound counts slots n.width row ≡ true → length ys ≡ bytes_for n.width
    → ((k : ℕ) → get_or ys k 0 < 256)
    → ((m : ℕ) → m / 8 < length ys → bit_of ys m ≡ in_row (runs_of counts slots n.width row) m)
    → (ys ++ drop (bytes_for n.width) out) ≡ packed (run_meaning counts slots n) row out
packs n counts slots row out ys h l s e f b =
    let m = run_meaning counts slots n in
    let q = and_parts (leb (get_or counts row 0) (row_slots n.width)) (row_ok 0 n.width (runs_of counts slots n.width row)) s in
    let z = bytes_are (inked m row) (bytes_for n.width) ys e (λ k _. f k)
    (λ c k. b c (omega arith) ∙ inked_is n.width c (runs_of counts slots n.width row) q.1) in
    pack_ends m row out (ys ++ drop (bytes_for n.width) out) (bytes_for n.width) h l refl (ap (λ zs. zs ++ drop (bytes_for n.width) out) z)
