-- One row's slots among all of them.
use Rattle.std.proofs.Common.{◌≡◌, ℕ, ◌+◌, ◌-◌, ◌*◌, ◌<◌, ◌≤◌, Bool, true, List, ◌++◌, length, get_or, take, drop, set, sym, ap, ◌∙◌, ⊎_elim, arith, get_or-set_other, get_or-set_same}
use borrow.Rule.Slice.PartMut.{put_mid, post_of}
use Rattle.std.proofs.lemmas.Nat.{mul-le}
use Rattle.std.proofs.lemmas.List.{drop_at, length-take, length-drop, take-append-le, length-take-le, drop-set-lt, drop-take, take-take}
use Rattle.std.proofs.lemmas.Slice.{take-put_mid_below, drop-put_mid}
use Rattle.std.proofs.lemmas.Bool.{cases_order}
use Rattle.runs.specs.declared.run.Run.{Run}
use Rattle.runs.specs.Rows.{RowWritten}
use Rattle.runs.specs.Slots.{row_slots, runs_of, row_sound}
use Rattle.runs.specs.Changed.{Within, RowChanged}

pub put_row : {X : Type 0} (a k r : ℕ) (xs ys : List X) → a ≤ length xs → r ≤ length ys → take r (drop a (put_mid a k xs ys)) ≡ take r ys
put_row a k r xs ys h l =
    ap (λ z. take r z) (drop_at (take a xs) (ys ++ post_of a k xs) a (length-take-le a xs h)) ∙ take-append-le r ys (post_of a k xs) l

pub put_within : (a k : ℕ) (xs ys : List Run) → a + k ≤ length xs → length ys ≡ k → Within xs a k (put_mid a k xs ys)
put_within a k xs ys h l = record {
  before = λ m j q. sym (drop-take m j (put_mid a k xs ys)) ∙ ap (λ z. drop m z) (take-put_mid_below a k xs ys (m + j) q (omega arith)) ∙ drop-take m j xs;
  after = λ m q. drop-put_mid a k xs ys m q (omega arith) l;
}

changed_row : (w row a b m : ℕ) (dark : Bool) (counts : List ℕ) (slots slots' : List Run) → row < length counts
    → RowWritten w (runs_of counts slots w row) a b dark (take m (drop (row * row_slots w) slots'))
    → m ≤ row_slots w → Within slots (row * row_slots w) (row_slots w) slots'
    → RowChanged w counts slots row a b dark (set counts row m) slots'
changed_row w row a b m dark counts slots slots' lt h l q =
    let e : get_or (set counts row m) row 0 ≡ m = rw get_or-set_same in
    record {
      written = rw e h;
      bound = rw e l;
      counted = λ r ne. get_or-set_other counts row r m 0 ne;
      later_counts = λ k l. drop-set-lt k counts row m l;
      later_slots = q.after;
      others = λ r ne k.
          let f = get_or-set_other counts row r m 0 ne in
          ap (λ n. take n (drop (r * row_slots w) slots')) f ∙ ⊎_elim
          (λ (e : r ≡ row). absurd (ne e))
          (⊎_elim
          (λ (g : r < row). q.before (r * row_slots w) (get_or counts r 0) (omega (arith, mul-le (r + 1) (row_slots w) row (row_slots w) (omega arith) (omega arith))))
          (λ (g : row < r). ap (λ z. take (get_or counts r 0) z) (q.after (r * row_slots w) (omega (arith, mul-le (row + 1) (row_slots w) r (row_slots w) (omega arith) (omega arith))))))
          (cases_order r row);
    }

pub row_changed : (w row a b m k : ℕ) (dark : Bool) (counts : List ℕ) (slots slots' : List Run) → row < length counts → k ≡ row_slots w
    → RowWritten w (take (get_or counts row 0) (drop (row * k) slots)) a b dark (take m (drop (row * k) slots'))
    → m ≤ k → Within slots (row * k) k slots'
    → RowChanged w counts slots row a b dark (set counts row m) slots'
row_changed w row a b m k dark counts slots slots' lt s h l q = changed_row w row a b m dark counts slots slots' lt (rw s at h) (rw s at l) (rw s at q)

pub part_room : {X : Type 0} (a k : ℕ) (xs : List X) → a + k ≤ length xs → length (take (a + k - a) (drop a xs)) ≡ k
part_room a k xs h = simp (length-take, length-drop) (omega arith)

pub part_front : {X : Type 0} (a k n : ℕ) (xs : List X) → n ≤ k → take n (take (a + k - a) (drop a xs)) ≡ take n (drop a xs)
part_front a k n xs h = take-take n (a + k - a) (drop a xs) (omega arith)

pub moved_row : (w a b : ℕ) (dark : Bool) (xs xs' ys ys' : List Run) → xs' ≡ xs → ys' ≡ ys → RowWritten w xs a b dark ys → RowWritten w xs' a b dark ys'
moved_row w a b dark xs xs' ys ys' e f h = rw e (rw f h)

pub moved_within : (a k k' : ℕ) (xs ys : List Run) → k' ≡ k → Within xs a k ys → Within xs a k' ys
moved_within a k k' xs ys e h = rw e h

-- the slots of a row put back once its runs are written
pub row_put : (w row a b m k : ℕ) (dark : Bool) (counts : List ℕ) (slots ys : List Run) → row < length counts → row * k + k ≤ length slots → k ≡ row_slots w
    → get_or counts row 0 ≤ k → length ys ≡ length (take (row * k + k - row * k) (drop (row * k) slots)) → m ≤ length ys
    → RowWritten w (take (get_or counts row 0) (take (row * k + k - row * k) (drop (row * k) slots))) a b dark (take m ys)
    → RowChanged w counts slots row a b dark (set counts row m) (put_mid (row * k) (row * k + k - row * k) slots ys)
row_put w row a b m k dark counts slots ys lt room e few long le h =
    let at = row * k in
    let n = get_or counts row 0 in
    let own = at + k - at in
    let l = part_room at k slots room in
    let part = put_row at own m slots ys (omega arith) le in
    let rest = moved_within at own k slots (put_mid at own slots ys) (omega arith) (put_within at own slots ys (omega arith) (omega arith)) in
    let written = moved_row w a b dark _ _ _ _ (sym (part_front at k n slots few)) part h in
    row_changed w row a b m k dark counts slots (put_mid at own slots ys) lt e written (omega arith) rest

-- the slots of a row end where those of the next begin
pub row_room : (row h k : ℕ) → row < h → row * k + k ≤ h * k
row_room row h k lt = omega (arith, mul-le (row + 1) k h k (omega arith) (omega arith))

pub moved_sound : (w row : ℕ) (cs cs' : List ℕ) (ss ss' : List Run) → cs' ≡ cs → ss' ≡ ss → row_sound cs ss w row ≡ true → row_sound cs' ss' w row ≡ true
moved_sound w row cs cs' ss ss' e f h = rw e (rw f h)

pub moved_changed : (w row a b : ℕ) (dark : Bool) (cs cs' ds ds' : List ℕ) (ss ss' ts ts' : List Run) → cs ≡ cs' → ss ≡ ss' → ds ≡ ds' → ts ≡ ts'
    → RowChanged w cs ss row a b dark ds ts → RowChanged w cs' ss' row a b dark ds' ts'
moved_changed w row a b dark cs cs' ds ds' ss ss' ts ts' e f g i h = rw (sym e) (rw (sym f) (rw (sym g) (rw (sym i) h)))
