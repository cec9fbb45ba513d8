use Rattle.std.specs.Prelude.{◌≡◌, ℕ, ◌≤◌, min, Bool, true, false, List, [], ◌∷◌, ◌++◌, length, take, drop, Ok, Err, Result, nat_lt}
use Rattle.table.specs.declared.Full.{Full}
use Rattle.table.specs.declared.Table.{Table}

-- The records that a table holds.
abbrev pub records : {X : Type 0} → Table X → List X
records t = take t.len t.slots.now

-- How many it can hold.
abbrev pub room : {X : Type 0} → Table X → ℕ
room t = min t.limit (length t.slots.now)

-- A table over the same slots and with the same limit, whose slots past its records are as they were.
pub record Kept {X : Type 0} (old new : Table X) : Type 0 where
  pub lent : new.slots.ghost_name ≡ old.slots.ghost_name
  pub limit : new.limit ≡ old.limit
  pub size : length new.slots.now ≡ length old.slots.now
  pub more : old.len ≤ new.len
  pub past : drop new.len new.slots.now ≡ drop new.len old.slots.now

-- The answer of a full table.
abbrev pub is_full : Result ℕ Full → Bool
is_full (Ok i) = false
is_full (Err e) = true

-- Where there is room the record stands behind the others, and its number is told; a full table stays as it was.
abbrev pub Outcome : {X : Type 0} → Bool → Table X → X → Result ℕ Full → Table X → Type 0
Outcome true old x r new = (r ≡ Ok (length (records old))) × (records new ≡ records old ++ (x ∷ []))
Outcome false old x r new = (is_full r ≡ true) × (new ≡ old)

-- What appending the record x does, and answers.
pub record Appended {X : Type 0} (old : Table X) (x : X) (r : Result ℕ Full) (new : Table X) : Type 0 where
  pub kept : Kept old new
  pub outcome : Outcome (nat_lt (length (records old)) (room old)) old x r new
