-- The slots that a caller lends for the records of a file.
use Rattle.std.specs.Prelude.{◌≡◌, ℕ, List, length}
use Rattle.std.specs.Borrow.{MutBor}
use Rattle.drawing.specs.Reading.{Outcome, read_into}
use Rattle.drawing.specs.declared.reading.Slots.{Slots}

-- The same slice is lent still, with as many slots.
pub record SameSlice {X : Type 0} (old new : MutBor (List X)) : Type 0 where
  pub lent : new.ghost_name ≡ old.ghost_name
  pub size : length new.now ≡ length old.now

-- The same slots are lent still.
pub record SameSlots (old new : Slots) : Type 0 where
  pub apertures : SameSlice old.apertures new.apertures
  pub objects : SameSlice old.objects new.objects
  pub pieces : SameSlice old.pieces new.pieces

-- A whole file, read into these slots.
abbrev pub read_in : Slots → List ℕ → Outcome
read_in s xs = read_into xs (length s.apertures.now) (length s.objects.now) (length s.pieces.now)
