-- The runs that a row's slots hold.
use Rattle.std.specs.Prelude.{◌≡◌, List, length, take}
use Rattle.runs.specs.declared.run.Run.{Run}
use Rattle.runs.specs.declared.row.Row.{Row}

-- the first ones
abbrev pub held : Row → List Run
held r = take r.len r.slots.now

-- a row over the same slots
pub record SameSlots (old new : Row) : Type 0 where
  pub lent : new.slots.ghost_name ≡ old.slots.ghost_name
  pub room : length new.slots.now ≡ length old.slots.now
