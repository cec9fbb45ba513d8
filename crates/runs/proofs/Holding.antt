-- How many runs a row's slots hold.
use Rattle.std.proofs.Common.{◌≡◌, length}
use Rattle.std.proofs.lemmas.List.{length-take-le}
use Rattle.runs.specs.declared.row.Row.{Row}
use Rattle.runs.specs.Held.{held}

pub held_length : (r : Row) → length (held r) ≡ r.len
held_length r = length-take-le r.len r.slots.now r.within
