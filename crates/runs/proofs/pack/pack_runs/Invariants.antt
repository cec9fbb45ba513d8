use Rattle.std.proofs.Common.{◌≡◌, ℕ, ◌/◌, ◌<◌, ◌||◌, length, get_or, drop}
use Rattle.bits.specs.Bits.{bit_of}
use Rattle.runs.specs.Rows.{in_row}
use Rattle.runs.proofs.pack.pack_runs.Given as goal

-- what is dark already, with the runs that are left, is the row
abbrev pub invariant-loop-x : goal.invariant-loop-x
invariant-loop-x l = ((n : ℕ) → n / 8 < length l.out → (bit_of l.out n || in_row (drop l.x-index l.row) n) ≡ in_row l.row n)
    × ((k : ℕ) → get_or l.out k 0 < 256)
