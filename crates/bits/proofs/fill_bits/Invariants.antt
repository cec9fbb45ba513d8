use Rattle.std.proofs.Common.{◌≡◌, ℕ, ◌*◌, ◌<◌, ◌≤◌, cond, ◌&&◌, ltb, leb, get_or, take, drop}
use Rattle.bits.specs.Bits.{bit_of}
use Rattle.bits.proofs.fill_bits.Given as goal

-- the bytes before k are filled, and no others
abbrev pub invariant-loop-k : goal.invariant-loop-k
invariant-loop-k l = ((m : ℕ) → bit_of l.bytes m ≡ cond (leb l.from m && (ltb m l.to && ltb m (8 * l.k))) l.dark (bit_of l.initial.bytes m))
    × ((q : ℕ) → 8 * q ≤ l.from → take q l.bytes ≡ take q l.initial.bytes)
    × ((q : ℕ) → l.to ≤ 8 * q → drop q l.bytes ≡ drop q l.initial.bytes)
    × ((q : ℕ) → get_or l.initial.bytes q 0 < 256 → get_or l.bytes q 0 < 256)
