use Rattle.std.proofs.Common.{◌≡◌, ◌*◌, ◌++◌, map, drop}
use Rattle.std.specs.List.{range_with_len}
use Rattle.film.specs.Packed.{inked, binary, byte_of}
use Rattle.film.proofs.film.Film.pack_row.Given as goal

-- the first k bytes are written
abbrev pub invariant-loop-k : goal.invariant-loop-k
invariant-loop-k g l = l.packed-items ≡ map (byte_of (inked (g.Self.Film.meaning l.self) l.row)) (range_with_len 0 l.k) ++ drop l.k l.initial.packed-items

-- the first j bits of byte k are read
abbrev pub invariant-loop-j : goal.invariant-loop-j
invariant-loop-j g l = l.byte ≡ binary (inked (g.Self.Film.meaning l.self) l.row) (8 * l.k) l.j
