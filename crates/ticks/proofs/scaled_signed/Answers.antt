use Rattle.std.proofs.lemmas.Int.{ints, to_z-of_z}
use Rattle.ticks.proofs.Rounding.{nearest_law, signed_below}
use Rattle.ticks.proofs.scaled_signed.Goals as goal
use Rattle.ticks.specs.Ticks.{factor, nearest_z}
use Rattle.std.proofs.Common.{◌≡◌, pos, ◌-ℤ◌, ◌*ℤ◌, arith, w64, to_z, of_z}

pub returns-then-v-lt0 : goal.returns-then-v-lt0
returns-then-v-lt0 c =
    let v : to_z w64 (of_z w64 (pos 0 -ℤ to_z w64 c.scaled-size.result)) ≡ nearest_z (c.args.v *ℤ pos (factor c.args.unit)) c.args.d = grind (arith, ints, to_z-of_z, signed_below)
    in record { value = v; law = rw v (nearest_law (c.args.v *ℤ pos (factor c.args.unit)) c.args.d (omega arith)) }
