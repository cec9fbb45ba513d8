use Rattle.std.proofs.Common.{rules}
use Rattle.std.proofs.lemmas.Int.{to_z-of_z}
use Rattle.shapes.proofs.flash_shapes.in_lying.Goals as goal

pub returns-then-is_near : goal.returns-then-is_near
returns-then-is_near c = search (rules, to_z-of_z)

pub returns-else-is_near : goal.returns-else-is_near
returns-else-is_near c = search (rules, to_z-of_z)
