use Rattle.history.proofs.Joining.{every_past}
use Rattle.history.proofs.Tiling.{every_tiling}
use Rattle.history.proofs.every_past.Goals as goal
use Rattle.std.proofs.Common.{refl}

pub returns : goal.returns
returns c = record { past = every_past; tiles = every_tiling; value = refl }
