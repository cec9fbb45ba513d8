-- The blocks that are being laid.
use Rattle.std.specs.Prelude.{ℕ, false, List, pos, slice_index_or}
use Rattle.laid.specs.declared.kinds.Frame.{Frame}
use Rattle.plane.specs.declared.points.Placing.{Placing}
use Rattle.std.proofs.Common.{lit≤}

-- As the file has it, on the layer itself.
abbrev pub unplaced : Placing
unplaced = record { mirror_x = false; mirror_y = false; dx = pos 0; dy = pos 0; level = 0; deep = lit≤ tt; far = (lit≤ tt, lit≤ tt) }

-- A frame of no block.
abbrev pub idle : Frame
idle = record { next = 0; block = 0; placing = unplaced; turn = false; low = lit≤ tt }

-- How many blocks stand around what frame k lays.
abbrev pub level_at : List Frame → ℕ → ℕ
level_at frames k = (slice_index_or frames k idle).placing.level
