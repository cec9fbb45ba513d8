-- all worked examples
use Rattle.std.specs.Prelude.{Bool, true, ◌&&◌, List, [], ◌∷◌, ◌++◌}
use Rattle.checks.specs.ShapeSamples.{shape_samples}
use Rattle.checks.specs.TickSamples.{tick_samples}

-- each of the list is true
abbrev pub all_true : List Bool → Bool
all_true [] = true
all_true (b ∷ bs) = b && all_true bs

-- the lists of all layers
abbrev pub samples : List Bool
samples = tick_samples ++ shape_samples
