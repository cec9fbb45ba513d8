-- worked examples of numbers brought to ticks
use Rattle.std.specs.Prelude.{Bool, List, [], ◌∷◌, pos, neg_ℤ, ◌==◌}
use Rattle.plane.specs.Plane.{eq_z}
use Rattle.ticks.specs.Ticks.{half_ticks, to_ticks}
use Rattle.ticks.specs.declared.Decimals.TheVariants.{Four, Six}
use Rattle.ticks.specs.declared.Unit.TheVariants.{Inch, Millimetre}

-- coordinates in millimetres and in inches, and the half of 0.015 mm
abbrev pub tick_samples : List Bool
tick_samples =
    eq_z (to_ticks Millimetre Six (pos 2500)) (pos 1) ∷
    eq_z (to_ticks Millimetre Six (neg_ℤ (pos 2500))) (neg_ℤ (pos 1)) ∷
    eq_z (to_ticks Millimetre Six (pos 2499)) (pos 0) ∷
    eq_z (to_ticks Inch Four (pos 1)) (pos 1) ∷
    eq_z (to_ticks Millimetre Four (pos 1500024)) (pos 30000) ∷
    (half_ticks Millimetre 15000 == 2) ∷ []
