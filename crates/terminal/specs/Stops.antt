-- What a program has said where it stops.
use Rattle.std.specs.Prelude.{Bool, true, false}
use Rattle.terminal.specs.declared.listing.Listing.{Listing}
use Rattle.terminal.specs.declared.listing.Listing.TheVariants.{Refused, Stopped}
use Rattle.terminal.specs.declared.stop.Stop.{Stop}
use Rattle.terminal.specs.declared.stop.Stop.TheVariants.{Told, Output, Memory}

-- The reason was told, or the output did not take it; it is not that memory was short.
abbrev pub was_told : Stop → Bool
was_told Told = true
was_told (Output e) = true
was_told Memory = false

-- The same of what ends a listing early: a refused file is told.
abbrev pub listing_told : Listing → Bool
listing_told (Refused f) = true
listing_told (Stopped s) = was_told s
