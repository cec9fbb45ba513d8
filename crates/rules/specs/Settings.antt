-- The graphics state with another part.
use Rattle.std.specs.Prelude.{ℕ, true, Some, None}
use Rattle.forms.specs.declared.Format.{Format}
use Rattle.forms.specs.declared.Mode.{Mode}
use Rattle.forms.specs.declared.Polarity.{Polarity}
use Rattle.plane.specs.Plane.{At}
use Rattle.records.specs.declared.kinds.Mirror.{Mirror}
use Rattle.records.specs.declared.kinds.Owner.{Owner}
use Rattle.rules.specs.States as state
use Rattle.rules.specs.States.{StateSeen}
use Rattle.ticks.specs.declared.Unit.{Unit as LengthUnit}

-- The format is f; all else stays.
abbrev pub with_format : Format → StateSeen → StateSeen
with_format f s = record {
  format = Some f;
  unit = s.unit;
  polarity = s.polarity;
  mirror = s.mirror;
  aperture = s.aperture;
  mode = s.mode;
  arcs = s.arcs;
  point = s.point;
  owner = s.owner;
  region = s.region;
}

-- The unit is u; all else stays.
abbrev pub with_unit : LengthUnit → StateSeen → StateSeen
with_unit u s = record {
  format = s.format;
  unit = Some u;
  polarity = s.polarity;
  mirror = s.mirror;
  aperture = s.aperture;
  mode = s.mode;
  arcs = s.arcs;
  point = s.point;
  owner = s.owner;
  region = s.region;
}

-- The polarity is p; all else stays.
abbrev pub with_polarity : Polarity → StateSeen → StateSeen
with_polarity p s = record {
  format = s.format;
  unit = s.unit;
  polarity = p;
  mirror = s.mirror;
  aperture = s.aperture;
  mode = s.mode;
  arcs = s.arcs;
  point = s.point;
  owner = s.owner;
  region = s.region;
}

-- The mirror is m; all else stays.
abbrev pub with_mirror : Mirror → StateSeen → StateSeen
with_mirror m s = record {
  format = s.format;
  unit = s.unit;
  polarity = s.polarity;
  mirror = m;
  aperture = s.aperture;
  mode = s.mode;
  arcs = s.arcs;
  point = s.point;
  owner = s.owner;
  region = s.region;
}

-- The selected aperture has the number n; all else stays.
abbrev pub with_aperture : ℕ → StateSeen → StateSeen
with_aperture n s = record {
  format = s.format;
  unit = s.unit;
  polarity = s.polarity;
  mirror = s.mirror;
  aperture = Some n;
  mode = s.mode;
  arcs = s.arcs;
  point = s.point;
  owner = s.owner;
  region = s.region;
}

-- The mode is m; all else stays.
abbrev pub with_mode : Mode → StateSeen → StateSeen
with_mode m s = record {
  format = s.format;
  unit = s.unit;
  polarity = s.polarity;
  mirror = s.mirror;
  aperture = s.aperture;
  mode = Some m;
  arcs = s.arcs;
  point = s.point;
  owner = s.owner;
  region = s.region;
}

-- G75 has come; all else stays.
abbrev pub with_arcs : StateSeen → StateSeen
with_arcs s = record {
  format = s.format;
  unit = s.unit;
  polarity = s.polarity;
  mirror = s.mirror;
  aperture = s.aperture;
  mode = s.mode;
  arcs = true;
  point = s.point;
  owner = s.owner;
  region = s.region;
}

-- The current point is p; all else stays.
abbrev pub with_point : At → StateSeen → StateSeen
with_point p s = record {
  format = s.format;
  unit = s.unit;
  polarity = s.polarity;
  mirror = s.mirror;
  aperture = s.aperture;
  mode = s.mode;
  arcs = s.arcs;
  point = Some p;
  owner = s.owner;
  region = s.region;
}

-- AB and SR open or close: the current point is absent then, and all other state stays.
abbrev pub with_owner : Owner → StateSeen → StateSeen
with_owner o s = record {
  format = s.format;
  unit = s.unit;
  polarity = s.polarity;
  mirror = s.mirror;
  aperture = s.aperture;
  mode = s.mode;
  arcs = s.arcs;
  point = None;
  owner = o;
  region = s.region;
}

-- A region opens, and the current point stays.
abbrev pub with_region : StateSeen → StateSeen
with_region s = record {
  format = s.format;
  unit = s.unit;
  polarity = s.polarity;
  mirror = s.mirror;
  aperture = s.aperture;
  mode = s.mode;
  arcs = s.arcs;
  point = s.point;
  owner = s.owner;
  region = state.inside;
}

-- A region closes, and the current point is absent then.
abbrev pub without_region : StateSeen → StateSeen
without_region s = record {
  format = s.format;
  unit = s.unit;
  polarity = s.polarity;
  mirror = s.mirror;
  aperture = s.aperture;
  mode = s.mode;
  arcs = s.arcs;
  point = None;
  owner = s.owner;
  region = state.outside;
}

-- A contour begins at p, its first piece to have the number n.
abbrev pub with_contour : At → ℕ → StateSeen → StateSeen
with_contour p n s = record {
  format = s.format;
  unit = s.unit;
  polarity = s.polarity;
  mirror = s.mirror;
  aperture = s.aperture;
  mode = s.mode;
  arcs = s.arcs;
  point = Some p;
  owner = s.owner;
  region = state.begun p n;
}
