-- The graphics state and the effect of a command as plain values.
use Rattle.std.specs.Prelude.{ℕ, Bool, Option, Result}
use Rattle.rules.specs.Numbers.{rule_number}
use Rattle.rules.specs.declared.rule.Rule.{Rule}
use Rattle.forms.specs.declared.Format.{Format}
use Rattle.forms.specs.declared.Mode.{Mode}
use Rattle.forms.specs.declared.Polarity.{Polarity}
use Rattle.plane.specs.Plane.{At}
use Rattle.plane.specs.Points.{file_point_at}
use Rattle.records.specs.Records.{ApertureSeen, ObjectSeen, seen_aperture, seen_object, seen_piece}
use Rattle.records.specs.declared.kinds.Mirror.{Mirror}
use Rattle.records.specs.declared.kinds.Owner.{Owner}
use Rattle.rules.specs.declared.state.Decision.{Decision}
use Rattle.rules.specs.declared.state.Effect.TheVariants as effect
use Rattle.rules.specs.declared.state.Effect.{Effect}
use Rattle.rules.specs.declared.state.Region.TheVariants as region
use Rattle.rules.specs.declared.state.Region.{Region}
use Rattle.rules.specs.declared.state.State.{State}
use Rattle.std.specs.Option as options
use Rattle.std.specs.Result as results
use Rattle.ticks.specs.declared.Unit.{Unit as LengthUnit}

-- No region is open, or one is, or in it a contour is begun: its first point, and the number of its first piece.
pub data RegionSeen : Type 0 where
  outside : RegionSeen
  inside : RegionSeen
  begun : At → ℕ → RegionSeen

-- The region of the program's state.
abbrev pub seen_region : Region → RegionSeen
seen_region region.Outside = outside
seen_region region.Inside = inside
seen_region (region.Begun a n) = begun (file_point_at a) n

-- The graphics state: `arcs` says that G75 has come, `owner` what an object drawn now belongs to.
pub record StateSeen : Type 0 where
  pub format : Option Format
  pub unit : Option LengthUnit
  pub polarity : Polarity
  pub mirror : Mirror
  pub aperture : Option ℕ
  pub mode : Option Mode
  pub arcs : Bool
  pub point : Option At
  pub owner : Owner
  pub region : RegionSeen

-- The program's state.
abbrev pub seen_state : State → StateSeen
seen_state s = record {
  format = s.format;
  unit = s.unit;
  polarity = s.polarity;
  mirror = s.mirror;
  aperture = s.aperture;
  mode = s.mode;
  arcs = s.arcs;
  point = options.option_map file_point_at s.point;
  owner = s.owner;
  region = seen_region s.region;
}

-- What a command has a table take.
pub data EffectSeen : Type 0 where
  nothing : EffectSeen
  aperture : ApertureSeen → EffectSeen
  object : ObjectSeen → EffectSeen
  piece : At → EffectSeen

-- The effect that the program answers.
abbrev pub seen_effect : Effect → EffectSeen
seen_effect effect.Nothing = nothing
seen_effect (effect.Aperture a) = aperture (seen_aperture a)
seen_effect (effect.Object o) = object (seen_object o)
seen_effect (effect.Piece p) = piece (seen_piece p)

-- What a command comes to: the next state and its effect, or the number of its refusal.
abbrev pub Decided : Type 0
Decided = Result (StateSeen × EffectSeen) ℕ

-- The answer of the program as plain values.
abbrev pub seen_decided : Result Decision Rule → Decided
seen_decided r = results.result_map_both (λ d. (seen_state d.state, seen_effect d.effect)) rule_number r
