use Rattle.std.specs.Prelude.{ℕ, Bool, ℤ, Option}
use Rattle.std.specs.Option as options
use Rattle.ticks.specs.declared.Unit.{Unit as LengthUnit}
use Rattle.words.specs.Words.{Piece, piece}
use Rattle.forms.specs.Numbers.{Valued, seen_numeral}
use Rattle.forms.specs.declared.Format.{Format}
use Rattle.forms.specs.declared.Polarity.{Polarity}
use Rattle.forms.specs.declared.Mode.{Mode}
use Rattle.forms.specs.declared.AttributeKind.{AttributeKind}
use Rattle.forms.specs.declared.Command.{Command}
use Rattle.forms.specs.declared.Command.TheVariants as command

-- A command as plain values: each case of the program's `Command`, its parts as bytes with their places.
pub data Order : Type 0 where
  format : Piece → Format → Order
  unit : LengthUnit → Order
  circle : Valued ℕ → Valued ℕ → Order
  rectangle : Valued ℕ → Valued ℕ → Valued ℕ → Order
  obround : Valued ℕ → Valued ℕ → Valued ℕ → Order
  block_open : Valued ℕ → Order
  block_close : Order
  repeat_open : Valued ℕ → Valued ℕ → Valued ℕ → Valued ℕ → Order
  repeat_close : Order
  polarity : Polarity → Order
  mirror : Bool → Bool → Order
  attribute : AttributeKind → Piece → Order
  comment : Piece → Order
  mode : Mode → Order
  multi_quadrant : Order
  region_open : Order
  region_close : Order
  end_of_file : Order
  select : Valued ℕ → Order
  draw : Option (Valued ℤ) → Option (Valued ℤ) → Option (Valued ℤ) → Option (Valued ℤ) → Order
  move : Option (Valued ℤ) → Option (Valued ℤ) → Order
  flash : Option (Valued ℤ) → Option (Valued ℤ) → Order

abbrev pub seen_command : Command → Order
seen_command (command.Format d f) = format (piece d) f
seen_command (command.Unit u) = unit u
seen_command (command.Circle k d) = circle (seen_numeral k) (seen_numeral d)
seen_command (command.Rectangle k w h) = rectangle (seen_numeral k) (seen_numeral w) (seen_numeral h)
seen_command (command.Obround k w h) = obround (seen_numeral k) (seen_numeral w) (seen_numeral h)
seen_command (command.BlockOpen k) = block_open (seen_numeral k)
seen_command command.BlockClose = block_close
seen_command (command.RepeatOpen i j x y) = repeat_open (seen_numeral i) (seen_numeral j) (seen_numeral x) (seen_numeral y)
seen_command command.RepeatClose = repeat_close
seen_command (command.Polarity p) = polarity p
seen_command (command.Mirror x y) = mirror x y
seen_command (command.Attribute k t) = attribute k (piece t)
seen_command (command.Comment t) = comment (piece t)
seen_command (command.Mode m) = mode m
seen_command command.MultiQuadrant = multi_quadrant
seen_command command.RegionOpen = region_open
seen_command command.RegionClose = region_close
seen_command command.EndOfFile = end_of_file
seen_command (command.Select k) = select (seen_numeral k)
seen_command (command.Draw x y i j) = draw (options.option_map seen_numeral x) (options.option_map seen_numeral y) (options.option_map seen_numeral i) (options.option_map seen_numeral j)
seen_command (command.Move x y) = move (options.option_map seen_numeral x) (options.option_map seen_numeral y)
seen_command (command.Flash x y) = flash (options.option_map seen_numeral x) (options.option_map seen_numeral y)

abbrev pub seen_option : Option Command → Option Order
seen_option r = options.option_map seen_command r
