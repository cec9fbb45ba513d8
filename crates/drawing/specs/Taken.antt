-- What the three record tables hold, and what taking a record does to them.
use Rattle.std.specs.Prelude.{◌≡◌, ℕ, map, Ok, Err, Result}
use Rattle.rules.specs.Numbers.{rule_number}
use Rattle.rules.specs.declared.rule.Rule.TheVariants as rule
use Rattle.rules.specs.declared.rule.Rule.{Rule}
use Rattle.contour.specs.declared.pieces.Piece.{Piece}
use Rattle.drawing.specs.Books.{Books, Rooms, Standing, stepped, taken}
use Rattle.drawing.specs.declared.steps.Progress.{Progress}
use Rattle.forms.specs.Orders.{Order}
use Rattle.records.specs.Records.{seen_aperture, seen_object, seen_piece}
use Rattle.records.specs.declared.kinds.Aperture.{Aperture}
use Rattle.records.specs.declared.kinds.Object.{Object}
use Rattle.rules.specs.States.{EffectSeen, seen_state}
use Rattle.rules.specs.declared.state.State.{State}
use Rattle.std.specs.Result as results
use Rattle.table.specs.Tables.{Kept, records, room}
use Rattle.table.specs.declared.Full.{Full}
use Rattle.table.specs.declared.Table.{Table}

-- The records that the tables hold, n objects being laid.
abbrev pub books_of : Table Aperture → Table Object → Table Piece → ℕ → Books
books_of a o p n = record {
  apertures = map seen_aperture (records a);
  objects = map seen_object (records o);
  pieces = map seen_piece (records p);
  laid = n;
}

-- How many records the tables take at most.
abbrev pub rooms_of : Table Aperture → Table Object → Table Piece → Rooms
rooms_of a o p = record { apertures = room a; objects = room o; pieces = room p }

-- Each table has its slots and its limit still, and what stands past its records.
pub record KeptAll (a : Table Aperture) (o : Table Object) (p : Table Piece) (b : Table Aperture) (q : Table Object) (t : Table Piece) : Type 0 where
  pub apertures : Kept a b
  pub objects : Kept o q
  pub pieces : Kept p t

-- A refusal leaves the records as they were.
abbrev pub Stays : {X : Type 0} → Result X Rule → Books → Books → Type 0
Stays (Ok x) old new = Unit {0}
Stays (Err e) old new = new ≡ old

-- Where a table has taken a record, n objects are laid; a full one is refusal 29.
abbrev pub placed_by : Result ℕ Full → ℕ → Result ℕ Rule
placed_by (Ok i) n = Ok n
placed_by (Err e) n = Err rule.Full

-- What taking a record does to the tables, and answers: how many objects are laid then, or the rule.
pub record Taking (a : Table Aperture) (o : Table Object) (p : Table Piece) (n : ℕ) (e : EffectSeen) (r : Result ℕ Rule)
    (b : Table Aperture) (q : Table Object) (t : Table Piece) : Type 0 where
  pub kept : KeptAll a o p b q t
  pub value : results.result_map_both (books_of b q t) rule_number r ≡ taken (rooms_of a o p) (books_of a o p n) e
  pub stays : Stays r (books_of a o p n) (books_of b q t n)

-- Where reading stands: the state s, the records of the tables, and n objects laid.
abbrev pub standing : State → Table Aperture → Table Object → Table Piece → ℕ → Standing
standing s a o p n = record { state = seen_state s; books = books_of a o p n }

-- What a command does to the tables, and answers: where reading stands then, or the rule.
pub record Stepping (g : Progress) (a : Table Aperture) (o : Table Object) (p : Table Piece) (c : Order) (r : Result Progress Rule)
    (b : Table Aperture) (q : Table Object) (t : Table Piece) : Type 0 where
  pub kept : KeptAll a o p b q t
  pub value : results.result_map_both (λ h. standing h.state b q t h.laid) rule_number r ≡ stepped (rooms_of a o p) (standing g.state a o p g.laid) c
  pub stays : Stays r (books_of a o p g.laid) (books_of b q t g.laid)
