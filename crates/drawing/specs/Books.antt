-- The records that reading a file takes, and what one command adds to them.
use Rattle.std.specs.Prelude.{ℕ, ◌+◌, ◌*◌, min, Bool, false, cond, ◌||◌, List, [], ◌∷◌, ◌++◌, length, Some, None, Ok, Err, Option, Result, nat_le, nat_lt}
use Rattle.forms.specs.Orders.{Order}
use Rattle.plane.specs.Plane.{At}
use Rattle.records.specs.Records as seen
use Rattle.records.specs.Records.{ApertureSeen, ObjectSeen, OutlineSeen}
use Rattle.records.specs.Weights.{none, weight_told}
use Rattle.records.specs.declared.kinds.Owner.TheVariants.{Block, Layer, Repeat}
use Rattle.records.specs.declared.kinds.Owner.{Owner}
use Rattle.records.specs.declared.weights.Weight.{Weight}
use Rattle.rules.specs.Rules.{decided, otherwise, start}
use Rattle.rules.specs.States as state
use Rattle.rules.specs.States.{EffectSeen, StateSeen}
use Rattle.words.specs.Words.{onward}

-- How many records each table takes at most.
pub record Rooms : Type 0 where
  pub apertures : ℕ
  pub objects : ℕ
  pub pieces : ℕ

-- The limits are 128 apertures, 4,096 objects and 8,192 pieces, and fewer where there are fewer slots.
abbrev pub rooms_for : ℕ → ℕ → ℕ → Rooms
rooms_for a o p = record { apertures = min 128 a; objects = min 4096 o; pieces = min 8192 p }

-- The records taken, in file order, and how many objects they lay.
pub record Books : Type 0 where
  pub apertures : List ApertureSeen
  pub objects : List ObjectSeen
  pub pieces : List At
  pub laid : ℕ

abbrev pub empty : Books
empty = record { apertures = []; objects = []; pieces = []; laid = 0 }

abbrev pub or_none : Option Weight → Weight
or_none (Some w) = w
or_none None = none

abbrev pub single : Weight
single = record { depth = 0; laid = 1 }

-- The weight of the block with the number n.
abbrev pub block_weighs : List ApertureSeen → List ObjectSeen → ℕ → Weight
block_weighs aps os n = or_none (weight_told (length aps) aps os n)

-- What one object lays, and how deep: a flash of a block what the block lays, any other itself.
abbrev pub weighs : List ApertureSeen → List ObjectSeen → OutlineSeen → Weight
weighs aps os (seen.circle p h) = single
weighs aps os (seen.rectangle p a b) = single
weighs aps os (seen.obround p a b) = single
weighs aps os (seen.stroke s e h) = single
weighs aps os (seen.arc s e c clockwise h) = single
weighs aps os (seen.contour s first count) = single
weighs aps os (seen.block n p m) = block_weighs aps os n

-- What an object adds to the laid objects: in a step and repeat as often as that repeats, and in a block nothing yet.
abbrev pub adds : Owner → ℕ → ℕ
adds Layer w = w
adds (Block k) w = 0
adds (Repeat r) w = r.columns * r.rows * w

-- A block of depth 8 is flashed in a block.
abbrev pub too_deep : Owner → ℕ → Bool
too_deep Layer d = false
too_deep (Block k) d = nat_le 8 d
too_deep (Repeat r) d = false

-- The object is too deep, or the laid objects, n before it, would pass 1,000,000.
abbrev pub too_much : ℕ → Owner → Weight → Bool
too_much n owner w = too_deep owner w.depth || nat_lt 1000000 (n + adds owner w.laid)

-- How many objects are laid with it, where it is neither.
abbrev pub laid_after : ℕ → Owner → Weight → Option ℕ
laid_after n owner w = cond (too_much n owner w) None (Some (n + adds owner w.laid))

-- An object is taken and n are laid then; or it is refusal 30.
abbrev pub with_object : Books → ObjectSeen → Option ℕ → Result Books ℕ
with_object b o None = Err 30
with_object b o (Some n) = Ok (record { apertures = b.apertures; objects = b.objects ++ (o ∷ []); pieces = b.pieces; laid = n })

abbrev pub weighs_here : Books → ObjectSeen → Weight
weighs_here b o = weighs b.apertures b.objects o.outline

-- Taking a record: a full table is refusal 29, and for an object what is too deep or too much 30.
abbrev pub taken : Rooms → Books → EffectSeen → Result Books ℕ
taken room b state.nothing = Ok b
taken room b (state.aperture a) =
    otherwise (nat_lt (length b.apertures) room.apertures) 29
    (Ok (record { apertures = b.apertures ++ (a ∷ []); objects = b.objects; pieces = b.pieces; laid = b.laid }))
taken room b (state.object o) =
    otherwise (nat_lt (length b.objects) room.objects) 29
    (with_object b o (laid_after b.laid o.owner (weighs_here b o)))
taken room b (state.piece p) =
    otherwise (nat_lt (length b.pieces) room.pieces) 29
    (Ok (record { apertures = b.apertures; objects = b.objects; pieces = b.pieces ++ (p ∷ []); laid = b.laid }))

-- Where reading stands: the graphics state and the records.
pub record Standing : Type 0 where
  pub state : StateSeen
  pub books : Books

abbrev pub begin : Standing
begin = record { state = start; books = empty }

-- What a command does, by the rules, to where reading stands; or the number of its refusal.
unfoldable pub stepped : Rooms → Standing → Order → Result Standing ℕ
stepped room st o =
    onward (decided st.state st.books.apertures (length st.books.objects) (length st.books.pieces) o)
    (λ d. onward (taken room st.books d.1) (λ b. Ok (record { state = d.0; books = b })))
