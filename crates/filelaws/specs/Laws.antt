-- Laws of reading a file, in the subject's words.
use Rattle.std.specs.Prelude.{◌≡◌, ℕ, zero, suc, ◌+◌, ◌≤◌, Bool, true, false, cond, List, [], ◌∷◌, length, take, drop, Some, None, Ok, Err, Option, Result, ◌==◌}
use Rattle.commands.specs.Files.{ReadSeen, command_at, format_after, is_end}
use Rattle.drawing.specs.Books.{Rooms, Standing, begin, stepped}
use Rattle.drawing.specs.Reading.{read_file}
use Rattle.forms.specs.Numbers.{Valued}
use Rattle.forms.specs.Orders as order
use Rattle.forms.specs.Orders.{Order}
use Rattle.forms.specs.declared.Format.{Format}
use Rattle.std.specs.Option as options
use Rattle.words.specs.Spelling.{Gap}
use Rattle.words.specs.Words.{Piece, Told, onward}

-- The file xs is accepted by tables of this room.
abbrev pub Accepted : Rooms → List ℕ → Type 0
Accepted room xs = (read_file room xs).refusal ≡ None

-- Each table of s takes at least as many records as that of r.
pub record Roomier (r s : Rooms) : Type 0 where
  pub apertures : r.apertures ≤ s.apertures
  pub objects : r.objects ≤ s.objects
  pub pieces : r.pieces ≤ s.pieces

-- The refusal is that of a full table.
abbrev pub says_full : Option Told → Bool
says_full None = false
says_full (Some t) = t.number == 29

-- Full tables only decide refusal 29: a file that is not refused with it comes to the same with more room. So a file
-- that is accepted with some slots is accepted with more, with the same records.
abbrev pub FullTablesOnlyDecide29 : Type 0
FullTablesOnlyDecide29 = (r s : Rooms) (xs : List ℕ) → Roomier r s → says_full (read_file r xs).refusal ≡ false → read_file s xs ≡ read_file r xs

-- A command that was read and, unless it is M02, those that `more` finds behind it; none where text or form is refused.
abbrev pub orders_by : (ReadSeen → List Order) → Result ReadSeen Told → List Order
orders_by more (Err t) = []
orders_by more (Ok r) = r.order ∷ cond (is_end r.order) [] (more r)

-- The commands of the file xs by text and form, from i on, up to M02 or to the first refusal of text or form: k commands
-- were taken, the format f is in force, and at most `fuel` commands follow.
abbrev pub orders_from : ℕ → ℕ → List ℕ → ℕ → Option Format → List Order
orders_from zero k xs i f = []
orders_from (suc fuel) k xs i f = orders_by (λ r. orders_from fuel (k + 1) xs r.next (format_after r.order f)) (command_at k xs i f)

-- The commands of the file xs.
abbrev pub orders_of : List ℕ → List Order
orders_of xs = orders_from (suc (length xs)) 0 xs 0 None

-- Commands carried out one after another.
abbrev pub obey_all : Rooms → Standing → List Order → Result Standing ℕ
obey_all room st [] = Ok st
obey_all room st (o ∷ os) = onward (stepped room st o) (λ next. obey_all room next os)

-- An accepted file has the records that its commands make.
abbrev pub RecordsByCommands : Type 0
RecordsByCommands = (room : Rooms) (xs : List ℕ) → Accepted room xs
    → (st : Standing) × ((obey_all room begin (orders_of xs) ≡ Ok st) × (st.books ≡ (read_file room xs).books))

-- A comment or an attribute.
abbrev pub is_remark : Order → Bool
is_remark (order.format d f) = false
is_remark (order.unit u) = false
is_remark (order.circle k d) = false
is_remark (order.rectangle k w h) = false
is_remark (order.obround k w h) = false
is_remark (order.block_open k) = false
is_remark order.block_close = false
is_remark (order.repeat_open i j x y) = false
is_remark order.repeat_close = false
is_remark (order.polarity p) = false
is_remark (order.mirror x y) = false
is_remark (order.attribute k t) = true
is_remark (order.comment t) = true
is_remark (order.mode m) = false
is_remark order.multi_quadrant = false
is_remark order.region_open = false
is_remark order.region_close = false
is_remark order.end_of_file = false
is_remark (order.select k) = false
is_remark (order.draw x y i j) = false
is_remark (order.move x y) = false
is_remark (order.flash x y) = false

-- A value without its place and its digits.
abbrev pub bare : {A : Type 0} → Valued A → Valued A
bare v = record { part = record { at = 0; text = [] }; value = v.value }

-- The same of a value that may be absent.
abbrev pub bare_option : {A : Type 0} → Option (Valued A) → Option (Valued A)
bare_option v = options.option_map bare v

-- No bytes, nowhere.
abbrev pub no_piece : Piece
no_piece = record { at = 0; text = [] }

-- A command without the places and digits of its values.
abbrev pub placeless : Order → Order
placeless (order.format d f) = order.format no_piece f
placeless (order.unit u) = order.unit u
placeless (order.circle k d) = order.circle (bare k) (bare d)
placeless (order.rectangle k w h) = order.rectangle (bare k) (bare w) (bare h)
placeless (order.obround k w h) = order.obround (bare k) (bare w) (bare h)
placeless (order.block_open k) = order.block_open (bare k)
placeless order.block_close = order.block_close
placeless (order.repeat_open i j x y) = order.repeat_open (bare i) (bare j) (bare x) (bare y)
placeless order.repeat_close = order.repeat_close
placeless (order.polarity p) = order.polarity p
placeless (order.mirror x y) = order.mirror x y
placeless (order.attribute k t) = order.attribute k no_piece
placeless (order.comment t) = order.comment no_piece
placeless (order.mode m) = order.mode m
placeless order.multi_quadrant = order.multi_quadrant
placeless order.region_open = order.region_open
placeless order.region_close = order.region_close
placeless order.end_of_file = order.end_of_file
placeless (order.select k) = order.select (bare k)
placeless (order.draw x y i j) = order.draw (bare_option x) (bare_option y) (bare_option i) (bare_option j)
placeless (order.move x y) = order.move (bare_option x) (bare_option y)
placeless (order.flash x y) = order.flash (bare_option x) (bare_option y)

-- The commands that are no remarks, without places.
abbrev pub essence : List Order → List Order
essence [] = []
essence (o ∷ os) = cond (is_remark o) (essence os) (placeless o ∷ essence os)

-- Comments and attributes between commands, gaps and the way that numbers are spelt change nothing but places and
-- counts: files that are accepted and have the same commands otherwise have the same records.
abbrev pub RemarksChangeNothing : Type 0
RemarksChangeNothing = (room : Rooms) (xs ys : List ℕ) → Accepted room xs → Accepted room ys
    → essence (orders_of xs) ≡ essence (orders_of ys) → read_file room xs ≡ read_file room ys

-- The last of some commands.
abbrev pub last_order : List Order → Option Order
last_order [] = None
last_order (o ∷ []) = Some o
last_order (o ∷ (p ∷ os)) = last_order (p ∷ os)

-- An accepted file ends at M02.
abbrev pub EndsAtM02 : Type 0
EndsAtM02 = (room : Rooms) (xs : List ℕ) → Accepted room xs → last_order (orders_of xs) ≡ Some order.end_of_file

-- An accepted file that is cut anywhere before the end of its M02 is refused: what may be cut off is only CR and LF.
abbrev pub CutIsRefused : Type 0
CutIsRefused = (room : Rooms) (xs : List ℕ) (n : ℕ) → Accepted room xs → Accepted room (take n xs) → Gap (drop n xs)
