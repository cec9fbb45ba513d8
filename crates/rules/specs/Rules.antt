-- The rules of commands, in the order in which they are checked. A number after `otherwise` is that of the refusal.
use Rattle.std.specs.Prelude.{ℕ, ◌+◌, ◌-◌, ◌*◌, Bool, true, false, cond, not, ◌&&◌, ◌||◌, List, [], ◌∷◌, length, ℤ, pos, ◌-ℤ◌, is_some, Some, None, Ok, Err, Option, Result, ◌==◌, int_lt, nat_le, nat_lt, unsigned_abs}
use Rattle.forms.specs.Numbers.{Valued}
use Rattle.forms.specs.Orders as order
use Rattle.forms.specs.Orders.{Order}
use Rattle.forms.specs.declared.Format.{Format}
use Rattle.forms.specs.declared.Mode.TheVariants.{Clockwise, Counterclockwise, Linear}
use Rattle.forms.specs.declared.Mode.{Mode}
use Rattle.forms.specs.declared.Polarity.TheVariants.{Dark}
use Rattle.plane.specs.Plane.{At, cross_of, dot_of, eq_z, moved, norm_of, same, spot, way}
use Rattle.records.specs.Records as seen
use Rattle.records.specs.Records.{ApertureSeen, FigureSeen, OutlineSeen}
use Rattle.records.specs.declared.kinds.Mirror.{Mirror}
use Rattle.records.specs.declared.kinds.Owner.TheVariants.{Block, Layer, Repeat}
use Rattle.records.specs.declared.kinds.Owner.{Owner}
use Rattle.records.specs.declared.kinds.Repeat.{Repeat as StepAndRepeat}
use Rattle.rules.specs.Settings.{with_aperture, with_arcs, with_contour, with_format, with_mirror, with_mode, with_owner, with_point, with_polarity, with_region, with_unit, without_region}
use Rattle.rules.specs.States as state
use Rattle.rules.specs.States.{Decided, EffectSeen, RegionSeen, StateSeen}
use Rattle.rules.specs.declared.measures.Scale.{Scale}
use Rattle.std.specs.Option as options
use Rattle.std.specs.List.{slice_get}
use Rattle.ticks.specs.Ticks.{half_ticks, step_ticks, to_ticks}
use Rattle.ticks.specs.declared.Decimals.TheVariants.{Four}
use Rattle.ticks.specs.declared.Decimals.{Decimals}
use Rattle.ticks.specs.declared.Unit.TheVariants.{Millimetre}
use Rattle.ticks.specs.declared.Unit.{Unit as LengthUnit}
use Rattle.words.specs.Words.{onward}

-- A condition, the number of the refusal where it does not hold, and what follows where it does.
abbrev pub otherwise : {A : Type 0} → Bool → ℕ → Result A ℕ → Result A ℕ
otherwise holds n next = cond holds next (Err n)

-- What is wanted is there, or refusal 24.
abbrev pub wanted : {A : Type 0} → Option A → Result A ℕ
wanted (Some x) = Ok x
wanted None = Err 24

-- The effect of a command, which leaves the state s behind it.
abbrev pub leaves : StateSeen → Result EffectSeen ℕ → Decided
leaves s e = onward e (λ e. Ok (s, e))

-- The state at the start: dark, not mirrored, and nothing else.
abbrev pub start : StateSeen
start = record {
  format = None;
  unit = None;
  polarity = Dark;
  mirror = record { x = false; y = false };
  aperture = None;
  mode = None;
  arcs = false;
  point = None;
  owner = Layer;
  region = state.outside;
}

-- 21: where a command may stand

-- No region is open.
abbrev pub is_outside : RegionSeen → Bool
is_outside state.outside = true
is_outside state.inside = false
is_outside (state.begun a n) = false

-- Format and unit have both come.
abbrev pub ready : StateSeen → Bool
ready s = is_some s.format && is_some s.unit

-- They have, and no region is open.
abbrev pub free : StateSeen → Bool
free s = ready s && is_outside s.region

-- Nothing is open.
abbrev pub on_layer : Owner → Bool
on_layer Layer = true
on_layer (Block k) = false
on_layer (Repeat r) = false

-- A block is open.
abbrev pub in_block : Owner → Bool
in_block Layer = false
in_block (Block k) = true
in_block (Repeat r) = false

-- A step and repeat is open.
abbrev pub in_repeat : Owner → Bool
in_repeat Layer = false
in_repeat (Block k) = false
in_repeat (Repeat r) = true

-- Strokes are straight in G01.
abbrev pub is_linear : Mode → Bool
is_linear Linear = true
is_linear Clockwise = false
is_linear Counterclockwise = false

-- The mode is G01.
abbrev pub straight : Option Mode → Bool
straight None = false
straight (Some m) = is_linear m

-- D01 may stand in a region only in G01 mode, and with I or J only in another.
abbrev pub draws_here : StateSeen → Bool → Bool
draws_here s curved = (is_outside s.region || straight s.mode) && not (straight s.mode && curved)

-- FS and MO come once each, and until both have come only they, comments and attributes may stand. In a region only
-- D02, D01 in G01 mode, G01, comments and G37 may stand. AB and SR open only with nothing open; AB, SR and G37 close
-- only their own. M02 needs all closed.
abbrev pub may_stand : StateSeen → Order → Bool
may_stand s (order.format d f) = not (is_some s.format)
may_stand s (order.unit u) = not (is_some s.unit)
may_stand s (order.circle k d) = free s
may_stand s (order.rectangle k w h) = free s
may_stand s (order.obround k w h) = free s
may_stand s (order.block_open k) = free s && on_layer s.owner
may_stand s order.block_close = free s && in_block s.owner
may_stand s (order.repeat_open i j x y) = free s && on_layer s.owner
may_stand s order.repeat_close = free s && in_repeat s.owner
may_stand s (order.polarity p) = free s
may_stand s (order.mirror x y) = free s
may_stand s (order.attribute k t) = is_outside s.region
may_stand s (order.comment t) = true
may_stand s (order.mode m) = ready s && (is_outside s.region || is_linear m)
may_stand s order.multi_quadrant = free s
may_stand s order.region_open = free s
may_stand s order.region_close = ready s && not (is_outside s.region)
may_stand s order.end_of_file = free s && on_layer s.owner
may_stand s (order.select k) = free s
may_stand s (order.draw x y i j) = ready s && draws_here s (is_some i || is_some j)
may_stand s (order.move x y) = ready s
may_stand s (order.flash x y) = free s

-- 22: ranges

-- The unit in force. (Where unit or format is absent, no command with a number may stand.)
abbrev pub unit_of : Option LengthUnit → LengthUnit
unit_of (Some u) = u
unit_of None = Millimetre

-- The decimals in force.
abbrev pub decimals_of : Option Format → Decimals
decimals_of (Some f) = f.decimals
decimals_of None = Four

-- The unit and the decimals in force.
abbrev pub scale_of : StateSeen → Scale
scale_of s = record { unit = unit_of s.unit; decimals = decimals_of s.format }

-- The ticks of a value.
unfoldable pub ticks_of : Scale → ℤ → ℤ
ticks_of c v = to_ticks c.unit c.decimals v

-- The ticks of half a size.
unfoldable pub half_of : Scale → ℕ → ℕ
half_of c d = half_ticks c.unit d

-- The ticks of a repeat step.
unfoldable pub step_of : Scale → ℕ → ℕ
step_of c d = step_ticks c.unit d

-- A number of ticks that goes at most n either way, or refusal 22.
abbrev pub within : ℕ → ℤ → Result ℤ ℕ
within n t = otherwise (nat_le (unsigned_abs t) n) 22 (Ok t)

-- A value, if it is written.
abbrev pub value_of : Option (Valued ℤ) → Option ℤ
value_of v = options.option_map (λ v. v.value) v

-- The ticks of a value, if it is written, within n either way.
abbrev pub given : ℕ → Scale → Option ℤ → Result (Option ℤ) ℕ
given n c None = Ok None
given n c (Some v) = onward (within n (ticks_of c v)) (λ t. Ok (Some t))

-- The ticks of two values, as far as they are written.
abbrev pub given_both : ℕ → Scale → Option ℤ → Option ℤ → Result (Option ℤ × Option ℤ) ℕ
given_both n c x y = onward (given n c x) (λ x. onward (given n c y) (λ y. Ok (x, y)))

-- The half of a circle's diameter, at most 5,000.
abbrev pub round_half : ℕ → Result ℕ ℕ
round_half h = otherwise (nat_le h 5000) 22 (Ok h)

-- The half of a side of a rectangle or an obround, 1 to 5,000.
abbrev pub side_half : ℕ → Result ℕ ℕ
side_half h = otherwise (nat_le 1 h && nat_le h 5000) 22 (Ok h)

-- A repeat of 1 to 100 times, that does not go past 60,000 ticks.
abbrev pub repeats : ℕ → ℕ → Bool
repeats i step = (nat_le 1 i && nat_le i 100) && nat_le ((i - 1) * step) 60000

-- 23: codes

-- The number of the aperture with the code k, counted from n on.
abbrev pub number_from : ℕ → ℕ → List ApertureSeen → Option ℕ
number_from n k [] = None
number_from n k (a ∷ aps) = cond (a.code == k) (Some n) (number_from (n + 1) k aps)

-- The number of the aperture with the code k.
abbrev pub number_of : ℕ → List ApertureSeen → Option ℕ
number_of k aps = number_from 0 k aps

-- The block with this number is open.
abbrev pub is_open : Owner → ℕ → Bool
is_open Layer n = false
is_open (Block k) n = k == n
is_open (Repeat r) n = false

-- The aperture is defined and closed, or refusal 23.
abbrev pub closed_only : Owner → Option ℕ → Result ℕ ℕ
closed_only o None = Err 23
closed_only o (Some n) = otherwise (not (is_open o n)) 23 (Ok n)

-- Apertures

-- A code is defined once, or refusal 23.
abbrev pub defines : ℕ → List ApertureSeen → FigureSeen → Result EffectSeen ℕ
defines k aps f = otherwise (not (is_some (number_of k aps))) 23 (Ok (state.aperture (record { code = k; figure = f })))

-- A circle by its diameter.
abbrev pub circle_defined : Scale → List ApertureSeen → ℕ → ℕ → Result EffectSeen ℕ
circle_defined c aps k d = onward (round_half (half_of c d)) (λ h. defines k aps (seen.circle h))

-- A rectangle by its width and height.
abbrev pub rectangle_defined : Scale → List ApertureSeen → ℕ → ℕ → ℕ → Result EffectSeen ℕ
rectangle_defined c aps k w h = onward (side_half (half_of c w)) (λ a. onward (side_half (half_of c h)) (λ b. defines k aps (seen.rectangle a b)))

-- An obround by its width and height.
abbrev pub obround_defined : Scale → List ApertureSeen → ℕ → ℕ → ℕ → Result EffectSeen ℕ
obround_defined c aps k w h = onward (side_half (half_of c w)) (λ a. onward (side_half (half_of c h)) (λ b. defines k aps (seen.obround a b)))

-- A block opens as the next aperture; its objects begin with the next one, of which there are n before.
abbrev pub block_opened : StateSeen → List ApertureSeen → ℕ → ℕ → Decided
block_opened s aps n k = leaves (with_owner (Block (length aps)) s) (defines k aps (seen.block n))

-- A step and repeat; its objects begin with the next one, of which there are n before.
abbrev pub repeat_of : Scale → ℕ → ℕ → ℕ → ℕ → ℕ → Result StepAndRepeat ℕ
repeat_of c n i j x y =
    let dx = step_of c x in let dy = step_of c y in
    otherwise (repeats i dx && repeats j dy) 22 (Ok (record { first = n; columns = i; rows = j; step_x = dx; step_y = dy }))

-- A step and repeat opens.
abbrev pub repeat_opened : StateSeen → Result StepAndRepeat ℕ → Decided
repeat_opened s r = onward r (λ r. Ok (with_owner (Repeat r) s, state.nothing))

-- The aperture with the code k is selected.
abbrev pub selected : StateSeen → List ApertureSeen → ℕ → Decided
selected s aps k = onward (closed_only s.owner (number_of k aps)) (λ n. Ok (with_aperture n s, state.nothing))

-- Points

-- A missing X or Y takes over that of the current point, which is then wanted.
abbrev pub taken_over : Option ℤ → Option ℤ → Result ℤ ℕ
taken_over (Some z) current = Ok z
taken_over None current = wanted current

-- The point of an operation, by what is written of it and the current point.
abbrev pub point_by : Option At → Option ℤ × Option ℤ → Result At ℕ
point_by p to =
    onward (taken_over to.0 (options.option_map (λ a. a.x) p)) (λ x.
    onward (taken_over to.1 (options.option_map (λ a. a.y) p)) (λ y. Ok (spot x y)))

-- A draw goes from the current point, which is wanted, to its own.
abbrev pub ends_of : Option At → Option ℤ × Option ℤ → Result (At × At) ℕ
ends_of p to = onward (wanted p) (λ from. onward (point_by (Some from) to) (λ q. Ok (from, q)))

-- The point of an operation: within ±30,000, and what it takes over is there.
abbrev pub point_of : Scale → Option At → Option ℤ → Option ℤ → Result At ℕ
point_of c p x y = onward (given_both 30000 c x y) (point_by p)

-- Contours

-- The current point is this one.
abbrev pub stands_at : Option At → At → Bool
stands_at None a = false
stands_at (Some p) a = same p a

-- An object with the polarity in force, of what is open.
abbrev pub drawn : StateSeen → OutlineSeen → EffectSeen
drawn s o = state.object (record { polarity = s.polarity; owner = s.owner; outline = o })

-- A contour that ends: with a piece it is an object, and must be closed on its first point; n pieces have been taken.
abbrev pub contour_ended : StateSeen → ℕ → RegionSeen → Result EffectSeen ℕ
contour_ended s n state.outside = Ok state.nothing
contour_ended s n state.inside = Ok state.nothing
contour_ended s n (state.begun a first) =
    cond (nat_lt first n) (otherwise (stands_at s.point a) 28 (Ok (drawn s (seen.contour a first (n - first))))) (Ok state.nothing)

-- G37 ends the contour begun and closes the region.
abbrev pub region_closed : StateSeen → ℕ → Decided
region_closed s n = leaves (without_region s) (contour_ended s n s.region)

-- The current point is p; in a region a contour begins there, its first piece to have the number n.
abbrev pub arrived : StateSeen → ℕ → At → StateSeen
arrived s n p = cond (is_outside s.region) (with_point p s) (with_contour p n s)

-- D02 moves; in a region it ends the contour begun and begins another.
abbrev pub moves : StateSeen → ℕ → Option ℤ → Option ℤ → Decided
moves s n x y = onward (point_of (scale_of s) s.point x y) (λ p. leaves (arrived s n p) (contour_ended s n s.region))

-- A contour is begun.
abbrev pub is_begun : RegionSeen → Bool
is_begun state.outside = false
is_begun state.inside = false
is_begun (state.begun a first) = true

-- D01 in a region adds a piece from the current point, and wants a contour begun, or refusal 28.
abbrev pub piece_drawn : StateSeen → Option ℤ × Option ℤ → Decided
piece_drawn s to =
    onward (ends_of s.point to) (λ ends. otherwise (is_begun s.region) 28 (Ok (with_point ends.1 s, state.piece ends.1)))

-- Flashes and strokes

-- The figure of the aperture with the number n.
abbrev pub figure_at : List ApertureSeen → ℕ → Option FigureSeen
figure_at aps n = options.option_map (λ a. a.figure) (slice_get aps n)

-- The number and the figure of the selected aperture, which is wanted.
abbrev pub selection : List ApertureSeen → Option ℕ → Result (ℕ × FigureSeen) ℕ
selection aps n = onward (wanted n) (λ n. onward (wanted (figure_at aps n)) (λ f. Ok (n, f)))

-- What a flash of the aperture with the number n shows at p.
abbrev pub flash_of : Mirror → At → ℕ × FigureSeen → OutlineSeen
flash_of m p (n, seen.circle h) = seen.circle p h
flash_of m p (n, seen.rectangle a b) = seen.rectangle p a b
flash_of m p (n, seen.obround a b) = seen.obround p a b
flash_of m p (n, seen.block first) = seen.block n p m

-- The object is drawn, and the current point is p then.
abbrev pub drawn_at : StateSeen → At → Result OutlineSeen ℕ → Decided
drawn_at s p o = onward o (λ o. Ok (with_point p s, drawn s o))

-- D03 flashes the selected aperture.
abbrev pub flashes : StateSeen → List ApertureSeen → Option ℤ → Option ℤ → Decided
flashes s aps x y =
    onward (point_of (scale_of s) s.point x y) (λ p. onward (selection aps s.aperture) (λ a. drawn_at s p (Ok (flash_of s.mirror p a))))

-- Only a circle draws strokes, or refusal 25.
abbrev pub stroke_half : FigureSeen → Result ℕ ℕ
stroke_half (seen.circle h) = Ok h
stroke_half (seen.rectangle a b) = Err 25
stroke_half (seen.obround a b) = Err 25
stroke_half (seen.block first) = Err 25

-- A missing I or J is 0.
abbrev pub offset : Option ℤ → ℤ
offset None = pos 0
offset (Some z) = z

-- The squares of the lengths of u and v differ by at most 8 (|ux| + |uy| + 1).
abbrev pub nearly_round : At → At → Bool
nearly_round u v = nat_le (unsigned_abs (norm_of u -ℤ norm_of v)) (8 * (unsigned_abs u.x + unsigned_abs u.y + 1))

-- v has the direction of u.
abbrev pub same_direction : At → At → Bool
same_direction u v = eq_z (cross_of u v) (pos 0) && int_lt (pos 0) (dot_of u v)

-- The ends of an arc, by their ways u and v from its centre: u is not 0, the lengths nearly agree, and an arc that
-- does not come back to its start does not end in its start's direction.
unfoldable pub arc_fits : At → At → Bool
arc_fits u v = not (same u (spot (pos 0) (pos 0))) && (nearly_round u v && (same u v || not (same_direction u v)))

-- A straight stroke goes at most 30,000 in x and in y.
unfoldable pub short_stroke : At → At → Bool
short_stroke from to = nat_le (unsigned_abs (to.x -ℤ from.x)) 30000 && nat_le (unsigned_abs (to.y -ℤ from.y)) 30000

-- A straight stroke that is short enough, or refusal 27.
abbrev pub straight_to : At → At → ℕ → Result OutlineSeen ℕ
straight_to from to h = otherwise (short_stroke from to) 27 (Ok (seen.stroke from to h))

-- An arc whose ends fit its centre, or refusal 26.
abbrev pub arc_to : At → At → At → Bool → ℕ → Result OutlineSeen ℕ
arc_to from to centre clockwise h = otherwise (arc_fits (way centre from) (way centre to)) 26 (Ok (seen.arc from to centre clockwise h))

-- A mode is wanted, and G75 for an arc.
abbrev pub mode_wanted : Bool → Option Mode → Result Mode ℕ
mode_wanted arcs None = Err 24
mode_wanted arcs (Some m) = otherwise (is_linear m || arcs) 24 (Ok m)

-- What strokes are drawn with: aperture, mode and G75 are wanted, then a circle.
abbrev pub pen_of : List ApertureSeen → Option ℕ → Bool → Option Mode → Result (Mode × ℕ) ℕ
pen_of aps n arcs m =
    onward (selection aps n) (λ a. onward (mode_wanted arcs m) (λ m. onward (stroke_half a.1) (λ h. Ok (m, h))))

-- A stroke by the mode and the half of a pen.
abbrev pub stroke_in : Mode × ℕ → At → At → At → Result OutlineSeen ℕ
stroke_in (Linear, h) from to centre = straight_to from to h
stroke_in (Clockwise, h) from to centre = arc_to from to centre true h
stroke_in (Counterclockwise, h) from to centre = arc_to from to centre false h

-- An arc's centre lies at its start and (I, J).
abbrev pub centre_of : At → Option ℤ × Option ℤ → At
centre_of from by = moved (spot (offset by.0) (offset by.1)) from

-- D01 draws a stroke from the current point.
abbrev pub stroke_drawn : StateSeen → List ApertureSeen → Option ℤ × Option ℤ → Option ℤ × Option ℤ → Decided
stroke_drawn s aps to by =
    onward (ends_of s.point to) (λ ends. onward (pen_of aps s.aperture s.arcs s.mode) (λ pen.
    drawn_at s ends.1 (stroke_in pen ends.0 ends.1 (centre_of ends.0 by))))

-- D01 draws a stroke, or in a region a piece.
abbrev pub draws : StateSeen → List ApertureSeen → Option ℤ → Option ℤ → Option ℤ → Option ℤ → Decided
draws s aps x y i j =
    onward (given_both 30000 (scale_of s) x y) (λ to. onward (given_both 15000 (scale_of s) i j) (λ by.
    cond (is_outside s.region) (stroke_drawn s aps to by) (piece_drawn s to)))

-- What a command that may stand does, the tables holding the apertures `aps`, n objects and m pieces.
abbrev pub obeyed : StateSeen → List ApertureSeen → ℕ → ℕ → Order → Decided
obeyed s aps n m (order.format d f) = Ok (with_format f s, state.nothing)
obeyed s aps n m (order.unit u) = Ok (with_unit u s, state.nothing)
obeyed s aps n m (order.circle k d) = leaves s (circle_defined (scale_of s) aps k.value d.value)
obeyed s aps n m (order.rectangle k w h) = leaves s (rectangle_defined (scale_of s) aps k.value w.value h.value)
obeyed s aps n m (order.obround k w h) = leaves s (obround_defined (scale_of s) aps k.value w.value h.value)
obeyed s aps n m (order.block_open k) = block_opened s aps n k.value
obeyed s aps n m order.block_close = Ok (with_owner Layer s, state.nothing)
obeyed s aps n m (order.repeat_open i j x y) = repeat_opened s (repeat_of (scale_of s) n i.value j.value x.value y.value)
obeyed s aps n m order.repeat_close = Ok (with_owner Layer s, state.nothing)
obeyed s aps n m (order.polarity p) = Ok (with_polarity p s, state.nothing)
obeyed s aps n m (order.mirror x y) = Ok (with_mirror (record { x = x; y = y }) s, state.nothing)
obeyed s aps n m (order.attribute k t) = Ok (s, state.nothing)
obeyed s aps n m (order.comment t) = Ok (s, state.nothing)
obeyed s aps n m (order.mode md) = Ok (with_mode md s, state.nothing)
obeyed s aps n m order.multi_quadrant = Ok (with_arcs s, state.nothing)
obeyed s aps n m order.region_open = Ok (with_region s, state.nothing)
obeyed s aps n m order.region_close = region_closed s m
obeyed s aps n m order.end_of_file = Ok (s, state.nothing)
obeyed s aps n m (order.select k) = selected s aps k.value
obeyed s aps n m (order.draw x y i j) = draws s aps (value_of x) (value_of y) (value_of i) (value_of j)
obeyed s aps n m (order.move x y) = moves s m (value_of x) (value_of y)
obeyed s aps n m (order.flash x y) = flashes s aps (value_of x) (value_of y)

-- A command that may not stand is refusal 21; any other does what it does, or breaks a rule.
unfoldable pub decided : StateSeen → List ApertureSeen → ℕ → ℕ → Order → Decided
decided s aps n m o = otherwise (may_stand s o) 21 (obeyed s aps n m o)
