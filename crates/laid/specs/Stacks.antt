-- What the blocks that are being laid have still to lay, and how many turns that takes.
use Rattle.std.specs.Prelude.{◌≡◌, ℕ, zero, suc, ◌+◌, ◌-◌, ◌<◌, Bool, true, false, cond, List, [], ◌∷◌, ◌++◌, map, Some, None, Option, nat_lt, slice_index_or}
use Rattle.arrayvec.specs.ArrayVec.{array_vec_len}
use Rattle.laid.specs.Frames.{idle}
use Rattle.laid.specs.Laid.{LaidObject, block_objects, lay_all, lay_block, lay_one}
use Rattle.laid.specs.Puts.{Put, seen_placing, shifted}
use Rattle.laid.specs.declared.drawing.Drawing.{Drawing}
use Rattle.laid.specs.declared.kinds.Flash.{Flash}
use Rattle.laid.specs.declared.kinds.Frame.{Frame}
use Rattle.laid.specs.declared.kinds.PlacedObject.{PlacedObject}
use Rattle.laid.specs.declared.stack.Stack.{Stack}
use Rattle.plane.specs.Plane.{At}
use Rattle.plane.specs.Points.{file_point_at}
use Rattle.records.specs.Records as seen
use Rattle.records.specs.Records.{ApertureSeen, FigureSeen, ObjectSeen, OutlineSeen, seen_aperture, seen_object, seen_piece}
use Rattle.records.specs.Weights.{figure_at, owned_from}
use Rattle.records.specs.declared.kinds.Object.{Object}

-- A drawing's apertures as plain values.
abbrev pub apertures_of : Drawing → List ApertureSeen
apertures_of d = map seen_aperture d.records.apertures.now

-- Its objects.
abbrev pub objects_of : Drawing → List ObjectSeen
objects_of d = map seen_object d.records.objects.now

-- Its pieces.
abbrev pub pieces_in : Drawing → List At
pieces_in d = map seen_piece d.records.pieces.now

-- An outline that is no flash of a block.
abbrev pub is_plain : OutlineSeen → Bool
is_plain (seen.circle p h) = true
is_plain (seen.rectangle p a b) = true
is_plain (seen.obround p a b) = true
is_plain (seen.stroke s e h) = true
is_plain (seen.arc s e c clockwise h) = true
is_plain (seen.contour s first count) = true
is_plain (seen.block n p m) = false

-- The answer tells which block the outline flashes, if it flashes one.
abbrev pub FlashOf : OutlineSeen → Option Flash → Type 0
FlashOf o None = is_plain o ≡ true
FlashOf o (Some f) = o ≡ seen.block f.number (file_point_at f.at) f.mirror

-- The next object of a frame's block, with the frame behind it.
pub record StepOf (os : List ObjectSeen) (f : Frame) (o : Object) (g : Frame) : Type 0 where
  pub objects : owned_from f.block f.next os ≡ seen_object o ∷ owned_from f.block g.next os
  pub block : g.block ≡ f.block
  pub placing : g.placing ≡ f.placing
  pub turn : g.turn ≡ f.turn

-- The answer is the next object of a frame's block, if there is one more, and the frame is then g.
abbrev pub NextOf : List ObjectSeen → Frame → Option Object → Frame → Type 0
NextOf os f None g = owned_from f.block f.next os ≡ []
NextOf os f (Some o) g = StepOf os f o g

-- An object as a frame's block lays it.
abbrev pub placed_in : Frame → Object → PlacedObject
placed_in f o = record { object = o; placing = f.placing; turn = f.turn }

-- What a placed object lays by itself: a flash of a block nothing, since the block is laid object by object.
abbrev pub lays_one : List At → PlacedObject → List LaidObject
lays_one pcs p = lay_one pcs (λ q turn n. []) 0 (seen_placing p.placing) p.turn (seen_object p.object)

-- What it lays in block k, with blocks in it at most `deep` deep.
abbrev pub lays_whole : List ApertureSeen → List ObjectSeen → List At → ℕ → ℕ → PlacedObject → List LaidObject
lays_whole aps os pcs deep k p = lay_one pcs (lay_block aps os pcs deep) k (seen_placing p.placing) p.turn (seen_object p.object)

-- What a frame has still to lay, with blocks in it at most `deep` deep.
abbrev pub lay_frame : List ApertureSeen → List ObjectSeen → List At → ℕ → Frame → List LaidObject
lay_frame aps os pcs deep f =
    lay_all pcs (lay_block aps os pcs deep) f.block (seen_placing f.placing) f.turn (owned_from f.block f.next os)

-- What the first n frames have still to lay, the last one first.
abbrev pub lay_frames : List ApertureSeen → List ObjectSeen → List At → List Frame → ℕ → List LaidObject
lay_frames aps os pcs fs zero = []
lay_frames aps os pcs fs (suc n) = lay_frame aps os pcs (7 - n) (slice_index_or fs n idle) ++ lay_frames aps os pcs fs n

-- How many turns an object takes, by those that the objects of a block take.
abbrev pub turns_outline : (ℕ → ℕ) → OutlineSeen → ℕ
turns_outline inner (seen.circle p h) = 1
turns_outline inner (seen.rectangle p a b) = 1
turns_outline inner (seen.obround p a b) = 1
turns_outline inner (seen.stroke s e h) = 1
turns_outline inner (seen.arc s e c clockwise h) = 1
turns_outline inner (seen.contour s first count) = 1
turns_outline inner (seen.block n p m) = 2 + inner n

-- How many turns objects take.
abbrev pub turns_all : (ℕ → ℕ) → List ObjectSeen → ℕ
turns_all inner [] = 0
turns_all inner (o ∷ os) = turns_outline inner o.outline + turns_all inner os

-- How many turns the objects of block n take, blocks in it at most `deep` deep.
abbrev pub turns_block : List ApertureSeen → List ObjectSeen → ℕ → ℕ → ℕ
turns_block aps os zero n = 0
turns_block aps os (suc deep) n = turns_all (turns_block aps os deep) (block_objects aps os n)

-- How many turns the objects that a frame has still to lay take.
abbrev pub turns_frame : List ApertureSeen → List ObjectSeen → ℕ → Frame → ℕ
turns_frame aps os deep f = turns_all (turns_block aps os deep) (owned_from f.block f.next os)

-- How many turns the first n frames take: closing one takes a turn too.
abbrev pub turns_frames : List ApertureSeen → List ObjectSeen → List Frame → ℕ → ℕ
turns_frames aps os fs zero = 0
turns_frames aps os fs (suc n) = 1 + turns_frame aps os (7 - n) (slice_index_or fs n idle) + turns_frames aps os fs n

-- The first object of a block.
abbrev pub first_in : FigureSeen → Option ℕ
first_in (seen.circle h) = None
first_in (seen.rectangle a b) = None
first_in (seen.obround a b) = None
first_in (seen.block first) = Some first

-- The answer is the first object of the block n, if a flash of it in block k lays anything.
abbrev pub EnteredAt : List ApertureSeen → List ObjectSeen → ℕ → ℕ → Option ℕ → Type 0
EnteredAt aps os k n (Some first) = (n < k) × (figure_at aps n ≡ seen.block first)
EnteredAt aps os k n None = (pcs : List At) (deep : ℕ) (q : Put) (turn : Bool) → cond (nat_lt n k) (lay_block aps os pcs deep q turn n) [] ≡ []

-- The frame f is that of the block that p, an object of block k, flashes.
pub record FrameOf (aps : List ApertureSeen) (os : List ObjectSeen) (k : ℕ) (p : PlacedObject) (f : Frame) : Type 0 where
  pub level : f.placing.level ≡ p.placing.level + 1
  pub lays : (pcs : List At) (deep : ℕ) → lays_whole aps os pcs (suc deep) k p ≡ lay_frame aps os pcs deep f
  pub turns : (deep : ℕ) → turns_outline (turns_block aps os (suc deep)) (seen_object p.object).outline ≡ 2 + turns_frame aps os deep f

-- The answer is that frame, or none if the block lays nothing there.
abbrev pub OpenedBy : List ApertureSeen → List ObjectSeen → ℕ → PlacedObject → Option Frame → Type 0
OpenedBy aps os k p (Some f) = FrameOf aps os k p f
OpenedBy aps os k p None = (pcs : List At) (deep : ℕ) → lays_whole aps os pcs deep k p ≡ []

-- What a stack has still to lay.
unfoldable pub left : Drawing → Stack → List LaidObject
left d s = lay_frames (apertures_of d) (objects_of d) (pieces_in d) s.frames.items (array_vec_len s.frames)

-- How many turns that takes.
unfoldable pub turns_left : Drawing → Stack → ℕ
turns_left d s = turns_frames (apertures_of d) (objects_of d) s.frames.items (array_vec_len s.frames)

-- What an answer lays.
abbrev pub listed : Drawing → Option PlacedObject → List LaidObject
listed d (Some p) = lays_one (pieces_in d) p
listed d None = []

-- The object p of block k is taken up, and r is to lay now: that and what is left then is what p lays and what was left.
pub record TakenUp (d : Drawing) (k : ℕ) (p : PlacedObject) (before : Stack) (r : Option PlacedObject) (after : Stack) : Type 0 where
  pub lays : lays_whole (apertures_of d) (objects_of d) (pieces_in d) (8 - array_vec_len before.frames) k p ++ left d before ≡ listed d r ++ left d after
  pub falls : turns_left d after < turns_outline (turns_block (apertures_of d) (objects_of d) (8 - array_vec_len before.frames)) (seen_object p.object).outline + turns_left d before

-- The object o of the layer, moved by (x, y), is taken up while no block is open, and r is to lay now.
pub record Begun (d : Drawing) (o : Object) (x y : ℕ) (before : Stack) (r : Option PlacedObject) (after : Stack) : Type 0 where
  pub lays : array_vec_len before.frames ≡ 0 → lay_one (pieces_in d) (lay_block (apertures_of d) (objects_of d) (pieces_in d) 8) 128 (shifted x y) false (seen_object o) ≡ listed d r ++ left d after

-- One turn, and r is to lay now: that and what is left then is what was left, and fewer turns are to come.
pub record Turned (d : Drawing) (before : Stack) (r : Option PlacedObject) (after : Stack) : Type 0 where
  pub lays : left d before ≡ listed d r ++ left d after
  pub falls : 0 < array_vec_len before.frames → turns_left d after < turns_left d before
