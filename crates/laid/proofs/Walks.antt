-- what is left to lay, as frames are opened, moved on and closed
use Rattle.std.proofs.Common.{◌≡◌, ℕ, zero, suc, ◌+◌, ◌-◌, ◌<◌, ◌≤◌, Bool, true, false, cond, ltb, List, [], ◌∷◌, ◌++◌, length, get_or, Some, None, Option, sym, refl, ap, ◌∙◌, add-one, arith, ⊎_elim}
use Rattle.laid.specs.Frames.{idle, level_at}
use Rattle.laid.specs.Laid.{LaidObject, lay_all, lay_block, lay_one, lay_outline}
use Rattle.laid.specs.Puts.{Put, seen_placing, shifted}
use Rattle.laid.specs.Stacks.{Begun, FlashOf, FrameOf, StepOf, TakenUp, Turned, apertures_of, is_plain, lay_frame, lay_frames, lays_whole, left, objects_of, pieces_in, placed_in, turns_all, turns_block, turns_frame, turns_frames, turns_left, turns_outline}
use Rattle.laid.specs.declared.drawing.Drawing.{Drawing}
use Rattle.laid.specs.declared.kinds.Flash.{Flash}
use Rattle.laid.specs.declared.kinds.Frame.{Frame}
use Rattle.laid.specs.declared.kinds.PlacedObject.{PlacedObject}
use Rattle.laid.specs.declared.stack.Stack.{Stack}
use Rattle.plane.specs.Plane.{At}
use Rattle.forms.specs.declared.Polarity.{Polarity}
use Rattle.records.specs.Records as seen
use Rattle.records.specs.Records.{ApertureSeen, ObjectSeen, OutlineSeen, seen_object, seen_outline}
use Rattle.records.specs.Weights.{owned_from}
use Rattle.records.specs.declared.kinds.Object.{Object}
use Rattle.std.proofs.lemmas.List.{append_assoc, append-nil, get_or_append_left, get_or_push, length_push}
use Rattle.std.proofs.lemmas.Bool.{cases_lt, ltb-false}

-- a stack that is not busy has nothing left to lay
pub idle_left : (d : Drawing) (s : Stack) → false ≡ ltb 0 (length s.frames.items) → left d s ≡ []
unfolding left
idle_left d s e =
    let z : length s.frames.items ≡ 0 = omega (arith, ltb-false 0 (length s.frames.items) (sym e)) in
    ap (lay_frames (apertures_of d) (objects_of d) (pieces_in d) s.frames.items) z

-- an object that is no flash of a block is laid by itself
plain_lays : (pcs : List At) (inner : Put → Bool → ℕ → List LaidObject) (k : ℕ) (q : Put) (turn : Bool) (p : Polarity) (o : OutlineSeen) → is_plain o ≡ true
    → lay_outline pcs inner k q turn p o ≡ lay_outline pcs (λ q turn n. []) 0 q turn p o
plain_lays pcs inner k q turn p (seen.circle a h) e = refl
plain_lays pcs inner k q turn p (seen.rectangle a x y) e = refl
plain_lays pcs inner k q turn p (seen.obround a x y) e = refl
plain_lays pcs inner k q turn p (seen.stroke s t h) e = refl
plain_lays pcs inner k q turn p (seen.arc s t c clockwise h) e = refl
plain_lays pcs inner k q turn p (seen.contour a first m) e = refl
plain_lays pcs inner k q turn p (seen.block m a mirror) e = let z : ◌≡◌ {A = ℕ} 0 1 = cc in absurd (omega arith)

some_turns : (inner : ℕ → ℕ) (o : OutlineSeen) → 0 < turns_outline inner o
some_turns inner (seen.circle a h) = omega arith
some_turns inner (seen.rectangle a x y) = omega arith
some_turns inner (seen.obround a x y) = omega arith
some_turns inner (seen.stroke s t h) = omega arith
some_turns inner (seen.arc s t c clockwise h) = omega arith
some_turns inner (seen.contour a first m) = omega arith
some_turns inner (seen.block m a mirror) = omega arith

-- one frame more
module _ (aps : List ApertureSeen) (os : List ObjectSeen) (fs : List Frame) (x : Frame) where
  module _ (pcs : List At) where
    frames_below : (n : ℕ) → n ≤ length fs → lay_frames aps os pcs (fs ++ x ∷ []) n ≡ lay_frames aps os pcs fs n
    frames_below zero h = refl
    frames_below (suc n) h =
        let l : n < length fs = omega arith in
        ap (λ (f : Frame). lay_frame aps os pcs (7 - n) f ++ lay_frames aps os pcs (fs ++ x ∷ []) n) (get_or_append_left fs (x ∷ []) idle n l)
        ∙ ap (λ (v : List LaidObject). lay_frame aps os pcs (7 - n) (get_or fs n idle) ++ v) (frames_below n (omega arith))

    pub frames_push : lay_frames aps os pcs (fs ++ x ∷ []) (length (fs ++ x ∷ [])) ≡ lay_frame aps os pcs (7 - length fs) x ++ lay_frames aps os pcs fs (length fs)
    frames_push =
        ap (lay_frames aps os pcs (fs ++ x ∷ [])) (length_push fs x ∙ add-one (length fs))
        ∙ ap (λ (f : Frame). lay_frame aps os pcs (7 - length fs) f ++ lay_frames aps os pcs (fs ++ x ∷ []) (length fs)) (get_or_push fs x idle (length fs) refl)
        ∙ ap (λ (v : List LaidObject). lay_frame aps os pcs (7 - length fs) x ++ v) (frames_below (length fs) (omega arith))

  turns_below : (n : ℕ) → n ≤ length fs → turns_frames aps os (fs ++ x ∷ []) n ≡ turns_frames aps os fs n
  turns_below zero h = refl
  turns_below (suc n) h =
      let l : n < length fs = omega arith in
      let e = ap (turns_frame aps os (7 - n)) (get_or_append_left fs (x ∷ []) idle n l) in
      let r = turns_below n (omega arith) in
      omega arith

  pub turns_push : turns_frames aps os (fs ++ x ∷ []) (length (fs ++ x ∷ [])) ≡ 1 + turns_frame aps os (7 - length fs) x + turns_frames aps os fs (length fs)
  turns_push =
      let n = ap (turns_frames aps os (fs ++ x ∷ [])) (length_push fs x ∙ add-one (length fs)) in
      let e = ap (turns_frame aps os (7 - length fs)) (get_or_push fs x idle (length fs) refl) in
      let r = turns_below (length fs) (omega arith) in
      omega arith

-- the levels of the frames, with one more and without it
abbrev pub Levels : List Frame → Type 0
Levels fs = (k : ℕ) → k < length fs → level_at fs k ≤ k + 1

pub levels_push : (fs : List Frame) (x : Frame) → Levels fs → x.placing.level ≤ length fs + 1 → Levels (fs ++ x ∷ [])
levels_push fs x h l k i =
    ⊎_elim
    (λ (b : k < length fs).
    let e = ap (λ (f : Frame). f.placing.level) (get_or_append_left fs (x ∷ []) idle k b) in
    let a = h k b in
    omega arith)
    (λ (b : length fs ≤ k).
    let z : length fs ≡ k = omega (arith, length_push fs x) in
    let e = ap (λ (f : Frame). f.placing.level) (get_or_push fs x idle k z) in
    omega arith)
    (cases_lt k (length fs))

pub levels_rest : (fs : List Frame) (x : Frame) → Levels (fs ++ x ∷ []) → Levels fs
levels_rest fs x h k i =
    let e = ap (λ (f : Frame). f.placing.level) (get_or_append_left fs (x ∷ []) idle k i) in
    let a = h k (omega (arith, length_push fs x)) in
    omega arith

pub level_top : (fs : List Frame) (x : Frame) → Levels (fs ++ x ∷ []) → x.placing.level ≤ length fs + 1
level_top fs x h =
    let e = ap (λ (f : Frame). f.placing.level) (get_or_push fs x idle (length fs) refl) in
    let a = h (length fs) (omega (arith, length_push fs x)) in
    omega arith

-- an object is laid by itself
module _ (d : Drawing) (k : ℕ) (p : PlacedObject) (s : Stack) where
  pub takes_plain : FlashOf (seen_outline p.object.outline) None → TakenUp d k p s (Some p) s
  takes_plain e =
      record {
        lays = ap (λ (v : List LaidObject). v ++ left d s) (plain_lays (pieces_in d) (lay_block (apertures_of d) (objects_of d) (pieces_in d) (8 - length s.frames.items)) k (seen_placing p.placing) p.turn p.object.polarity (seen_outline p.object.outline) e);
        falls = let t = some_turns (turns_block (apertures_of d) (objects_of d) (8 - length s.frames.items)) (seen_outline p.object.outline) in omega arith;
      }

  -- a flash that lays nothing
  pub takes_none : lays_whole (apertures_of d) (objects_of d) (pieces_in d) (8 - length s.frames.items) k p ≡ [] → TakenUp d k p s None s
  takes_none e =
      record {
        lays = ap (λ (v : List LaidObject). v ++ left d s) e;
        falls = let t = some_turns (turns_block (apertures_of d) (objects_of d) (8 - length s.frames.items)) (seen_outline p.object.outline) in omega arith;
      }

  -- no room: blocks are at most eight deep
  pub takes_deep : (f : Flash) → FlashOf (seen_outline p.object.outline) (Some f) → 8 ≤ length s.frames.items → TakenUp d k p s None s
  takes_deep f e h =
      takes_none
      (let z : 8 - length s.frames.items ≡ 0 = omega arith in
      ap (λ n. lays_whole (apertures_of d) (objects_of d) (pieces_in d) n k p) z
      ∙ ap (lay_outline (pieces_in d) (lay_block (apertures_of d) (objects_of d) (pieces_in d) 0) k (seen_placing p.placing) p.turn p.object.polarity) e
      ∙ nil (ltb f.number k) [] refl)
    where
      nil : (b : Bool) (v : List LaidObject) → v ≡ [] → cond b v [] ≡ []
      nil true v z = z
      nil false v z = refl

  -- a frame is opened
  pub takes_frame : (f : Frame) (t : Stack) → FrameOf (apertures_of d) (objects_of d) k p f → length s.frames.items < 8 → t.frames.items ≡ s.frames.items ++ f ∷ [] → TakenUp d k p s None t
  unfolding left turns_left
  takes_frame f t o few fs =
      let aps = apertures_of d in
      let os = objects_of d in
      let pcs = pieces_in d in
      let old = s.frames.items in
      let m = length old in
      let e : 8 - m ≡ suc (7 - m) = omega arith in
      let a : left d t ≡ lay_frame aps os pcs (7 - m) f ++ lay_frames aps os pcs old m =
      ap (λ (v : List Frame). lay_frames aps os pcs v (length v)) fs ∙ frames_push aps os old f pcs in
      let b : turns_left d t ≡ 1 + turns_frame aps os (7 - m) f + turns_frames aps os old m =
      ap (λ (v : List Frame). turns_frames aps os v (length v)) fs ∙ turns_push aps os old f in
      let c : turns_outline (turns_block aps os (8 - m)) (seen_outline p.object.outline) ≡ 2 + turns_frame aps os (7 - m) f =
      ap (λ j. turns_outline (turns_block aps os j) (seen_outline p.object.outline)) e ∙ o.turns (7 - m) in
      record {
        lays = ap (λ j. lays_whole aps os pcs j k p ++ lay_frames aps os pcs old m) e ∙ ap (λ (v : List LaidObject). v ++ lay_frames aps os pcs old m) (o.lays pcs (7 - m)) ∙ sym a;
        falls = omega arith;
      }

-- the top frame is closed
pub closes : (d : Drawing) (s t : Stack) (top : Frame) → s.frames.items ≡ t.frames.items ++ top ∷ [] → owned_from top.block top.next (objects_of d) ≡ [] → Turned d s None t
unfolding left turns_left
closes d s t top e z =
    let aps = apertures_of d in
    let os = objects_of d in
    let pcs = pieces_in d in
    let rest = t.frames.items in
    let i = length rest in
    let a : left d s ≡ lay_frame aps os pcs (7 - i) top ++ left d t = ap (λ (v : List Frame). lay_frames aps os pcs v (length v)) e ∙ frames_push aps os rest top pcs in
    let n : lay_frame aps os pcs (7 - i) top ≡ [] = ap (lay_all pcs (lay_block aps os pcs (7 - i)) top.block (seen_placing top.placing) top.turn) z in
    let x : turns_left d s ≡ 1 + turns_frame aps os (7 - i) top + turns_left d t = ap (λ (v : List Frame). turns_frames aps os v (length v)) e ∙ turns_push aps os rest top in
    record { lays = a ∙ ap (λ (v : List LaidObject). v ++ left d t) n; falls = λ h. omega arith }

-- a frame that moves on lays the object that it passes, and then what it has still to lay
module _ (os : List ObjectSeen) (top f : Frame) (o : Object) (s : StepOf os top o f) where
  step_lays : (pcs : List At) (inner : Put → Bool → ℕ → List LaidObject)
      → lay_all pcs inner top.block (seen_placing top.placing) top.turn (owned_from top.block top.next os)
      ≡ lay_one pcs inner f.block (seen_placing f.placing) f.turn (seen_object o) ++ lay_all pcs inner f.block (seen_placing f.placing) f.turn (owned_from f.block f.next os)
  step_lays pcs inner =
      ap (lay_all pcs inner top.block (seen_placing top.placing) top.turn) s.objects
      ∙ sym (λ i. lay_one pcs inner (s.block i) (seen_placing (s.placing i)) (s.turn i) (seen_object o) ++ lay_all pcs inner (s.block i) (seen_placing (s.placing i)) (s.turn i) (owned_from (s.block i) f.next os))

  step_turns : (inner : ℕ → ℕ) → turns_all inner (owned_from top.block top.next os) ≡ turns_outline inner (seen_object o).outline + turns_all inner (owned_from f.block f.next os)
  step_turns inner =
      ap (turns_all inner) s.objects ∙ sym (λ i. turns_outline inner (seen_object o).outline + turns_all inner (owned_from (s.block i) f.next os))

-- the top frame moves on, and the object that it passes is taken up
pub moves : (d : Drawing) (s m t : Stack) (rest : List Frame) (top f : Frame) (o : Object) (r : Option PlacedObject) → s.frames.items ≡ rest ++ top ∷ [] → m.frames.items ≡ rest ++ f ∷ []
    → StepOf (objects_of d) top o f → TakenUp d f.block (placed_in f o) m r t → Turned d s r t
unfolding left turns_left
moves d s m t rest top f o r e n step up =
    let aps = apertures_of d in
    let os = objects_of d in
    let pcs = pieces_in d in
    let i = length rest in
    let eight : 8 - length m.frames.items ≡ 7 - i = let l = ap length n in omega (arith, length_push rest f) in
    let below = lay_frames aps os pcs rest i in
    let before : left d s ≡ lay_frame aps os pcs (7 - i) top ++ below = ap (λ (v : List Frame). lay_frames aps os pcs v (length v)) e ∙ frames_push aps os rest top pcs in
    let after : left d m ≡ lay_frame aps os pcs (7 - i) f ++ below = ap (λ (v : List Frame). lay_frames aps os pcs v (length v)) n ∙ frames_push aps os rest f pcs in
    let one : lays_whole aps os pcs (8 - length m.frames.items) f.block (placed_in f o) ≡ lay_one pcs (lay_block aps os pcs (7 - i)) f.block (seen_placing f.placing) f.turn (seen_object o) =
    ap (λ j. lays_whole aps os pcs j f.block (placed_in f o)) eight in
    let whole : left d s ≡ lays_whole aps os pcs (8 - length m.frames.items) f.block (placed_in f o) ++ left d m =
    before
    ∙ ap (λ (v : List LaidObject). v ++ below) (step_lays os top f o step pcs (lay_block aps os pcs (7 - i)))
    ∙ append_assoc (lay_one pcs (lay_block aps os pcs (7 - i)) f.block (seen_placing f.placing) f.turn (seen_object o)) (lay_frame aps os pcs (7 - i) f) below
    ∙ ap (λ (v : List LaidObject). v ++ (lay_frame aps os pcs (7 - i) f ++ below)) (sym one)
    ∙ ap (λ (v : List LaidObject). lays_whole aps os pcs (8 - length m.frames.items) f.block (placed_in f o) ++ v) (sym after) in
    -- and the turns
    let ts : turns_left d s ≡ 1 + turns_frame aps os (7 - i) top + turns_frames aps os rest i = ap (λ (v : List Frame). turns_frames aps os v (length v)) e ∙ turns_push aps os rest top in
    let tm : turns_left d m ≡ 1 + turns_frame aps os (7 - i) f + turns_frames aps os rest i = ap (λ (v : List Frame). turns_frames aps os v (length v)) n ∙ turns_push aps os rest f in
    let to : turns_outline (turns_block aps os (8 - length m.frames.items)) (seen_object o).outline ≡ turns_outline (turns_block aps os (7 - i)) (seen_object o).outline =
    ap (λ j. turns_outline (turns_block aps os j) (seen_object o).outline) eight in
    let tf = step_turns os top f o step (turns_block aps os (7 - i)) in
    let down = up.falls in
    record { lays = whole ∙ up.lays; falls = λ h. omega arith }

-- an object of the layer is begun
pub begins : (d : Drawing) (o : Object) (x y : ℕ) (p : PlacedObject) (s t : Stack) (r : Option PlacedObject) → p.object ≡ o → seen_placing p.placing ≡ shifted x y → p.turn ≡ false
    → TakenUp d 128 p s r t → Begun d o x y s r t
unfolding left
begins d o x y p s t r po pp pt up =
    record {
      lays = λ z.
          let aps = apertures_of d in
          let os = objects_of d in
          let pcs = pieces_in d in
          let inner : Put → Bool → ℕ → List LaidObject = lay_block aps os pcs 8 in
          let none : left d s ≡ [] = ap (lay_frames aps os pcs s.frames.items) z in
          let a : lays_whole aps os pcs (8 - length s.frames.items) 128 p ≡ lay_one pcs inner 128 (shifted x y) false (seen_object o) =
          ap (λ j. lays_whole aps os pcs (8 - j) 128 p) z ∙ (λ i. lay_one pcs inner 128 (pp i) (pt i) (seen_object (po i))) in
          sym (append-nil _) ∙ ap (λ (v : List LaidObject). lay_one pcs inner 128 (shifted x y) false (seen_object o) ++ v) (sym none)
          ∙ ap (λ (v : List LaidObject). v ++ left d s) (sym a) ∙ up.lays;
    }
