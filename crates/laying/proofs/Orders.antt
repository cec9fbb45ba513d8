-- objects, copies and columns, one after another
use Rattle.std.proofs.Common.{◌≡◌, ℕ, ◌+◌, ◌*◌, ◌<◌, ◌≤◌, Bool, false, cond, List, [], ◌++◌, map, length, get_or, drop, Some, None, sym, refl, ap, ◌∙◌, add-one}
use Rattle.laid.specs.Laid.{LaidObject, laid_objects, lay_all, lay_block, lay_from, lay_one, lay_owned, repeat_objects, up_to}
use Rattle.laid.specs.Puts.{shifted}
use Rattle.laid.specs.Shifts.{ShiftOf}
use Rattle.laid.specs.Stacks.{apertures_of, objects_of, pieces_in}
use Rattle.laid.specs.declared.drawing.Drawing.{Drawing}
use Rattle.laid.specs.declared.kinds.Shift.{Shift}
use Rattle.laying.specs.Steps.{all_copies, copy_at, from_number, moved_object, moved_objects, numbered, whole_of}
use Rattle.records.specs.Records.{ObjectSeen, seen_object}
use Rattle.records.specs.declared.kinds.Object.{Object}
use Rattle.records.specs.declared.kinds.Owner.TheVariants.{Block, Layer, Repeat}
use Rattle.records.specs.declared.kinds.Repeat.{Repeat as RepeatRecord}
use Rattle.std.proofs.lemmas.List.{at_drop_all, at_drop_more, drop-map}
use Rattle.std.proofs.lemmas.Bool.{eq-eqb, ne_eqb}

-- the objects of a group
module _ (d : Drawing) (s : Shift) (os : List Object) (i : ℕ) where
  pub group_more : (x : Object) → i < length os → x ≡ get_or os i x → moved_objects d s (drop i os) ≡ moved_object d s x ++ moved_objects d s (drop (i + 1) os)
  unfolding moved_objects moved_object
  group_more x h e = at_drop_more (moved_objects d s) os i x h ∙ ap (λ (o : Object). moved_object d s o ++ moved_objects d s (drop (i + 1) os)) (sym e)

  pub group_end : length os ≤ i → moved_objects d s (drop i os) ≡ []
  unfolding moved_objects
  group_end h = at_drop_all (moved_objects d s) os i h

-- one copy or one column more
pub up_to_more : (n : ℕ) (f : ℕ → List LaidObject) → up_to n f ++ f n ≡ up_to (n + 1) f
up_to_more n f = sym (ap (λ m. up_to m f) (add-one n))

module _ (d : Drawing) (r : RepeatRecord) (a b : ℕ) where
  abbrev all : List LaidObject
  all =
      lay_all (pieces_in d) (lay_block (apertures_of d) (objects_of d) (pieces_in d) 8) 128 (shifted (a * r.step_x) (b * r.step_y)) false (repeat_objects r (objects_of d))

  pub copy_is : (s : Shift) (group : List Object) → ShiftOf (a * r.step_x) (b * r.step_y) (Some s) → map seen_object group ≡ repeat_objects r (objects_of d) → moved_objects d s group ≡ copy_at d r a b
  unfolding moved_objects copy_at
  copy_is s group h g =
      ap (lay_all (pieces_in d) (lay_block (apertures_of d) (objects_of d) (pieces_in d) 8) 128 (shifted s.x s.y) false) g
      ∙ ap (λ m. lay_all (pieces_in d) (lay_block (apertures_of d) (objects_of d) (pieces_in d) 8) 128 (shifted m s.y) false (repeat_objects r (objects_of d))) h.1
      ∙ ap (λ m. lay_all (pieces_in d) (lay_block (apertures_of d) (objects_of d) (pieces_in d) 8) 128 (shifted (a * r.step_x) m) false (repeat_objects r (objects_of d))) h.2
      ∙ sym (ap (λ (t : Bool). cond t all []) h.0)

  pub no_copy : ShiftOf (a * r.step_x) (b * r.step_y) None → [] ≡ copy_at d r a b
  unfolding copy_at
  no_copy h = sym (ap (λ (t : Bool). cond t all []) h)

-- an object of the layer itself
pub layer_is : (d : Drawing) (i : ℕ) (o : Object) (s : Shift) → o.owner ≡ Layer → s.x ≡ 0 → s.y ≡ 0 → moved_object d s o ≡ numbered d i o
unfolding moved_object numbered
layer_is d i o s e p q =
    ap (λ n. lay_one (pieces_in d) (lay_block (apertures_of d) (objects_of d) (pieces_in d) 8) 128 (shifted n s.y) false (seen_object o)) p
    ∙ ap (λ n. lay_one (pieces_in d) (lay_block (apertures_of d) (objects_of d) (pieces_in d) 8) 128 (shifted 0 n) false (seen_object o)) q
    ∙ ap (lay_owned (apertures_of d) (objects_of d) (pieces_in d) 8 i (seen_object o)) (sym e)

-- one in a block lays nothing by itself
pub block_is : (d : Drawing) (i : ℕ) (o : Object) (k : ℕ) → o.owner ≡ Block k → [] ≡ numbered d i o
unfolding numbered
block_is d i o k e = sym (ap (lay_owned (apertures_of d) (objects_of d) (pieces_in d) 8 i (seen_object o)) e)

-- the first one of a step and repeat lays all copies, any other none
module _ (d : Drawing) (i : ℕ) (o : Object) (r : RepeatRecord) (e : o.owner ≡ Repeat r) where
  pub repeat_is : r.first ≡ i → all_copies d r ≡ numbered d i o
  unfolding numbered copy_at
  repeat_is f =
      sym (ap (λ (t : Bool). cond t (all_copies d r) []) (eq-eqb r.first i f)) ∙ sym (ap (lay_owned (apertures_of d) (objects_of d) (pieces_in d) 8 i (seen_object o)) e)

  pub other_is : (r.first ≡ i → ⊥) → [] ≡ numbered d i o
  unfolding numbered copy_at
  other_is f =
      sym (ap (λ (t : Bool). cond t (all_copies d r) []) (ne_eqb r.first i f)) ∙ sym (ap (lay_owned (apertures_of d) (objects_of d) (pieces_in d) 8 i (seen_object o)) e)

-- the objects of the table, each with its number
module _ (d : Drawing) where
  pub from_start_lem : from_number d 0 ≡ whole_of d
  unfolding from_number laid_objects
  from_start_lem = refl

  pub from_more : (i : ℕ) (x : Object) → i < length d.records.objects.now → x ≡ get_or d.records.objects.now i x → from_number d i ≡ numbered d i x ++ from_number d (i + 1)
  unfolding from_number numbered
  from_more i x h e =
      let os = d.records.objects.now in
      let F : ℕ → List ObjectSeen → List LaidObject = lay_from (apertures_of d) (objects_of d) (pieces_in d) 8 in
      ap (F i) (drop-map seen_object i os)
      ∙ at_drop_more (λ (l : List Object). F i (map seen_object l)) os i x h
      ∙ ap (λ (o : Object). numbered d i o ++ F (i + 1) (map seen_object (drop (i + 1) os))) (sym e)
      ∙ ap (λ (l : List ObjectSeen). numbered d i x ++ F (i + 1) l) (sym (drop-map seen_object (i + 1) os))

  pub from_end : (i : ℕ) → length d.records.objects.now ≤ i → from_number d i ≡ []
  unfolding from_number
  from_end i h =
      let os = d.records.objects.now in
      let F : List ObjectSeen → List LaidObject = lay_from (apertures_of d) (objects_of d) (pieces_in d) 8 i in
      ap F (drop-map seen_object i os) ∙ at_drop_all (λ (l : List Object). F (map seen_object l)) os i h
