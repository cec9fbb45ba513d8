use Rattle.std.proofs.Common.{◌≡◌, ℕ, suc, min, true, false, List, [], ◌++◌, map, length, take, drop, Ok, Err, Result, sym, ap, ◌∙◌}
use Rattle.drawing.specs.Faults.{drawing_told}
use Rattle.drawing.specs.declared.fault.DrawingFault.{DrawingFault}
use Rattle.contour.specs.declared.pieces.Piece.{Piece}
use Rattle.drawing.specs.Answers.{answer, answer_by, stored}
use Rattle.drawing.specs.Books.{Books, Rooms, begin}
use Rattle.drawing.specs.Reading.{Outcome, is_short, read_file, read_into, read_on, refused}
use Rattle.drawing.specs.Taken.{books_of}
use Rattle.drawing.specs.Turns.{Running, from_start, refusal_of}
use Rattle.drawing.specs.declared.fault.Drawing.{Drawing}
use Rattle.records.specs.Records.{seen_aperture, seen_object, seen_piece}
use Rattle.records.specs.declared.kinds.Aperture.{Aperture}
use Rattle.records.specs.declared.kinds.Object.{Object}
use Rattle.rules.specs.Rules.{start}
use Rattle.std.proofs.lemmas.List.{drop-map, length-map, map-append}
use Rattle.std.proofs.lemmas.Bool.{cond-false, cond-true}
use Rattle.table.proofs.Laws.{kept_slots}
use Rattle.table.specs.Tables.{Kept, records, room}
use Rattle.table.specs.declared.Table.{Table}
use Rattle.words.specs.Words.{Told, fault}

-- a table over the slots xs for at most n records, with none yet
pub record Fresh {X : Type 0} (xs : List X) (n : ℕ) (t : Table X) : Type 0 where
  pub empty : t.len ≡ 0
  pub limit : t.limit ≡ n
  pub same : t.slots.now ≡ xs

no_records : {X Y : Type 0} (f : X → Y) {xs : List X} {n : ℕ} {t : Table X} → Fresh xs n t → map f (records t) ≡ []
no_records f {t = t} h = ap (λ n. map f (take n t.slots.now)) h.empty

whole_room : {X : Type 0} {xs : List X} {n : ℕ} {t : Table X} → Fresh xs n t → room t ≡ min n (length xs)
whole_room {n = n} {t = t} h = ap (λ m. min m (length t.slots.now)) h.limit ∙ ap (λ l. min n (length l)) h.same

-- what slots hold at last, as a view sees them
slots_stored : {X Y : Type 0} (f : X → Y) {xs : List X} {n : ℕ} (old new : Table X) → Fresh xs n old → Kept old new
    → map f new.slots.now ≡ stored (map f (records new)) (map f xs)
slots_stored f {xs} old new h k =
    ap (map f) (kept_slots old new k)
    ∙ map-append f (records new) (drop (length (records new)) old.slots.now)
    ∙ ap (λ l. map f (records new) ++ map f (drop (length (records new)) l)) h.same
    ∙ ap (λ l. map f (records new) ++ l) (sym (drop-map f (length (records new)) xs))
    ∙ ap (λ m. map f (records new) ++ drop m (map f xs)) (sym (length-map (records new) f))

module _ (xs : List ℕ) (aps : List Aperture) (os : List Object) (ps : List Piece) where
  abbrev outcome : Outcome
  outcome = read_into xs (length aps) (length os) (length ps)

  -- a file that is too long
  pub too_long : false ≡ is_short xs → refused (fault 7 0 0) begin ≡ outcome
  unfolding read_file
  too_long h = sym (cond-false (is_short xs) _ _ (sym h))

  module _ (a : Table Aperture) (o : Table Object) (p : Table Piece) (fa : Fresh aps 128 a) (fo : Fresh os 4096 o) (fp : Fresh ps 8192 p) (h : true ≡ is_short xs) where
    at_once : from_start xs a o p ≡ outcome
    unfolding read_file
    at_once =
        let R : ℕ → ℕ → ℕ → Rooms = λ x y z. record { apertures = x; objects = y; pieces = z } in
        let B : List _ → List _ → List _ → Books = λ x y z. record { apertures = x; objects = y; pieces = z; laid = 0 } in
        let F : Rooms → Books → Outcome = λ u v. read_on (suc (length xs)) u xs 0 0 (record { state = start; books = v }) in
        ap (λ m. F (R m (room o) (room p)) (books_of a o p 0)) (whole_room fa)
        ∙ ap (λ m. F (R (min 128 (length aps)) m (room p)) (books_of a o p 0)) (whole_room fo)
        ∙ ap (λ m. F (R (min 128 (length aps)) (min 4096 (length os)) m) (books_of a o p 0)) (whole_room fp)
        ∙ ap (λ l. F (R (min 128 (length aps)) (min 4096 (length os)) (min 8192 (length ps))) (B l (map seen_object (records o)) (map seen_piece (records p)))) (no_records seen_aperture fa)
        ∙ ap (λ l. F (R (min 128 (length aps)) (min 4096 (length os)) (min 8192 (length ps))) (B [] l (map seen_piece (records p)))) (no_records seen_object fo)
        ∙ ap (λ l. F (R (min 128 (length aps)) (min 4096 (length os)) (min 8192 (length ps))) (B [] [] l)) (no_records seen_piece fp)
        ∙ sym (cond-true (is_short xs) _ _ (sym h))

    module _ (r : Result ℕ DrawingFault) (b : Table Aperture) (q : Table Object) (t : Table Piece) (w : Running xs a o p r b q t) where
      apertures_are : map seen_aperture (records b) ≡ outcome.books.apertures
      apertures_are = w.comes.apertures ∙ ap (λ (u : Outcome). u.books.apertures) at_once

      objects_are : map seen_object (records q) ≡ outcome.books.objects
      objects_are = w.comes.objects ∙ ap (λ (u : Outcome). u.books.objects) at_once

      pieces_are : map seen_piece (records t) ≡ outcome.books.pieces
      pieces_are = w.comes.pieces ∙ ap (λ (u : Outcome). u.books.pieces) at_once

      told : answer_by outcome.books (refusal_of r) ≡ answer outcome
      told = ap (answer_by outcome.books) (w.comes.refusal ∙ ap (λ (u : Outcome). u.refusal) at_once)

      -- what the slots hold
      pub slots_hold : (map seen_aperture b.slots.now ≡ stored outcome.books.apertures (map seen_aperture aps))
          × (map seen_object q.slots.now ≡ stored outcome.books.objects (map seen_object os))
          × (map seen_piece t.slots.now ≡ stored outcome.books.pieces (map seen_piece ps))
      slots_hold = (
        slots_stored seen_aperture a b fa w.kept.apertures ∙ ap (λ l. stored l (map seen_aperture aps)) apertures_are,
        slots_stored seen_object o q fo w.kept.objects ∙ ap (λ l. stored l (map seen_object os)) objects_are,
        slots_stored seen_piece p t fp w.kept.pieces ∙ ap (λ l. stored l (map seen_piece ps)) pieces_are,
      )

    -- what is answered where a command is refused, and where none is
    pub says_refusal : (f : DrawingFault) (b : Table Aperture) (q : Table Object) (t : Table Piece) → Running xs a o p (Err f) b q t → Err (drawing_told f) ≡ answer outcome
    says_refusal f b q t w = told (Err f) b q t w

    pub says_counts : (n : ℕ) (b : Table Aperture) (q : Table Object) (t : Table Piece) → Running xs a o p (Ok n) b q t
        → (i j k : ℕ) → i ≡ length (records b) → j ≡ length (records q) → k ≡ length (records t)
        → Ok (record { apertures = i; objects = j; pieces = k; laid = n }) ≡ answer outcome
    says_counts n b q t w i j k e f g =
        let D : ℕ → ℕ → ℕ → ℕ → Result Drawing Told = λ x y z v. Ok (record { apertures = x; objects = y; pieces = z; laid = v }) in
        let u = outcome.books in
        ap (λ x. D x j k n) (e ∙ sym (length-map (records b) seen_aperture) ∙ ap length (apertures_are (Ok n) b q t w))
        ∙ ap (λ x. D (length u.apertures) x k n) (f ∙ sym (length-map (records q) seen_object) ∙ ap length (objects_are (Ok n) b q t w))
        ∙ ap (λ x. D (length u.apertures) (length u.objects) x n) (g ∙ sym (length-map (records t) seen_piece) ∙ ap length (pieces_are (Ok n) b q t w))
        ∙ ap (D (length u.apertures) (length u.objects) (length u.pieces)) (w.comes.laid ∙ ap (λ (u : Outcome). u.books.laid) at_once)
        ∙ told (Ok n) b q t w
