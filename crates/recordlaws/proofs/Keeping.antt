-- Reading keeps the records sound and the laid count right.
use Rattle.std.proofs.Common.{◌≡◌, ℕ, zero, suc, ◌+◌, ◌<◌, ◌≤◌, false, ltb, List, [], ◌∷◌, ◌++◌, length, Some, None, Ok, Err, Option, Result, sym, refl, ◌∙◌, subst, arith}
use Rattle.commands.specs.Files.{ReadSeen, command_at, is_end}
use Rattle.drawing.specs.Books.{Books, Rooms, Standing, adds, begin, laid_after, rooms_for, stepped, taken, too_deep, too_much, weighs_here, with_object}
use Rattle.drawing.specs.Reading.{Outcome, after_read, after_step, ended, is_short, read_file, read_on, refused}
use Rattle.forms.specs.Orders.{Order}
use Rattle.plane.specs.Plane.{At}
use Rattle.recordlaws.proofs.Commands.{Fitting, decided_fits}
use Rattle.recordlaws.proofs.Counting.{adds_exactly, count_aperture, count_object, weighs_lays}
use Rattle.recordlaws.proofs.Depths.{shallow_aperture, shallow_object}
use Rattle.recordlaws.proofs.Fits.{EffectFit, NewFigure, ObjectFit, StateFit}
use Rattle.recordlaws.proofs.Growing.{apertures_more, apertures_object, objects_aperture, objects_more, objects_piece, pieces_more}
use Rattle.recordlaws.proofs.Holding.{Holds, held, then_holds}
use Rattle.recordlaws.proofs.Laying.{count_from, lays, objects_lay}
use Rattle.recordlaws.specs.Laws.{AperturesSound, FigureSound, FilesAreSound, LaidCounted, RecordsSound, Within}
use Rattle.records.specs.Records.{ApertureSeen, ObjectSeen}
use Rattle.rules.specs.Rules.{decided}
use Rattle.rules.specs.States as state
use Rattle.rules.specs.States.{EffectSeen, StateSeen}
use Rattle.std.proofs.lemmas.List.{length_push}
use Rattle.std.proofs.lemmas.Bool.{cond_both, ltb-false, ltb-true, or_parts}
use Rattle.words.specs.Words.{Told, closing, fault, onward}

-- What holds of the records all through a file.
pub record Kept (b : Books) : Type 0 where
  pub records : RecordsSound b
  pub room : length b.apertures ≤ 128
  pub counted : b.laid ≡ count_from b.apertures b.objects 0 b.objects

pub record Stands (st : Standing) : Type 0 where
  pub books : Kept st.books
  pub fits : StateFit st.books.apertures st.books.objects st.books.pieces st.state

module _ (b : Books) (k : Kept b) where
  aperture_kept : (a : ApertureSeen) → length b.apertures < 128 → FigureSound (length b.objects) a.figure → NewFigure (length b.objects) a.figure
      → Kept (record { apertures = b.apertures ++ (a ∷ []); objects = b.objects; pieces = b.pieces; laid = b.laid })
  aperture_kept a h f n =
      record {
        records = record {
          apertures = apertures_more (length b.objects) b.apertures a k.records.apertures f;
          objects = objects_aperture b.apertures a b.pieces b.objects k.records.objects;
          pieces = k.records.pieces;
          depth = shallow_aperture b.apertures a b.objects k.records.depth n;
          few = k.records.few;
        };
        room = simp length_push (omega arith);
        counted = k.counted ∙ sym (count_aperture b.apertures a b.objects b.pieces k.records.objects);
      }

  piece_kept : (p : At) → Within 30000 p → Kept (record { apertures = b.apertures; objects = b.objects; pieces = b.pieces ++ (p ∷ []); laid = b.laid })
  piece_kept p w =
      record {
        records = record {
          apertures = k.records.apertures;
          objects = objects_piece b.apertures b.pieces p b.objects k.records.objects;
          pieces = pieces_more b.pieces p k.records.pieces w;
          depth = k.records.depth;
          few = k.records.few;
        };
        room = k.room;
        counted = k.counted;
      }

  object_kept : (o : ObjectSeen) → ObjectFit b.apertures b.objects b.pieces o → too_deep o.owner (weighs_here b o).depth ≡ false
      → b.laid + adds o.owner (weighs_here b o).laid ≤ 1000000
      → Kept (record { apertures = b.apertures; objects = b.objects ++ (o ∷ []); pieces = b.pieces; laid = b.laid + adds o.owner (weighs_here b o).laid })
  object_kept o f d l =
      let more = apertures_object (length b.objects) b.apertures k.records.apertures in
      let exact = adds_exactly b.apertures o.outline o.owner b.laid (lays b.apertures b.objects o.outline) (weighs_here b o).laid f.owned
      (weighs_lays b.apertures b.objects b.pieces o.outline f.outline k.room) l in
      let count = count_object b.apertures b.objects o k.records.apertures o.owner refl f.owner in
      record {
        records = record {
          apertures = subst (λ n. AperturesSound n b.apertures) (sym (length_push b.objects o)) more;
          objects = objects_more b.apertures b.pieces b.objects o k.records.objects f.outline f.owned;
          pieces = k.records.pieces;
          depth = shallow_object b.apertures b.objects o k.records.apertures k.room k.records.depth o.owner refl f.owner f.owned d;
          few = l;
        };
        room = k.room;
        counted = let c = k.counted in omega arith;
      }

  -- Taking what a command has the tables take, before the state next.
  taken_kept : (room : Rooms) → room.apertures ≤ 128 → (next : StateSeen) (e : EffectSeen) → EffectFit b.apertures b.objects b.pieces next e
      → Holds (λ c. Stands (record { state = next; books = c })) (taken room b e)
  taken_kept room r next state.nothing f = record { books = k; fits = f }
  taken_kept room r next (state.aperture a) (f, n, s) =
      let c : Books = record { apertures = b.apertures ++ (a ∷ []); objects = b.objects; pieces = b.pieces; laid = b.laid } in
      held (λ c. Stands (record { state = next; books = c })) (ltb (length b.apertures) room.apertures) 29 (Ok c)
      (λ h. let l = ltb-true (length b.apertures) room.apertures h in record { books = aperture_kept a (omega arith) f n; fits = s })
  taken_kept room r next (state.object o) (f, s) =
      let w = weighs_here b o in
      held (λ c. Stands (record { state = next; books = c })) (ltb (length b.objects) room.objects) 29 (with_object b o (laid_after b.laid o.owner w)) (λ h.
      cond_both (too_much b.laid o.owner w) None (Some (b.laid + adds o.owner w.laid))
      (λ (n : Option ℕ). Holds (λ c. Stands (record { state = next; books = c })) (with_object b o n))
      (λ m. tt)
      (λ m.
      let p = or_parts (too_deep o.owner w.depth) (ltb 1000000 (b.laid + adds o.owner w.laid)) m in
      record { books = object_kept o f p.0 (ltb-false 1000000 (b.laid + adds o.owner w.laid) p.1); fits = s }))
  taken_kept room r next (state.piece p) (w, s) =
      let c : Books = record { apertures = b.apertures; objects = b.objects; pieces = b.pieces ++ (p ∷ []); laid = b.laid } in
      held (λ c. Stands (record { state = next; books = c })) (ltb (length b.pieces) room.pieces) 29 (Ok c)
      (λ h. record { books = piece_kept p w; fits = s })

step_kept : (room : Rooms) → room.apertures ≤ 128 → (st : Standing) → Stands st → (o : Order) → Holds Stands (stepped room st o)
unfolding stepped
step_kept room r st k o =
    let b = st.books in
    then_holds (Fitting b.apertures b.objects b.pieces) Stands (decided st.state b.apertures (length b.objects) (length b.pieces) o)
    (λ d. onward (taken room b d.1) (λ c. Ok (record { state = d.0; books = c })))
    (decided_fits b.apertures b.objects b.pieces st.state k.fits k.books.records.apertures k.books.records.objects o) (λ d f.
    then_holds (λ c. Stands (record { state = d.0; books = c })) Stands (taken room b d.1) (λ c. Ok (record { state = d.0; books = c }))
    (taken_kept b k.books room r d.0 d.1 f) (λ c h. h))

module _ (room : Rooms) (r : room.apertures ≤ 128) (xs : List ℕ) where
  ended_kept : (st : Standing) → Stands st → (r : Result (Unit {0}) Told) → Kept (ended st r).books
  ended_kept st k (Ok u) = k.books
  ended_kept st k (Err t) = k.books

  after_step_lem : (k : ℕ) (s : ReadSeen) (more : ℕ → Standing → Outcome) → ((j : ℕ) (next : Standing) → Stands next → Kept (more j next).books)
      → (st : Standing) → Stands st → (a : Result Standing ℕ) → Holds Stands a → Kept (after_step k xs s more st a).books
  after_step_lem k s more h st b (Err n) f = b.books
  after_step_lem k s more h st b (Ok next) f =
      cond_both (is_end s.order) (ended next (closing (k + 1) xs s.next)) (more s.next next) (λ (u : Outcome). Kept u.books)
      (λ e. ended_kept next f (closing (k + 1) xs s.next))
      (λ e. h s.next next f)

  after_read_lem : (k : ℕ) (more : ℕ → Standing → Outcome) → ((j : ℕ) (next : Standing) → Stands next → Kept (more j next).books)
      → (st : Standing) → Stands st → (a : Result ReadSeen Told) → Kept (after_read room k xs more st a).books
  after_read_lem k more h st b (Err t) = b.books
  after_read_lem k more h st b (Ok s) = after_step_lem k s more h st b (stepped room st s.order) (step_kept room r st b s.order)

  read_kept : (fuel i k : ℕ) (st : Standing) → Stands st → Kept (read_on fuel room xs i k st).books
  read_kept zero i k st b = b.books
  read_kept (suc fuel) i k st b =
      after_read_lem k (λ j next. read_on fuel room xs j (k + 1) next) (λ j next c. read_kept fuel j (k + 1) next c) st b (command_at k xs i st.state.format)

begins : Stands begin
begins =
    record {
      books = record { records = record { apertures = tt; objects = tt; pieces = tt; depth = λ k h. absurd (omega arith); few = omega arith }; room = omega arith; counted = refl };
      fits = record { point = tt; aperture = tt; owner = tt; region = tt };
    }

pub file_kept : (a o p : ℕ) (xs : List ℕ) → Kept (read_file (rooms_for a o p) xs).books
unfolding read_file
file_kept a o p xs =
    cond_both (is_short xs) (read_on (suc (length xs)) (rooms_for a o p) xs 0 0 begin) (refused (fault 7 0 0) begin) (λ (u : Outcome). Kept u.books)
    (λ e. read_kept (rooms_for a o p) (omega arith) xs (suc (length xs)) 0 0 begin begins)
    (λ e. begins.books)

pub files_are_sound : FilesAreSound
files_are_sound a o p xs = (file_kept a o p xs).records

pub laid_counted : LaidCounted
laid_counted a o p xs =
    let b = (read_file (rooms_for a o p) xs).books in
    let k = file_kept a o p xs in
    k.counted ∙ sym (objects_lay b.apertures b.objects b.pieces k.records.objects k.room k.records.depth)
