-- reading on, command by command
use Rattle.std.proofs.Common.{◌≡◌, ℕ, suc, ◌+◌, ◌-◌, ◌<◌, ◌≤◌, min, true, false, List, length, Some, None, Ok, Err, Result, sym, ap, ◌∙◌, subst, arith}
use Rattle.commands.specs.Files.{Goes, ReadSeen, command_at, is_end, seen_read}
use Rattle.commands.specs.declared.CommandFault.{CommandFault}
use Rattle.commands.specs.declared.CommandFault.TheVariants.{Text}
use Rattle.commands.specs.declared.Read.{Read}
use Rattle.contour.specs.declared.pieces.Piece.{Piece}
use Rattle.drawing.specs.Books.{Standing, stepped}
use Rattle.drawing.specs.Faults.{drawing_told}
use Rattle.drawing.specs.Reading.{Outcome, after_read, after_step, ended, read_on}
use Rattle.drawing.specs.Taken.{KeptAll, Stepping, books_of, rooms_of, standing}
use Rattle.drawing.specs.Turns.{Comes, Running, from_start}
use Rattle.drawing.specs.declared.fault.DrawingFault.TheVariants.{Broken, Command}
use Rattle.drawing.specs.declared.fault.DrawingFault.{DrawingFault}
use Rattle.drawing.specs.declared.steps.Progress.{Progress}
use Rattle.forms.specs.Orders.{seen_command}
use Rattle.records.specs.declared.kinds.Aperture.{Aperture}
use Rattle.records.specs.declared.kinds.Object.{Object}
use Rattle.rules.specs.Numbers.{rule_number}
use Rattle.rules.specs.declared.rule.Rule.{Rule}
use Rattle.std.proofs.lemmas.Bool.{cond-false, cond-true}
use Rattle.std.specs.Result as results
use Rattle.table.proofs.Laws.{kept_trans}
use Rattle.table.specs.Tables.{Kept, room}
use Rattle.table.specs.declared.Table.{Table}
use Rattle.words.specs.Words.{closing, told_text}
use Rattle.words.specs.declared.Cursor.{Cursor}
use Rattle.words.specs.declared.TextFault.{TextFault}

room_kept : {X : Type 0} (a b : Table X) → Kept a b → room b ≡ room a
room_kept a b k = ap (λ n. min n (length b.slots.now)) k.limit ∙ ap (min a.limit) k.size

pub kept_all : {a b d : Table Aperture} {o q v : Table Object} {p t w : Table Piece} → KeptAll a o p b q t → KeptAll b q t d v w → KeptAll a o p d v w
kept_all k l = record {
  apertures = kept_trans _ _ _ k.apertures l.apertures;
  objects = kept_trans _ _ _ k.objects l.objects;
  pieces = kept_trans _ _ _ k.pieces l.pieces;
}

pub rooms_kept : {a b : Table Aperture} {o q : Table Object} {p t : Table Piece} → KeptAll a o p b q t → rooms_of b q t ≡ rooms_of a o p
rooms_kept {a} {b} {o} {q} {p} {t} k =
    ap (λ n. record { apertures = n; objects = room q; pieces = room t }) (room_kept a b k.apertures)
    ∙ ap (λ n. record { apertures = room a; objects = n; pieces = room t }) (room_kept o q k.objects)
    ∙ ap (λ n. record { apertures = room a; objects = room o; pieces = n }) (room_kept p t k.pieces)

-- an outcome whose parts are known
came : (u : Outcome) (r : Result ℕ DrawingFault) (f : DrawingFault) (b : Table Aperture) (q : Table Object) (t : Table Piece) (n : ℕ)
    → record { refusal = Some (drawing_told f); books = books_of b q t n } ≡ u → r ≡ Err f → Comes u r b q t
came u r f b q t n e h =
    let S : Result ℕ DrawingFault → Type 0 = λ v. Comes u v b q t in
    subst S (sym h) (record {
      refusal = ap (λ (v : Outcome). v.refusal) e;
      apertures = ap (λ (v : Outcome). v.books.apertures) e;
      objects = ap (λ (v : Outcome). v.books.objects) e;
      pieces = ap (λ (v : Outcome). v.books.pieces) e;
      laid = tt;
    })

-- What is read on from the cursor c, where reading stands at g over the tables b, q and t, gives what the whole file
-- gives over the tables a, o and p.
pub record Reads (xs : List ℕ) (a : Table Aperture) (o : Table Object) (p : Table Piece) (c : Cursor) (g : Progress)
    (b : Table Aperture) (q : Table Object) (t : Table Piece) : Type 0 where
  pub file : c.file.now ≡ xs
  pub kept : KeptAll a o p b q t
  pub ahead : read_on (suc (length xs - c.taken)) (rooms_of a o p) xs c.at c.taken (standing g.state b q t g.laid) ≡ from_start xs a o p
  pub taken : c.taken ≤ c.at
  pub within : c.at ≤ length xs

module _ {xs : List ℕ} {a : Table Aperture} {o : Table Object} {p : Table Piece} {c : Cursor} {g : Progress}
    {b : Table Aperture} {q : Table Object} {t : Table Piece} (h : Reads xs a o p c g b q t) where
  abbrev whole : Outcome
  whole = from_start xs a o p

  abbrev here : Standing
  here = standing g.state b q t g.laid

  abbrev more : ℕ → Standing → Outcome
  more j next = read_on (length xs - c.taken) (rooms_of a o p) xs j (c.taken + 1) next

  -- a command that cannot be read
  pub unread : (f : CommandFault) (r : Result ℕ DrawingFault) → seen_read (Err f) ≡ command_at c.taken c.file.now c.at g.state.format → r ≡ Err (Command f)
      → Running xs a o p r b q t
  unread f r e w =
      let d = ap (after_read (rooms_of a o p) c.taken xs more here) (e ∙ ap (λ l. command_at c.taken l c.at g.state.format) h.file) ∙ h.ahead in
      record { kept = h.kept; comes = came whole r (Command f) b q t g.laid d w }

  module _ (r : Read) (e : seen_read (Ok r) ≡ command_at c.taken c.file.now c.at g.state.format) where
    abbrev read : ReadSeen
    read = record { order = seen_command r.command; place = r.place; next = r.next }

    stepped_here : {x : Result Progress Rule} {b' : Table Aperture} {q' : Table Object} {t' : Table Piece} → Stepping g b q t read.order x b' q' t'
        → after_step c.taken xs read more here (results.result_map_both (λ n. standing n.state b' q' t' n.laid) rule_number x) ≡ whole
    stepped_here w =
        ap (after_step c.taken xs read more here) (w.value ∙ ap (λ v. stepped v here read.order) (rooms_kept h.kept))
        ∙ ap (after_read (rooms_of a o p) c.taken xs more here) (e ∙ ap (λ l. command_at c.taken l c.at g.state.format) h.file)
        ∙ h.ahead

    -- a command that breaks a rule
    pub broken : (z : Rule) (s : Result ℕ DrawingFault) {b' : Table Aperture} {q' : Table Object} {t' : Table Piece} → Stepping g b q t read.order (Err z) b' q' t'
        → s ≡ Err (Broken z r.place c.taken) → Running xs a o p s b' q' t'
    broken z s {b'} {q'} {t'} w i =
        let F : DrawingFault = Broken z r.place c.taken in
        record {
          kept = kept_all h.kept w.kept;
          comes = came whole s F b' q' t' g.laid (ap (λ v. record { refusal = Some (drawing_told F); books = v }) w.stays ∙ stepped_here w) i;
        }

    module _ (n : Progress) {b' : Table Aperture} {q' : Table Object} {t' : Table Piece} (w : Stepping g b q t read.order (Ok n) b' q' t') where
      abbrev then : Standing
      then = standing n.state b' q' t' n.laid

      module _ (d : Cursor) (m : Goes c.at (length c.file.now) (Ok r)) (j : c.taken < r.next → d ≡ record { file = c.file; at = r.next; taken = c.taken + 1 }) where
        behind : d ≡ record { file = c.file; at = r.next; taken = c.taken + 1 }
        behind = j (omega (arith, m.0, h.taken))

        at_end : true ≡ is_end read.order → (s : Result (Unit {0}) TextFault) → told_text s ≡ closing d.taken d.file.now d.at → ended then (told_text s) ≡ whole
        at_end l s i =
            ap (ended then) (i ∙ ap (λ (v : Cursor). closing v.taken v.file.now v.at) behind ∙ ap (λ k. closing (c.taken + 1) k r.next) h.file)
            ∙ sym (cond-true (is_end read.order) _ _ (sym l))
            ∙ stepped_here w

        -- something behind M02
        pub unclosed : true ≡ is_end read.order → (f : TextFault) (s : Result ℕ DrawingFault) → told_text (Err f) ≡ closing d.taken d.file.now d.at → s ≡ Err (Command (Text f))
            → Running xs a o p s b' q' t'
        unclosed l f s i k =
            record { kept = kept_all h.kept w.kept; comes = came whole s (Command (Text f)) b' q' t' n.laid (at_end l (Err f) i) k }

        -- nothing behind M02
        pub closed : true ≡ is_end read.order → (x : Unit {0}) → told_text (Ok x) ≡ closing d.taken d.file.now d.at → Running xs a o p (Ok n.laid) b' q' t'
        closed l x i =
            let e : record { refusal = None; books = then.books } ≡ whole = at_end l (Ok x) i in
            record {
              kept = kept_all h.kept w.kept;
              comes = record {
                refusal = ap (λ (v : Outcome). v.refusal) e;
                apertures = ap (λ (v : Outcome). v.books.apertures) e;
                objects = ap (λ (v : Outcome). v.books.objects) e;
                pieces = ap (λ (v : Outcome). v.books.pieces) e;
                laid = ap (λ (v : Outcome). v.books.laid) e;
              };
            }

        -- behind any other command the file is read on
        pub reads_on : false ≡ is_end read.order → Reads xs a o p d n b' q' t'
        reads_on l =
            let s : length c.file.now ≡ length xs = ap length h.file in
            let k : suc (length xs - (c.taken + 1)) ≡ length xs - c.taken = omega (arith, m.0, m.1, h.taken) in
            let R : Cursor → Type 0 = λ v. Reads xs a o p v n b' q' t' in
            subst R (sym behind) (record {
              file = h.file;
              kept = kept_all h.kept w.kept;
              ahead = ap (λ v. read_on v (rooms_of a o p) xs r.next (c.taken + 1) then) k ∙ sym (cond-false (is_end read.order) _ _ (sym l)) ∙ stepped_here w;
              taken = omega (arith, m.0, h.taken);
              within = omega (arith, m.1);
            })
