use Rattle.std.proofs.Common.{◌≡◌, ℕ, ◌+◌, true, false, ◌&&◌, eqb, leb, List, [], ◌∷◌, ◌++◌, length, get_or, Some, None, codes, Option, sym, refl, ap, ◌∙◌, subst, arith}
use Rattle.forms.specs.Extended.{Sides, agrees, aperture_of, attribute_of, begins, block_of, circle_of, closed, extended_of, format_digits, format_of, is, mirror_of, obround_of, polarity_of, rectangle_of, repeat_of, shape_of, sides_of, unit_of}
use Rattle.forms.specs.Numbers.{Then, Valued, after, leads, lettered as split_lettered, numeral, past}
use Rattle.forms.specs.Orders as order
use Rattle.forms.specs.Orders.{Order}
use Rattle.numerals.specs.Numerals.{code_number, count_number, size_millionths}
use Rattle.spellings.proofs.Options.{and_then_some, closed_some, cond_some, mapped_some}
use Rattle.spellings.proofs.Tiles.{Tiles, end, head, join, numeral_tiles, spelled, whole_letters, whole_part}
use Rattle.spellings.specs.Spellings.{Bit, Spelled, lettered, letters, part}
use Rattle.std.proofs.lemmas.List.{append-nil, nil_from_length}
use Rattle.std.proofs.lemmas.Bool.{and_from, and_parts, eqb-true}
use Rattle.forms.specs.declared.AttributeKind.TheVariants as kind
use Rattle.forms.specs.declared.AttributeKind.{AttributeKind}
use Rattle.forms.specs.declared.Polarity.TheVariants.{Clear, Dark}
use Rattle.spellings.specs.Spellings.{attribute_letters, written}
use Rattle.std.specs.List.{between}
use Rattle.ticks.specs.declared.Unit.TheVariants.{Inch, Millimetre}
use Rattle.words.specs.Words.{Piece}
use Rattle.std.proofs.lemmas.Option.{same_Some}

leads_begins : (b : ℕ) (xs : List ℕ) → leads b xs ≡ true → begins (b ∷ []) xs ≡ true
leads_begins b xs e =
    let t = and_parts (leb 1 (length xs)) (eqb (get_or xs 0 0) b) e in
    and_from (leb 1 (length xs)) _ t.0 (and_from (eqb (get_or xs 0 0) b) true t.1 refl)

-- a letter and the numeral behind it
letter_tiles : (b : ℕ) (c : Piece) (t : Then Piece) → split_lettered b c ≡ Some t → Tiles c (letters (b ∷ []) ∷ (part t.value ∷ [])) t.rest
unfolding split_lettered
letter_tiles b c t e =
    cond_some (Tiles c (letters (b ∷ []) ∷ (part t.value ∷ [])) t.rest) (leads b c.text) (Some (numeral (past 1 c))) None t e
    (λ l s. subst (λ (t : Then Piece). Tiles c (letters (b ∷ []) ∷ (part t.value ∷ [])) t.rest) (same_Some (numeral (past 1 c)) t s)
    (join (head (b ∷ []) 1 c refl (leads_begins b c.text l)) (numeral_tiles (past 1 c))))
    (λ _ n. cc)

after_at : {V : Type 0} (f : List ℕ → Option V) (b : ℕ) (c : Piece) (t : Then (Valued V)) (s : Option (Then Piece)) → split_lettered b c ≡ s → after f b c ≡ Some t → Tiles c (lettered b t.value) t.rest
unfolding after
after_at f b c t None e h = let n = rw e at h in cc
after_at {V} f b c t (Some s) e h =
    let m = mapped_some (λ v. record { value = record { part = s.value; value = v }; rest = s.rest }) (f s.value.text) t (rw e at h) in
    subst (λ (t : Then (Valued V)). Tiles c (lettered b t.value) t.rest) m.2 (letter_tiles b c s e)

-- a letter and the part of a value
pub after_tiles : {V : Type 0} (f : List ℕ → Option V) (b : ℕ) (c : Piece) (t : Then (Valued V)) → after f b c ≡ Some t → Tiles c (lettered b t.value) t.rest
after_tiles f b c t h = after_at f b c t (split_lettered b c) refl h

pub block : (w c : Piece) (o : Order) → Tiles w (letters (codes "AB") ∷ []) c → block_of c ≡ Some o → Spelled w o
unfolding block_of
block w c o p h =
    cond_some (Spelled w o) (eqb (length c.text) 0) (Some order.block_close) _ o h
    (λ z s. subst (λ (o : Order). Spelled w o) (same_Some order.block_close o s) (spelled order.block_close p (nil_from_length c.text (eqb-true (length c.text) 0 z))))
    (λ _ e.
    let k = and_then_some (after code_number 68 c) (λ k. closed k.rest (order.block_open k.value)) o e in
    let q = closed_some k.0.rest (order.block_open k.0.value) o k.2 in
    subst (λ (o : Order). Spelled w o) q.1 (spelled (order.block_open k.0.value) (join p (after_tiles code_number 68 c k.0 k.1)) q.0))

pub repeat : (w c : Piece) (o : Order) → Tiles w (letters (codes "SR") ∷ []) c → repeat_of c ≡ Some o → Spelled w o
unfolding repeat_of
repeat w c o p h =
    cond_some (Spelled w o) (eqb (length c.text) 0) (Some order.repeat_close) _ o h
    (λ z s. subst (λ (o : Order). Spelled w o) (same_Some order.repeat_close o s) (spelled order.repeat_close p (nil_from_length c.text (eqb-true (length c.text) 0 z))))
    (λ _ e.
    let i = and_then_some (after count_number 88 c) _ o e in
    let j = and_then_some (after count_number 89 i.0.rest) _ o i.2 in
    let x = and_then_some (after size_millionths 73 j.0.rest) _ o j.2 in
    let y = and_then_some (after size_millionths 74 x.0.rest) _ o x.2 in
    let q = closed_some y.0.rest (order.repeat_open i.0.value j.0.value x.0.value y.0.value) o y.2 in
    subst (λ (o : Order). Spelled w o) q.1 (spelled (order.repeat_open i.0.value j.0.value x.0.value y.0.value)
    (join p (join (after_tiles count_number 88 c i.0 i.1) (join (after_tiles count_number 89 i.0.rest j.0 j.1)
    (join (after_tiles size_millionths 73 j.0.rest x.0 x.1) (after_tiles size_millionths 74 x.0.rest y.0 y.1)))))
    q.0))

-- two sizes that are the whole piece
sides : (c : Piece) (s : Sides) → sides_of c ≡ Some s → (e : Piece) × Tiles c (lettered 44 s.width ++ lettered 88 s.height) e × (e.text ≡ [])
unfolding sides_of
sides c s h =
    let x = and_then_some (after size_millionths 44 c) _ s h in
    let y = and_then_some (after size_millionths 88 x.0.rest) _ s x.2 in
    let q = closed_some y.0.rest (record { width = x.0.value; height = y.0.value }) s y.2 in (
      y.0.rest,
      subst (λ (s : Sides). Tiles c (lettered 44 s.width ++ lettered 88 s.height) y.0.rest) q.1
          (join (after_tiles size_millionths 44 c x.0 x.1) (after_tiles size_millionths 88 x.0.rest y.0 y.1)),
      q.0,
    )

circle : (w c : Piece) (k : Valued ℕ) (o : Order) → Tiles w (letters (codes "AD") ∷ (lettered 68 k ++ (letters (codes "C") ∷ []))) c → circle_of k c ≡ Some o → Spelled w o
circle w c k o p h =
    let d = and_then_some (after size_millionths 44 c) _ o h in
    let q = closed_some d.0.rest (order.circle k d.0.value) o d.2 in
    subst (λ (o : Order). Spelled w o) q.1 (spelled (order.circle k d.0.value) (join p (after_tiles size_millionths 44 c d.0 d.1)) q.0)

rectangle : (w c : Piece) (k : Valued ℕ) (o : Order) → Tiles w (letters (codes "AD") ∷ (lettered 68 k ++ (letters (codes "R") ∷ []))) c → rectangle_of k c ≡ Some o → Spelled w o
rectangle w c k o p h =
    let m = mapped_some (λ s. order.rectangle k s.width s.height) (sides_of c) o h in
    let q = sides c m.0 m.1 in
    subst (λ (o : Order). Spelled w o) m.2 (spelled (order.rectangle k m.0.width m.0.height) (join p q.1) q.2)

obround : (w c : Piece) (k : Valued ℕ) (o : Order) → Tiles w (letters (codes "AD") ∷ (lettered 68 k ++ (letters (codes "O") ∷ []))) c → obround_of k c ≡ Some o → Spelled w o
obround w c k o p h =
    let m = mapped_some (λ s. order.obround k s.width s.height) (sides_of c) o h in
    let q = sides c m.0 m.1 in
    subst (λ (o : Order). Spelled w o) m.2 (spelled (order.obround k m.0.width m.0.height) (join p q.1) q.2)

shape : (w c : Piece) (k : Valued ℕ) (o : Order) → Tiles w (letters (codes "AD") ∷ lettered 68 k) c → shape_of k c ≡ Some o → Spelled w o
unfolding shape_of
shape w c k o p h =
    cond_some (Spelled w o) (begins (codes "C") c.text) (circle_of k (past 1 c)) _ o h
    (λ b e. circle w (past 1 c) k o (join p (head (codes "C") 1 c refl b)) e)
    (λ _ h. cond_some (Spelled w o) (begins (codes "R") c.text) (rectangle_of k (past 1 c)) _ o h
    (λ b e. rectangle w (past 1 c) k o (join p (head (codes "R") 1 c refl b)) e)
    (λ _ h. cond_some (Spelled w o) (begins (codes "O") c.text) (obround_of k (past 1 c)) None o h
    (λ b e. obround w (past 1 c) k o (join p (head (codes "O") 1 c refl b)) e)
    (λ _ n. cc)))

pub aperture : (w c : Piece) (o : Order) → Tiles w (letters (codes "AD") ∷ []) c → aperture_of c ≡ Some o → Spelled w o
unfolding aperture_of
aperture w c o p h =
    let k = and_then_some (after code_number 68 c) (λ k. shape_of k.value k.rest) o h in
    shape w k.0.rest k.0.value o (join p (after_tiles code_number 68 c k.0 k.1)) k.2

-- letters alone
pub fixed : (w c : Piece) (hs : List Bit) (x o : Order) (ls : List ℕ) → Tiles w hs c → (Tiles w (hs ++ (letters ls ∷ [])) (end c) → Spelled w x) → is ls c.text ≡ true → Some x ≡ Some o → Spelled w o
fixed w c hs x o ls p f i e = subst (λ (o : Order). Spelled w o) (same_Some x o e) (f (join p (whole_letters ls c i)))

pub unit : (w c : Piece) (o : Order) → Tiles w (letters (codes "MO") ∷ []) c → unit_of c.text ≡ Some o → Spelled w o
unfolding unit_of
unit w c o p h =
    cond_some (Spelled w o) (is (codes "MM") c.text) (Some (order.unit Millimetre)) _ o h
    (λ i e. fixed w c (letters (codes "MO") ∷ []) (order.unit Millimetre) o (codes "MM") p (λ t. spelled (order.unit Millimetre) t refl) i e)
    (λ _ h. cond_some (Spelled w o) (is (codes "IN") c.text) (Some (order.unit Inch)) None o h
    (λ i e. fixed w c (letters (codes "MO") ∷ []) (order.unit Inch) o (codes "IN") p (λ t. spelled (order.unit Inch) t refl) i e)
    (λ _ h. cc))

pub polarity : (w c : Piece) (o : Order) → Tiles w (letters (codes "LP") ∷ []) c → polarity_of c.text ≡ Some o → Spelled w o
unfolding polarity_of
polarity w c o p h =
    cond_some (Spelled w o) (is (codes "D") c.text) (Some (order.polarity Dark)) _ o h
    (λ i e. fixed w c (letters (codes "LP") ∷ []) (order.polarity Dark) o (codes "D") p (λ t. spelled (order.polarity Dark) t refl) i e)
    (λ _ h. cond_some (Spelled w o) (is (codes "C") c.text) (Some (order.polarity Clear)) None o h
    (λ i e. fixed w c (letters (codes "LP") ∷ []) (order.polarity Clear) o (codes "C") p (λ t. spelled (order.polarity Clear) t refl) i e)
    (λ _ h. cc))

pub mirror : (w c : Piece) (o : Order) → Tiles w (letters (codes "LM") ∷ []) c → mirror_of c.text ≡ Some o → Spelled w o
unfolding mirror_of
mirror w c o p h =
    cond_some (Spelled w o) (is (codes "N") c.text) (Some (order.mirror false false)) _ o h
    (λ i e. fixed w c (letters (codes "LM") ∷ []) (order.mirror false false) o (codes "N") p (λ t. spelled (order.mirror false false) t refl) i e)
    (λ _ h. cond_some (Spelled w o) (is (codes "X") c.text) (Some (order.mirror true false)) _ o h
    (λ i e. fixed w c (letters (codes "LM") ∷ []) (order.mirror true false) o (codes "X") p (λ t. spelled (order.mirror true false) t refl) i e)
    (λ _ h. cond_some (Spelled w o) (is (codes "Y") c.text) (Some (order.mirror false true)) _ o h
    (λ i e. fixed w c (letters (codes "LM") ∷ []) (order.mirror false true) o (codes "Y") p (λ t. spelled (order.mirror false true) t refl) i e)
    (λ _ h. cond_some (Spelled w o) (is (codes "XY") c.text) (Some (order.mirror true true)) None o h
    (λ i e. fixed w c (letters (codes "LM") ∷ []) (order.mirror true true) o (codes "XY") p (λ t. spelled (order.mirror true true) t refl) i e)
    (λ _ h. cc))))

pub attribute : (w c : Piece) (k : AttributeKind) (o : Order) → Tiles w (letters (attribute_letters k) ∷ []) c → attribute_of k c ≡ Some o → Spelled w o
attribute w c k o p h = subst (λ (o : Order). Spelled w o) (same_Some (order.attribute k c) o h) (spelled (order.attribute k c) (join p (whole_part c)) refl)

-- LAXnmYnm as letters, the digits nm, a letter and the digits again
format_text : (xs : List ℕ) → eqb (length xs) 8 ≡ true → agrees (codes "LAX") xs 0 ≡ true → eqb (get_or xs 5 0) 89 ≡ true → eqb (get_or xs 3 0) (get_or xs 6 0) ≡ true → eqb (get_or xs 4 0) (get_or xs 7 0) ≡ true
    → xs ≡ codes "LAX" ++ (between 3 5 xs ++ (codes "Y" ++ between 3 5 xs))
format_text [] n a y p q = absurd (omega (arith, eqb-true 0 8 n))
format_text (x0 ∷ []) n a y p q = absurd (omega (arith, eqb-true 1 8 n))
format_text (x0 ∷ (x1 ∷ [])) n a y p q = absurd (omega (arith, eqb-true 2 8 n))
format_text (x0 ∷ (x1 ∷ (x2 ∷ []))) n a y p q = absurd (omega (arith, eqb-true 3 8 n))
format_text (x0 ∷ (x1 ∷ (x2 ∷ (x3 ∷ [])))) n a y p q = absurd (omega (arith, eqb-true 4 8 n))
format_text (x0 ∷ (x1 ∷ (x2 ∷ (x3 ∷ (x4 ∷ []))))) n a y p q = absurd (omega (arith, eqb-true 5 8 n))
format_text (x0 ∷ (x1 ∷ (x2 ∷ (x3 ∷ (x4 ∷ (x5 ∷ [])))))) n a y p q = absurd (omega (arith, eqb-true 6 8 n))
format_text (x0 ∷ (x1 ∷ (x2 ∷ (x3 ∷ (x4 ∷ (x5 ∷ (x6 ∷ []))))))) n a y p q = absurd (omega (arith, eqb-true 7 8 n))
format_text (x0 ∷ (x1 ∷ (x2 ∷ (x3 ∷ (x4 ∷ (x5 ∷ (x6 ∷ (x7 ∷ [])))))))) n a y p q =
    let t = and_parts (eqb x0 76) (eqb x1 65 && (eqb x2 88 && true)) a in
    let u = and_parts (eqb x1 65) (eqb x2 88 && true) t.1 in
    let v = and_parts (eqb x2 88) true u.1 in
    let e0 : x0 ≡ 76 = eqb-true x0 76 t.0 in
    let e1 : x1 ≡ 65 = eqb-true x1 65 u.0 in
    let e2 : x2 ≡ 88 = eqb-true x2 88 v.0 in
    let e5 : x5 ≡ 89 = eqb-true x5 89 y in
    let e6 : x3 ≡ x6 = eqb-true x3 x6 p in
    let e7 : x4 ≡ x7 = eqb-true x4 x7 q in
    cc
format_text (x0 ∷ (x1 ∷ (x2 ∷ (x3 ∷ (x4 ∷ (x5 ∷ (x6 ∷ (x7 ∷ (x8 ∷ xs))))))))) n a y p q = absurd (omega (arith, eqb-true (length (x0 ∷ (x1 ∷ (x2 ∷ (x3 ∷ (x4 ∷ (x5 ∷ (x6 ∷ (x7 ∷ (x8 ∷ xs)))))))))) 8 n))

-- the digits nm of LAXnmYnm
abbrev digits : Piece → Piece
digits c = record { at = c.at + 3; text = between 3 5 c.text }

format_tiles : (c : Piece) → c.text ≡ codes "LAX" ++ (between 3 5 c.text ++ (codes "Y" ++ between 3 5 c.text))
    → Tiles c (letters (codes "LAX") ∷ (part (digits c) ∷ (letters (codes "Y") ∷ (letters (between 3 5 c.text) ∷ [])))) (end c)
format_tiles c e =
    let f : c.text ≡ written (letters (codes "LAX") ∷ (part (digits c) ∷ (letters (codes "Y") ∷ (letters (between 3 5 c.text) ∷ []))))
    = e ∙ ap (λ ys. codes "LAX" ++ (between 3 5 c.text ++ (codes "Y" ++ ys))) (sym (append-nil (between 3 5 c.text))) in
    record {
      text = f ∙ sym (append-nil (written (letters (codes "LAX") ∷ (part (digits c) ∷ (letters (codes "Y") ∷ (letters (between 3 5 c.text) ∷ []))))));
      at = ap (λ (xs : List ℕ). c.at + length xs) f;
      placed = (refl, tt);
    }

pub format : (w c : Piece) (o : Order) → Tiles w (letters (codes "FS") ∷ []) c → format_of c ≡ Some o → Spelled w o
unfolding format_of
format w c o p h =
    cond_some (Spelled w o) (eqb (length c.text) 8 && (agrees (codes "LAX") c.text 0 && eqb (get_or c.text 5 0) 89)) _ None o h
    (λ a h. cond_some (Spelled w o) (eqb (get_or c.text 3 0) (get_or c.text 6 0) && eqb (get_or c.text 4 0) (get_or c.text 7 0)) _ None o h
    (λ b h.
    let t = and_parts (eqb (length c.text) 8) (agrees (codes "LAX") c.text 0 && eqb (get_or c.text 5 0) 89) a in
    let u = and_parts (agrees (codes "LAX") c.text 0) (eqb (get_or c.text 5 0) 89) t.1 in
    let v = and_parts (eqb (get_or c.text 3 0) (get_or c.text 6 0)) (eqb (get_or c.text 4 0) (get_or c.text 7 0)) b in
    let m = mapped_some (order.format (digits c)) (format_digits (get_or c.text 3 0) (get_or c.text 4 0)) o h in
    subst (λ (o : Order). Spelled w o) m.2 (spelled (order.format (digits c) m.0) (join p (format_tiles c (format_text c.text t.0 u.0 u.1 v.0 v.1))) refl))
    (λ _ n. cc))
    (λ _ n. cc)

-- extended commands
pub extended : (c : Piece) (o : Order) → extended_of c ≡ Some o → Spelled c o
unfolding extended_of
extended c o h =
    cond_some (Spelled c o) (begins (codes "FS") c.text) (format_of (past 2 c)) _ o h
    (λ b e. format c (past 2 c) o (head (codes "FS") 2 c refl b) e)
    (λ _ h. cond_some (Spelled c o) (begins (codes "MO") c.text) (unit_of (past 2 c).text) _ o h
    (λ b e. unit c (past 2 c) o (head (codes "MO") 2 c refl b) e)
    (λ _ h. cond_some (Spelled c o) (begins (codes "AD") c.text) (aperture_of (past 2 c)) _ o h
    (λ b e. aperture c (past 2 c) o (head (codes "AD") 2 c refl b) e)
    (λ _ h. cond_some (Spelled c o) (begins (codes "AB") c.text) (block_of (past 2 c)) _ o h
    (λ b e. block c (past 2 c) o (head (codes "AB") 2 c refl b) e)
    (λ _ h. cond_some (Spelled c o) (begins (codes "SR") c.text) (repeat_of (past 2 c)) _ o h
    (λ b e. repeat c (past 2 c) o (head (codes "SR") 2 c refl b) e)
    (λ _ h. cond_some (Spelled c o) (begins (codes "LP") c.text) (polarity_of (past 2 c).text) _ o h
    (λ b e. polarity c (past 2 c) o (head (codes "LP") 2 c refl b) e)
    (λ _ h. cond_some (Spelled c o) (begins (codes "LM") c.text) (mirror_of (past 2 c).text) _ o h
    (λ b e. mirror c (past 2 c) o (head (codes "LM") 2 c refl b) e)
    (λ _ h. cond_some (Spelled c o) (begins (codes "TF") c.text) (attribute_of kind.File (past 2 c)) _ o h
    (λ b e. attribute c (past 2 c) kind.File o (head (codes "TF") 2 c refl b) e)
    (λ _ h. cond_some (Spelled c o) (begins (codes "TA") c.text) (attribute_of kind.Aperture (past 2 c)) _ o h
    (λ b e. attribute c (past 2 c) kind.Aperture o (head (codes "TA") 2 c refl b) e)
    (λ _ h. cond_some (Spelled c o) (begins (codes "TO") c.text) (attribute_of kind.Object (past 2 c)) _ o h
    (λ b e. attribute c (past 2 c) kind.Object o (head (codes "TO") 2 c refl b) e)
    (λ _ h. cond_some (Spelled c o) (begins (codes "TD") c.text) (attribute_of kind.Delete (past 2 c)) None o h
    (λ b e. attribute c (past 2 c) kind.Delete o (head (codes "TD") 2 c refl b) e)
    (λ _ h. cc)))))))))))
