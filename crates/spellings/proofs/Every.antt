use Rattle.std.proofs.Common.{◌≡◌, ℕ, true, not, ◌&&◌, [], ◌++◌, ℤ, Some, None, codes, Option, refl, subst}
use Rattle.forms.specs.Extended.{begins, extended_of, is}
use Rattle.forms.specs.Forms.{form_of}
use Rattle.forms.specs.Numbers.{Then, Valued, after, leads, past}
use Rattle.forms.specs.Orders as order
use Rattle.forms.specs.Orders.{Order}
use Rattle.forms.specs.Plain.{Two, absent, comment_of, deed_of, fixed_of, maybe_after, operation_of, or_else, pair_of, plain_of, select_of}
use Rattle.forms.specs.declared.Mode.TheVariants.{Clockwise, Counterclockwise, Linear}
use Rattle.numerals.specs.Numerals.{code_number, coordinate_value}
use Rattle.spellings.proofs.Options.{and_then_some, closed_some, cond_some, is_none, mapped_some}
use Rattle.spellings.proofs.Spelt.{after_tiles, extended, fixed}
use Rattle.spellings.proofs.Tiles.{Tiles, head, join, nothing, spelled, whole_letters, whole_part}
use Rattle.spellings.specs.Spellings.{Spelled, maybe}
use Rattle.std.proofs.lemmas.Bool.{and_parts}
use Rattle.std.specs.Option as options
use Rattle.words.specs.Words.{Piece, WordSeen}
use Rattle.std.proofs.lemmas.Option.{same_Some}

comment : (c : Piece) (o : Order) → comment_of c ≡ Some o → Spelled c o
comment c o h =
    cond_some (Spelled c o) (begins (codes "G04") c.text) (Some (order.comment (past 3 c))) None o h
    (λ b e. subst (λ (o : Order). Spelled c o) (same_Some (order.comment (past 3 c)) o e) (spelled (order.comment (past 3 c)) (join (head (codes "G04") 3 c refl b) (whole_part (past 3 c))) refl))
    (λ _ n. cc)

word : (c : Piece) (o : Order) → fixed_of c.text ≡ Some o → Spelled c o
word c o h =
    cond_some (Spelled c o) (is (codes "G01") c.text) (Some (order.mode Linear)) _ o h
    (λ i e. fixed c c [] (order.mode Linear) o (codes "G01") (nothing c) (λ t. spelled (order.mode Linear) t refl) i e)
    (λ _ h. cond_some (Spelled c o) (is (codes "G02") c.text) (Some (order.mode Clockwise)) _ o h
    (λ i e. fixed c c [] (order.mode Clockwise) o (codes "G02") (nothing c) (λ t. spelled (order.mode Clockwise) t refl) i e)
    (λ _ h. cond_some (Spelled c o) (is (codes "G03") c.text) (Some (order.mode Counterclockwise)) _ o h
    (λ i e. fixed c c [] (order.mode Counterclockwise) o (codes "G03") (nothing c) (λ t. spelled (order.mode Counterclockwise) t refl) i e)
    (λ _ h. cond_some (Spelled c o) (is (codes "G75") c.text) (Some (order.multi_quadrant)) _ o h
    (λ i e. fixed c c [] (order.multi_quadrant) o (codes "G75") (nothing c) (λ t. spelled (order.multi_quadrant) t refl) i e)
    (λ _ h. cond_some (Spelled c o) (is (codes "G36") c.text) (Some (order.region_open)) _ o h
    (λ i e. fixed c c [] (order.region_open) o (codes "G36") (nothing c) (λ t. spelled (order.region_open) t refl) i e)
    (λ _ h. cond_some (Spelled c o) (is (codes "G37") c.text) (Some (order.region_close)) _ o h
    (λ i e. fixed c c [] (order.region_close) o (codes "G37") (nothing c) (λ t. spelled (order.region_close) t refl) i e)
    (λ _ h. cond_some (Spelled c o) (is (codes "M02") c.text) (Some (order.end_of_file)) None o h
    (λ i e. fixed c c [] (order.end_of_file) o (codes "M02") (nothing c) (λ t. spelled (order.end_of_file) t refl) i e)
    (λ _ h. cc)))))))

select : (c : Piece) (o : Order) → select_of c ≡ Some o → Spelled c o
select c o h =
    let k = and_then_some (after code_number 68 c) _ o h in
    let q = closed_some k.0.rest (order.select k.0.value) o k.2 in
    subst (λ (o : Order). Spelled c o) q.1 (spelled (order.select k.0.value) (after_tiles code_number 68 c k.0 k.1) q.0)

-- a coordinate that may be absent
maybe_tiles : (n b : ℕ) (c : Piece) (t : Then (Option (Valued ℤ))) → maybe_after n b c ≡ Some t → Tiles c (maybe b t.value) t.rest
unfolding maybe_after
maybe_tiles n b c t h =
    cond_some (Tiles c (maybe b t.value) t.rest) (leads b c.text) _ (Some (record { value = None; rest = c })) t h
    (λ _ e.
    let m = mapped_some (λ t. record { value = Some t.value; rest = t.rest }) (after (coordinate_value n) b c) t e in
    subst (λ (t : Then (Option (Valued ℤ))). Tiles c (maybe b t.value) t.rest) m.2 (after_tiles (coordinate_value n) b c m.0 m.1))
    (λ _ e. subst (λ (t : Then (Option (Valued ℤ))). Tiles c (maybe b t.value) t.rest) (same_Some (record { value = None; rest = c }) t e) (nothing c))

pair_tiles : (n a b : ℕ) (c : Piece) (p : Two) → pair_of n a b c ≡ Some p → Tiles c (maybe a p.first ++ maybe b p.second) p.rest
unfolding pair_of
pair_tiles n a b c p h =
    let x = and_then_some (maybe_after n a c) _ p h in
    let y = and_then_some (maybe_after n b x.0.rest) _ p x.2 in
    subst (λ (p : Two). Tiles c (maybe a p.first ++ maybe b p.second) p.rest) (same_Some (record { first = x.0.value; second = y.0.value; rest = y.0.rest }) p y.2)
    (join (maybe_tiles n a c x.0 x.1) (maybe_tiles n b x.0.rest y.0 y.1))

-- where both are absent, nothing is written
absent_tiles : (a b : ℕ) (c : Piece) (q : Two) → absent q ≡ true → Tiles c (maybe a q.first ++ maybe b q.second) q.rest → Tiles c [] q.rest
absent_tiles a b c q e t =
    let u = and_parts (not (options.is_some q.first)) (not (options.is_some q.second)) e in
    let s : Tiles c (maybe {V = ℤ} a None ++ maybe b q.second) q.rest = subst (λ (v : Option (Valued ℤ)). Tiles c (maybe a v ++ maybe b q.second) q.rest) (is_none q.first u.0) t in
    subst (λ (v : Option (Valued ℤ)). Tiles c (maybe {V = ℤ} a None ++ maybe b v) q.rest) (is_none q.second u.1) s

deed : (c : Piece) (p q : Two) (o : Order) → Tiles c (maybe 88 p.first ++ maybe 89 p.second) p.rest → Tiles p.rest (maybe 73 q.first ++ maybe 74 q.second) q.rest → deed_of p q ≡ Some o → Spelled c o
deed c p q o s t h =
    cond_some (Spelled c o) (is (codes "D01") q.rest.text) (Some (order.draw p.first p.second q.first q.second)) _ o h
    (λ i e. subst (λ (o : Order). Spelled c o) (same_Some (order.draw p.first p.second q.first q.second) o e)
    (spelled (order.draw p.first p.second q.first q.second) (join s (join t (whole_letters (codes "D01") q.rest i))) refl))
    (λ _ h. cond_some (Spelled c o) (is (codes "D02") q.rest.text && absent q) (Some (order.move p.first p.second)) _ o h
    (λ i e.
    let u = and_parts (is (codes "D02") q.rest.text) (absent q) i in
    subst (λ (o : Order). Spelled c o) (same_Some (order.move p.first p.second) o e)
    (spelled (order.move p.first p.second) (join s (join (absent_tiles 73 74 p.rest q u.1 t) (whole_letters (codes "D02") q.rest u.0))) refl))
    (λ _ h. cond_some (Spelled c o) (is (codes "D03") q.rest.text && absent q) (Some (order.flash p.first p.second)) None o h
    (λ i e.
    let u = and_parts (is (codes "D03") q.rest.text) (absent q) i in
    subst (λ (o : Order). Spelled c o) (same_Some (order.flash p.first p.second) o e)
    (spelled (order.flash p.first p.second) (join s (join (absent_tiles 73 74 p.rest q u.1 t) (whole_letters (codes "D03") q.rest u.0))) refl))
    (λ _ n. cc)))

operation : (n : ℕ) (c : Piece) (o : Order) → operation_of n c ≡ Some o → Spelled c o
operation n c o h =
    let p = and_then_some (pair_of n 88 89 c) _ o h in
    let q = and_then_some (pair_of n 73 74 p.0.rest) _ o p.2 in
    deed c p.0 q.0 o (pair_tiles n 88 89 c p.0 p.1) (pair_tiles n 73 74 p.0.rest q.0 q.1) q.2

-- what either of two readings gives
either : (P : Type 0) (a b : Option Order) (o : Order) → (a ≡ Some o → P) → (b ≡ Some o → P) → or_else a b ≡ Some o → P
either P None b o f g h = g h
either P (Some x) b o f g h = f h

-- word commands
plain : (n : ℕ) (c : Piece) (o : Order) → plain_of n c ≡ Some o → Spelled c o
plain n c o h =
    either (Spelled c o) (comment_of c) _ o (comment c o)
    (either (Spelled c o) (fixed_of c.text) _ o (word c o)
    (either (Spelled c o) (select_of c) (operation_of n c) o (select c o) (operation n c o))) h

-- every command
pub every : (n : ℕ) (w : WordSeen) (o : Order) → form_of n w ≡ Some o → Spelled w.content o
unfolding form_of
every n w o h =
    cond_some (Spelled w.content o) w.extended (extended_of w.content) (plain_of n w.content) o h
    (λ _ e. extended w.content o e)
    (λ _ e. plain n w.content o e)
