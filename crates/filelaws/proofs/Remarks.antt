-- Comments, attributes, places and digits leave the records as they are.
use Rattle.std.proofs.Common.{◌≡◌, ℕ, Bool, true, false, cond, List, [], ◌∷◌, length, ℤ, Some, None, Ok, Option, sym, refl, ap, ◌∙◌}
use Rattle.drawing.specs.Books.{Rooms, Standing, begin, stepped}
use Rattle.drawing.specs.Reading.{Outcome, read_file}
use Rattle.filelaws.proofs.Answers.{entered, onward_ok}
use Rattle.filelaws.proofs.Commands.{records_by_commands}
use Rattle.filelaws.specs.Laws.{RemarksChangeNothing, bare, bare_option, essence, is_remark, obey_all, orders_of, placeless}
use Rattle.forms.specs.Numbers.{Valued}
use Rattle.forms.specs.Orders as order
use Rattle.forms.specs.Orders.{Order}
use Rattle.records.specs.Records.{ApertureSeen}
use Rattle.rules.specs.Rules.{decided, may_stand, obeyed, otherwise}
use Rattle.rules.specs.States as state
use Rattle.rules.specs.States.{Decided, EffectSeen, StateSeen}
use Rattle.std.proofs.lemmas.Bool.{false≢true}
use Rattle.words.specs.Words.{onward}

-- what reads only the value of x, if x is there
value_only : {D : Type 0} (F : Option (Valued ℤ) → D) → ((v : Valued ℤ) → F (Some (bare v)) ≡ F (Some v)) → (x : Option (Valued ℤ)) → F (bare_option x) ≡ F x
value_only F h None = refl
value_only F h (Some v) = h v

-- the rules read only values
decided_placeless : (s : StateSeen) (aps : List ApertureSeen) (n m : ℕ) (o : Order) → decided s aps n m (placeless o) ≡ decided s aps n m o
unfolding decided
decided_placeless s aps n m (order.format d f) = refl
decided_placeless s aps n m (order.unit u) = refl
decided_placeless s aps n m (order.circle k d) = refl
decided_placeless s aps n m (order.rectangle k w h) = refl
decided_placeless s aps n m (order.obround k w h) = refl
decided_placeless s aps n m (order.block_open k) = refl
decided_placeless s aps n m order.block_close = refl
decided_placeless s aps n m (order.repeat_open i j x y) = refl
decided_placeless s aps n m order.repeat_close = refl
decided_placeless s aps n m (order.polarity p) = refl
decided_placeless s aps n m (order.mirror x y) = refl
decided_placeless s aps n m (order.attribute k t) = refl
decided_placeless s aps n m (order.comment t) = refl
decided_placeless s aps n m (order.mode md) = refl
decided_placeless s aps n m order.multi_quadrant = refl
decided_placeless s aps n m order.region_open = refl
decided_placeless s aps n m order.region_close = refl
decided_placeless s aps n m order.end_of_file = refl
decided_placeless s aps n m (order.select k) = refl
decided_placeless s aps n m (order.draw x y i j) =
    value_only (λ x. decided s aps n m (order.draw x (bare_option y) (bare_option i) (bare_option j))) (λ v. refl) x
    ∙ value_only (λ y. decided s aps n m (order.draw x y (bare_option i) (bare_option j))) (λ v. refl) y
    ∙ value_only (λ i. decided s aps n m (order.draw x y i (bare_option j))) (λ v. refl) i
    ∙ value_only (λ j. decided s aps n m (order.draw x y i j)) (λ v. refl) j
decided_placeless s aps n m (order.move x y) =
    value_only (λ x. decided s aps n m (order.move x (bare_option y))) (λ v. refl) x
    ∙ value_only (λ y. decided s aps n m (order.move x y)) (λ v. refl) y
decided_placeless s aps n m (order.flash x y) =
    value_only (λ x. decided s aps n m (order.flash x (bare_option y))) (λ v. refl) x
    ∙ value_only (λ y. decided s aps n m (order.flash x y)) (λ v. refl) y

stepped_placeless : (room : Rooms) (st : Standing) (o : Order) → stepped room st (placeless o) ≡ stepped room st o
unfolding stepped
stepped_placeless room st o = ap (λ d. onward d (entered room st.books)) (decided_placeless st.state st.books.apertures (length st.books.objects) (length st.books.pieces) o)

-- a remark does nothing
remark_obeyed : (s : StateSeen) (aps : List ApertureSeen) (n m : ℕ) (o : Order) → is_remark o ≡ true → obeyed s aps n m o ≡ Ok (s, state.nothing)
remark_obeyed s aps n m (order.format d f) e = absurd (false≢true e)
remark_obeyed s aps n m (order.unit u) e = absurd (false≢true e)
remark_obeyed s aps n m (order.circle k d) e = absurd (false≢true e)
remark_obeyed s aps n m (order.rectangle k w h) e = absurd (false≢true e)
remark_obeyed s aps n m (order.obround k w h) e = absurd (false≢true e)
remark_obeyed s aps n m (order.block_open k) e = absurd (false≢true e)
remark_obeyed s aps n m order.block_close e = absurd (false≢true e)
remark_obeyed s aps n m (order.repeat_open i j x y) e = absurd (false≢true e)
remark_obeyed s aps n m order.repeat_close e = absurd (false≢true e)
remark_obeyed s aps n m (order.polarity p) e = absurd (false≢true e)
remark_obeyed s aps n m (order.mirror x y) e = absurd (false≢true e)
remark_obeyed s aps n m (order.attribute k t) e = refl
remark_obeyed s aps n m (order.comment t) e = refl
remark_obeyed s aps n m (order.mode md) e = absurd (false≢true e)
remark_obeyed s aps n m order.multi_quadrant e = absurd (false≢true e)
remark_obeyed s aps n m order.region_open e = absurd (false≢true e)
remark_obeyed s aps n m order.region_close e = absurd (false≢true e)
remark_obeyed s aps n m order.end_of_file e = absurd (false≢true e)
remark_obeyed s aps n m (order.select k) e = absurd (false≢true e)
remark_obeyed s aps n m (order.draw x y i j) e = absurd (false≢true e)
remark_obeyed s aps n m (order.move x y) e = absurd (false≢true e)
remark_obeyed s aps n m (order.flash x y) e = absurd (false≢true e)

-- a command that may stand does what it does
allowed : (b : Bool) (d : Decided) (x y : StateSeen × EffectSeen) → d ≡ Ok y → otherwise b 21 d ≡ Ok x → y ≡ x
allowed true d x y p e = cc
allowed false d x y p e = absurd (cc)

-- a remark that may stand leaves everything as it is
remark_stays : (room : Rooms) (st : Standing) (o : Order) (next : Standing) → is_remark o ≡ true → stepped room st o ≡ Ok next → next ≡ st
unfolding stepped decided
remark_stays room st o next b e =
    let d = onward_ok (decided st.state st.books.apertures (length st.books.objects) (length st.books.pieces) o) _ next e in
    let x = allowed (may_stand st.state o) _ d.0 (st.state, state.nothing) (remark_obeyed st.state st.books.apertures (length st.books.objects) (length st.books.pieces) o b) d.1 in
    let f : Ok st ≡ Ok next = ap (entered room st.books) x ∙ d.2 in
    cc

-- a first command, left out if it is a remark and else without places
essence_by : (room : Rooms) (o : Order) (os : List Order) (st next end : Standing) (b : Bool) → is_remark o ≡ b → stepped room st o ≡ Ok next
    → obey_all room next os ≡ Ok end → obey_all room st (cond b os (placeless o ∷ os)) ≡ Ok end
essence_by room o os st next end true b q e = ap (λ s. obey_all room s os) (sym (remark_stays room st o next b q)) ∙ e
essence_by room o os st next end false b q e = ap (λ s. onward s (λ next. obey_all room next os)) (stepped_placeless room st o ∙ q) ∙ e

essence_obeyed : (room : Rooms) (os : List Order) (st end : Standing) → obey_all room st os ≡ Ok end → obey_all room st (essence os) ≡ Ok end
essence_obeyed room [] st end e = e
essence_obeyed room (o ∷ os) st end e =
    let n = onward_ok (stepped room st o) (λ next. obey_all room next os) end e in
    essence_by room o (essence os) st n.0 end (is_remark o) refl n.1 (essence_obeyed room os n.0 end n.2)

same_outcome : (a b : Outcome) → a.refusal ≡ b.refusal → a.books ≡ b.books → a ≡ b
same_outcome a b p q = ap (λ r. record { refusal = r; books = a.books }) p ∙ ap (λ c. record { refusal = b.refusal; books = c }) q

pub remarks_change_nothing : RemarksChangeNothing
remarks_change_nothing room xs ys p q e =
    let c = records_by_commands room xs p in
    let d = records_by_commands room ys q in
    let f : Ok c.0 ≡ Ok d.0 = sym (essence_obeyed room (orders_of xs) begin c.0 c.1.0) ∙ ap (obey_all room begin) e ∙ essence_obeyed room (orders_of ys) begin d.0 d.1.0 in
    let same : c.0 ≡ d.0 = cc in
    same_outcome (read_file room xs) (read_file room ys) (p ∙ sym q) (sym c.1.1 ∙ ap (λ s. s.books) same ∙ d.1.1)
