-- The format in force behind a command that was carried out.
use Rattle.std.proofs.Common.{◌≡◌, ℕ, Bool, true, false, cond, List, length, IfOk, Ok, Err, Option, Result, refl, ◌∙◌}
use Rattle.commands.specs.Files.{format_after}
use Rattle.drawing.specs.Books.{Rooms, Standing, stepped, taken}
use Rattle.filelaws.proofs.Answers.{onward_ok}
use Rattle.forms.specs.Orders as order
use Rattle.forms.specs.Orders.{Order}
use Rattle.forms.specs.declared.Format.{Format}
use Rattle.plane.specs.Plane.{At}
use Rattle.records.specs.Records.{ApertureSeen}
use Rattle.rules.specs.Rules.{arrived, decided, is_outside, may_stand, obeyed, otherwise}
use Rattle.rules.specs.Settings.{with_contour, with_point}
use Rattle.rules.specs.States.{Decided, EffectSeen, StateSeen}
use Rattle.words.specs.Words.{onward}

-- a good answer has the format f
record Has (f : Option Format) (d : Decided) : Type 0 where
  format : IfOk d (λ x. x.0.format ≡ f)

ok : (s : StateSeen) (e : EffectSeen) → Has s.format (Ok (s, e))
ok s e = record { format = refl }

err : (f : Option Format) (n : ℕ) → Has f (Err n)
err f n = record { format = tt }

on : {A : Type 0} (f : Option Format) (r : Result A ℕ) (g : A → Decided) → ((x : A) → Has f (g x)) → Has f (onward r g)
on f (Ok x) g h = h x
on f (Err n) g h = err f n

when : (f : Option Format) (b : Bool) (n : ℕ) (d : Decided) → Has f d → Has f (otherwise b n d)
when f true n d h = h
when f false n d h = err f n

either : (f : Option Format) (b : Bool) (c d : Decided) → Has f c → Has f d → Has f (cond b c d)
either f true c d p q = p
either f false c d p q = q

-- a choice between two states that have the format f
chosen : (f : Option Format) (b : Bool) (c d : StateSeen) (e : EffectSeen) → c.format ≡ f → d.format ≡ f → Has f (Ok (cond b c d, e))
chosen f true c d e p q = record { format = p }
chosen f false c d e p q = record { format = q }

moved : (s : StateSeen) (n : ℕ) (p : At) (e : EffectSeen) → Has s.format (Ok (arrived s n p, e))
moved s n p e = chosen s.format (is_outside s.region) (with_point p s) (with_contour p n s) e refl refl

ruleset keeping = (on, when, either, moved, ok, err)

-- FS sets the format, and every other command keeps it
obeyed_format : (s : StateSeen) (aps : List ApertureSeen) (n m : ℕ) (o : Order) → Has (format_after o s.format) (obeyed s aps n m o)
obeyed_format s aps n m (order.format d f) = ok _ _
obeyed_format s aps n m (order.unit u) = ok _ _
obeyed_format s aps n m (order.circle k d) = search keeping depth 20
obeyed_format s aps n m (order.rectangle k w h) = search keeping depth 20
obeyed_format s aps n m (order.obround k w h) = search keeping depth 20
obeyed_format s aps n m (order.block_open k) = search keeping depth 20
obeyed_format s aps n m order.block_close = ok _ _
obeyed_format s aps n m (order.repeat_open i j x y) = search keeping depth 20
obeyed_format s aps n m order.repeat_close = ok _ _
obeyed_format s aps n m (order.polarity p) = ok _ _
obeyed_format s aps n m (order.mirror x y) = ok _ _
obeyed_format s aps n m (order.attribute k t) = ok _ _
obeyed_format s aps n m (order.comment t) = ok _ _
obeyed_format s aps n m (order.mode md) = ok _ _
obeyed_format s aps n m order.multi_quadrant = ok _ _
obeyed_format s aps n m order.region_open = ok _ _
obeyed_format s aps n m order.region_close = search keeping depth 20
obeyed_format s aps n m order.end_of_file = ok _ _
obeyed_format s aps n m (order.select k) = search keeping depth 20
obeyed_format s aps n m (order.draw x y i j) = search keeping depth 20
obeyed_format s aps n m (order.move x y) = search keeping depth 20
obeyed_format s aps n m (order.flash x y) = search keeping depth 20

decided_format : (s : StateSeen) (aps : List ApertureSeen) (n m : ℕ) (o : Order) → Has (format_after o s.format) (decided s aps n m o)
unfolding decided
decided_format s aps n m o = when (format_after o s.format) (may_stand s o) 21 (obeyed s aps n m o) (obeyed_format s aps n m o)

had : (f : Option Format) (d : Decided) (x : StateSeen × EffectSeen) → d ≡ Ok x → Has f d → x.0.format ≡ f
had f d x e h = rw e at h.format

pub stepped_format : (room : Rooms) (st : Standing) (o : Order) (next : Standing) → stepped room st o ≡ Ok next
    → next.state.format ≡ format_after o st.state.format
unfolding stepped
stepped_format room st o next e =
    let d = onward_ok (decided st.state st.books.apertures (length st.books.objects) (length st.books.pieces) o) _ next e in
    let b = onward_ok (taken room st.books d.0.1) _ next d.2 in
    let q = b.2 in
    let e : next.state.format ≡ d.0.0.format = cc in
    e
    ∙ had (format_after o st.state.format) _ d.0 d.1 (decided_format st.state st.books.apertures (length st.books.objects) (length st.books.pieces) o)
