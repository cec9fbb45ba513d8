-- What the commands of an accepted file come to.
use Rattle.std.proofs.Common.{◌≡◌, ℕ, true, List, [], ◌∷◌, Some, Ok, refl, ap, ◌∙◌}
use Rattle.commands.specs.Files.{is_end}
use Rattle.drawing.specs.Books.{Rooms, Standing}
use Rattle.filelaws.proofs.Runs.{Runs, accepted_runs, last, more}
use Rattle.filelaws.specs.Laws.{EndsAtM02, RecordsByCommands, last_order, obey_all}
use Rattle.forms.specs.Orders as order
use Rattle.forms.specs.Orders.{Order}
use Rattle.std.proofs.lemmas.Bool.{false≢true}
use Rattle.words.specs.Words.{onward}

-- the commands of a reading, carried out
runs_obey : (room : Rooms) (xs : List ℕ) {i k : ℕ} {st end : Standing} {os : List Order} → Runs room xs i k st os end → obey_all room st os ≡ Ok end
runs_obey room xs (last r p q b c) = ap (λ s. onward s (λ next. Ok next)) q
runs_obey room xs (more {os = os} r p q b run) = ap (λ s. onward s (λ next. obey_all room next os)) q ∙ runs_obey room xs run

pub records_by_commands : RecordsByCommands
records_by_commands room xs e =
    let c = accepted_runs room xs e in
    (c.0, (runs_obey room xs c.1, c.2))

-- only M02 is the end
end_is : (o : Order) → is_end o ≡ true → o ≡ order.end_of_file
end_is (order.format d f) e = absurd (false≢true e)
end_is (order.unit u) e = absurd (false≢true e)
end_is (order.circle k d) e = absurd (false≢true e)
end_is (order.rectangle k w h) e = absurd (false≢true e)
end_is (order.obround k w h) e = absurd (false≢true e)
end_is (order.block_open k) e = absurd (false≢true e)
end_is order.block_close e = absurd (false≢true e)
end_is (order.repeat_open i j x y) e = absurd (false≢true e)
end_is order.repeat_close e = absurd (false≢true e)
end_is (order.polarity p) e = absurd (false≢true e)
end_is (order.mirror x y) e = absurd (false≢true e)
end_is (order.attribute k t) e = absurd (false≢true e)
end_is (order.comment t) e = absurd (false≢true e)
end_is (order.mode m) e = absurd (false≢true e)
end_is order.multi_quadrant e = absurd (false≢true e)
end_is order.region_open e = absurd (false≢true e)
end_is order.region_close e = absurd (false≢true e)
end_is order.end_of_file e = refl
end_is (order.select k) e = absurd (false≢true e)
end_is (order.draw x y i j) e = absurd (false≢true e)
end_is (order.move x y) e = absurd (false≢true e)
end_is (order.flash x y) e = absurd (false≢true e)

last_more : (o : Order) (os : List Order) (x : Order) → last_order os ≡ Some x → last_order (o ∷ os) ≡ Some x
last_more o [] x e = absurd (cc)
last_more o (p ∷ os) x e = e

-- the last command of a reading is M02
runs_end : (room : Rooms) (xs : List ℕ) {i k : ℕ} {st end : Standing} {os : List Order} → Runs room xs i k st os end → last_order os ≡ Some order.end_of_file
runs_end room xs (last r p q b c) = ap Some (end_is r.order b)
runs_end room xs (more {os = os} r p q b run) = last_more r.order os order.end_of_file (runs_end room xs run)

pub ends_at_m02 : EndsAtM02
ends_at_m02 room xs e = runs_end room xs (accepted_runs room xs e).1
