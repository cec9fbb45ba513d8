use Rattle.std.proofs.Common.{◌≡◌, ◌≤◌, length, vec_items, vec_len, vec_capacity}
use Rattle.drawing.specs.Slots.{SameSlots}
use Rattle.plot.proofs.Steps.{Serving}
use Rattle.plot.proofs.exposing.serve_all.Given as goal
use Rattle.plot.specs.Requests.{tables_in}

abbrev pub invariant-loop-request : goal.invariant-loop-request
invariant-loop-request g l =
    record {
      serving : Serving (g.F.Film.meaning l.initial.film) (tables_in l.initial.slots) l.requests l.request-index (vec_items l.answers) (tables_in l.slots) (g.F.Film.meaning l.film);
      beside : g.F.Film.beside l.film ≡ g.F.Film.beside l.initial.film;
      lent : SameSlots l.initial.slots l.slots;
      count : vec_len l.answers ≡ l.request-index;
      room : length l.requests ≤ vec_capacity l.answers;
    }
