use Rattle.history.specs.Verdicts.{entire}
use Rattle.plot.proofs.Steps.{same_slots, serving_all, serving_more, serving_none, slots_after, slots_stay}
use Rattle.plot.proofs.exposing.serve_all.Goals as goal
use Rattle.plot.specs.Requests.{tables_in}
use Rattle.std.proofs.Common.{vec_items, sym, refl, ap, ◌∙◌, arith}

pub loop-request-init : goal.loop-request-init
loop-request-init g c =
    record {
      serving = serving_none _ _ c.args.requests.now (vec_items c.args.answers.now) c.requires.0;
      beside = refl;
      lent = slots_stay c.args.slots.now;
      count = c.requires.1.0;
      room = c.requires.1.1;
    }

pub serve-requires : goal.serve-requires
serve-requires g c = c.whole-window.ensures.value ∙ ap entire (sym c.loop-request.invariant.serving.overlaid.framed)

pub loop-request-preserved : goal.loop-request-preserved
loop-request-preserved g c =
    let held = c.loop-request.invariant in
    let now = c.loop-request in
    let at = c.args in
    record {
      serving = serving_more (g.F.Film.meaning at.film.now) (tables_in at.slots.now) at.requests.now
          now.request-index (vec_items now.answers) (vec_items c.push_reserved.new.self) _ c.serve.result held.serving c.loop-request-test.true
          (same_slots at.slots.now now.slots held.lent)
          c.serve.ensures.served c.push_reserved.ensures.items;
      beside = c.serve.ensures.beside ∙ held.beside;
      lent = slots_after at.slots.now now.slots c.serve.new.slots held.lent c.serve.ensures.lent;
      count = omega (arith, c.push_reserved.ensures.len, held.count);
      room = omega (arith, c.push_reserved.ensures.capacity, held.room);
    }

pub returns : goal.returns
returns g c =
    let at = c.args in
    record {
      exposed = serving_all (g.F.Film.meaning at.film.now) (tables_in at.slots.now) at.requests.now
          c.loop-request.request-index (vec_items c.loop-request.answers) c.whole-window.result c.whole-window.ensures.value c.whole-window.ensures.fits
          c.loop-request.invariant.serving c.loop-request-test.false;
      beside = c.loop-request.invariant.beside;
      lent = c.loop-request.invariant.lent;
    }
