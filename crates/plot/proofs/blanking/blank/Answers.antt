use Rattle.film.specs.Made.{frame_of}
use Rattle.plot.proofs.Clearing.{cleared_all, cleared_more}
use Rattle.plot.proofs.blanking.blank.Goals as goal
use Rattle.std.proofs.Common.{◌∙◌, arith}

pub loop-row-preserved : goal.loop-row-preserved
loop-row-preserved g c =
    let held = c.loop-row.invariant in
    record {
      cleared = cleared_more (frame_of c.numbers-n.result) c.numbers-n.ensures held.cleared (omega arith) c.whole_row.ensures c.write_span.ensures.written;
      beside = c.write_span.ensures.beside ∙ held.beside;
    }

pub returns : goal.returns
returns g c =
    record {
      shown = cleared_all (frame_of c.numbers-n.result) c.numbers-n.ensures c.loop-row.invariant.cleared (omega arith);
      beside = c.loop-row.invariant.beside;
    }
