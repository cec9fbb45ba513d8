use Rattle.drawing.specs.Answers.{told_plot}
use Rattle.plot.proofs.Records.{recorded_by}
use Rattle.plot.proofs.plotting.read_records.Goals as goal

pub returns : goal.returns
returns c =
    let done = c.read_drawing.ensures in
    let before = c.args.slots.now in
    let after = c.read_drawing.new.slots in
    record {
      recorded = recorded_by before.apertures.now before.objects.now before.pieces.now c.args.file.now after.apertures.now after.objects.now after.pieces.now
          (told_plot c.read_drawing.result) done.answer done.apertures done.objects done.pieces;
      lent = done.lent;
    }
