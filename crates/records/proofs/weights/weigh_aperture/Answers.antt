use Rattle.records.proofs.All.{last_weighed}
use Rattle.records.proofs.weights.weigh_aperture.Goals as goal
use Rattle.records.specs.Records.{seen_aperture, seen_object}
use Rattle.std.proofs.Common.{map, length, Some, ap, ◌∙◌, arith}

pub returns : goal.returns
returns c =
    ap Some (c.weigh_first.ensures c.args.number)
    ∙ last_weighed (map seen_aperture c.args.apertures.now) (map seen_object c.args.objects.now) (length c.args.apertures.now) c.args.number (omega arith) (omega arith)
