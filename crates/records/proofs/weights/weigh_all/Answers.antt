use Rattle.records.proofs.All.{all_weighed}
use Rattle.records.proofs.weights.weigh_all.Goals as goal
use Rattle.records.specs.Records.{seen_aperture, seen_object}
use Rattle.std.proofs.Common.{map, length, ◌∙◌}

pub returns : goal.returns
returns c k =
    c.weigh_first.ensures k
    ∙ all_weighed (map seen_aperture c.args.apertures.now) (map seen_object c.args.objects.now) (length c.args.apertures.now) c.min.result k c.min.ensures
