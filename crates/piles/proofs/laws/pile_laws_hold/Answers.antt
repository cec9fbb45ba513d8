use Rattle.piles.proofs.Comparing.{cut_twice, same_centres}
use Rattle.piles.proofs.laws.pile_laws_hold.Goals as goal

pub returns-clause-cut_out_of_cut_out : goal.returns-clause-cut_out_of_cut_out
returns-clause-cut_out_of_cut_out c = cut_twice

pub returns-clause-cut_out_keeps_centres : goal.returns-clause-cut_out_keeps_centres
returns-clause-cut_out_keeps_centres c = same_centres
