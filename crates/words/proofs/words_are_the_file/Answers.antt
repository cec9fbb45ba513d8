use Rattle.words.proofs.Spells.{closed_by_gap, words_are_the_file}
use Rattle.words.proofs.words_are_the_file.Goals as goal

pub returns : goal.returns
returns c = record { file = words_are_the_file; closed = closed_by_gap }
