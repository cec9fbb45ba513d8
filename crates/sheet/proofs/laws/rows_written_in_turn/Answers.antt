use Rattle.std.proofs.Common.{refl}
use Rattle.sheet.proofs.Reading.{rows_so_far, rows_read_back}
use Rattle.sheet.proofs.laws.rows_written_in_turn.Goals as goal

pub returns : goal.returns
returns c = record { so_far = rows_so_far; read_back = rows_read_back; value = refl }
