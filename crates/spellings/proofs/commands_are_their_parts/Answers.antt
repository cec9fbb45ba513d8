use Rattle.spellings.proofs.Every.{every}
use Rattle.spellings.proofs.commands_are_their_parts.Goals as goal

pub returns : goal.returns
returns c = every
