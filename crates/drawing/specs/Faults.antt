-- What the refusal of a drawing tells.
use Rattle.commands.specs.Files.{command_told}
use Rattle.drawing.specs.declared.fault.DrawingFault.TheVariants.{Broken, Command}
use Rattle.drawing.specs.declared.fault.DrawingFault.{DrawingFault}
use Rattle.rules.specs.Numbers.{rule_number}
use Rattle.std.specs.Result as results
use Rattle.std.specs.Prelude.{Result}
use Rattle.words.specs.Words.{Told, fault}

-- A command that cannot be read tells what the command layer tells; one that breaks a rule tells the rule's number.
abbrev pub drawing_told : DrawingFault → Told
drawing_told (Command c) = command_told c
drawing_told (Broken r p k) = fault (rule_number r) p k

-- An answer of the program, with what its refusal tells.
abbrev pub told_drawing : {A : Type 0} → Result A DrawingFault → Result A Told
told_drawing r = results.result_map_both (λ x. x) drawing_told r
