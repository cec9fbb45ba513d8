use Rattle.std.proofs.Common.{refl}
use Rattle.filmchecks.proofs.film_samples_hold.Goals as goal
use Rattle.commands.specs.Files.{command_at}
use Rattle.contour.specs.Chain.{in_contour}
use Rattle.drawing.specs.Books.{stepped}
use Rattle.drawing.specs.Reading.{read_file}
use Rattle.film.specs.Packed.{byte_of, row_bytes}
use Rattle.forms.specs.Extended.{aperture_of, block_of, extended_of, format_of, mirror_of, polarity_of, repeat_of, shape_of, sides_of, unit_of}
use Rattle.forms.specs.Forms.{form_of}
use Rattle.forms.specs.Numbers.{after, lettered}
use Rattle.forms.specs.Plain.{maybe_after, pair_of}
use Rattle.history.specs.Verdicts.{judged}
use Rattle.laid.specs.Laid.{laid_objects}
use Rattle.rules.specs.Rules.{arc_fits, decided, half_of, short_stroke, step_of, ticks_of}
use Rattle.shapes.specs.Flashes.{circle_at}
use Rattle.sheet.specs.Sheet.{header}
use Rattle.std.specs.Fmt.{digits}
use Rattle.strokes.specs.Arcs.{arc_at, in_ring}
use Rattle.strokes.specs.Strokes.{stroke_at}

pub returns : goal.returns
unfolding stroke_at in_ring arc_at in_contour circle_at command_at form_of after lettered maybe_after pair_of unit_of polarity_of mirror_of block_of repeat_of sides_of shape_of aperture_of format_of extended_of decided ticks_of half_of step_of arc_fits short_stroke stepped read_file judged laid_objects byte_of row_bytes header digits
returns c = refl
