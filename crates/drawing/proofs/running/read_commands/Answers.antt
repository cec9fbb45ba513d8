use Rattle.drawing.proofs.Turned.{broken, closed, reads_on, unclosed, unread}
use Rattle.drawing.proofs.running.read_commands.Goals as goal
use Rattle.std.proofs.Common.{Err, refl, ap, ◌∙◌}
use Rattle.std.proofs.lemmas.Result.{err_from_is_err_and}

pub returns-in_err-read : goal.returns-in_err-read
returns-in_err-read c =
    let p = err_from_is_err_and c.from_residual.result c.from_residual.ensures.1 in
    unread c.loop-read.invariant _ c.from_residual.result c.in_err-read.ensures.value (p.1 ∙ ap Err p.2)

pub returns-in-Err : goal.returns-in-Err
returns-in-Err c = broken c.loop-read.invariant c.in_ok-read.read c.in_ok-read.ensures.value c.in-Err.rule _ c.in-Err.ensures refl

pub returns-in_err-close : goal.returns-in_err-close
returns-in_err-close c =
    let p = err_from_is_err_and c.from_residual-in_err-close.result c.from_residual-in_err-close.ensures.1 in
    unclosed c.loop-read.invariant c.in_ok-read.read c.in_ok-read.ensures.value c.in-Ok.next c.in-Ok.ensures _ c.in_ok-read.ensures.moves c.behind-cursor.ensures.counted c.if-is_end.ensures _ _ c.in_err-close.ensures (p.1 ∙ ap Err p.2)

pub returns-then-is_end : goal.returns-then-is_end
returns-then-is_end c =
    closed c.loop-read.invariant c.in_ok-read.read c.in_ok-read.ensures.value c.in-Ok.next c.in-Ok.ensures _ c.in_ok-read.ensures.moves c.behind-cursor.ensures.counted c.if-is_end.ensures _ c.in_ok-close.ensures

pub loop-read-preserved : goal.loop-read-preserved
loop-read-preserved c =
    reads_on c.loop-read.invariant c.in_ok-read.read c.in_ok-read.ensures.value c.in-Ok.next c.in-Ok.ensures _ c.in_ok-read.ensures.moves c.behind-cursor.ensures.counted c.if-is_end.ensures
