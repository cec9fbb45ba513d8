use Rattle.std.proofs.Common.{length, ap, ◌∙◌, arith}
use Rattle.sheet.proofs.Putting.{length_digit, length_number, one_digit, last_digit}
use Rattle.sheet.proofs.header.Writer.+put_number.Goals.{then-n-ge10, else-n-ge10}
use Rattle.sheet.proofs.header.Writer.+put_number.Goals as goal

pub put_number-requires : goal.put_number-requires
put_number-requires t c = (omega arith, omega (arith, length_number c.args.n (omega arith) (omega arith)))

pub put-requires : goal.put-requires
put-requires t c = elim c.if-n-ge10.branch [
  | then-n-ge10 w ↦ omega (arith, length_number c.args.n (omega arith) (omega arith), w.put_number.ensures.put.ends, w.put_number.ensures.long, ap (λ s. s.at) w.self-is, ap (λ s. length s.out.now) w.self-is)
  | else-n-ge10 w ↦ omega (arith, length_digit c.args.n (omega arith), ap (λ s. s.at) w.self-is, ap (λ s. length s.out.now) w.self-is)
]

pub returns-clause-long : goal.returns-clause-long
returns-clause-long t c = elim c.if-n-ge10.branch [
  | then-n-ge10 w ↦ c.put.ensures.long ∙ ap (λ s. length s.out.now) w.self-is ∙ w.put_number.ensures.long
  | else-n-ge10 w ↦ c.put.ensures.long ∙ ap (λ s. length s.out.now) w.self-is
]

pub returns-clause-put : goal.returns-clause-put
returns-clause-put t c = elim c.if-n-ge10.branch [
  | then-n-ge10 w ↦ last_digit (omega arith) (omega arith) (omega arith) w.put_number.ensures.put (ap (λ s. s.at) w.self-is) (ap (λ s. s.out.now) w.self-is) c.put.ensures.put
  | else-n-ge10 w ↦ one_digit (omega arith) (ap (λ s. s.at) w.self-is) (ap (λ s. s.out.now) w.self-is) c.put.ensures.put
]
