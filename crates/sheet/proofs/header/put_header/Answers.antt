use Rattle.std.proofs.Common.{◌∙◌, arith, rules}
use Rattle.sheet.specs.Sheet.{header}
use Rattle.sheet.proofs.Putting.{header_fits, puts}
use Rattle.sheet.proofs.header.put_header.Goals as goal

pub put-requires : goal.put-requires
put-requires c = omega (arith, header_fits c.args.size.width c.args.size.height)

pub put_number-requires : goal.put_number-requires
put_number-requires c = omega (arith, header_fits c.args.size.width c.args.size.height)

pub put-requires-2 : goal.put-requires-2
put-requires-2 c = omega (arith, header_fits c.args.size.width c.args.size.height)

pub put_number-requires-2 : goal.put_number-requires-2
put_number-requires-2 c = omega (arith, header_fits c.args.size.width c.args.size.height)

pub put-requires-3 : goal.put-requires-3
put-requires-3 c = omega (arith, header_fits c.args.size.width c.args.size.height)

pub returns : goal.returns
unfolding header
returns c =
    let l = header_fits c.args.size.width c.args.size.height in
    let a = c.put.ensures.put in
    let b = c.put_number.ensures.put in
    let d = c.put-2.ensures.put in
    let e = c.put_number-2.ensures.put in
    let f = c.put-3.ensures.put in
    ◌∙◌ {b = c.put-3.new.self.out.now} (search rules) (puts (omega arith) a (puts (omega arith) b (puts (omega arith) d (puts (omega arith) e f)))).output
