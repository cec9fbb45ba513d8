use Rattle.std.proofs.Common.{◌∙◌, arith, rules}
use Rattle.std.proofs.lemmas.List.{take-set-le, drop-set-lt}
use Rattle.bits.specs.Bits.{bit_of}
use Rattle.bits.proofs.Fills.{byte_more, fit_more}
use Rattle.bits.proofs.fill_bits.Goals as goal

pub loop-k-preserved : goal.loop-k-preserved
loop-k-preserved c = (
  byte_more c.loop-k.bytes c.args.from c.args.to c.loop-k.k c.saturating_sub-i.result c.min-j.result c.with_bits.result c.args.dark (bit_of c.args.bytes.now) (omega arith) (omega arith) (omega arith) c.saturating_sub-i.ensures c.min-j.ensures c.with_bits.ensures c.loop-k.invariant.0,
  (λ q h. take-set-le q c.loop-k.bytes c.loop-k.k c.with_bits.result (omega arith) ∙ c.loop-k.invariant.1 q h),
  (λ q h. drop-set-lt q c.loop-k.bytes c.loop-k.k c.with_bits.result (omega arith) ∙ c.loop-k.invariant.2 q h),
  (λ q h. fit_more c.loop-k.bytes c.loop-k.k c.with_bits.result q (omega arith) (search rules) (c.loop-k.invariant.3 q h)),
)
