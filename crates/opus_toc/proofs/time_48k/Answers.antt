-- `opus_toc::time_48k` meets its contract: the product fits 32 bits.
use native.Mathlib.Omega.{arith}
use Rattle.opus_toc.proofs.Samples.{product}
use Rattle.opus_toc.proofs.time_48k.Goals as goal

pub overflow_mul-result : goal.overflow_mul-result
overflow_mul-result c =
    record { fits = product c.args.count c.samples_48k-each.result.0 (omega arith) (omega arith) }

pub returns : goal.returns
returns c =
    rw c.samples_48k-each.ensures
