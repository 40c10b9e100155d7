-- `opus_toc::Samples48k::fits` meets its contract: the product fits 32 bits.
use native.Mathlib.Omega.{arith}
use Rattle.opus_toc.proofs.Samples.{product}
use Rattle.opus_toc.proofs.Samples48k.fits.Goals as goal

pub overflow_mul-result : goal.overflow_mul-result
overflow_mul-result c =
    record { fits = product c.args.count c.args.self.0 (omega arith) (omega arith) }
