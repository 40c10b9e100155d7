-- `opus_toc::divisor` meets its contract: each arm knows the rate, and the last that it is none.
use Rattle.opus_toc.proofs.Rates.{no_rate}
use Rattle.opus_toc.proofs.divisor.Goals as goal

pub returns-in_default : goal.returns-in_default
returns-in_default c =
    rw (no_rate c.args.rate c.in_default.in_default-own.rest.0.0.0.0.1 c.in_default.in_default-own.rest.0.0.0.1
    c.in_default.in_default-own.rest.0.0.1 c.in_default.in_default-own.rest.0.1 c.in_default.in_default-own.rest.1)

pub returns-in-8000 : goal.returns-in-8000
returns-in-8000 c =
    rw c.in-8000.is

pub returns-in-12000 : goal.returns-in-12000
returns-in-12000 c =
    rw c.in-12000.is

pub returns-in-16000 : goal.returns-in-16000
returns-in-16000 c =
    rw c.in-16000.is

pub returns-in-24000 : goal.returns-in-24000
returns-in-24000 c =
    rw c.in-24000.is

pub returns-in-48000 : goal.returns-in-48000
returns-in-48000 c =
    rw c.in-48000.is
