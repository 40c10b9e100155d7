-- `opus_header::chain_bytes` meets its contract: the chain by whether anything is missing.
use mathlib.Core.Path.{sym}
use Rattle.opus_header.proofs.Chain.{length-chain}
use Rattle.opus_header.proofs.chain_bytes.Goals as goal

pub returns-then-missing-eq0 : goal.returns-then-missing-eq0
returns-then-missing-eq0 c =
    rw c.if-missing-eq0.true

pub returns : goal.returns
returns c =
    sym (length-chain c.args.missing c.if-missing-eq0.false)
