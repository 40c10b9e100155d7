-- `opus_header::put_chain` meets its contract: the bytes stored are those of the chain.
use native.Mathlib.Omega.{arith}
use Rattle.opus_header.proofs.Chain.{length-chain}
use Rattle.opus_header.proofs.Put.{put_none, put_some}
use Rattle.opus_header.proofs.put_chain.Goals as goal

pub returns-then-missing-eq0 : goal.returns-then-missing-eq0
returns-then-missing-eq0 c =
    let whole = put_none c.args.«data».now c.args.at c.args.missing c.if-missing-eq0.true in record { bytes = whole.0; next = whole.1 }

pub fill-requires : goal.fill-requires
fill-requires c =
    omega (arith, length-chain c.args.missing c.if-missing-eq0.false)

pub bounds-data-at : goal.bounds-data-at
bounds-data-at c =
    omega (arith, length-chain c.args.missing c.if-missing-eq0.false)

pub returns : goal.returns
returns c =
    let whole = put_some c.args.«data».now c.args.at c.args.missing c.fill.ensures c.if-missing-eq0.false in record { bytes = whole.0; next = whole.1 }
