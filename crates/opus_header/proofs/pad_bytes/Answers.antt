-- `opus_header::pad_bytes` meets its contract, by the form; the chain is among the missing bytes.
use native.Mathlib.Omega.{arith}
use Rattle.opus_header.proofs.Chain.{chain_most}
use Rattle.opus_header.proofs.pad_bytes.Goals as goal

pub overflow_sub-result : goal.overflow_sub-result
overflow_sub-result c =
    omega (arith, c.chain_bytes.ensures, chain_most c.in-Full.missing)

pub returns-in-Short : goal.returns-in-Short
returns-in-Short c =
    rw c.in-Short.is

pub returns-in-Full : goal.returns-in-Full
returns-in-Full c =
    rw (c.in-Full.is, c.chain_bytes.ensures)
