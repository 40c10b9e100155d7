-- `opus_header::front_bytes_lem` meets its contract, by the form.
use native.Mathlib.Omega.{arith}
use Rattle.opus_header.proofs.Chain.{chain_most}
use Rattle.opus_header.proofs.front_bytes.Goals as goal

pub overflow_add-result : goal.overflow_add-result
overflow_add-result c =
    let few = rw c.in-Full.is at c.requires in
    omega (arith, c.chain_bytes.ensures, chain_most c.in-Full.missing)

pub returns-in-Full : goal.returns-in-Full
returns-in-Full c =
    rw (c.in-Full.is, c.chain_bytes.ensures)
