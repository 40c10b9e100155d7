-- `opus_header::header_bytes` meets its contract: its parts are few bytes each.
use native.Mathlib.Omega.{arith}
use Rattle.opus_header.proofs.Forms.{own_most, front_most}
use Rattle.opus_header.proofs.header_bytes.Goals as goal

pub overflow_add-result : goal.overflow_add-result
overflow_add-result c =
    omega (arith, c.own_bytes.ensures, own_most c.args.self_delimited c.args.m.last)

pub overflow_add-result-2 : goal.overflow_add-result-2
overflow_add-result-2 c =
    omega (arith, c.own_bytes.ensures, own_most c.args.self_delimited c.args.m.last, c.front_bytes.ensures, front_most c.args.form)
