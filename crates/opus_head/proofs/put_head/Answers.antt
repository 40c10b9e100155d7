-- `opus_head::put_head` meets its contract: what every header has, and the table where the family is not 0.
use borrow.Author.Rules.{rules}
use native.Mathlib.Omega.{arith}
use Rattle.opus_head.specs.Parts.{fields_of}
use Rattle.opus_head.proofs.Fitting.{needed_least, needed-table}
use Rattle.opus_head.proofs.Laid.{laid_plain, laid_table}
use Rattle.opus_head.proofs.put_head.Goals as goal

pub copy_into-requires : goal.copy_into-requires
copy_into-requires c =
    (omega (arith, needed_least c.args.family c.args.channels), search rules)

pub put_table-requires : goal.put_table-requires
put_table-requires c =
    let t = needed-table c.args.family c.args.channels c.if-family-ne0.true in
    (omega (arith, c.wide_byte.ensures.0, t, c.copy_into.auto.dst), omega (arith, c.wide_byte.ensures.1))

pub returns-then-family-ne0 : goal.returns-then-family-ne0
returns-then-family-ne0 c =
    laid_table (fields_of c.args.version c.args.channels c.args.pre_skip c.args.rate c.args.gain c.args.family c.args.streams c.args.coupled c.args.mapping.now)
    c.ranges.gain c.args.dst.now c.fixed_bytes-fixed.ensures c.copy_into.ensures c.if-family-ne0.true c.wide_byte.ensures.0 c.put_table.ensures

pub returns-else-family-ne0 : goal.returns-else-family-ne0
returns-else-family-ne0 c =
    laid_plain (fields_of c.args.version c.args.channels c.args.pre_skip c.args.rate c.args.gain c.args.family c.args.streams c.args.coupled c.args.mapping.now)
    c.ranges.gain c.args.dst.now c.fixed_bytes-fixed.ensures c.copy_into.ensures c.if-family-ne0.false
