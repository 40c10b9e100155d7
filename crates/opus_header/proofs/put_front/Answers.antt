-- `opus_header::put_front` meets its contract: the front of the form that the `match` finds.
use native.Mathlib.Omega.{arith}
use Rattle.opus_toc.specs.Toc.{upper_six}
use Rattle.opus_header.proofs.Put.{code_most, short-front, full-front, put_short, put_either}
use Rattle.opus_header.proofs.put_front.Goals as goal

pub overflow_add-data : goal.overflow_add-data
overflow_add-data c =
    omega (arith, code_most c.args.count c.args.same)

pub bounds-data-0 : goal.bounds-data-0
bounds-data-0 c =
    omega (arith, short-front (upper_six c.args.toc) c.args.count c.args.same c.args.form c.in-Short.is)

pub put_full-requires : goal.put_full-requires
put_full-requires c =
    omega (arith, full-front (upper_six c.args.toc) c.args.count c.args.same c.args.form c.in-Full.missing c.in-Full.is)

pub returns-in-Short : goal.returns-in-Short
returns-in-Short c =
    let whole = put_short c.args.«data».now (upper_six c.args.toc) c.args.count c.args.same c.args.form c.short_code.ensures c.in-Short.is in
    record { bytes = whole.0; next = whole.1 }

pub returns-in-Full : goal.returns-in-Full
returns-in-Full c =
    let whole = put_either c.args.«data».now (upper_six c.args.toc) c.args.count c.args.same c.args.form c.in-Full.missing c.put_full.ensures.bytes
    c.put_full.ensures.next c.in-Full.is in record { bytes = whole.0; next = whole.1 }
