-- `opus_size::put_size` meets its contract: the bytes stored are those of the field.
-- Assumes nothing.
use native.Mathlib.Omega.{arith}
use lib.ListN.{length-set}
use Rattle.opus_size.proofs.Put.{put_short, put_long}
use Rattle.opus_size.proofs.put_size.Goals as goal

pub bounds-data-at : goal.bounds-data-at
bounds-data-at c =
    let p = (put_short c.args.«data».now c.args.at c.args.size c.if-size-lt252.true).1 in
    omega arith

pub returns-then-size-lt252 : goal.returns-then-size-lt252
returns-then-size-lt252 c =
    let whole = put_short c.args.«data».now c.args.at c.args.size c.if-size-lt252.true in record { bytes = whole.0; next = whole.1 }

pub bounds-data-at-2 : goal.bounds-data-at-2
bounds-data-at-2 c =
    let p = (put_long c.args.«data».now c.args.at c.args.size c.if-size-lt252.false).1 in
    omega arith

pub bounds-data-at-3 : goal.bounds-data-at-3
bounds-data-at-3 c =
    let p = (put_long c.args.«data».now c.args.at c.args.size c.if-size-lt252.false).1 in
    simp length-set (omega arith)

pub returns : goal.returns
returns c =
    let whole = put_long c.args.«data».now c.args.at c.args.size c.if-size-lt252.false in record { bytes = whole.0; next = whole.1 }
