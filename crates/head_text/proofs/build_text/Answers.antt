-- The fields that were read, or the refusal's number.
use native.Mathlib.Omega.{arith}
use borrow.Author.Rules.{rules}
use Rattle.show.proofs.Refusals.{refusal_most}
use Rattle.head_text.proofs.Answers.{text_read, text_refused, number_is}
use Rattle.head_text.proofs.build_text.Goals as goal

pub put_refused-requires : goal.put_refused-requires
put_refused-requires g c =
    (search rules, rw (number_is c.in-Err.e c.refusal_number.ensures) (omega (arith, refusal_most c.in-Err.e, c.requires)))

pub returns-in-Ok : goal.returns-in-Ok
returns-in-Ok g c =
    rw (text_read c.args.«data».now c.head_read.result c.head_read.ensures c.in-Ok.head c.in-Ok.is) c.put_head.ensures

pub returns-in-Err : goal.returns-in-Err
returns-in-Err g c =
    rw (text_refused c.args.«data».now c.head_read.result c.head_read.ensures c.in-Err.e c.in-Err.is)
    (rw (number_is c.in-Err.e c.refusal_number.ensures) at c.put_refused.ensures)
