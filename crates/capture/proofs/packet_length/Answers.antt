-- At each way out, the tests on the way say what `packet_length` is.
use Rattle.std.proofs.Common.{arith}
use mathlib.Core.Path.{sym}
use Rattle.capture.proofs.Laws.{length_first, length_second, length_cut, length_whole}
use Rattle.capture.proofs.packet_length.Goals as goal

pub returns-then-data-at : goal.returns-then-data-at
returns-then-data-at c = sym (length_cut c.args.«data».now c.args.at (omega arith))

pub returns-then-left-lt-HEAD_BYTES : goal.returns-then-left-lt-HEAD_BYTES
returns-then-left-lt-HEAD_BYTES c = sym (length_cut c.args.«data».now c.args.at (omega arith))

pub returns-then-data-at-ne75 : goal.returns-then-data-at-ne75
returns-then-data-at-ne75 c = sym (length_first c.args.«data».now c.args.at c.if-data-at-ne75.true)

pub returns-then-data-at-2 : goal.returns-then-data-at-2
returns-then-data-at-2 c = sym (length_second c.args.«data».now c.args.at c.if-data-at-2.true)

pub returns-then-left-n : goal.returns-then-left-n
returns-then-left-n c = sym (length_cut c.args.«data».now c.args.at (omega arith))

pub returns : goal.returns
returns c = cc (length_whole c.args.«data».now c.args.at c.if-data-at-ne75.false c.if-data-at-2.false (omega arith))
