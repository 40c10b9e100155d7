-- `opus_head::head_read` meets its contract: at each way out, the tests on the way say what `head_read` is.
use native.Mathlib.Omega.{arith}
use mathlib.Core.Path.{◌≡◌, sym, ap, ◌∙◌}
use mathlib.Core.Bool.{true}
use lib.ListN.{length, get_or}
use Rattle.opus_head.specs.Header.{letters}
use Rattle.opus_head.specs.Reading.{begins, needed}
use Rattle.opus_head.specs.Parts.{checked}
use Rattle.opus_head.proofs.Answered.{read_short, read_letters, read-version, read_length, read_fields_lem, long_said, long_enough}
use Rattle.opus_head.proofs.head_read.Goals as goal
use Rattle.opus_head.proofs.head_read.Goals.{Else-not-has_letters}

-- behind the test of the letters
abbrev lettered : (e : Else-not-has_letters) → begins letters e.args.«data».now ≡ true
lettered e = sym e.has_letters.ensures ∙ e.if-not-has_letters.false

pub returns-then-data-lt-LEAST_HEAD : goal.returns-then-data-lt-LEAST_HEAD
returns-then-data-lt-LEAST_HEAD c =
    sym (read_short c.args.«data».now c.if-data-lt-LEAST_HEAD.true)

pub returns-then-not-has_letters : goal.returns-then-not-has_letters
returns-then-not-has_letters c =
    sym (read_letters c.args.«data».now c.if-data-lt-LEAST_HEAD.false (sym c.has_letters.ensures ∙ c.if-not-has_letters.true))

pub returns-then-data-gt15 : goal.returns-then-data-gt15
returns-then-data-gt15 c =
    sym (read-version c.args.«data».now c.if-data-lt-LEAST_HEAD.false
    (lettered (goal.at.returns-then-data-gt15 c).Else-not-has_letters) c.if-data-gt15.true)

pub returns-then-not-long_as : goal.returns-then-not-long_as
returns-then-not-long_as c =
    sym (read_length c.args.«data».now c.if-data-lt-LEAST_HEAD.false (lettered (goal.at.returns-then-not-long_as c).Else-not-has_letters) c.if-data-gt15.false
    (long_said (get_or c.args.«data».now 8 0) (length c.args.«data».now) c.bytes_needed-need.ensures.is c.long_as.ensures ∙ c.if-not-long_as.true))

pub head_of-requires : goal.head_of-requires
head_of-requires c = (
  omega arith,
  long_enough (get_or c.args.«data».now 8 0) (length c.args.«data».now) (needed c.args.«data».now)
      (long_said (get_or c.args.«data».now 8 0) (length c.args.«data».now) c.bytes_needed-need.ensures.is c.long_as.ensures ∙ c.if-not-long_as.false),
)

pub returns : goal.returns
returns c =
    c.checked_head.ensures ∙ ap checked c.head_of.ensures
    ∙ sym (read_fields_lem c.args.«data».now c.if-data-lt-LEAST_HEAD.false (lettered (goal.at.returns c).Else-not-has_letters) c.if-data-gt15.false
    (long_said (get_or c.args.«data».now 8 0) (length c.args.«data».now) c.bytes_needed-need.ensures.is c.long_as.ensures ∙ c.if-not-long_as.false))
