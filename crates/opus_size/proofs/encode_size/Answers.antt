-- `opus_size::encode_size` meets its contract: the tests on the way to each `return` say which case of `encode_size` holds.
-- Assumes nothing.
use mathlib.Core.Path.{◌≡◌, ap, ◌∙◌}
use native.Mathlib.Omega.{arith}
use native.Mathlib.Nat.{zero-add}
use lib.IntN.{pos}
use borrow.Author.Rules.{rules}
use mir.Syntax.{w32}
use mir.Val.{to_z, of_z}
use Rattle.opus_defines.proofs.Counts.{counted}
use Rattle.opus_size.proofs.Fields.{width}
use Rattle.opus_size.proofs.Put.{encode_negative, encode_long, encode_full, encode_put}
use Rattle.opus_size.proofs.encode_size.Goals as goal

pub returns-in_default : goal.returns-in_default
returns-in_default c =
    let back : to_z w32 (of_z w32 c.refusal_number.result) ≡ c.refusal_number.result = search rules in
    let law =
    encode_negative c.args.size c.args.«data».now
    (counted c.args.size c.ranges.size c.count_of.ensures.is c.in_default.is) in record {
      number = back ∙ (c.refusal_number.ensures ∙ law.0);
      bytes = law.1;
    }

pub returns-then-n-gt-MOST_BYTES : goal.returns-then-n-gt-MOST_BYTES
returns-then-n-gt-MOST_BYTES c =
    let back : to_z w32 (of_z w32 c.refusal_number-then-n-gt-MOST_BYTES.result) ≡ c.refusal_number-then-n-gt-MOST_BYTES.result = search rules in
    let law =
    encode_long c.args.size c.args.«data».now _
    (counted c.args.size c.ranges.size c.count_of.ensures.is c.in-Some.is) c.if-n-gt-MOST_BYTES.true in record {
      number = back ∙ (c.refusal_number-then-n-gt-MOST_BYTES.ensures ∙ law.0);
      bytes = law.1;
    }

pub returns-then-data-size_bytes : goal.returns-then-data-size_bytes
returns-then-data-size_bytes c =
    let back : to_z w32 (of_z w32 c.refusal_number-then-data-size_bytes.result) ≡ c.refusal_number-then-data-size_bytes.result = search rules in
    let law =
    encode_full c.args.size c.args.«data».now _
    (counted c.args.size c.ranges.size c.count_of.ensures.is c.in-Some.is)
    c.if-n-gt-MOST_BYTES.false (omega (arith, c.size_bytes.ensures)) in record {
      number = back ∙ (c.refusal_number-then-data-size_bytes.ensures ∙ law.0);
      bytes = law.1;
    }

pub overflow_cast-next : goal.overflow_cast-next
overflow_cast-next c =
    omega (arith, c.put_size-next.ensures.next, width c.in-Some.n)

pub returns : goal.returns
returns c =
    let back : to_z w32 (of_z w32 c.number_of.result) ≡ c.number_of.result = search rules in
    let law =
    encode_put c.args.size c.args.«data».now c.in-Some.n
    (counted c.args.size c.ranges.size c.count_of.ensures.is c.in-Some.is)
    c.if-n-gt-MOST_BYTES.false (omega (arith, c.size_bytes.ensures)) in record {
      number = back ∙ (c.number_of.ensures ∙ (ap pos (c.put_size-next.ensures.next ∙ zero-add _) ∙ law.0));
      bytes = c.put_size-next.ensures.bytes ∙ law.1;
    }
