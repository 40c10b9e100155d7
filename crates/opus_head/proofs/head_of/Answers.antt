-- `opus_head::head_of` meets its contract: by the family that was tested.
use native.Mathlib.Omega.{arith}
use mathlib.Core.Path.{sym, ◌∙◌}
use Rattle.opus_head.proofs.Fields.{head_plain, head_table, needs_table, mapped_as}
use Rattle.opus_head.proofs.head_of.Goals as goal

pub returns-then-data-eq0 : goal.returns-then-data-eq0
returns-then-data-eq0 c =
    c.plain_head.ensures ∙ sym (head_plain c.args.«data».now c.if-data-eq0.true)

pub mapping_of-mapping-requires : goal.mapping_of-mapping-requires
mapping_of-mapping-requires c =
    (c.wide_byte.ensures.1, omega (arith, c.wide_byte.ensures.0, needs_table c.args.«data».now c.if-data-eq0.false))

pub bounds-data-19 : goal.bounds-data-19
bounds-data-19 c =
    omega (arith, needs_table c.args.«data».now c.if-data-eq0.false)

pub bounds-data-20 : goal.bounds-data-20
bounds-data-20 c =
    omega (arith, needs_table c.args.«data».now c.if-data-eq0.false)

pub returns : goal.returns
returns c =
    c.head_mapped.ensures ∙ mapped_as c.args.«data».now c.wide_byte.ensures.0 c.mapping_of-mapping.ensures ∙ sym
    (head_table c.args.«data».now c.if-data-eq0.false)
