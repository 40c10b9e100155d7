-- `opus::read_2` meets its contract: one length field, then the last frame; a field that breaks stands right behind the TOC byte.
use mathlib.Core.Path.{refl, sym, ◌∙◌}
use native.Mathlib.Omega.{arith}
use lib.ListN.{length}
use borrow.Author.Rules.{rules}
use Rattle.opus_defines.specs.declared.Rule.TheVariants.{R4}
use Rattle.opus_size.proofs.At.{Found, whole_was, short_was}
use Rattle.opus.proofs.AtPacket.{part, one_field, unequal-fits, two_none, two_over, two_read}
use Rattle.opus.proofs.Lent.{none-answered}
use Rattle.opus.proofs.read_2.Goals as goal
use Rattle.opus.proofs.read_2.Goals.{In-Some}

-- the field that was read
found : (c : In-Some) → Found (part c.args.«data».now 1 (length c.args.«data».now)) 0 c.in-Some.n c.in-Some.next
found c = whole_was _ _ _ _ (sym c.size_at-size.ensures ∙ c.in-Some.is)

pub returns-in_default : goal.returns-in_default
returns-in_default c =
    none-answered _ _ _ c.broken_head.ensures
    ∙ two_none c.args.self_delimited c.args.«data».now c.requires.in_bounds.0
    (short_was (part c.args.«data».now 1 (length c.args.«data».now)) 0 (sym c.size_at-size.ensures ∙ c.in_default.is))

pub overflow_sub-body : goal.overflow_sub-body
overflow_sub-body c =
    (found (goal.at.overflow_sub-body c).In-Some).within

pub returns-then-body-next : goal.returns-then-body-next
returns-then-body-next c =
    none-answered _ _ _ c.broken_head-then-body-next.ensures
    ∙ two_over c.args.self_delimited c.args.«data».now c.requires.in_bounds.0 _ _ (found (goal.at.returns-then-body-next c).In-Some)
    (omega (arith, c.if-body-next.true, c.wide-sum.ensures.0))

pub last_frame-requires : goal.last_frame-requires
last_frame-requires c =
    record {
      read = rw c.wide-sum.ensures.0 (one_field (part c.args.«data».now 1 (length c.args.«data».now)) _ _
          (found (goal.at.last_frame-requires c).In-Some) (omega (arith, c.if-body-next.false, c.wide-sum.ensures.0)) _ c.requires.zeros);
      few = search rules;
    }

pub behind_toc-requires : goal.behind_toc-requires
behind_toc-requires c =
    omega (
      arith,
      c.requires.in_bounds,
      unequal-fits c.args.self_delimited c.args.«data».now c.requires.in_bounds.0 1 2 refl R4 c.last_frame.result _
          (c.last_frame.ensures R4),
    )

pub returns : goal.returns
returns c =
    two_read c.args.self_delimited c.args.«data».now c.requires.in_bounds.0 c.last_frame.result _ (c.last_frame.ensures R4) c.behind_toc.result
    c.behind_toc.ensures
