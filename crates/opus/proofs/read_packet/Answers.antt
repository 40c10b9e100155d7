-- `opus::read_packet` meets its contract: each arm is the law of its code.
use mathlib.Core.Path.{refl, ◌∙◌}
use native.Mathlib.Omega.{arith}
use borrow.Author.Rules.{rules}
use lib.ListN.{length}
use Rattle.opus_defines.specs.declared.Rule.TheVariants.{R2}
use Rattle.opus.proofs.AtPacket.{part, no_fields_lem, unequal-fits, equal-fits, code_0, code_1, code_2, code_3_lem}
use Rattle.opus.proofs.read_packet.Goals as goal

pub returns-then-code-eq3 : goal.returns-then-code-eq3
returns-then-code-eq3 c =
    c.read_3.ensures ∙ code_3_lem c.args.self_delimited c.args.«data».now c.requires.in_bounds.0 c.if-code-eq3.true

pub last_frame-requires : goal.last_frame-requires
last_frame-requires c =
    record {
      read = no_fields_lem (part c.args.«data».now 1 (length c.args.«data».now)) _ c.requires.zeros;
      few = search rules;
    }

pub behind_toc-requires : goal.behind_toc-requires
behind_toc-requires c =
    omega (
      arith,
      c.requires.in_bounds,
      unequal-fits c.args.self_delimited c.args.«data».now c.requires.in_bounds.0 0 1 refl R2 c.last_frame.result _
          (c.last_frame.ensures R2),
    )

pub behind_toc-requires-in-1 : goal.behind_toc-requires-in-1
behind_toc-requires-in-1 c =
    omega (
      arith,
      c.requires.in_bounds,
      equal-fits c.args.self_delimited c.args.«data».now c.requires.in_bounds.0 c.equal_frames.result _
          c.equal_frames.ensures,
    )

pub returns-in-0 : goal.returns-in-0
returns-in-0 c =
    code_0 c.args.self_delimited c.args.«data».now c.requires.in_bounds.0 c.last_frame.result _ (c.last_frame.ensures R2) c.behind_toc.result
    c.behind_toc.ensures
    c.in-0.is

pub returns-in-1 : goal.returns-in-1
returns-in-1 c =
    code_1 c.args.self_delimited c.args.«data».now c.requires.in_bounds.0 c.equal_frames.result _ c.equal_frames.ensures c.behind_toc-in-1.result
    c.behind_toc-in-1.ensures
    c.in-1.is

pub returns-in_default : goal.returns-in_default
returns-in_default c =
    c.read_2.ensures ∙ code_2 c.args.self_delimited c.args.«data».now c.requires.in_bounds.0 c.if-code-eq3.false c.in_default.in_default-own.rest.0.1
    c.in_default.in_default-own.rest.1
