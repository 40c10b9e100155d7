-- `opus::packet_at` meets its contract: by what was read of the frames.
use Prim.Native.Nat.{◌+◌}
use mathlib.Core.Path.{◌≡◌, ap, ◌∙◌}
use native.Mathlib.Omega.{arith}
use Rattle.std.specs.Prelude.{Err}
use Rattle.opus_defines.specs.Rules.{rule_refusal}
use Rattle.opus_parts.specs.Parts.{end_of}
use Rattle.opus.proofs.AtPacket.{head_found, head_broken, end_found, end_broken}
use Rattle.opus.proofs.packet_at.Goals as goal
use Rattle.opus.proofs.packet_at.Goals.{In-Ok, In-Err}

-- the frames end where the contract's bound says
ends : (c : In-Ok) → end_of c.args.f ≡ c.in-Ok.offset + c.in-Ok.total
ends c = end_found c.args.f _ _ c.in-Ok.is

-- and break where it says
breaks : (c : In-Err) → end_of c.args.f ≡ c.in-Err.place
breaks c = end_broken c.args.f _ _ c.in-Err.is

pub overflow_add-first : goal.overflow_add-first
overflow_add-first c =
    omega (arith, ends c, c.requires)

pub overflow_add-result : goal.overflow_add-result
overflow_add-result c =
    omega (arith, ends c, c.requires)

pub overflow_add-result-in-Ok : goal.overflow_add-result-in-Ok
overflow_add-result-in-Ok c =
    omega (arith, ends c, c.requires)

pub overflow_add-at : goal.overflow_add-at
overflow_add-at c =
    omega (arith, breaks c, c.requires)

pub broken_head-requires : goal.broken_head-requires
broken_head-requires c =
    omega (arith, breaks (goal.at.broken_head-requires c).In-Err, c.requires, c.pointed_place.ensures.1)

pub returns-in-Err : goal.returns-in-Err
returns-in-Err c =
    c.broken_head.ensures
    ∙ (ap (λ n. Err (rule_refusal c.in-Err.rule n)) c.pointed_place.ensures.0
    ∙ head_broken c.args.toc c.args.count c.args.at c.args.pad c.args.f _ _ c.in-Err.is)

pub returns-in-Ok : goal.returns-in-Ok
returns-in-Ok c =
    head_found c.args.toc c.args.count c.args.at c.args.pad c.args.f _ _ c.in-Ok.is
