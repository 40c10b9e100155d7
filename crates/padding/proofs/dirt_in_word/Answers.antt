-- `padding::dirt_in_word` meets its contract. The invariant: whether one of the bytes passed is not zero.
use native.Mathlib.Omega.{arith}
use Rattle.padding.proofs.Words.{seen_none, seen_more, seen_all}
use Rattle.padding.proofs.dirt_in_word.Goals as goal

pub loop-b-init : goal.loop-b-init
loop-b-init c =
    seen_none c.args.s.now

pub loop-b-preserved : goal.loop-b-preserved
loop-b-preserved c =
    seen_more c.args.s.now c.loop-b.dirt c.loop-b.b-index c.dirt_or-dirt.result c.loop-b.invariant (omega (arith, c.requires)) c.dirt_or-dirt.ensures

pub returns : goal.returns
returns c =
    seen_all c.args.s.now c.loop-b.dirt c.loop-b.b-index c.loop-b.invariant (omega (arith, c.requires))
