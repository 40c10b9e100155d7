-- `padding::dirt_in_words` meets its contract. The invariant: no dirt in the bytes passed.
use Prim.Native.Nat.{◌+◌, ◌-◌}
use native.Mathlib.Omega.{arith}
use mathlib.Core.Path.{sym, ◌∙◌}
use lib.ListN.{length}
use Rattle.blocks.proofs.Sets.{length_part}
use Rattle.padding.proofs.Words.{passed_none, passed_more, passed_dirty, passed_last}
use Rattle.padding.proofs.dirt_in_words.Goals as goal

pub loop-i-init : goal.loop-i-init
loop-i-init c =
    passed_none c.args.s.now

pub dirt_in_word-requires : goal.dirt_in_word-requires
dirt_in_word-requires c =
    omega (arith, length_part c.args.s.now c.loop-i.i (c.loop-i.i + 8 - c.loop-i.i) (omega arith))

pub returns-then-dirt_in_word : goal.returns-then-dirt_in_word
returns-then-dirt_in_word c =
    passed_dirty c.args.s.now c.loop-i.i (c.loop-i.i + 8 - c.loop-i.i) (sym c.dirt_in_word.ensures ∙ c.if-dirt_in_word.true)

pub loop-i-preserved : goal.loop-i-preserved
loop-i-preserved c =
    passed_more c.args.s.now c.loop-i.i _ c.loop-i.invariant (omega arith) (omega arith) (sym c.dirt_in_word.ensures ∙ c.if-dirt_in_word.false)

pub dirt_in_word-requires-2 : goal.dirt_in_word-requires-2
dirt_in_word-requires-2 c =
    omega (arith, c.requires, length_part c.args.s.now (length c.args.s.now - 8) (length c.args.s.now - (length c.args.s.now - 8)) (omega (arith, c.requires)))

pub returns : goal.returns
returns c =
    passed_last c.args.s.now c.loop-i.i c.loop-i.invariant _ c.loop-i-test.false c.dirt_in_word-2.ensures
