-- `opus_parts::padding_at::read_chain` meets its contract. The invariant: the padding so far with the chain from here on is the whole chain, and it fits.
use Rattle.opus_parts.proofs.AtPadding.{chain_start, chain_end, chain_unfit, chain_whole, chain-over, chain_more}
use Rattle.opus_parts.proofs.padding_at.read_chain.Goals as goal

pub loop-at-init : goal.loop-at-init
loop-at-init c =
    chain_start _

pub returns-then-s-next : goal.returns-then-s-next
returns-then-s-next c =
    chain_unfit _ _ _ c.loop-at.invariant _ c.loop-at-test.true c.wide_byte-b.ensures.0 c.if-b-ne255.true
    c.if-s-next.true

pub returns-then-b-ne255 : goal.returns-then-b-ne255
returns-then-b-ne255 c =
    chain_whole _ _ _ c.loop-at.invariant _ c.loop-at-test.true c.wide_byte-b.ensures.0 c.if-b-ne255.true
    c.if-s-next.false

pub returns-then-s-next-2 : goal.returns-then-s-next-2
returns-then-s-next-2 c =
    chain-over _ _ _ c.loop-at.invariant _ c.loop-at-test.true c.wide_byte-b.ensures.0 c.if-b-ne255.false
    c.if-s-next-2.true

pub loop-at-preserved : goal.loop-at-preserved
loop-at-preserved c =
    chain_more _ _ _ c.loop-at.invariant _ c.loop-at-test.true c.wide_byte-b.ensures.0 c.if-b-ne255.false
    c.if-s-next-2.false

pub returns : goal.returns
returns c =
    chain_end _ _ _ c.loop-at.invariant c.loop-at-test.false
