-- `opus_head::one_stream` meets its contract: at each way out, the tests on the way say what `one_stream` is.
use native.Mathlib.Omega.{arith}
use mathlib.Core.Path.{sym}
use Rattle.opus_head.proofs.Fitting.{one_streams, one_coupled, one_first, one_second}
use Rattle.opus_head.proofs.one_stream.Goals as goal

pub returns-then-streams-ne1 : goal.returns-then-streams-ne1
returns-then-streams-ne1 c =
    sym (one_streams c.args.channels c.args.streams c.args.coupled c.args.mapping.now c.if-streams-ne1.true)

pub returns-then-wide_byte : goal.returns-then-wide_byte
returns-then-wide_byte c =
    sym (one_coupled c.args.channels c.args.streams c.args.coupled c.args.mapping.now c.if-streams-ne1.false
    (λ e. c.if-wide_byte.true (omega (arith, c.wide_byte.ensures.0, c.wide_byte-2.ensures.0))))

pub returns-then-mapping-ne0 : goal.returns-then-mapping-ne0
returns-then-mapping-ne0 c =
    sym (one_first c.args.channels c.args.streams c.args.coupled c.args.mapping.now c.if-streams-ne1.false
    (omega (arith, c.wide_byte.ensures.0, c.wide_byte-2.ensures.0, c.if-wide_byte.false)) c.if-mapping-ne0.true)

pub returns : goal.returns
returns c =
    sym (one_second c.args.channels c.args.streams c.args.coupled c.args.mapping.now c.if-streams-ne1.false
    (omega (arith, c.wide_byte.ensures.0, c.wide_byte-2.ensures.0, c.if-wide_byte.false)) c.if-mapping-ne0.false)
