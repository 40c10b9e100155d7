-- `opus_head::fields_fit` meets its contract: at each way out, the tests on the way say what `fields_fit` is.
use mathlib.Core.Path.{sym, ◌∙◌}
use Rattle.opus_head.proofs.Fitting.{fit_channels, fit_streams, fit_entries, fit_other, fit_plain}
use Rattle.opus_head.proofs.fields_fit.Goals as goal

pub returns-then-not-channels_fit : goal.returns-then-not-channels_fit
returns-then-not-channels_fit c =
    sym (fit_channels c.args.channels c.args.family c.args.streams c.args.coupled c.args.mapping.now
    (sym c.channels_fit.ensures ∙ c.if-not-channels_fit.true))

pub returns-then-not-streams_fit : goal.returns-then-not-streams_fit
returns-then-not-streams_fit c =
    sym (fit_streams c.args.channels c.args.family c.args.streams c.args.coupled c.args.mapping.now
    (sym c.channels_fit.ensures ∙ c.if-not-channels_fit.false)
    (sym c.streams_fit.ensures ∙ c.if-not-streams_fit.true))

pub returns-then-not-entries_fit : goal.returns-then-not-entries_fit
returns-then-not-entries_fit c =
    sym (fit_entries c.args.channels c.args.family c.args.streams c.args.coupled c.args.mapping.now
    (sym c.channels_fit.ensures ∙ c.if-not-channels_fit.false)
    (sym c.streams_fit.ensures ∙ c.if-not-streams_fit.false)
    c.wide_byte-3.ensures.0 c.wide_byte.ensures.0 c.wide_byte-2.ensures.0
    (sym c.entries_fit.ensures ∙ c.if-not-entries_fit.true))

pub returns-then-family-ne0 : goal.returns-then-family-ne0
returns-then-family-ne0 c =
    sym (fit_other c.args.channels c.args.family c.args.streams c.args.coupled c.args.mapping.now
    (sym c.channels_fit.ensures ∙ c.if-not-channels_fit.false)
    (sym c.streams_fit.ensures ∙ c.if-not-streams_fit.false)
    c.wide_byte-3.ensures.0 c.wide_byte.ensures.0 c.wide_byte-2.ensures.0
    (sym c.entries_fit.ensures ∙ c.if-not-entries_fit.false) c.if-family-ne0.true)

pub returns : goal.returns
returns c =
    c.one_stream.ensures
    ∙ sym (fit_plain c.args.channels c.args.family c.args.streams c.args.coupled c.args.mapping.now
    (sym c.channels_fit.ensures ∙ c.if-not-channels_fit.false)
    (sym c.streams_fit.ensures ∙ c.if-not-streams_fit.false)
    c.wide_byte-3.ensures.0 c.wide_byte.ensures.0 c.wide_byte-2.ensures.0
    (sym c.entries_fit.ensures ∙ c.if-not-entries_fit.false) c.if-family-ne0.false)
