-- `stream_join::multistream_join` meets its contract: it is the report of what `join_answer` answers.
use mathlib.Core.Path.{◌∙◌}
use Rattle.stream_join.proofs.multistream_join.Goals as goal

pub returns : goal.returns
returns c =
    record {
      report = c.report_of.ensures ∙ c.join_answer.ensures.report;
      bytes = c.join_answer.ensures.bytes;
    }
