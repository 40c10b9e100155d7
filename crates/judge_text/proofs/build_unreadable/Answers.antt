-- The word with the rule's number, and the place behind a space.
use Rattle.std.proofs.Common.{◌∙◌, append_assoc}
use Rattle.judge_text.proofs.build_unreadable.Goals as goal

pub returns : goal.returns
returns g c = c.put_line.ensures ∙ rw (c.put_named.ensures, c.from-number.ensures, c.rule_number.ensures, append_assoc)
