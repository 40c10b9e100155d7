use Rattle.std.proofs.Common.{◌≡◌, ◌++◌, take}
use Rattle.head_text.specs.Text.{entry_texts}
use Rattle.head_text.proofs.put_entries.Given as goal

abbrev pub invariant-loop-entry : goal.invariant-loop-entry
invariant-loop-entry g l = l.text ≡ l.initial.text ++ entry_texts (take l.entry-index l.es)
