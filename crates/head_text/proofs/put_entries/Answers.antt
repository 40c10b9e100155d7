-- An entry more.
use Rattle.std.proofs.Common.{ℕ, ◌∙◌, ap, sym, length, arith, rules, append-nil, append_assoc, length-append}
use Rattle.head_text.specs.Text.{entry_texts}
use Rattle.head_text.proofs.Entries.{entries_next, entries-within}
use Rattle.head_text.proofs.put_entries.Goals as goal

pub loop-entry-init : goal.loop-entry-init
unfolding entry_texts
loop-entry-init g c = sym (append-nil c.args.text.now)

pub put_named-requires : goal.put_named-requires
put_named-requires g c =
    let i = c.loop-entry.entry-index in
    let e = entries-within c.args.es.now i (omega arith) in
    let is = c.from.ensures in
    (search rules, rw is (omega (arith, ap length c.loop-entry.invariant, length-append {A = ℕ}, e)))

pub loop-entry-preserved : goal.loop-entry-preserved
loop-entry-preserved g c =
    let i = c.loop-entry.entry-index in
    c.put_named.ensures ∙ rw (c.loop-entry.invariant, c.from.ensures, entries_next c.args.es.now i (omega arith), append_assoc)
