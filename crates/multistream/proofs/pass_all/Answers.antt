-- `multistream::pass_all` meets its contract: the first streams are read, and then the last.
use native.Mathlib.Omega.{arith}
use mathlib.Core.Path.{sym, ap, ◌∙◌}
use mathlib.Core.Bool.{false}
use borrow.Author.Rules.{rules}
use borrow.Author.Rules.{part_to_end}
use Rattle.multistream.specs.Streams.{further}
use Rattle.multistream.specs.Parts.{verdict_by}
use Rattle.laws.specs.Bytes.{Bytes}
use Rattle.multistream.proofs.Bounds.{part-short, pass_within}
use Rattle.multistream.proofs.Passing.{reach_lent, all_stuck, all-last}
use Rattle.multistream.proofs.pass_all.Goals as goal

pub returns-in_default : goal.returns-in_default
returns-in_default c =
    ap verdict_by c.in_default.is ∙ all_stuck c.args.k c.args.«data».now _ (sym c.pass_streams-p.ensures ∙ c.in_default.is)

pub slice_bounds-pass_stream-count : goal.slice_bounds-pass_stream-count
slice_bounds-pass_stream-count c =
    pass_within c.args.k c.args.«data».now _ (record { byte = λ j. (c.shared_slice_known-1.given j).fits })
    (sym c.pass_streams-p.ensures ∙ c.in-Ok.is)

pub pass_stream-last-requires : goal.pass_stream-last-requires
pass_stream-last-requires c =
    part-short c.args.«data».now c.in-Ok.at 65535 c.requires

pub further_on-requires : goal.further_on-requires
further_on-requires c =
    let bytes : Bytes c.args.«data».now = record { byte = λ j. (c.shared_slice_known-1.given j).fits } in
    let inside = pass_within c.args.k c.args.«data».now c.in-Ok.at bytes (sym c.pass_streams-p.ensures ∙ c.in-Ok.is) in
    omega (arith, reach_lent false c.args.«data».now c.in-Ok.at bytes inside c.pass_stream-last.ensures, c.requires)

pub slice_bounds-pass_stream-start : goal.slice_bounds-pass_stream-start
slice_bounds-pass_stream-start c =
    let inside = pass_within c.args.k c.args.«data».now _ (record { byte = λ j. (c.shared_slice_known-1.given j).fits })
    (sym c.pass_streams-p.ensures ∙ c.in-Ok.is) in
    search rules

pub returns : goal.returns
returns c =
    let is = all-last c.args.k c.args.«data».now c.in-Ok.at (sym c.pass_streams-p.ensures ∙ c.in-Ok.is) in
    let last = rw (part_to_end c.args.«data».now c.in-Ok.at) at c.pass_stream-last.ensures in
    ap verdict_by (c.further_on.ensures ∙ ap (further c.in-Ok.at) last) ∙ is
