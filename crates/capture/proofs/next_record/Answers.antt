-- A start past the end is refused, and else what is answered is read at the first place from the start on at which a record stands.
use Rattle.std.proofs.Common.{arith}
use mathlib.Core.Path.{refl, sym}
use Rattle.capture.proofs.Laws.{next_refused}
use Rattle.capture.proofs.Seeking.{Found, found_here, found_end, found_later, found_from, found_within, found_next, found_next-none}
use Rattle.capture.proofs.next_record.Goals as goal
use Rattle.capture.proofs.next_record.Goals.{Joined-n-eq0, then-n-eq0+then-start-data, then-n-eq0+else-start-data, else-n-eq0, then-n-ne0, else-n-ne0}

pub returns-then-data-start : goal.returns-then-data-start
returns-then-data-start c = sym (next_refused c.args.«data».now c.args.start c.if-data-start.true)

-- what the first test and the search behind it found
found : (c : Joined-n-eq0) → Found c.args.«data».now c.args.start c.if-n-eq0.place c.if-n-eq0.n
found c =
    let s = c.args.«data».now in
    let start = c.args.start in
    let k = c.packet_length-n in
    let j = c.if-n-eq0 in
    elim j.branch [
      | then-n-eq0+then-start-data w ↦
          found_later s start k.result w.seek_mark-place.result w.packet_length-n-then-start-data.result j.place j.n k.ensures w.if-n-eq0.true
          w.if-start-data.true w.seek_mark-place.ensures w.packet_length-n-then-start-data.ensures w.place-is w.n-is
      | then-n-eq0+else-start-data w ↦ found_end s start k.result j.place j.n k.ensures c.if-data-start.false w.if-start-data.false w.place-is w.n-is
      | else-n-eq0 w ↦ found_here s start k.result j.place j.n k.ensures w.if-n-eq0.false w.place-is w.n-is
    ]

pub overflow_add-line : goal.overflow_add-line
overflow_add-line c =
    let it = found (goal.at.overflow_add-line c).Joined-n-eq0 in
    omega (arith, found_within c.args.«data».now c.args.start c.if-n-eq0.place c.if-n-eq0.n c.if-data-start.false it c.if-n-ne0.true)

pub bounds-data-place : goal.bounds-data-place
bounds-data-place c =
    let it = found (goal.at.bounds-data-place c).Joined-n-eq0 in
    omega (arith, found_within c.args.«data».now c.args.start c.if-n-eq0.place c.if-n-eq0.n c.if-data-start.false it c.if-n-ne0.true)

pub overflow_sub-result : goal.overflow_sub-result
overflow_sub-result c =
    let it = found (goal.at.overflow_sub-result c).Joined-n-eq0 in
    omega (arith, found_from c.args.«data».now c.args.start c.if-n-eq0.place c.if-n-eq0.n c.if-data-start.false it)

pub returns : goal.returns
returns c =
    let it = found (goal.at.returns c).Joined-n-eq0 in
    let line = c.if-n-ne0.line in
    elim c.if-n-ne0.branch [
      | then-n-ne0 w ↦ found_next c.args.«data».now c.args.start c.if-n-eq0.place c.if-n-eq0.n c.if-data-start.false it line _ w.line-is refl
      | else-n-ne0 w ↦ found_next-none c.args.«data».now c.args.start c.if-n-eq0.place c.if-n-eq0.n c.if-data-start.false it line _ w.line-is
          w.if-n-ne0.false refl
    ]
