-- The measure is the calls that may come under one (proofs/Depth.antt), so it bounds the depth. The bytes left fall besides: `record_at` hands on the
-- next place, and `seek_mark` the same place or a later one.
use Rattle.std.proofs.Common.{◌-◌, ◌≡◌, ◌≤◌, length}
use Rattle.capture.specs.Finding.{record_from}
use Rattle.capture.proofs.Depth.{under_record_at, under_seek_mark}
use Rattle.capture.proofs.+record_at_seek_mark.Given as goal

abbrev pub decreases-record_at : goal.decreases-record_at
decreases-record_at l = under_record_at l.«data».now l.at

abbrev pub decreases-seek_mark : goal.decreases-seek_mark
decreases-seek_mark l = under_seek_mark

-- no record stands between the place that was given and the one that is reached
abbrev pub invariant-seek_mark-loop-place : goal.invariant-seek_mark-loop-place
invariant-seek_mark-loop-place l =
    ((l.at ≤ l.place) × (l.place ≤ length l.«data»)) × (record_from l.«data» l.at ≡ record_from l.«data» l.place)

abbrev pub decreases-seek_mark-loop-place : goal.decreases-seek_mark-loop-place
decreases-seek_mark-loop-place l = length l.«data» - l.place
