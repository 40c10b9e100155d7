-- What is written reads back: as many records, in the same order, whose packets say the same.
--     rewritten_holds, hold_all          a record that is rewritten is one
--     packet_same, all_same              and says the same
--     stand_all, stand_done              the records of a reading, and those done, stand in the capture
--     records_stand, records_hold, records_same     the same of all records of a capture
--     entries_back, records_back         the records of a file of records are those
-- Assumes nothing.
use Prim.Native.Nat.{ℕ, ◌+◌, ◌≤◌}
use native.Mathlib.Omega.{arith}
use mathlib.Core.Path.{◌≡◌, refl, ap, ◌∙◌}
use mathlib.Core.List.{List, [], ◌∷◌, ◌++◌, append_assoc, map}
use mathlib.Core.Bool.{false}
use lib.ListN.{length, get_or, drop, length-append}
use lib.Seq.{drop-append_seam}
use Rattle.laws.specs.Bytes.{Bytes}
use Rattle.blocks.specs.Blocks.{part}
use Rattle.std.specs.Prelude.{Ok}
use Rattle.opus_format.specs.Frames.{lengths, cut}
use Rattle.opus_format.specs.Reading.{Reading, refused, accepted, read}
use Rattle.capture.specs.Records.{Entry, Holds, written, file_of, HoldAll}
use Rattle.capture.specs.Finding.{packet_length, packet_at, next_record}
use Rattle.capture.specs.Reading.{behind, readings, answers_for, entry_of, entries, records_in, records_of}
use Rattle.capture.specs.declared.NextRecord.{NextRecord}
use Rattle.capture.proofs.Packets.{packet_front, packet_bytes}
use Rattle.capture.proofs.Files.{file_one, answers_none, answers_one}
use Rattle.capture.proofs.Written.{written-length, written_packet}
use Rattle.capture.proofs.Answers.{next_stands}
use Rattle.capture.proofs.Steps.{reading_induction}
use Rattle.capture.proofs.Held.{records_none, records_one, records_end, records_are}
use Rattle.capture.proofs.Promises.{records_read_back}
use Rattle.packet_pad.proofs.Spelled.{reading, cuts_back, reads_back}
use Rattle.spelling.proofs.Laws.{no_longer, not-empty}
use Rattle.spelling.proofs.Promises.{unreadable_stays, same_frames_lem}
use Rattle.compaction.specs.Account.{rewritten}
use Rattle.compaction.specs.Share.{done, stop}
use Rattle.compaction.specs.Lossless.{StandAll, Same, alike, kept, Faithful, none, one}
use Rattle.compaction.proofs.Entries.{stands_holds, stands_written, answer_entry}
use Rattle.compaction.proofs.Whole.{records_done}
use Rattle.compaction.proofs.Joining.{later, answers}

-- ---- one record
module _ (e : Entry) (bytes : Bytes e.packet) (h : Holds e) where
  rewritten_holds : Holds (rewritten e)
  rewritten_holds =
      record { some = not-empty e.packet 65535 bytes h.some; most = omega (arith, no_longer e.packet 65535, h.most) }

  packet_same : Same e.packet (rewritten e).packet
  packet_same = go (read false e.packet) refl
    where
      go : (x : Reading) → read false e.packet ≡ x → Same e.packet (rewritten e).packet
      go (refused rule place) r = kept rule place r ((unreadable_stays e.packet 65535).0 rule place r).0
      go (accepted toc ns first taken) r =
          let q = (rewritten e).packet in
          let w = (same_frames_lem e.packet toc ns first taken bytes r 65535).0 in
          alike toc ns first taken (get_or q 0 0) (lengths (cut ns (drop first e.packet))) (length w.head) (length q) r (reading w)
          (reads_back w).1 (cuts_back w)

-- ---- all records of answers
module _ (s : List ℕ) (bytes : Bytes s) where
  pub hold_all : (ds : List NextRecord) → StandAll s ds → HoldAll (map rewritten (entries s ds))
  hold_all [] h = tt
  hold_all (a ∷ ds) h = (rewritten_holds (entry_of s a) (packet_bytes s a.place bytes) h.0.0, hold_all ds h.1)

  pub all_same : (ds : List NextRecord) → StandAll s ds → Faithful (entries s ds) (map rewritten (entries s ds))
  all_same [] h = none
  all_same (a ∷ ds) h = one refl (packet_same (entry_of s a) (packet_bytes s a.place bytes) h.0.0) (all_same ds h.1)

  -- those of a reading do
  pub stand_all : (at : ℕ) → at ≤ length s → StandAll s (records_in (readings s at))
  stand_all =
      reading_induction s (λ at r. StandAll s (records_in r))
      (λ at h z. rw (records_none (next_record s at) [] z, records_end) tt)
      (λ at h f rest.
      let a = next_record s at in
      let stands : packet_length (drop a.place s) ≡ 0 → ⊥ = λ z. f (next_stands s at h ∙ z) in
      let whole = answer_entry s at h in
      let there : written (entry_of s a) ≡ part s a.place (5 + a.length) =
      ap written whole ∙ rw (next_stands s at h) (stands_written s a.place stands bytes) in
      rw (records_one a (readings s (behind a)) f) ((rw whole (stands_holds s a.place stands bytes), there), rest))

  -- and so do those of them that are done
  stand_front : (xs ys : List NextRecord) → StandAll s (xs ++ ys) → StandAll s xs
  stand_front [] ys h = tt
  stand_front (x ∷ xs) ys h = (h.0, stand_front xs ys h.1)

  -- all records of the capture
  pub records_stand : StandAll s (records_in (readings s 0))
  records_stand = stand_all 0 (omega arith)

  pub records_hold : HoldAll (map rewritten (records_of s))
  records_hold = rw (records_are s) (hold_all (records_in (readings s 0)) records_stand)

  pub records_same : Faithful (records_of s) (map rewritten (records_of s))
  records_same = rw (records_are s) (all_same (records_in (readings s 0)) records_stand)

  pub stand_done : (at : ℕ) → at ≤ length s → (b : ℕ) → StandAll s (done s b (readings s at))
  stand_done at h b =
      let r = readings s at in
      let rest = stop s b r ∷ later s at b h in
      stand_front (done s b r) (records_in rest) (rw (answers s at b h, records_done s b r rest) at (stand_all at h))

-- ---- the records of a file of records
module _ (p : List ℕ) (e : Entry) (rest : List ℕ) where
  pub packet_back : packet_at (p ++ (written e ++ rest)) (length p) ≡ e.packet
  packet_back =
      packet_front (p ++ (written e ++ rest)) (length p)
      ∙ (ap (λ (l : List ℕ). packet_at l 0) (drop-append_seam p (written e ++ rest)) ∙ written_packet e rest)

entries_from : (p : List ℕ) (es : List Entry) → HoldAll es → entries (p ++ file_of es) (records_in (answers_for (length p) es)) ≡ es
entries_from p [] h =
    rw (answers_none (length p), records_none (record { verdict = Ok tt; line = 0; place = length p; length = 0; passed = 0 }) [] refl, records_end)
entries_from p (e ∷ es) h =
    let a : NextRecord = record { verdict = Ok tt; line = e.line; place = length p; length = length e.packet; passed = 0 } in
    let some : length e.packet ≡ 0 → ⊥ = λ z. omega (arith, h.0.some) in
    let place : length p + (5 + length e.packet) ≡ length (p ++ written e) = omega (arith, length-append p (written e), written-length e) in
    let first : entry_of (p ++ (written e ++ file_of es)) a ≡ e = rw (packet_back p e (file_of es)) in
    let rest : entries (p ++ (written e ++ file_of es)) (records_in (answers_for (length p + (5 + length e.packet)) es)) ≡ es =
    rw (place, ← append_assoc p (written e) (file_of es)) (entries_from (p ++ written e) es h.1) in
    rw (file_one e es, answers_one (length p) e es, records_one a (answers_for (length p + (5 + length e.packet)) es) some, first, rest)

pub entries_back : (es : List Entry) → HoldAll es → entries (file_of es) (records_in (readings (file_of es) 0)) ≡ es
entries_back es h = rw (records_read_back es h) (entries_from [] es h)

pub records_back : (es : List Entry) → HoldAll es → records_of (file_of es) ≡ es
records_back es h = records_are (file_of es) ∙ entries_back es h
