-- What is written is as short as it can be: no packet that says the same as a record's is shorter than the one that is written for it.
-- Assumes nothing.
use Prim.Native.Nat.{ℕ, ◌≤◌}
use mathlib.Core.List.{List, [], ◌∷◌, map}
use mathlib.Core.Bool.{false}
use lib.ListN.{length, drop}
use Rattle.compaction.proofs.Faithful.{records_stand}
use Rattle.laws.specs.Bytes.{Bytes}
use Rattle.opus_defines.specs.Bounds.{most_packet}
use Rattle.opus_toc.specs.Toc.{upper_six}
use Rattle.opus_format.specs.Frames.{cut}
use Rattle.opus_format.specs.Format.{Spells}
use Rattle.capture.specs.Reading.{entries, records_of, records_in, readings}
use Rattle.capture.specs.declared.NextRecord.{NextRecord}
use Rattle.capture.proofs.Packets.{packet_bytes}
use Rattle.capture.proofs.Held.{records_are}
use Rattle.packet_pad.proofs.Spelled.{read_whole}
use Rattle.spelling.specs.Spelling.{shorter}
use Rattle.spelling.proofs.Laws.{no_longer}
use Rattle.spelling.proofs.Promises.{shortest_there_is}
use Rattle.compaction.specs.Account.{rewritten}
use Rattle.compaction.specs.Lossless.{StandAll, Same, alike, kept}
use Rattle.compaction.specs.Shortest.{Shortest, no_more, each}

packet_least : (p : List ℕ) → Bytes p → length p ≤ 65535 → (q : List ℕ) → Bytes q → Same p q → length (shorter p most_packet) ≤ length q
packet_least p bytes most q bytes' (alike toc ns first taken toc' ns' first' taken' r r' six frames) =
    let w : Spells false (upper_six toc) q (cut ns (drop first p)) = rw (← six, ← frames) (read_whole q toc' ns' first' taken' bytes' r') in
    shortest_there_is p toc ns first taken bytes r most q w
packet_least p bytes most q bytes' (kept rule place r e) = rw e (no_longer p most_packet)

module _ (s : List ℕ) (bytes : Bytes s) where
  pub all_least : (ds : List NextRecord) → StandAll s ds → Shortest (entries s ds) (map rewritten (entries s ds))
  all_least [] h = no_more
  all_least (a ∷ ds) h = each (packet_least _ (packet_bytes s a.place bytes) h.0.0.most) (all_least ds h.1)

  pub records_least : Shortest (records_of s) (map rewritten (records_of s))
  records_least = rw (records_are s) (all_least (records_in (readings s 0)) (records_stand s bytes))
