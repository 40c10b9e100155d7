-- What a buyer may count on when a packet's shorter spelling is asked for (document 02, M-103). `room` is the length of the work buffer.
-- Assumes nothing.
use Prim.Native.Nat.{ℕ, ◌≤◌, ◌<◌}
use mathlib.Core.Path.{◌≡◌}
use mathlib.Core.List.{List}
use mathlib.Core.Bool.{false}
use mathlib.Core.Logic.{◌⊎◌}
use lib.ListN.{length, get_or, drop}
use lib.Seq.{sets}
use Rattle.laws.specs.Bytes.{Bytes}
use Rattle.opus_defines.specs.Bounds.{most_packet}
use Rattle.opus_defines.specs.declared.Rule.{Rule}
use Rattle.opus_toc.specs.Toc.{upper_six}
use Rattle.opus_format.specs.Frames.{cut}
use Rattle.opus_format.specs.Format.{Spells}
use Rattle.opus_format.specs.Reading.{refused, accepted, read, frames_of}
use Rattle.opus_header.specs.Compact.{compact}
use Rattle.packet_judge.specs.Judging.{judged}
use Rattle.packet_judge.specs.declared.Judged.TheVariants.{Unreadable, Dirty, Longer, Clean}
use Rattle.packet_judge.proofs.Verdicts.{unreadable_only}
use Rattle.spelling.specs.Spelling.{spelling, compact_of, shorter, work_after}
use Rattle.spelling.specs.declared.Spelling.TheVariants.{Original, Compact}
use Rattle.spelling.proofs.Choice.{long_original, handed_original}
use Rattle.spelling.proofs.Laws.{compact_is, again}
use Rattle.spelling.proofs.Handed.{takes, leaves_it, spells, frames_stay, least}
use Rattle.spelling.proofs.Verdicts.{unread_stays, clean_stays, longer_least, dirty-shorter}

-- 1. A packet that the reader refuses, or one of more than 65,535 bytes, is handed back as it is, and nothing is written.
pub unreadable_stays : (p : List ℕ) (room : ℕ)
    → ((rule : Rule) (place : ℕ) → read false p ≡ refused rule place → (shorter p room ≡ p) × (spelling p room ≡ Original))
    × (65535 < length p → (shorter p room ≡ p) × (spelling p room ≡ Original))
unreadable_stays p room =
    (unread_stays p room, λ h. let e = long_original p room h in (handed_original p room e, e))

-- a packet that the reader accepts
module _ (p : List ℕ) (toc : ℕ) (ns : List ℕ) (first taken : ℕ) (bytes : Bytes p)
    (r : read false p ≡ accepted toc ns first taken) where
  abbrev six : ℕ
  six = upper_six toc

  abbrev frames : List (List ℕ)
  frames = cut ns (drop first p)

  abbrev rebuilt : List ℕ
  rebuilt = compact false six frames

  -- 2. Its compact packet is taken exactly where that is shorter and the work buffer holds it; otherwise nothing is written.
  pub taken_exactly : length p ≤ 65535 → (room : ℕ)
      → (length rebuilt < length p → length rebuilt ≤ room → (shorter p room ≡ rebuilt) × (spelling p room ≡ Compact (length rebuilt)))
      × ((length p ≤ length rebuilt) ⊎ (room < length rebuilt) → (shorter p room ≡ p) × (spelling p room ≡ Original))
  taken_exactly short room = (takes p toc ns first taken r room short, leaves_it p toc ns first taken r room)

  -- 3. Whatever is handed back is a packet of RFC 6716 with the same frames and upper six TOC bits, and reads so.
  pub same_frames_lem : (room : ℕ)
      → Spells false six (shorter p room) frames
      × (frames_of (shorter p room) (read false (shorter p room)) ≡ frames_of p (read false p))
      × (upper_six (get_or (shorter p room) 0 0) ≡ upper_six (get_or p 0 0))
  same_frames_lem room =
      let k = frames_stay p toc ns first taken r bytes room in
      (spells p toc ns first taken r bytes room, k.0, k.1)

  -- 4. With 65,535 bytes of room no packet of RFC 6716 that has its frames and upper six TOC bits is shorter than what is handed back.
  pub shortest_there_is : length p ≤ 65535 → (q : List ℕ) → Spells false six q frames → length (shorter p most_packet) ≤ length q
  shortest_there_is = least p toc ns first taken r

-- 5. It goes by the judge's verdict: a clean packet and an unreadable one stay, one that is longer than needed comes to the least length that the judge
-- says, and a dirty one becomes shorter.
module _ (p : List ℕ) (bytes : Bytes p) (short : length p ≤ 65535) where
  pub shortens-as-judged :
      (judged false p ≡ Clean → (room : ℕ) → shorter p room ≡ p)
      × ((n : ℕ) → judged false p ≡ Longer n → length (shorter p most_packet) ≡ n)
      × (judged false p ≡ Dirty → length (shorter p most_packet) < length p)
      × ((rule : Rule) (place : ℕ) → judged false p ≡ Unreadable rule place → (room : ℕ) → shorter p room ≡ p)
  shortens-as-judged = (
    clean_stays p short bytes,
    longer_least p short bytes,
    dirty-shorter p short bytes,
    λ rule place j room. (unread_stays p room rule place (unreadable_only false p short rule place j)).0,
  )

-- 6. A second time changes nothing.
pub once_is_enough : (p : List ℕ) (room : ℕ) → Bytes p → shorter (shorter p room) room ≡ shorter p room
once_is_enough = again

-- 7. The work buffer is as it was where the packet is handed back; otherwise what is handed back stands at its front, and the bytes behind that are as they
-- were.
pub work_is_left : (p w : List ℕ) → let c = spelling p (length w) in
    (c ≡ Original → work_after (compact_of p) w c ≡ w)
    × ((n : ℕ) → c ≡ Compact n → (length (shorter p (length w)) ≡ n) × (work_after (compact_of p) w c ≡ sets w 0 (shorter p (length w))))
work_is_left p w =
    (λ e. rw e, λ n e. let k = compact_is p (length w) n e in (rw k.0 k.1, rw (e, k.0)))
