-- What a buyer may count on when a packet is judged (document 02, M-110). `sd` is true for the self-delimited form.
-- Assumes nothing.
use Prim.Native.Nat.{ℕ, ◌≤◌, ◌<◌}
use mathlib.Core.Path.{◌≡◌}
use mathlib.Core.List.{List, ◌++◌}
use mathlib.Core.Bool.{Bool, true, false}
use lib.ListN.{length, take, drop}
use Rattle.laws.specs.Bytes.{Bytes}
use Rattle.opus_defines.specs.declared.Rule.{Rule}
use Rattle.opus_defines.specs.declared.Refusal.{Refusal}
use Rattle.opus_defines.specs.declared.Refusal.TheVariants.{BadArg}
use Rattle.opus_toc.specs.Toc.{upper_six}
use Rattle.opus_format.specs.Frames.{cut}
use Rattle.opus_format.specs.Format.{Spells}
use Rattle.opus_format.specs.Reading.{refused, accepted, read}
use Rattle.opus_format.specs.Dirt.{dirty_packet}
use Rattle.opus_header.specs.Compact.{compact}
use Rattle.packet_judge.specs.Judging.{judged}
use Rattle.packet_judge.specs.Least.{Least}
use Rattle.packet_judge.specs.declared.Judged.TheVariants.{Refused, Unreadable, Dirty, Longer, Clean}
use Rattle.packet_judge.proofs.Verdicts.{judged_long, long_only, unreadable_only, unreadable-said, dirty_only, dirty-said}
use Rattle.packet_judge.proofs.Within.{unreadable-within, longer_within}
use Rattle.packet_judge.proofs.Taken.{longer_told, shorter_said, clean_told, compact-said, behind-same}

module _ (sd : Bool) (p : List ℕ) where
  -- 1. What is refused is longer than 65,535 bytes, and by -1,
  pub refused_exactly : ((c : Refusal) → judged sd p ≡ Refused c → (c ≡ BadArg) × (65535 < length p))
      × (65535 < length p → judged sd p ≡ Refused BadArg)
  refused_exactly = (long_only sd p, judged_long sd p)

  module _ (short : length p ≤ 65535) where
    -- and any other packet is unreadable exactly where the reader refuses it, by the same rule and at the same place.
    pub unreadable_exactly : (rule : Rule) (place : ℕ)
        → (judged sd p ≡ Unreadable rule place → read sd p ≡ refused rule place)
        × (read sd p ≡ refused rule place → judged sd p ≡ Unreadable rule place)
    unreadable_exactly rule place = (unreadable_only sd p short rule place, unreadable-said sd p short rule place)

    -- 2. It is dirty exactly where a strict add calls its padding dirty.
    pub dirty_exactly : (judged sd p ≡ Dirty → dirty_packet sd p ≡ true) × (dirty_packet sd p ≡ true → judged sd p ≡ Dirty)
    dirty_exactly = (dirty_only sd p short, dirty-said sd p short)

    -- A place is within the packet or its end, and a least length is less than the packet's.
    pub numbers_are_within : Bytes p
        → ((rule : Rule) (place : ℕ) → judged sd p ≡ Unreadable rule place → place ≤ length p)
        × ((n : ℕ) → judged sd p ≡ Longer n → n < length p)
    numbers_are_within bytes = (unreadable-within sd p short, longer_within sd p short bytes)

-- a packet that the reader accepts
module _ (sd : Bool) (p : List ℕ) (toc : ℕ) (ns : List ℕ) (first taken : ℕ) (bytes : Bytes p) (short : length p ≤ 65535)
    (r : read sd p ≡ accepted toc ns first taken) where
  abbrev six : ℕ
  six = upper_six toc

  abbrev frames : List (List ℕ)
  frames = cut ns (drop first p)

  -- 3. Where its padding is clean, it is longer than needed exactly where a packet of RFC 6716 with the same frames and upper six TOC bits is shorter
  -- than the bytes that it takes, and the length that is said is the least there is.
  pub longer-exactly :
      ((n : ℕ) → judged sd p ≡ Longer n → (dirty_packet sd p ≡ false) × (n < taken) × Least sd six frames n)
      × (dirty_packet sd p ≡ false → (q : List ℕ) → Spells sd six q frames → length q < taken
      → (n : ℕ) × (judged sd p ≡ Longer n) × Least sd six frames n)
  longer-exactly = (longer_told sd p toc ns first taken bytes r short, shorter_said sd p toc ns first taken bytes r short)

  -- 4. It is clean exactly where the bytes that it takes are the compact packet of its frames.
  pub clean_is_compact : (judged sd p ≡ Clean → take taken p ≡ compact sd six frames)
      × (take taken p ≡ compact sd six frames → judged sd p ≡ Clean)
  clean_is_compact = (clean_told sd p toc ns first taken bytes r short, compact-said sd p toc ns first taken bytes r short)

-- 5. What stands behind a self-delimited packet is no part of it.
pub behind_is_no_part : (p : List ℕ) (toc : ℕ) (ns : List ℕ) (first taken : ℕ) → Bytes p → length p ≤ 65535
    → read true p ≡ accepted toc ns first taken → (rest : List ℕ) → length (take taken p ++ rest) ≤ 65535
    → judged true (take taken p ++ rest) ≡ judged true p
behind_is_no_part = behind-same
