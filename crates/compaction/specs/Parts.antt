-- What the functions of compaction that are not public do; their contracts cite these.
use Rattle.std.specs.Prelude.{ℕ, suc, ◌+◌, ◌-◌, ◌/◌, ◌%◌, ◌≡◌, List, [], ◌∷◌, cond, leb, length, get_or, drop}
use Rattle.opus_defines.specs.Bounds.{most_packet}
use Rattle.capture.specs.Records.{Entry, head_bytes, written}
use Rattle.capture.specs.Finding.{packet_length, packet_at}
use Rattle.spelling.specs.Spelling.{shorter}
use Rattle.compaction.specs.declared.Share.{Share}
use Rattle.compaction.specs.Account.{rewritten}

-- the head of a record of this line with a packet of n bytes
abbrev pub head_of : ℕ → ℕ → List ℕ
head_of line n = 0x4B ∷ 0x9D ∷ line ∷ (n / 256) ∷ (n % 256) ∷ []

-- the record that stands at a place
abbrev pub entry_at : List ℕ → ℕ → Entry
entry_at s at = record { line = get_or s (at + 2) 0; packet = packet_at s at }

-- what is put of a record, with so many bytes left: all of it, rewritten, or nothing
unfoldable pub put_of : ℕ → Entry → List ℕ
put_of left e = cond (leb (length (written (rewritten e))) left) (written (rewritten e)) []

-- from `at` to `end` stand so many records whose packets stay as they are, one right behind another
pub data Runs (s : List ℕ) (at : ℕ) : ℕ → ℕ → Type 0 where
  none : Runs s at at 0
  more : {end count : ℕ} → Runs s at end count → (packet_length (drop end s) ≡ 0 → ⊥) → shorter (packet_at s end) most_packet ≡ packet_at s end
      → Runs s at (end + head_bytes + packet_length (drop end s)) (suc count)

-- the answer of a share that stops at a place: what was read from the start on was written, reclaimed or passed over
abbrev pub stops_at : ℕ → ℕ → ℕ → ℕ → ℕ → Share
stops_at start place records written passed =
    record {
      resume = place;
      records = records;
      written = written;
      reclaimed = place - start - written - passed;
      passed = passed;
    }
