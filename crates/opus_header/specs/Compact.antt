-- The packets that are written for frames: the compact one, and the one that fills a destination.
use Rattle.std.specs.Prelude.{ℕ, ◌-◌, List, ◌++◌, Bool, cond, ltb, length, replicate}
use Rattle.opus_format.specs.Frames.{lengths, joined}
use Rattle.opus_header.specs.Header.{pad_bytes, compact_header, full_header}

unfoldable pub compact : Bool → ℕ → List (List ℕ) → List ℕ
compact sd six frames = compact_header sd six (lengths frames) ++ joined frames

-- code 3 with n missing bytes: padding lengths in the header, zeros at the end
unfoldable pub full : Bool → ℕ → List (List ℕ) → ℕ → List ℕ
full sd six frames n = full_header sd six (lengths frames) n ++ (joined frames ++ replicate (pad_bytes n) 0)

-- the packet of m bytes: the compact one if it fills them, else code 3 and what is missing
unfoldable pub filling : Bool → ℕ → List (List ℕ) → ℕ → List ℕ
filling sd six frames m =
    cond (ltb (length (compact sd six frames)) m) (full sd six frames (m - length (full sd six frames 0))) (compact sd six frames)
