-- A packet rebuilt in compact form, in either delimiting: a packet of RFC 6716 with the same frames, and never longer than it was.
--     spelled_some     a packet has a byte
--     compact_of_lem       the compact packet of its frames is one
--     never_longer     and is no longer than it
--     rebuilds         what the reader accepts rebuilds to between 1 byte and the bytes it took
-- Assumes nothing.
use Prim.Native.Nat.{ℕ, ◌≤◌, ◌<◌}
use native.Mathlib.Omega.{arith}
use mathlib.Core.Path.{◌≡◌, ap}
use mathlib.Core.List.{List}
use mathlib.Core.Logic.{⊎_elim}
use mathlib.Core.Bool.{Bool}
use lib.ListN.{length, drop, length-append, length-map}
use lib.Seq.{length-take-le}
use Rattle.laws.specs.Bytes.{Bytes}
use Rattle.opus_toc.specs.Toc.{upper_six}
use Rattle.opus_format.specs.Frames.{cut}
use Rattle.opus_format.specs.Format.{Lasts, Spells}
use Rattle.opus_format.specs.Reading.{accepted, read}
use Rattle.opus_format.proofs.Facts.{layout_lasts, layout_headed}
use Rattle.opus_format.proofs.Sound.{read_spelled}
use Rattle.opus_header.specs.Compact.{compact}
use Rattle.opus_header.proofs.Shortest.{shortest}
use Rattle.opus_header.proofs.Spelled.{compact_spelled}

module _ {sd : Bool} {six : ℕ} {p : List ℕ} {frames : List (List ℕ)} (w : Spells sd six p frames) where
  pub spelled_lasts : Lasts six (length frames)
  spelled_lasts = rw (length-map frames length) at (layout_lasts w.layout)

  pub spelled_some : 1 ≤ length p
  spelled_some = rw (w.bytes, length-append) (omega (arith, layout_headed w.layout))

  pub compact_of_lem : Spells sd six (compact sd six frames) frames
  compact_of_lem = compact_spelled sd six frames spelled_lasts w.small

  pub never_longer : length (compact sd six frames) ≤ length p
  never_longer =
      ⊎_elim (λ (e : p ≡ compact sd six frames). omega (arith, ap length e)) (λ (h : length (compact sd six frames) < length p). omega arith) (shortest w)

module _ (sd : Bool) (p : List ℕ) (toc : ℕ) (ns : List ℕ) (first taken : ℕ) (bytes : Bytes p) (r : read sd p ≡ accepted toc ns first taken) where
  pub rebuilds : let q = compact sd (upper_six toc) (cut ns (drop first p)) in (1 ≤ length q) × (length q ≤ taken)
  rebuilds =
      let w = read_spelled sd p toc ns first taken bytes r in
      (spelled_some (compact_of_lem w.packet), omega (arith, never_longer w.packet, length-take-le taken p w.within))
