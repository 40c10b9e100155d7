-- A packet that was read in the first bytes of a buffer: what is known of it (`Lies`, `lies`).
-- Assumes nothing.
use Prim.Native.Nat.{ℕ, ◌+◌, ◌≤◌}
use native.Mathlib.Omega.{arith}
use mathlib.Core.Path.{◌≡◌}
use mathlib.Core.List.{List}
use mathlib.Core.Bool.{Bool}
use lib.ListN.{length, take, drop}
use lib.Seq.{length-take-le}
use Rattle.laws.specs.Bytes.{Bytes}
use Rattle.laws.proofs.Bytes.{bytes_take}
use Rattle.std.specs.Prelude.{Ok}
use Rattle.opus_size.specs.Size.{most_bytes}
use Rattle.opus_toc.specs.Toc.{upper_six}
use Rattle.opus_format.specs.Frames.{cut, total, longest}
use Rattle.opus_format.specs.Reading.{accepted, read}
use Rattle.opus_format.proofs.Facts.{facts}
use Rattle.opus_format.proofs.Lengths.{cut-take}
use Rattle.opus_format.proofs.Sound.{read_spelled}
use Rattle.opus.specs.Answers.{parsed}
use Rattle.opus.specs.declared.Packet.{Packet}
use Rattle.opus.proofs.Parsed.{lengths_of, parsed_accepted}
use Rattle.opus_header.specs.Header.{compact_header}
use Rattle.opus_header.specs.Compact.{compact}
use Rattle.opus_header.proofs.Shortest.{header_shortest}
use Rattle.opus_header.proofs.Rebuilt.{rebuilds}

-- a packet that was read in the first `len` bytes of the buffer s, with the reader's answer r
pub record Lies (sd : Bool) (s : List ℕ) (len : ℕ) (r : Packet) : Type 0 where
  pub inside : r.count ≤ length r.lengths
  pub means : read sd (take len s) ≡ accepted r.toc (lengths_of r) r.first r.taken
  pub some : (1 ≤ length (lengths_of r)) × (length (lengths_of r) ≤ 48) × (longest (lengths_of r) ≤ most_bytes)
  pub within : r.first + total (lengths_of r) ≤ len
  -- the compact header is no longer than the one that was read
  pub short : length (compact_header sd (upper_six r.toc) (lengths_of r)) ≤ r.first
  pub frames : cut (lengths_of r) (drop r.first (take len s)) ≡ cut (lengths_of r) (drop r.first s)
  -- the compact packet is no longer than the one that was read
  pub least : length (compact sd (upper_six r.toc) (cut (lengths_of r) (drop r.first s))) ≤ len

pub lies : (sd : Bool) (s : List ℕ) (len : ℕ) (r : Packet) → Bytes s → len ≤ length s → Ok r ≡ parsed sd (take len s)
    → Lies sd s len r
lies sd s len r bytes h e =
    let p = take len s in
    let long : length p ≡ len = length-take-le len s h in
    let d = parsed_accepted sd p r e in
    let ns = lengths_of r in
    let f = facts sd p r.toc ns r.first r.taken (bytes_take len s bytes) d.means in
    let w = read_spelled sd p r.toc ns r.first r.taken (bytes_take len s bytes) d.means in
    let within : r.first + total ns ≤ len = omega (arith, f.block, f.within) in
    let frames : cut ns (drop r.first p) ≡ cut ns (drop r.first s) = cut-take ns r.first len s within h in
    record {
      inside = d.inside;
      means = d.means;
      some = (f.some, f.few, f.small);
      within = within;
      short = omega (arith, w.place, rw w.lengths_are at (header_shortest w.packet.layout));
      frames = frames;
      least = rw (← frames) (omega (arith, rebuilds sd p r.toc ns r.first r.taken (bytes_take len s bytes) d.means, f.within));
    }
