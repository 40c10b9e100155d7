-- The lines of the first i frames are put, and `place` is where frame i stands.
use Rattle.std.proofs.Common.{◌≡◌, ◌++◌, ◌+◌, take}
use Rattle.opus_format.specs.Frames.{total}
use Rattle.listing_text.specs.Listing.{frame_lines}
use Rattle.listing_text.proofs.put_frames.Given as goal

abbrev pub invariant-loop-i : goal.invariant-loop-i
invariant-loop-i g l = (l.text ≡ l.initial.text ++ frame_lines 0 l.first (take l.i l.ns)) × (l.place ≡ l.first + total (take l.i l.ns))
