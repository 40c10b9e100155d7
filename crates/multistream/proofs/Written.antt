-- What pad and unpad write for a readable multistream packet.
--     refilled           the packet with its last stream filled up: what pad of it writes,
--     pad_again          also where its last stream was filled up before
--     compact-within     their compact packets are no longer than any packet that holds them
--     unpad_compact      unpad of the packet in the first bytes of a buffer: their compact packets
--     pad_refills        pad of it: the packet with its last stream filled up,
--     pad_holds          which holds the same streams
--     pad_equal          pad to its own length: what was there
--     pad_unpad          pad, then unpad: their compact packets
-- Assumes nothing.
use Prim.Native.Nat.{ℕ, suc, ◌-◌, ◌≤◌, ◌<◌}
use native.Mathlib.Omega.{arith}
use mathlib.Core.Path.{◌≡◌, refl, sym, ap, ◌∙◌}
use mathlib.Core.List.{List, [], ◌++◌, append-nil}
use mathlib.Core.Bool.{false}
use lib.IntN.{pos}
use lib.ListN.{length, take, drop, length-append, length-drop, take-append-drop}
use lib.Seq.{sets, length-sets, length-take-le, take-append_seam, drop-append_seam}
use borrow.Author.Tests.{ne_eqb}
use Rattle.laws.specs.Bytes.{Bytes}
use Rattle.laws.proofs.Bytes.{bytes_drop, bytes_take}
use Rattle.opus_defines.specs.Outcome.{wrote, leaves, writes}
use Rattle.blocks.proofs.Sets.{take-sets}
use Rattle.opus_format.specs.Format.{Spells}
use Rattle.opus_header.specs.Compact.{filling}
use Rattle.opus_header.proofs.Filling.{filling-length}
use Rattle.opus_header.proofs.Rebuilt.{spelled_some, never_longer}
use Rattle.packet_pad.specs.Pad.{pads_to}
use Rattle.packet_pad.proofs.Given.{length_own, lengths_own, lengths-equal}
use Rattle.packet_pad.proofs.Spelled.{read_whole, filling_of, pads}
use Rattle.multistream.specs.Streams.{streams_of}
use Rattle.multistream.specs.Pad.{pad_streams, streams_padded}
use Rattle.multistream.specs.Unpad.{unpad_streams, streams_unpadded}
use Rattle.multistream.specs.Reading.{Stream, Streams, streams, read_streams, compact_streams}
use Rattle.multistream.proofs.Bounds.{pass_within, packed-within}
use Rattle.multistream.proofs.Counted.{streams_some}
use Rattle.multistream.proofs.Calls.{pad_last_lem, pad_same, pad_more, unpad_some}
use Rattle.multistream.proofs.Holding.{Held, held, frames, six, exchanged, readable_some, repack_compact, LastOf, last_of}

-- ---- a packet p of k + 1 streams
module _ (k : ℕ) (p : List ℕ) (bytes : Bytes p) (xs : List Stream) (r : read_streams k p ≡ streams xs) where
  others : suc k - 1 ≡ k
  others = omega arith

  -- the last stream
  pub last : LastOf k p xs
  last = last_of k p bytes xs r

  inside : last.at ≤ length p
  inside = pass_within k p last.at bytes last.passed

  front-size : length (take last.at p) ≡ last.at
  front-size = length-take-le last.at p inside

  abbrev pub none : List ℕ → Streams
  none t = streams []

  abbrev pub packet : List ℕ
  packet = drop last.at p

  pub packet_bytes : Bytes packet
  packet_bytes = bytes_drop last.at p bytes

  pub found : Held false none packet last.last
  found = held false none packet last.last last.reads

  abbrev pub its_six : ℕ
  its_six = six false none packet packet_bytes last.last found

  abbrev pub its_frames : List (List ℕ)
  its_frames = frames false none packet packet_bytes last.last found

  spelled : Spells false its_six packet its_frames
  spelled = read_whole packet found.toc found.ns found.first found.taken packet_bytes found.means

  -- the last stream filled up, and the streams before it in front of it
  abbrev pub filled : ℕ → List ℕ
  filled new = filling false its_six its_frames (new - last.at)

  abbrev pub refilled : ℕ → List ℕ
  refilled new = take last.at p ++ filled new

  filled_reads : (new : ℕ) → read_streams 0 (filled new) ≡ streams last.last
  filled_reads new =
      rw (append-nil (filled new)) at
      (exchanged false none packet packet_bytes last.last found (filling_of spelled (new - last.at)) [] refl found.rest)

  refilled_size : (new : ℕ) → length p ≤ new → length (refilled new) ≡ new
  refilled_size new more =
      let size = filling-length false its_six its_frames (new - last.at) (omega (arith, never_longer spelled, length-drop last.at p, inside)) in
      omega (arith, length-append (take last.at p) (filled new), front-size, size, inside)

  -- whatever packet of its frames stands in the last stream's place, pad writes the same
  pad_exchanged : (v : List ℕ) → Spells false its_six v its_frames → (new : ℕ)
      → pad_streams (suc k) (take last.at p ++ v) new ≡ wrote 0 (refilled new)
  pad_exchanged v w new =
      let at = last.at in
      let q = take at p ++ v in
      let front : take at q ≡ take at p = rw front-size at (take-append_seam (take at p) v) in
      let back : drop at q ≡ v = rw front-size at (drop-append_seam (take at p) v) in
      let left : length q - at ≡ 0 → ⊥ = λ z. omega (arith, spelled_some w, length-append (take at p) v, front-size) in
      pad_last_lem q (suc k) new at (rw others (last.stays v)) ∙ rw (ne_eqb (length q - at) 0 left, front, back, pads w (new - at))

  pad_writes : (new : ℕ) → pad_streams (suc k) p new ≡ wrote 0 (refilled new)
  pad_writes new = rw (take-append-drop last.at p) at (pad_exchanged packet spelled new)

  -- padding what was padded
  pad_again : (n m : ℕ) → pad_streams (suc k) (refilled n) m ≡ wrote 0 (refilled m)
  pad_again n m = pad_exchanged (filled n) (filling_of spelled (n - last.at)) m

  refilled_holds : (new : ℕ) → read_streams k (refilled new) ≡ streams xs
  refilled_holds new = last.keeps (filled new) (filled_reads new)

pub compact-within : (k : ℕ) (p : List ℕ) → Bytes p → (xs : List Stream) → read_streams k p ≡ streams xs
    → length (compact_streams k xs) ≤ length p
compact-within k p bytes xs r = rw (repack_compact k p xs r) at (packed-within k p bytes)

-- ---- the packet in the first len bytes of a buffer
pub count : (k : ℕ) → suc k ≤ 255 → streams_of (pos (suc k)) ≡ suc k
count k few = sym (streams_some (pos (suc k)) (suc k) refl few)

pub unpad_compact : (s : List ℕ) (len : ℕ) → 1 ≤ len → len ≤ length s → len ≤ 65535 → (k : ℕ) → suc k ≤ 255 → (xs : List Stream)
    → read_streams k (take len s) ≡ streams xs → streams_unpadded s (pos len) (pos (suc k)) ≡ writes (compact_streams k xs) s
unfolding unpad_streams
unpad_compact s len some fits most k few xs r =
    let others : suc k - 1 ≡ k = omega arith in
    unpad_some s (pos len) (pos (suc k)) (suc k) (count k few) (λ z. omega arith) len (length_own s len fits most) (λ z. omega (arith, some))
    ∙ rw (others, repack_compact k (take len s) xs r)

module _ (s : List ℕ) (bytes : Bytes s) (len : ℕ) (fits : len ≤ length s) (most : len ≤ 65535) (k : ℕ) (few : suc k ≤ 255) (xs : List Stream)
    (r : read_streams k (take len s) ≡ streams xs) where
  pub all_bytes : Bytes (take len s)
  all_bytes = bytes_take len s bytes

  long : length (take len s) ≡ len
  long = length-take-le len s fits

  pub readable_some_bytes : 1 ≤ len
  readable_some_bytes = omega (arith, long, readable_some k (take len s) all_bytes xs r)

  pub pad_equal : (streams_padded s (pos len) (pos len) (pos (suc k))).bytes ≡ s
  pad_equal =
      rw (pad_same s (pos len) (pos len) (pos (suc k)) (suc k) (count k few) (λ z. omega arith) (lengths-equal s len readable_some_bytes fits most))

  -- the packet of so many bytes that pad writes
  abbrev pub refill : ℕ → List ℕ
  refill new = refilled k (take len s) all_bytes xs r new

  pub refill_size : (new : ℕ) → len ≤ new → length (refill new) ≡ new
  refill_size new more = refilled_size k (take len s) all_bytes xs r new (omega (arith, long))

  pub refill_again : (n m : ℕ) → pad_streams (suc k) (refill n) m ≡ wrote 0 (refill m)
  refill_again = pad_again k (take len s) all_bytes xs r

  module _ (new : ℕ) (more : len < new) (room : new ≤ length s) (short : new ≤ 65535) where
    pub pad_refills : streams_padded s (pos len) (pos new) (pos (suc k)) ≡ pads_to (refill new) s
    pad_refills =
        let given = lengths_own s len new readable_some_bytes more room short in
        pad_more s (pos len) (pos new) (pos (suc k)) (suc k) (count k few) (λ z. omega arith) len new given
        ∙ ap (leaves s) (pad_writes k (take len s) all_bytes xs r new)

    pub pad_holds : (q : List ℕ) × (streams_padded s (pos len) (pos new) (pos (suc k)) ≡ pads_to q s) × (read_streams k q ≡ streams xs)
        × (length q ≡ new)
    pad_holds = (refill new, pad_refills, refilled_holds k (take len s) all_bytes xs r new, refill_size new (omega arith))

    pub pad_unpad : let after = (streams_padded s (pos len) (pos new) (pos (suc k))).bytes in
        streams_unpadded after (pos new) (pos (suc k)) ≡ writes (compact_streams k xs) after
    pad_unpad =
        let h = pad_holds in
        let q = h.0 in
        let size = h.3 in
        let back : take new (sets s 0 q) ≡ q = rw size at (take-sets s q (omega (arith, size))) in
        rw h.1 (unpad_compact (sets s 0 q) new (omega arith) (omega (arith, length-sets s 0 q)) short k few xs (rw back h.2))
