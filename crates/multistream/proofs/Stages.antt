-- Padding by stages and unpadding again, for a readable multistream packet in the first bytes of a buffer (document 02, M-112).
--     pad_stages      pad to n and then to m leaves what pad to m leaves
--     unpad_again     unpad of what unpad left changes nothing
-- Assumes nothing.
use Prim.Native.Nat.{ℕ, suc, ◌≤◌, ◌<◌}
use native.Mathlib.Omega.{arith}
use mathlib.Core.Path.{◌≡◌, sym, ap, ◌∙◌}
use mathlib.Core.List.{List, [], ◌∷◌}
use lib.Dec.{eqb}
use lib.IntN.{pos}
use lib.ListN.{length, take}
use lib.Seq.{sets, length-sets, length-take-le}
use borrow.Author.Tests.{eqb-true, eqb-false}
use Rattle.laws.specs.Bytes.{Bytes}
use Rattle.laws.proofs.Bytes.{bytes_nil, bytes_take}
use Rattle.laws.proofs.Never.{by_test}
use Rattle.blocks.proofs.Sets.{take-sets}
use Rattle.opus_defines.specs.Outcome.{leaves}
use Rattle.packet_pad.specs.Pad.{pads_to}
use Rattle.packet_pad.proofs.Given.{lengths_own, lengths-equal}
use Rattle.packet_pad.proofs.Stages.{laid_over}
use Rattle.multistream.specs.Pad.{pad_streams, streams_padded}
use Rattle.multistream.specs.Unpad.{streams_unpadded}
use Rattle.multistream.specs.Reading.{Stream, streams, read_streams, compact_streams}
use Rattle.multistream.proofs.Calls.{pad_same, pad_more}
use Rattle.multistream.proofs.Holding.{readable_some, compact_holds}
use Rattle.multistream.proofs.Written.{count, compact-within, unpad_compact, readable_some_bytes, pad_equal}
use Rattle.multistream.proofs.Written.{refill, refill_size, refill_again, pad_refills}

-- what holds streams has a byte
holds_some : (k : ℕ) (xs : List Stream) (p : List ℕ) → read_streams k p ≡ streams xs → 1 ≤ length p
holds_some k xs [] e = readable_some k [] bytes_nil xs e
holds_some k xs (a ∷ p) e = omega arith

module _ (s : List ℕ) (bytes : Bytes s) (len : ℕ) (fits : len ≤ length s) (most : len ≤ 65535) (k : ℕ) (few : suc k ≤ 255) (xs : List Stream)
    (r : read_streams k (take len s) ≡ streams xs) where
  -- ---- pad
  abbrev filled : ℕ → List ℕ
  filled n = refill s bytes len fits most k few xs r n

  filled-size : (n : ℕ) → len ≤ n → length (filled n) ≡ n
  filled-size = refill_size s bytes len fits most k few xs r

  module _ (n : ℕ) (more : len < n) (m : ℕ) (room : m ≤ length s) (short : m ≤ 65535) where
    pad_further : n < m → streams_padded (sets s 0 (filled n)) (pos n) (pos m) (pos (suc k)) ≡ pads_to (filled m) s
    pad_further on =
        let size = filled-size n (omega arith) in
        let back : take n (sets s 0 (filled n)) ≡ filled n = rw size at (take-sets s (filled n) (omega (arith, size))) in
        let given = lengths_own (sets s 0 (filled n)) n m (omega arith) on (omega (arith, length-sets s 0 (filled n))) short in
        let pads = ap (λ q. pad_streams (suc k) q m) back ∙ refill_again s bytes len fits most k few xs r n m in
        pad_more (sets s 0 (filled n)) (pos n) (pos m) (pos (suc k)) (suc k) (count k few) (λ z. omega arith) n m given
        ∙ (ap (leaves (sets s 0 (filled n))) pads ∙ laid_over 0 s (filled n) (filled m) (omega (arith, size, filled-size m (omega arith))))

    pad_no_further : n ≡ m → streams_padded (sets s 0 (filled n)) (pos n) (pos m) (pos (suc k)) ≡ pads_to (filled m) s
    pad_no_further e =
        let given = lengths-equal (sets s 0 (filled n)) n (omega arith) (omega (arith, length-sets s 0 (filled n))) (omega arith) in
        rw (← e) (pad_same (sets s 0 (filled n)) (pos n) (pos n) (pos (suc k)) (suc k) (count k few) (λ z. omega arith) given)

    pad_on : n ≤ m → streams_padded (sets s 0 (filled n)) (pos n) (pos m) (pos (suc k)) ≡ pads_to (filled m) s
    pad_on on = by_test (eqb n m) (λ e. pad_no_further (eqb-true n m e)) (λ e. pad_further (omega (arith, eqb-false n m e)))

  pub pad_stages : (n m : ℕ) → len ≤ n → n ≤ m → m ≤ length s → m ≤ 65535
      → let after = (streams_padded s (pos len) (pos n) (pos (suc k))).bytes in
      streams_padded after (pos n) (pos m) (pos (suc k)) ≡ streams_padded s (pos len) (pos m) (pos (suc k))
  pad_stages n m more on room short =
      by_test (eqb len n)
      (λ e. rw (← eqb-true len n e, pad_equal s bytes len fits most k few xs r))
      (λ e.
      let less : len < n = omega (arith, eqb-false len n e) in
      rw (pad_refills s bytes len fits most k few xs r n less (omega arith) (omega arith))
      (pad_on n less m room short on ∙ sym (pad_refills s bytes len fits most k few xs r m (omega arith) room short)))

  -- ---- unpad
  pub unpad_again : let once = streams_unpadded s (pos len) (pos (suc k)) in streams_unpadded once.bytes once.report.number (pos (suc k)) ≡ once
  unpad_again =
      let c = compact_streams k xs in
      let p = take len s in
      let holds = compact_holds k p (bytes_take len s bytes) xs r in
      let least : length c ≤ len = omega (arith, compact-within k p (bytes_take len s bytes) xs r, length-take-le len s fits) in
      let back : take (length c) (sets s 0 c) ≡ c = take-sets s c (omega arith) in
      let some = holds_some k xs c holds in
      rw (unpad_compact s len (readable_some_bytes s bytes len fits most k few xs r) fits most k few xs r)
      (unpad_compact (sets s 0 c) (length c) some (omega (arith, length-sets s 0 c)) (omega arith) k few xs (rw back holds)
      ∙ laid_over (length c) s c c (omega arith))
