-- What is written is a packet of RFC 6716 with these frames and upper six TOC bits.
-- Assumes nothing.
use Prim.Native.Nat.{ℕ, suc, ◌≤◌}
use native.Mathlib.Omega.{arith}
use mathlib.Core.Path.{◌≡◌, refl, sym}
use mathlib.Core.List.{List, [], ◌∷◌, ◌++◌, append-nil}
use mathlib.Core.Bool.{Bool}
use lib.Dec.{eqb}
use lib.ListN.{length, replicate, length-replicate, length-map}
use borrow.Author.Tests.{eqb-true, le-ltb}
use Rattle.laws.proofs.Never.{by_test}
use Rattle.opus_size.specs.Size.{most_bytes, length_fields}
use Rattle.opus_toc.specs.Toc.{toc_byte}
use Rattle.opus_format.specs.Frames.{lengths, longest}
use Rattle.opus_format.specs.Format.{Lasts, Padding, Layout, code0, code1, code2, code3equal, code3unequal, Spells, count_byte, own_length}
use Rattle.opus_header.specs.Header.{same, firsts, last, pad_bytes, header, compact_header, full_header}
use Rattle.opus_header.specs.Compact.{compact, full}
use Rattle.opus_header.proofs.Lengths.{firsts_whole, firsts_count, same-replicate}
use Rattle.opus_header.proofs.Chain.{chain_padding}

-- code 3, with the lengths and their count as they are at hand
module _ (sd : Bool) (six : ℕ) {p : ℕ} {chain : List ℕ} {pad : ℕ} (ns : List ℕ) (k : Padding p chain pad) where
  equal_layout : (count n : ℕ) → replicate count n ≡ ns → Lasts six count
      → Layout sd six (toc_byte six 3 ∷ count_byte 0 p count ∷ (chain ++ own_length sd n)) ns pad
  equal_layout count n e l = rw (← e) (code3equal count n l k)

  unequal_layout : (count : ℕ) (ms : List ℕ) (n : ℕ) → suc (length ms) ≡ count → ms ++ (n ∷ []) ≡ ns → Lasts six count
      → Layout sd six (toc_byte six 3 ∷ count_byte 1 p count ∷ (chain ++ (length_fields ms ++ own_length sd n))) ns pad
  unequal_layout count ms n c e l = rw (← e, ← c) (code3unequal ms n (rw (← c) at l) k)

full_layout : (sd : Bool) (six : ℕ) (ns : List ℕ) (n : ℕ) → Lasts six (length ns) → Layout sd six (full_header sd six ns n) ns (pad_bytes n)
unfolding header
full_layout sd six ns n l =
    by_test (same ns)
    (λ e. rw e (equal_layout sd six ns (chain_padding n) (length ns) (last ns) (sym (same-replicate ns e)) l))
    (λ e. rw e (unequal_layout sd six ns (chain_padding n) (length ns) (firsts ns) (last ns) (firsts_count ns l.some) (firsts_whole ns l.some) l))

pub compact_layout : (sd : Bool) (six : ℕ) (ns : List ℕ) → Lasts six (length ns) → Layout sd six (compact_header sd six ns) ns 0
unfolding header
compact_layout sd six [] l = absurd (omega arith)
compact_layout sd six (n ∷ []) l = code0 n
compact_layout sd six (m ∷ n ∷ []) l =
    by_test (eqb n m)
    (λ e. rw (e, eqb-true n m e) (code1 m))
    (λ e. rw (e, append-nil) (code2 m n))
compact_layout sd six (k ∷ m ∷ n ∷ ns) l = rw (le-ltb (length (k ∷ m ∷ n ∷ ns)) 3 (omega arith)) (full_layout sd six (k ∷ m ∷ n ∷ ns) 0 l)

count_lengths : {six : ℕ} (frames : List (List ℕ)) → Lasts six (length frames) → Lasts six (length (lengths frames))
count_lengths frames l = rw (length-map frames length) l

pub compact_spelled : (sd : Bool) (six : ℕ) (frames : List (List ℕ)) → Lasts six (length frames) → longest (lengths frames) ≤ most_bytes
    → Spells sd six (compact sd six frames) frames
unfolding compact
compact_spelled sd six frames l s =
    record {
      head = compact_header sd six (lengths frames);
      padding = [];
      bytes = rw append-nil;
      layout = compact_layout sd six (lengths frames) (count_lengths frames l);
      small = s;
    }

-- it has no padding bytes
pub compact-unpadded : (sd : Bool) (six : ℕ) (frames : List (List ℕ)) (l : Lasts six (length frames)) (s : longest (lengths frames) ≤ most_bytes)
    → (compact_spelled sd six frames l s).padding ≡ []
unfolding compact_spelled
compact-unpadded sd six frames l s = refl

pub full_spelled : (sd : Bool) (six : ℕ) (frames : List (List ℕ)) (n : ℕ) → Lasts six (length frames) → longest (lengths frames) ≤ most_bytes
    → Spells sd six (full sd six frames n) frames
unfolding full
full_spelled sd six frames n l s =
    record {
      head = full_header sd six (lengths frames) n;
      padding = replicate (pad_bytes n) 0;
      bytes = refl;
      layout = rw length-replicate (full_layout sd six (lengths frames) n (count_lengths frames l));
      small = s;
    }

-- the padding bytes are zeros
pub full_zeros : (sd : Bool) (six : ℕ) (frames : List (List ℕ)) (n : ℕ) (l : Lasts six (length frames)) (s : longest (lengths frames) ≤ most_bytes)
    → (full_spelled sd six frames n l s).padding ≡ replicate (pad_bytes n) 0
unfolding full_spelled
full_zeros sd six frames n l s = refl
