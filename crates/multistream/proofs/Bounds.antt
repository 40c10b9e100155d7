-- What was read, within the bytes that it was read from.
--     taken_within         the bytes taken are there
--     compact-within       and the compact packet of the frames needs no more
--     by_within            the same by the parts that contracts cite
--     pass_within          the same of the first streams
--     packed-within        and of the compact packets of all streams
--     part-short           a part that is lent to the end is no longer than the whole
-- Assumes nothing.
use Prim.Native.Nat.{ℕ, zero, suc, ◌+◌, ◌-◌, ◌≤◌}
use native.Mathlib.Omega.{arith}
use mathlib.Core.Path.{◌≡◌, refl}
use mathlib.Core.List.{List, []}
use mathlib.Core.Bool.{Bool, true, false}
use lib.ListN.{length, take, drop, length-append, length-drop}
use borrow.Author.Rules.{part_to_end}
use Rattle.laws.specs.Bytes.{Bytes}
use Rattle.laws.proofs.Bytes.{bytes_drop}
use Rattle.laws.proofs.Never.{never}
use Rattle.opus_toc.specs.Toc.{upper_six}
use Rattle.opus_format.specs.Frames.{cut}
use Rattle.opus_format.specs.Reading.{Reading, refused, accepted, read}
use Rattle.opus_format.proofs.Facts.{facts}
use Rattle.opus_header.specs.Compact.{compact}
use Rattle.opus_header.proofs.Rebuilt.{rebuilds}
use Rattle.std.specs.Prelude.{Result, Ok, Err}
use Rattle.opus_defines.specs.declared.Refusal.{Refusal}
use Rattle.multistream.specs.Streams.{further, pass_streams}
use Rattle.multistream.specs.Unpad.{Repacked, unread, repacked, ahead, repack_reading, repack_streams}
use Rattle.multistream.specs.Parts.{compact_by, compact_of, taken_by, packed_of}

module _ (sd : Bool) (p : List ℕ) (toc : ℕ) (ns : List ℕ) (first taken : ℕ) (bytes : Bytes p) (r : read sd p ≡ accepted toc ns first taken) where
  pub taken_within : taken ≤ length p
  taken_within = (facts sd p toc ns first taken bytes r).within

  pub compact-within : length (compact sd (upper_six toc) (cut ns (drop first p))) ≤ taken
  compact-within = (rebuilds sd p toc ns first taken bytes r).1

by_reading : (sd : Bool) (p : List ℕ) → Bytes p → (x : Reading) → read sd p ≡ x → (length (compact_by sd p x) ≤ taken_by x)
    × (taken_by x ≤ length p)
by_reading sd p bytes (refused rule place) r = (omega arith, omega arith)
by_reading sd p bytes (accepted toc ns first taken) r =
    (compact-within sd p toc ns first taken bytes r, taken_within sd p toc ns first taken bytes r)

pub by_within : (sd : Bool) (p : List ℕ) → Bytes p → (length (compact_of sd p) ≤ taken_by (read sd p)) × (taken_by (read sd p) ≤ length p)
by_within sd p bytes = by_reading sd p bytes (read sd p) refl

pub part-short : (s : List ℕ) (at m : ℕ) → length s ≤ m → length (take (length s - at) (drop at s)) ≤ m
part-short s at m h = rw (part_to_end s at) (omega (arith, length-drop at s))

-- so many bytes further
further-within : (n m at : ℕ) (x : Result ℕ Refusal) → ((a : ℕ) → x ≡ Ok a → n + a ≤ m) → further n x ≡ Ok at → at ≤ m
further-within n m at (Ok a) h e =
    let same : n + a ≡ at = cc in
    omega (arith, h a refl)
further-within n m at (Err f) h e = never (cc)

pub pass_within : (k : ℕ) (p : List ℕ) (at : ℕ) → Bytes p → pass_streams k p ≡ Ok at → at ≤ length p
pass_within zero p at bytes e =
    let none : 0 ≡ at = cc in
    omega arith
pass_within (suc k) p at bytes e = go (λ n. pass_within k (drop n p)) (read true p) refl
  where
    go : ((n b : ℕ) → Bytes (drop n p) → pass_streams k (drop n p) ≡ Ok b → b ≤ length (drop n p)) → (x : Reading) → read true p ≡ x
        → at ≤ length p
    go next (refused rule place) q = never (let y = rw q at e in cc)
    go next (accepted toc ns first taken) q =
        further-within taken (length p) at (pass_streams k (drop taken p))
        (λ b f. omega (arith, next taken b (bytes_drop taken p bytes) f, length-drop taken p, taken_within true p toc ns first taken bytes q)) (rw q at e)

-- a stream and those behind it
ahead_within : (q : List ℕ) (x : Repacked) (n m : ℕ) → length q ≤ n → n + length (packed_of x) ≤ m → length (packed_of (ahead q n x)) ≤ m
ahead_within q (unread e) n m h l = omega arith
ahead_within q (repacked v) n m h l = omega (arith, length-append q v)

reading-within : (sd : Bool) (next : List ℕ → Repacked) (p : List ℕ) → Bytes p
    → ((n : ℕ) → length (packed_of (next (drop n p))) ≤ length (drop n p))
    → length (packed_of (repack_reading sd next p (read sd p))) ≤ length p
reading-within sd next p bytes h = go (read sd p) refl
  where
    go : (x : Reading) → read sd p ≡ x → length (packed_of (repack_reading sd next p x)) ≤ length p
    go (refused rule place) r = omega arith
    go (accepted toc ns first taken) r =
        let q = compact sd (upper_six toc) (cut ns (drop first p)) in
        let rest : taken + length (packed_of (next (drop taken p))) ≤ length p =
        omega (arith, h taken, length-drop taken p, taken_within sd p toc ns first taken bytes r) in
        ahead_within q (next (drop taken p)) taken (length p) (compact-within sd p toc ns first taken bytes r) rest

pub packed-within : (k : ℕ) (p : List ℕ) → Bytes p → length (packed_of (repack_streams k p)) ≤ length p
packed-within zero p bytes = reading-within false (λ t. repacked []) p bytes (λ n. omega arith)
packed-within (suc k) p bytes =
    reading-within true (repack_streams k) p bytes (λ n. packed-within k (drop n p) (bytes_drop n p bytes))
