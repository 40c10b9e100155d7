-- Packets of which the first bytes tell that they stay as they are: each is the compact one, or cannot be read.
--     plain_stays       code 0 or 1
--     uneven_stays      code 2, by the first frame's length and the packet's
--     equal_stays       code 3 without padding, for three frames or more of one length
--     unequal_stays     the same for lengths of which the first two differ
-- Assumes nothing.
use Prim.Native.Nat.{ℕ, ◌+◌, ◌*◌, ◌<◌, ◌≤◌}
use native.Mathlib.Omega.{arith}
use mathlib.Core.Path.{◌≡◌, refl, sym, ap}
use mathlib.Core.List.{List, [], ◌∷◌, ◌++◌, append-nil, append_assoc}
use mathlib.Core.Bool.{false}
use lib.Dec.{ltb}
use lib.ListN.{length, get_or, drop, replicate, length-append, length-replicate}
use borrow.Author.Tests.{ltb-true, ltb-false, le-ltb, ne_eqb}
use Rattle.laws.specs.Bytes.{Bytes}
use Rattle.laws.proofs.Never.{by_test}
use Rattle.opus_defines.specs.Rules.{rule_refusal}
use Rattle.opus_size.specs.Size.{length_field, length_fields}
use Rattle.opus_size.proofs.Fields.{short, two_bytes}
use Rattle.opus_toc.specs.Toc.{code, upper_six}
use Rattle.opus_format.specs.Frames.{lengths, joined, cut, total}
use Rattle.opus_format.specs.Format.{unpadded, padded, Layout, code0, code1, code2, code3equal, code3unequal, Spells}
use Rattle.opus_format.proofs.Frames.{total-lengths}
use Rattle.opus_format.proofs.Counts.{lasts_few}
use Rattle.opus_format.proofs.Complete.{layout_toc}
use Rattle.opus_header.specs.Header.{same, firsts, compact_header}
use Rattle.opus_header.specs.Compact.{compact}
use Rattle.opus_header.proofs.Plain.{plain_least}
use Rattle.opus_header.proofs.Lengths.{firsts_snoc}
use Rattle.opus_header.proofs.Shortest.{length-header}
use Rattle.opus_header.proofs.Forms.{compact-size}
use Rattle.packet_pad.proofs.Spelled.{read_whole}
use Rattle.packet_pad.proofs.Unpadding.{by_unpad}
use Rattle.spelling.specs.Spelling.{shorter}
use Rattle.spelling.proofs.Choice.{unread_original, no_shorter, handed_original}

-- a packet that is no longer than the compact one of its frames, if it can be read
kept : (p : List ℕ) (room : ℕ) → Bytes p
    → ((six : ℕ) (frames : List (List ℕ)) → Spells false six p frames → length p ≤ length (compact false six frames)) → shorter p room ≡ p
kept p room bytes least =
    handed_original p room
    (by_unpad p (λ rule place r u. unread_original p room (rule_refusal rule place) u)
    (λ toc ns first taken r u.
    let frames = cut ns (drop first p) in
    no_shorter p room (compact false (upper_six toc) frames) u (least (upper_six toc) frames (read_whole p toc ns first taken bytes r))))

-- a header that is no longer than the compact one, and no padding
abbrev Tight : ℕ → List ℕ → List ℕ → ℕ → Type 0
Tight six head ns pad = (length head ≤ length (compact_header false six ns)) × (pad ≡ 0)

tight_least : {six : ℕ} {p : List ℕ} {frames : List (List ℕ)} (w : Spells false six p frames)
    → Tight six w.head (lengths frames) (length w.padding) → length p ≤ length (compact false six frames)
tight_least {six} {p} {frames} w t =
    let behind = joined frames ++ w.padding in
    omega (
      arith,
      t,
      compact-size false six frames,
      ap length w.bytes,
      length-append w.head behind,
      length-append (joined frames) w.padding,
    )

-- ---- the first byte of a length field
short_field : (n : ℕ) (s : List ℕ) → get_or (length_field n ++ s) 0 0 < 252 → n < 252
short_field n s h =
    by_test (ltb n 252) (λ t. ltb-true n 252 t) (λ t. absurd (omega (arith, rw (two_bytes n (ltb-false n 252 t)) at h)))

-- ---- by the header, with the bytes u behind it
layout_uneven : {six : ℕ} {head ns : List ℕ} {pad : ℕ} → Layout false six head ns pad → (u : List ℕ) → code (get_or head 0 0) ≡ 2
    → get_or (head ++ u) 1 0 < 252 → (2 + 2 * get_or (head ++ u) 1 0 ≡ length head + (total ns + pad) → ⊥) → Tight six head ns pad
layout_uneven (code0 n) u c h f = absurd (omega arith)
layout_uneven (code1 n) u c h f = absurd (omega arith)
layout_uneven (code2 m n) u c h f =
    let field : get_or ((length_field m ++ []) ++ u) 0 0 < 252 = h in
    let k : m < 252 = short_field m u (rw append-nil at field) in
    let differ : same (m ∷ n ∷ []) ≡ false = rw (ne_eqb n m (λ i. f (simp (short m k) (omega arith)))) in
    (rw (length-header, differ) (omega arith), refl)
layout_uneven (code3equal count n l d) u c h f = absurd (omega arith)
layout_uneven (code3unequal ns n l d) u c h f = absurd (omega arith)

layout_equal : {six : ℕ} {head ns : List ℕ} {pad : ℕ} → Layout false six head ns pad → (u : List ℕ) → code (get_or head 0 0) ≡ 3
    → 3 ≤ get_or (head ++ u) 1 0 → get_or (head ++ u) 1 0 ≤ 48 → Tight six head ns pad
layout_equal (code0 n) u c h k = absurd (omega arith)
layout_equal (code1 n) u c h k = absurd (omega arith)
layout_equal (code2 m n) u c h k = absurd (omega arith)
layout_equal (code3equal count n l unpadded) u c h k =
    let many : ltb (length (replicate count n)) 3 ≡ false = le-ltb (length (replicate count n)) 3 (omega (arith, length-replicate count n)) in
    (rw (many, length-header) (omega arith), refl)
layout_equal (code3equal count n l (padded more last d)) u c h k = absurd (omega (arith, lasts_few l))
layout_equal (code3unequal ns n l d) u c h k = absurd (omega arith)

layout_unequal : {six : ℕ} {head ns : List ℕ} {pad : ℕ} → Layout false six head ns pad → (u : List ℕ) → code (get_or head 0 0) ≡ 3
    → 131 ≤ get_or (head ++ u) 1 0 → get_or (head ++ u) 1 0 ≤ 176 → get_or (head ++ u) 2 0 < 252
    → (get_or (head ++ u) 2 0 ≡ get_or (head ++ u) 3 0 → ⊥) → Tight six head ns pad
layout_unequal (code0 n) u c h k s f = absurd (omega arith)
layout_unequal (code1 n) u c h k s f = absurd (omega arith)
layout_unequal (code2 m n) u c h k s f = absurd (omega arith)
layout_unequal (code3equal count n l unpadded) u c h k s f = absurd (omega (arith, lasts_few l))
layout_unequal (code3equal count n l (padded more last d)) u c h k s f = absurd (omega (arith, lasts_few l))
layout_unequal (code3unequal ns n l (padded more last d)) u c h k s f = absurd (omega arith)
layout_unequal (code3unequal [] n l unpadded) u c h k s f = absurd (omega arith)
layout_unequal (code3unequal (m ∷ []) n l unpadded) u c h k s f = absurd (omega arith)
layout_unequal (code3unequal (m ∷ j ∷ ms) n l unpadded) u c h k s f =
    let ns = m ∷ j ∷ (ms ++ (n ∷ [])) in
    let first : m < 252 = short_field m (length_field j ++ (length_fields ms ++ u)) (simp (append-nil, append_assoc) at s) in
    let differ : same ns ≡ false =
    rw (ne_eqb j m (λ i. f (simp (short m first, short j (omega arith)) (sym i)))) in
    let many : ltb (length ns) 3 ≡ false = le-ltb (length ns) 3 (omega (arith, length-append ms (n ∷ []))) in
    let all : length (length_fields (firsts ns)) ≡ length (length_fields (m ∷ j ∷ ms)) =
    ap (λ l. length (length_fields l)) (firsts_snoc (m ∷ j ∷ ms) n) in
    (rw (many, length-header, differ) (omega (arith, all, length-append (length_fields (m ∷ j ∷ ms)) [])), refl)

-- ---- by the packet's bytes
module _ (p : List ℕ) (room : ℕ) (bytes : Bytes p) where
  pub plain_stays : code (get_or p 0 0) < 2 → shorter p room ≡ p
  plain_stays c = kept p room bytes (λ six frames w. plain_least w c)

  pub uneven_stays : code (get_or p 0 0) ≡ 2 → get_or p 1 0 < 252 → (2 + 2 * get_or p 1 0 ≡ length p → ⊥) → shorter p room ≡ p
  uneven_stays c h f =
      kept p room bytes
      (λ six frames w.
      let u = joined frames ++ w.padding in
      let long : length p ≡ length w.head + (total (lengths frames) + length w.padding) =
      omega (arith, ap length w.bytes, length-append w.head u, length-append (joined frames) w.padding, total-lengths frames) in
      tight_least w (layout_uneven w.layout u (rw (w.bytes, (layout_toc w.layout u).0) at c) (rw w.bytes at h) (rw (← w.bytes, ← long) f)))

  pub equal_stays : code (get_or p 0 0) ≡ 3 → 3 ≤ get_or p 1 0 → get_or p 1 0 ≤ 48 → shorter p room ≡ p
  equal_stays c h k =
      kept p room bytes
      (λ six frames w.
      let u = joined frames ++ w.padding in
      tight_least w (layout_equal w.layout u (rw (w.bytes, (layout_toc w.layout u).0) at c) (rw w.bytes at h) (rw w.bytes at k)))

  pub unequal_stays : code (get_or p 0 0) ≡ 3 → 131 ≤ get_or p 1 0 → get_or p 1 0 ≤ 176 → get_or p 2 0 < 252 → (get_or p 2 0 ≡ get_or p 3 0 → ⊥)
      → shorter p room ≡ p
  unequal_stays c h k s f =
      kept p room bytes
      (λ six frames w.
      let u = joined frames ++ w.padding in
      tight_least w
      (layout_unequal w.layout u (rw (w.bytes, (layout_toc w.layout u).0) at c) (rw w.bytes at h) (rw w.bytes at k) (rw w.bytes at s)
      (rw w.bytes at f)))
