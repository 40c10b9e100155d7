-- Ordinary packets of code 0, 1 or 2, judged by what was read of them without an array.
--     one_clean                     one frame
--     unequal_clean, equal-said     two frames; those of one length by the bytes that they need
-- Each with the least length.
-- Assumes nothing.
use Prim.Native.Nat.{ℕ, ◌+◌, ◌*◌, ◌≤◌}
use native.Mathlib.Omega.{arith}
use mathlib.Core.Path.{◌≡◌, refl, sym, ap, ◌∙◌}
use mathlib.Core.List.{List, [], ◌∷◌, ◌++◌}
use mathlib.Core.Bool.{true, false}
use lib.Dec.{eqb}
use lib.ListN.{length, get_or, take, drop, length-append, drop_of_length-le}
use lib.Seq.{length-take-le, get_or-take}
use borrow.Author.Tests.{eq-eqb, ne_eqb}
use Rattle.laws.specs.Bytes.{Bytes}
use Rattle.laws.proofs.Never.{never}
use Rattle.opus_toc.specs.Toc.{code, upper_six}
use Rattle.opus_format.specs.Frames.{joined, cut, total}
use Rattle.opus_format.specs.Format.{Layout, code0, code1, code2, code3equal, code3unequal}
use Rattle.opus_format.proofs.Frames.{total-lengths}
use Rattle.opus_format.proofs.Sound.{Spelled, read_spelled}
use Rattle.opus.specs.Answers.{short_at}
use Rattle.opus.specs.declared.Short.{Short}
use Rattle.opus.specs.declared.Short.TheVariants.{One, Two, Counted}
use Rattle.opus.proofs.AtShort.{ShortRead, one_read, two_read}
use Rattle.opus_header.specs.Header.{same, sizes}
use Rattle.opus_header.specs.Sums.{sums_of}
use Rattle.opus_header.specs.Forms.{compact_bytes}
use Rattle.opus_header.proofs.Standing.{compact_needs}
use Rattle.packet_judge.specs.Judging.{least_bytes, said, judge_read, judged, least_read, least_length}
use Rattle.packet_judge.specs.declared.Judged.{Judged}
use Rattle.packet_judge.specs.declared.Judged.TheVariants.{Clean}
use Rattle.packet_judge.proofs.Verdicts.{says_clean, judged-short, least_short}

-- the code is not 3
uncounted : (p : List ℕ) (r : Short) → r ≡ short_at false p → (r ≡ Counted → ⊥) → code (get_or p 0 0) ≡ 3 → ⊥
unfolding short_at
uncounted p r e n c = n (rw (e, eq-eqb (code (get_or p 0 0)) 3 c))

-- ---- such a packet has no padding, one frame takes no length field, and where two lengths differ there is but that of the first
module _ {six : ℕ} where
  unpadded : {head ns : List ℕ} {pad : ℕ} → Layout false six head ns pad → (code (get_or head 0 0) ≡ 3 → ⊥) → pad ≡ 0
  unpadded (code0 n) c = refl
  unpadded (code1 n) c = refl
  unpadded (code2 m n) c = refl
  unpadded (code3equal count n l d) c = absurd (c (omega arith))
  unpadded (code3unequal ns n l d) c = absurd (c (omega arith))

  single : {head ns : List ℕ} {pad : ℕ} → Layout false six head ns pad → (code (get_or head 0 0) ≡ 3 → ⊥) → length ns ≡ 1 → length head ≡ 1
  single (code0 n) c e = refl
  single (code1 n) c e = absurd (omega arith)
  single (code2 m n) c e = absurd (omega arith)
  single (code3equal count n l d) c e = absurd (c (omega arith))
  single (code3unequal ns n l d) c e = absurd (c (omega arith))

  differing : {head ns : List ℕ} {pad : ℕ} → Layout false six head ns pad → (code (get_or head 0 0) ≡ 3 → ⊥) → same ns ≡ false
      → length head ≡ 1 + length (sizes ns)
  differing (code0 n) c e = refl
  differing (code1 n) c e = never (let s = eq-eqb n n refl in cc)
  differing (code2 m n) c e = rw e (omega arith)
  differing (code3equal count n l d) c e = absurd (c (omega arith))
  differing (code3unequal ns n l d) c e = absurd (c (omega arith))

-- ---- a packet that was read so
module _ (p : List ℕ) (bytes : Bytes p) (c : code (get_or p 0 0) ≡ 3 → ⊥) (ns : List ℕ) (first : ℕ) (k : ShortRead p ns first) where
  spelled : Spelled false p (get_or p 0 0) ns first k.taken
  spelled = read_spelled false p (get_or p 0 0) ns first k.taken bytes k.means

  own_code : code (get_or spelled.packet.head 0 0) ≡ 3 → ⊥
  own_code = rw (spelled.header, get_or-take first p 0 0 (omega (arith, k.known.headed))) c

  -- its frames take all that is behind its header
  all_frames : length p ≡ first + total ns
  all_frames =
      let q = spelled.packet in
      let frames = cut ns (drop first p) in
      let sum : total ns ≡ length (joined frames) = sym (ap total spelled.lengths_are) ∙ total-lengths frames in
      omega (
        arith,
        k.whole,
        length-take-le k.taken p spelled.within,
        ap length q.bytes,
        length-append q.head (joined frames ++ q.padding),
        length-append (joined frames) q.padding,
        spelled.place,
        unpadded q.layout own_code,
      )

  abbrev least : ℕ
  least = compact_bytes (length ns) (sums_of ns) false

  least_is : least_bytes false p (get_or p 0 0) ns first ≡ least
  unfolding least_bytes
  least_is = compact_needs false (upper_six (get_or p 0 0)) ns p first (omega (arith, all_frames)) (sums_of ns) refl least refl

  least_length_lem : least_length false p ≡ least
  unfolding least_read
  least_length_lem = rw (least_short false p k.short, k.means) least_is

  -- so it is judged by the least length alone
  by_least : judged false p ≡ said false least (length p)
  unfolding judge_read
  by_least =
      let ends : length (take (length p) p) ≤ first + total ns = omega (arith, all_frames, length-take-le (length p) p (omega arith)) in
      let none : drop (first + total ns) (take (length p) p) ≡ [] = drop_of_length-le (take (length p) p) ends in
      rw (judged-short false p k.short, k.means, k.whole, none, least_is)

  -- clean, where that is all of it
  all-needed : least ≡ length p → (Clean ≡ judged false p) × (length p ≡ least_length false p)
  all-needed e = (sym (by_least ∙ says_clean false least (length p) refl (omega (arith, e))), sym (least_length_lem ∙ e))

  -- where its frames begin
  single_head : length ns ≡ 1 → first ≡ 1
  single_head e = spelled.place ∙ single spelled.packet.layout own_code (rw spelled.lengths_are e)

  differing_head : same ns ≡ false → first ≡ 1 + length (sizes ns)
  differing_head e = rw spelled.lengths_are at (spelled.place ∙ differing spelled.packet.layout own_code (rw spelled.lengths_are e))

-- ---- by what `short_at` answered
module _ (p : List ℕ) (bytes : Bytes p) (r : Short) (e : r ≡ short_at false p) where
  pub one_clean : (n first : ℕ) → r ≡ One n first → (Clean ≡ judged false p) × (length p ≡ least_length false p)
  unfolding sums_of
  one_clean n first a =
      let ns = n ∷ [] in
      let k = one_read p bytes r e n first a in
      let c = uncounted p r e (λ o. never (cc)) in
      let all = all_frames p bytes c ns first k in
      let front = single_head p bytes c ns first k refl in
      all-needed p bytes c ns first k (omega (arith, all, front))

  module _ (m n first : ℕ) (a : r ≡ Two m n first) where
    abbrev both : List ℕ
    both = m ∷ n ∷ []

    two : ShortRead p both first
    two = two_read p bytes r e m n first a

    coded : code (get_or p 0 0) ≡ 3 → ⊥
    coded = uncounted p r e (λ o. never (cc))

    pub unequal_clean : (m ≡ n → ⊥) → (Clean ≡ judged false p) × (length p ≡ least_length false p)
    unfolding sums_of
    unequal_clean u =
        let differ : same both ≡ false = rw (ne_eqb n m (λ i. u (sym i))) in
        let all = all_frames p bytes coded both first two in
        let front = differing_head p bytes coded both first two differ in
        all-needed p bytes coded both first two (omega (arith, all, front))

    pub equal-said : m ≡ n → {j : Judged} → j ≡ said false (1 + 2 * n) (length p) → (j ≡ judged false p) × (1 + 2 * n ≡ least_length false p)
    unfolding sums_of
    equal-said i s =
        let alike : eqb n m ≡ true = eq-eqb n m (sym i) in
        let is : compact_bytes 2 (sums_of both) false ≡ 1 + 2 * n = rw alike (omega arith) in
        (s ∙ sym (rw is at (by_least p bytes coded both first two)), sym (least_length_lem p bytes coded both first two ∙ is))
