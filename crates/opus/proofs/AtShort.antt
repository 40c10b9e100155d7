-- A packet of code 0, 1 or 2, read without an array for its lengths.
--     one-.., equal-.., unequal-..      codes 0, 1 and 2 of an ordinary packet: one law for each `return`
--     short-..                          what is answered in either delimiting, by the tests on the code
--     Seen, one_seen, two_seen, none_read     what a caller knows of the packet
--     one_ends, two_ends                      and where it ends
--     ShortRead, one_read, two_read           the same of an ordinary one
-- Assumes nothing.
use Prim.Native.Nat.{ℕ, zero, suc, ◌+◌, ◌-◌, ◌/◌, ◌%◌, ◌≤◌, ◌<◌}
use native.Mathlib.Omega.{arith}
use native.Mathlib.Nat.{add-zero, sub-zero}
use mathlib.Core.Path.{◌≡◌, refl, sym, ap, ◌∙◌}
use mathlib.Core.List.{List, [], ◌∷◌, ◌++◌}
use mathlib.Core.Bool.{Bool, true, false}
use lib.Dec.{ltb, eqb}
use lib.ListN.{length, get_or, take, drop, length-append, length-drop}
use lib.Seq.{length-take-le}
use borrow.Author.Tests.{lt-ltb, le-ltb, eq-eqb, ne_eqb, eqb-false}
use Rattle.laws.proofs.Never.{never, by_test}
use Rattle.laws.specs.Bytes.{Bytes}
use Rattle.opus_size.specs.Size.{most_bytes, length_field, read_field, no_field}
use Rattle.opus_size.proofs.At.{Found}
use Rattle.opus_size.proofs.Fields.{width}
use Rattle.opus_toc.specs.Toc.{code}
use Rattle.opus_defines.specs.declared.Rule.{Rule}
use Rattle.opus_defines.specs.declared.Rule.TheVariants.{R1, R2, R3, R4}
use Rattle.opus_format.specs.Frames.{joined, cut, total, longest}
use Rattle.opus_format.specs.Format.{Layout, code0, code1, code2, code3equal, code3unequal}
use Rattle.opus_format.specs.Reading.{Front, broken, front, unequal, equal, Reading, refused, accepted, accept, read_code, read}
use Rattle.opus_format.proofs.Frames.{total-lengths}
use Rattle.opus_format.proofs.Sound.{Spelled, read_spelled}
use Rattle.opus_format.proofs.Facts.{Facts, facts}
use Rattle.opus.specs.Answers.{short_of, short_at}
use Rattle.opus.specs.declared.Short.{Short}
use Rattle.opus.specs.declared.Short.TheVariants.{One, Two, Broken, Counted}
use Rattle.opus.proofs.AtPacket.{by_code}

module _ (d : List ℕ) (h : 1 ≤ length d) where
  pub rest : length (drop 1 d) ≡ length d - 1
  rest = length-drop 1 d

  pub place : (at : ℕ) → at ≤ length d → length d - 0 - length (drop at d) ≡ at
  place at l = omega (arith, length-drop at d)

  pub no_less : ltb (length d - 1) (total []) ≡ false
  no_less = le-ltb (length d - 1) (total []) (omega arith)

  -- ---- code 0
  module _ (e : code (get_or d 0 0) ≡ 0) where
    pub one_is : (sd : Bool) → read sd d ≡ accept (length d) (get_or d 0 0) 0 (unequal sd R2 0 (drop 1 d))
    one_is sd = rw (by_code sd d h, e)

    pub one_long : most_bytes < length d - 1 → Broken R2 1 ≡ short_of (read false d)
    one_long m = rw (one_is false, rest, no_less, rest, sub-zero, lt-ltb most_bytes (length d - 1) m, place 1 h)

    pub one_fits : length d - 1 ≤ most_bytes → One (length d - 1) 1 ≡ short_of (read false d)
    one_fits m = rw (one_is false, rest, no_less, rest, sub-zero, le-ltb most_bytes (length d - 1) m, place 1 h)

  -- ---- code 1
  module _ (e : code (get_or d 0 0) ≡ 1) where
    pub equal_is : (sd : Bool) → read sd d ≡ accept (length d) (get_or d 0 0) 0 (equal sd R3 2 (drop 1 d))
    equal_is sd = rw (by_code sd d h, e)

    pub equal_odd : ((length d - 1) % 2 ≡ 0 → ⊥) → Broken R3 0 ≡ short_of (read false d)
    equal_odd n = rw (equal_is false, rest, ne_eqb ((length d - 1) % 2) 0 n)

    module _ (z : (length d - 1) % 2 ≡ 0) where
      even : eqb ((length d - 1) % 2) 0 ≡ true
      even = eq-eqb ((length d - 1) % 2) 0 z

      pub equal_long : most_bytes < (length d - 1) / 2 → Broken R2 1 ≡ short_of (read false d)
      equal_long m = rw (equal_is false, rest, even, lt-ltb most_bytes ((length d - 1) / 2) m, place 1 h)

      pub equal-fits : (length d - 1) / 2 ≤ most_bytes → Two ((length d - 1) / 2) ((length d - 1) / 2) 1 ≡ short_of (read false d)
      equal-fits m = rw (equal_is false, rest, even, le-ltb most_bytes ((length d - 1) / 2) m, place 1 h)

  -- ---- code 2, whose first frame has n bytes, and a length field that ends at `first`
  module _ (e : code (get_or d 0 0) ≡ 2) where
    pub unequal_is : (sd : Bool) → read sd d ≡ accept (length d) (get_or d 0 0) 0 (unequal sd R4 1 (drop 1 d))
    unequal_is sd = rw (by_code sd d h, e)

    pub unequal-cut : read_field (drop 1 d) ≡ no_field → Broken R4 1 ≡ short_of (read false d)
    unequal-cut r = rw (unequal_is false, r, place 1 h)

    module _ (n first one : ℕ) (f : Found d 1 n first) (q : one ≡ n) where
      left : length (drop first d) ≡ length d - first
      left = length-drop first d

      pub unequal-over : length d - first < one → Broken R4 1 ≡ short_of (read false d)
      unequal-over m = rw (unequal_is false, f.means, left, lt-ltb (length d - first) n (omega arith), place 1 h)

      module _ (k : one ≤ length d - first) where
        enough : ltb (length d - first) n ≡ false
        enough = le-ltb (length d - first) n (omega arith)

        pub unequal_long : most_bytes < length d - first - one → Broken R2 first ≡ short_of (read false d)
        unequal_long m =
            let over : ltb most_bytes (length d - first - n) ≡ true = lt-ltb most_bytes (length d - first - n) (omega arith) in
            rw (unequal_is false, f.means, left, enough, left, add-zero, enough, left, add-zero, over, place first f.within)

        pub unequal-fits : length d - first - one ≤ most_bytes → Two n (length d - first - one) first ≡ short_of (read false d)
        unequal-fits m =
            let small : ltb most_bytes (length d - first - n) ≡ false = le-ltb most_bytes (length d - first - n) (omega arith) in
            rw (q, unequal_is false, f.means, left, enough, left, add-zero, enough, left, add-zero, small, place first f.within)

-- ---- what is answered, by the code
module _ (sd : Bool) where
  pub short-empty : (d : List ℕ) → length d ≡ 0 → Broken R1 0 ≡ short_at sd d
  unfolding short_at read
  short-empty [] e = refl
  short-empty (a ∷ d) e = absurd (omega arith)

  -- code 3 has a byte
  pub counted_some : (d : List ℕ) → Counted ≡ short_at sd d → 1 ≤ length d
  counted_some [] e = never (let p = e ∙ sym (short-empty [] refl) in cc)
  counted_some (a ∷ d) e = omega arith

-- the code is not 3 where one of its two bits is not set
module _ (sd : Bool) (d : List ℕ) where
  short-read : (code (get_or d 0 0) ≡ 3 → ⊥) → {r : Short} → r ≡ short_of (read sd d) → r ≡ short_at sd d
  unfolding short_at
  short-read n q = rw (ne_eqb (code (get_or d 0 0)) 3 n) q

  pub short_low : get_or d 0 0 / 2 % 2 ≡ 0 → {r : Short} → r ≡ short_of (read sd d) → r ≡ short_at sd d
  short_low e q = short-read (λ c. absurd (omega (arith, e, c))) q

  pub short_even : get_or d 0 0 % 2 ≡ 0 → {r : Short} → r ≡ short_of (read sd d) → r ≡ short_at sd d
  short_even e q = short-read (λ c. absurd (omega (arith, e, c))) q

  pub short-counted : (get_or d 0 0 / 2 % 2 ≡ 0 → ⊥) → (get_or d 0 0 % 2 ≡ 0 → ⊥) → Counted ≡ short_at sd d
  unfolding short_at
  short-counted h l = rw (eq-eqb (code (get_or d 0 0)) 3 (omega arith))

-- ---- a packet of code 0, 1 or 2: one frame or two behind at most three bytes, and nothing behind them
layout_short : {six : ℕ} {head ns : List ℕ} {pad : ℕ} → Layout false six head ns pad → (code (get_or head 0 0) ≡ 3 → ⊥)
    → longest ns ≤ most_bytes
    → length head + (total ns + pad) ≤ 2553
layout_short (code0 n) c s = omega arith
layout_short (code1 n) c s = omega arith
layout_short (code2 m n) c s = omega (arith, length-append (length_field m) [], width m)
layout_short {six = six} (code3equal count n l d) c s = absurd (c (omega arith))
layout_short {six = six} (code3unequal ns n l d) c s = absurd (c (omega arith))

first_byte : (p : List ℕ) (n : ℕ) → 1 ≤ n → get_or (take n p) 0 0 ≡ get_or p 0 0
first_byte p zero h = absurd (omega arith)
first_byte [] (suc n) h = refl
first_byte (a ∷ p) (suc n) h = refl

module _ (p : List ℕ) (toc : ℕ) (ns : List ℕ) (first taken : ℕ) (w : Spelled false p toc ns first taken) where
  pub all_taken : taken ≡ length p
  all_taken = let none : length (drop taken p) ≡ 0 = ap length w.behind in omega (arith, w.within, length-drop taken p)

  few_bytes : 1 ≤ first → (code (get_or p 0 0) ≡ 3 → ⊥) → length p ≤ 2553
  few_bytes h c =
      let q = w.packet in
      let frames = cut ns (drop first p) in
      let same : get_or q.head 0 0 ≡ get_or p 0 0 = ap (λ (s : List ℕ). get_or s 0 0) w.header ∙ first_byte p first h in
      let parts : taken ≡ length q.head + (length (joined frames) + length q.padding) =
      sym (length-take-le taken p w.within)
      ∙ (ap length q.bytes
      ∙ (length-append q.head (joined frames ++ q.padding)
      ∙ ap (λ (n : ℕ). length q.head + n) (length-append (joined frames) q.padding))) in
      omega (arith, all_taken, parts, total-lengths frames, layout_short q.layout (rw same c) q.small)

-- ---- what a caller knows: what was answered is what is read of the packet, which ends behind its frames
pub record Seen (sd : Bool) (p ns : List ℕ) (first : ℕ) : Type 0 where
  pub taken : ℕ
  pub means : read sd p ≡ accepted (get_or p 0 0) ns first taken
  pub known : Facts (length p) (get_or p 0 0) ns first taken
  pub ends : taken ≡ first + total ns
  pub uncounted : code (get_or p 0 0) ≡ 3 → ⊥

-- there is no padding
module _ (toc : ℕ) (ns : List ℕ) (first taken : ℕ) where
  front_ends : (m t : ℕ) (x : Front) → accept m t 0 x ≡ accepted toc ns first taken → taken ≡ first + total ns
  front_ends m t (broken r s) q = never (cc)
  front_ends m t (front ns₂ s) q =
      let same : ns₂ ≡ ns = cc in
      let start : m - 0 - length s ≡ first = cc in
      let end : m - 0 - length s + total ns₂ + 0 ≡ taken = cc in
      let sum : total ns₂ ≡ total ns = ap total same in
      omega (arith, start, end, sum)

  code_ends : (sd : Bool) (c m t : ℕ) (s : List ℕ) → (c ≡ 3 → ⊥) → c < 4 → read_code sd c m t s ≡ accepted toc ns first taken
      → taken ≡ first + total ns
  code_ends sd zero m t s n l q = front_ends m t (unequal sd R2 0 s) q
  code_ends sd (suc zero) m t s n l q = front_ends m t (equal sd R3 2 s) q
  code_ends sd (suc (suc zero)) m t s n l q = front_ends m t (unequal sd R4 1 s) q
  code_ends sd (suc (suc (suc c))) m t s n l q = absurd (n (omega arith))

  read_ends : (sd : Bool) (p : List ℕ) → 1 ≤ length p → (code (get_or p 0 0) ≡ 3 → ⊥) → read sd p ≡ accepted toc ns first taken
      → taken ≡ first + total ns
  read_ends sd p h c q = code_ends sd (code (get_or p 0 0)) (length p) (get_or p 0 0) (drop 1 p) c (omega arith) (sym (by_code sd p h) ∙ q)

data Answered (sd : Bool) (p : List ℕ) : Short → Type 0 where
  one : (n first : ℕ) → Seen sd p (n ∷ []) first → Answered sd p (One n first)
  two : (m n first : ℕ) → Seen sd p (m ∷ n ∷ []) first → Answered sd p (Two m n first)
  none : (rule : Rule) (place : ℕ) → read sd p ≡ refused rule place → Answered sd p (Broken rule place)
  other : Answered sd p Counted

answered : (sd : Bool) (p : List ℕ) → Bytes p → Answered sd p (short_at sd p)
unfolding short_at
answered sd p bytes =
    by_test (eqb (code (get_or p 0 0)) 3) (λ t. rw t other) (λ t. rw t (go (eqb-false (code (get_or p 0 0)) 3 t) (read sd p) refl))
  where
    found : (code (get_or p 0 0) ≡ 3 → ⊥) → (toc : ℕ) (ns : List ℕ) (first taken : ℕ)
        → read sd p ≡ accepted toc ns first taken → Seen sd p ns first
    found c toc ns first taken q =
        let w = read_spelled sd p toc ns first taken bytes q in
        let y : read sd p ≡ accepted (get_or p 0 0) ns first taken = rw (← w.toc_is) q in
        let f = facts sd p (get_or p 0 0) ns first taken bytes y in
        record {
          taken = taken;
          means = y;
          known = f;
          ends = read_ends toc ns first taken sd p (omega (arith, f.headed, f.block, f.within)) c q;
          uncounted = c;
        }

    go : (code (get_or p 0 0) ≡ 3 → ⊥) → (x : Reading) → read sd p ≡ x → Answered sd p (short_of x)
    go c (refused rule place) q = none rule place q
    go c (accepted toc [] first taken) q = other
    go c (accepted toc (n ∷ []) first taken) q = one n first (found c toc (n ∷ []) first taken q)
    go c (accepted toc (m ∷ n ∷ []) first taken) q = two m n first (found c toc (m ∷ n ∷ []) first taken q)
    go c (accepted toc (m ∷ n ∷ k ∷ ns) first taken) q = other

module _ (sd : Bool) (p : List ℕ) (bytes : Bytes p) (r : Short) (e : r ≡ short_at sd p) where
  was : {s : Short} → r ≡ s → Answered sd p s
  was q = rw (← q, e) (answered sd p bytes)

  pub one_seen : (n first : ℕ) → r ≡ One n first → Seen sd p (n ∷ []) first
  one_seen n first q = go (was q)
    where
      go : Answered sd p (One n first) → Seen sd p (n ∷ []) first
      go (one n first y) = y

  pub two_seen : (m n first : ℕ) → r ≡ Two m n first → Seen sd p (m ∷ n ∷ []) first
  two_seen m n first q = go (was q)
    where
      go : Answered sd p (Two m n first) → Seen sd p (m ∷ n ∷ []) first
      go (two m n first y) = y

  pub none_read : (rule : Rule) (place : ℕ) → r ≡ Broken rule place → read sd p ≡ refused rule place
  none_read rule place q = go (was q)
    where
      go : Answered sd p (Broken rule place) → read sd p ≡ refused rule place
      go (none rule place y) = y

-- where it ends
module _ {sd : Bool} {p : List ℕ} where
  pub one_ends : (n first : ℕ) (s : Seen sd p (n ∷ []) first) → first + n ≡ s.taken
  one_ends n first s = omega (arith, s.ends)

  pub two_ends : (m n first : ℕ) (s : Seen sd p (m ∷ n ∷ []) first) → first + m + n ≡ s.taken
  two_ends m n first s = omega (arith, s.ends)

-- ---- an ordinary packet is all of p, and not too long
pub record ShortRead (p ns : List ℕ) (first : ℕ) : Type 0 where
  pub taken : ℕ
  pub means : read false p ≡ accepted (get_or p 0 0) ns first taken
  pub known : Facts (length p) (get_or p 0 0) ns first taken
  pub whole : taken ≡ length p
  pub short : length p ≤ 65535
  pub uncounted : code (get_or p 0 0) ≡ 3 → ⊥

module _ (p : List ℕ) (bytes : Bytes p) where
  ordinary : (ns : List ℕ) (first : ℕ) → Seen false p ns first → ShortRead p ns first
  ordinary ns first s =
      let w = read_spelled false p (get_or p 0 0) ns first s.taken bytes s.means in
      record {
        taken = s.taken;
        means = s.means;
        known = s.known;
        whole = all_taken p (get_or p 0 0) ns first s.taken w;
        short = omega (arith, few_bytes p (get_or p 0 0) ns first s.taken w s.known.headed s.uncounted);
        uncounted = s.uncounted;
      }

  module _ (r : Short) (e : r ≡ short_at false p) where
    pub one_read : (n first : ℕ) → r ≡ One n first → ShortRead p (n ∷ []) first
    one_read n first q = ordinary (n ∷ []) first (one_seen false p bytes r e n first q)

    pub two_read : (m n first : ℕ) → r ≡ Two m n first → ShortRead p (m ∷ n ∷ []) first
    two_read m n first q = ordinary (m ∷ n ∷ []) first (two_seen false p bytes r e m n first q)
