-- An ordinary packet of code 3 whose frames are equally long, read without an array for its lengths.
--     shared-..                     the bytes that the frames share: one law for each `return`
--     equal-..                      what `equal_at` answers, by its tests
--     EqualRead, same_read, wrong_read     what a caller knows of the packet
-- Assumes nothing.
use Prim.Native.Nat.{ℕ, ◌+◌, ◌*◌, ◌-◌, ◌/◌, ◌%◌, ◌≤◌, ◌<◌}
use native.Mathlib.Omega.{arith}
use mathlib.Core.Path.{◌≡◌, refl, sym, ap, ◌∙◌}
use mathlib.Core.List.{List, [], ◌∷◌}
use mathlib.Core.Bool.{true, false, cond}
use lib.Dec.{ltb, leb, eqb}
use lib.ListN.{length, get_or, drop, replicate, length-replicate, get_or-replicate}
use borrow.Author.Tests.{lt-ltb, le-ltb, eq-eqb, ne_eqb, eqb-true}
use Rattle.laws.specs.Bytes.{Bytes}
use Rattle.laws.proofs.Never.{never, by_test}
use Rattle.opus_defines.specs.declared.Rule.{Rule}
use Rattle.opus_defines.specs.declared.Rule.TheVariants.{R2, R5, R6}
use Rattle.opus_size.specs.Size.{most_bytes}
use Rattle.opus_toc.specs.Toc.{code, upper_six, configuration, samples}
use Rattle.opus_format.specs.Reading.{Front, equal, lasts, Reading, refused, accepted, accept, read3, read}
use Rattle.opus_format.proofs.Sound.{read_spelled}
use Rattle.opus_format.proofs.Facts.{facts}
use Rattle.opus_parts.specs.Parts.{padding_at}
use Rattle.std.specs.Prelude.{None, Option, Some}
use Rattle.opus.specs.Answers.{shared_at, equal_of, equal_at}
use Rattle.opus.specs.declared.code_3.Equal.{Equal}
use Rattle.opus.specs.declared.code_3.Equal.TheVariants.{Same, Wrong, Other}
use Rattle.opus.proofs.AtPacket.{part, body, padding, body_refused, body_reads, all_bytes, inner, frames_equal, lasts_is, three_is, by_code}
use Rattle.opus.proofs.AtShort.{all_taken}

-- ---- the bytes that are shared
module _ (rest count first n : ℕ) (e : n ≡ count) where
  pub shared_uneven : (rest % n ≡ 0 → ⊥) → Wrong R6 first ≡ shared_at rest count first
  shared_uneven u = rw (← e, ne_eqb (rest % n) 0 u)

  module _ (u : rest % n ≡ 0) where
    pub shared_long : most_bytes < rest / n → Wrong R2 first ≡ shared_at rest count first
    shared_long l = rw (← e, eq-eqb (rest % n) 0 u, lt-ltb most_bytes (rest / n) l)

    pub shared_same : rest / n ≤ most_bytes → Same count (rest / n) first ≡ shared_at rest count first
    shared_same l = rw (← e, eq-eqb (rest % n) 0 u, le-ltb most_bytes (rest / n) l)

-- of `first` bytes, those that are shared and the padding
shared_read : (m toc pad count first : ℕ) (s : List ℕ) → 1 ≤ count → m ≡ first + length s + pad
    → shared_at (length s) count first ≡ equal_of (accept m toc pad (equal false R6 count s))
shared_read m toc pad count first s some e =
    let place : m - pad - length s ≡ first = omega arith in
    let k = length s / count in
    let many : length (replicate count k) ≡ count = length-replicate count k in
    let each : get_or (replicate count k) 0 0 ≡ k = get_or-replicate count 0 k 0 (omega arith) in
    by_test (eqb (length s % count) 0)
    (λ t. by_test (ltb most_bytes k) (λ l. rw (t, l, place)) (λ l. rw (t, l, place, many, each)))
    (λ t. rw (t, place))

-- ---- the packet by the tests of the code
pub equal-empty : (d : List ℕ) → length d ≡ 0 → Other ≡ equal_at d
unfolding equal_at
equal-empty [] z = refl
equal-empty (a ∷ d) z = absurd (omega arith)

pub equal_other : (d : List ℕ) → (code (get_or d 0 0) ≡ 3 → ⊥) → Other ≡ equal_at d
unfolding equal_at
equal_other d n = rw (ne_eqb (code (get_or d 0 0)) 3 n)

threefold : (d : List ℕ) → 1 ≤ length d → code (get_or d 0 0) ≡ 3 → read false d ≡ read3 false (length d) (get_or d 0 0) (drop 1 d)
threefold d one c = by_code false d one ∙ rw c

pub equal-short : (d : List ℕ) → (length d ≡ 0 → ⊥) → code (get_or d 0 0) ≡ 3 → length d < 2 → Wrong R5 1 ≡ equal_at d
unfolding equal_at
equal-short [] one c h = absurd (one refl)
equal-short (toc ∷ []) one c h = rw (eq-eqb (code toc) 3 c, threefold (toc ∷ []) (omega arith) c)
equal-short (toc ∷ a ∷ s) one c h = absurd (omega arith)

pub equal_flag : (d : List ℕ) → code (get_or d 0 0) ≡ 3 → (get_or d 1 0 / 128 % 2 ≡ 0 → ⊥) → Other ≡ equal_at d
unfolding equal_at
equal_flag d c n = rw (eq-eqb (code (get_or d 0 0)) 3 c, ne_eqb (get_or d 1 0 / 128 % 2) 0 n)

module _ (d : List ℕ) (two : 2 ≤ length d) (c : code (get_or d 0 0) ≡ 3) (v : get_or d 1 0 / 128 % 2 ≡ 0) where
  abbrev count : ℕ
  count = get_or d 1 0 % 64

  reading : read false d ≡ cond (lasts (upper_six (get_or d 0 0)) count) (body false d count) (refused R5 1)
  reading = threefold d (omega arith) c ∙ three_is false d two

  answer : equal_at d ≡ equal_of (cond (lasts (upper_six (get_or d 0 0)) count) (body false d count) (refused R5 1))
  unfolding equal_at
  answer = rw (eq-eqb (code (get_or d 0 0)) 3 c, eq-eqb (get_or d 1 0 / 128 % 2) 0 v) (ap equal_of reading)

  pub equal-none : count ≡ 0 → Wrong R5 1 ≡ equal_at d
  equal-none z = rw (answer, z)

  module _ (z : count ≡ 0 → ⊥) (n : ℕ) (b : get_or d 0 0 < 256) (e : n ≡ samples 48000 (configuration (get_or d 0 0))) where
    lasting : leb (count * n) 5760 ≡ lasts (upper_six (get_or d 0 0)) count
    lasting = lasts_is (get_or d 0 0) count n b e z

    pub equal-time : leb (count * n) 5760 ≡ false → Wrong R5 1 ≡ equal_at d
    equal-time t = rw (answer, ← lasting, t)

    module _ (t : leb (count * n) 5760 ≡ true) where
      within : equal_at d ≡ equal_of (body false d count)
      within = rw (answer, ← lasting, t)

      pub equal_unfit : padding_at (length (part d 2 (length d))) (padding d) ≡ None → Wrong R6 2 ≡ equal_at d
      equal_unfit u = sym (within ∙ ap equal_of (sym (body_refused false d count u)) ∙ rw v)

      pub equal_shared : (pad next : ℕ) → padding_at (length (part d 2 (length d))) (padding d) ≡ Some (pad, next)
          → {r : Equal} → r ≡ shared_at (length d - pad - (2 + next)) count (2 + next) → r ≡ equal_at d
      equal_shared pad next w q =
          let s = inner false d count two pad next w in
          let all = all_bytes false d count two pad next w in
          let left : length d - pad - (2 + next) ≡ length s = omega (arith, all) in
          let is : body false d count ≡ accept (length d) (get_or d 0 0) pad (equal false R6 count s) =
          body_reads false d count two pad next w
          ∙ ap (λ (f : Front). accept (length d) (get_or d 0 0) pad f) (frames_equal false (get_or d 1 0 / 128 % 2) count s v) in
          q ∙ (rw left (shared_read (length d) (get_or d 0 0) pad count (2 + next) s (omega arith) all) ∙ sym (within ∙ ap equal_of is))

-- ---- what a caller knows
pub record EqualRead (p : List ℕ) (n each first : ℕ) : Type 0 where
  pub few : n ≤ 48
  pub means : read false p ≡ accepted (get_or p 0 0) (replicate n each) first (length p)

-- the packet is refused, or its frames are equally long
data Alike : Reading → Type 0 where
  no : (rule : Rule) (place : ℕ) → Alike (refused rule place)
  yes : (toc k e first taken : ℕ) → Alike (accepted toc (replicate k e) first taken)

front_alike : (m toc pad count : ℕ) (s : List ℕ) → Alike (accept m toc pad (equal false R6 count s))
front_alike m toc pad count s =
    by_test (eqb (length s % count) 0)
    (λ t. by_test (ltb most_bytes (length s / count)) (λ l. rw (t, l) (no R2 _)) (λ l. rw (t, l) (yes toc count (length s / count) _ _)))
    (λ t. rw t (no R6 _))

module _ (d : List ℕ) (two : 2 ≤ length d) (c : code (get_or d 0 0) ≡ 3) (v : get_or d 1 0 / 128 % 2 ≡ 0) where
  body_alike : (p : Option (ℕ × ℕ)) → padding_at (length (part d 2 (length d))) (padding d) ≡ p → Alike (body false d (get_or d 1 0 % 64))
  body_alike None u = rw (← body_refused false d (get_or d 1 0 % 64) u) (no _ 2)
  body_alike (Some (pad, next)) w =
      let s = inner false d (get_or d 1 0 % 64) two pad next w in
      rw (body_reads false d (get_or d 1 0 % 64) two pad next w, frames_equal false (get_or d 1 0 / 128 % 2) (get_or d 1 0 % 64) s v)
      (front_alike (length d) (get_or d 0 0) pad (get_or d 1 0 % 64) s)

  alike : Alike (read false d)
  alike =
      rw (reading d two c v) (by_test (lasts (upper_six (get_or d 0 0)) (get_or d 1 0 % 64)) (λ t. rw t (body_alike _ refl)) (λ t. rw t (no R5 1)))

-- a packet of code 3 has a byte
some : (d : List ℕ) → code (get_or d 0 0) ≡ 3 → 1 ≤ length d
some [] c = never (cc)
some (a ∷ d) c = omega arith

-- also of one byte
all_alike : (d : List ℕ) → 1 ≤ length d → code (get_or d 0 0) ≡ 3 → get_or d 1 0 / 128 % 2 ≡ 0 → Alike (read false d)
all_alike [] one c v = absurd (omega arith)
all_alike (toc ∷ []) one c v = rw (threefold (toc ∷ []) one c) (no R5 1)
all_alike (toc ∷ a ∷ s) one c v = alike (toc ∷ a ∷ s) (omega arith) c v

module _ (p : List ℕ) (bytes : Bytes p) (r : Equal) (e : r ≡ equal_at p) where
  -- the code is 3 and the flag is not set where the packet is not left to the reader
  told : {x : Equal} → r ≡ x → (x ≡ Other → ⊥) → (code (get_or p 0 0) ≡ 3) × ((get_or p 1 0 / 128 % 2 ≡ 0) × (x ≡ equal_of (read false p)))
  unfolding equal_at
  told {x} q n =
      by_test (eqb (code (get_or p 0 0)) 3)
      (λ t. by_test (eqb (get_or p 1 0 / 128 % 2) 0)
      (λ u. let f : x ≡ equal_of (read false p) = rw (t, u) at (sym q ∙ e) in (eqb-true (code (get_or p 0 0)) 3 t, (eqb-true (get_or p 1 0 / 128 % 2) 0 u, f)))
      (λ u. let f : x ≡ Other = rw (t, u) at (sym q ∙ e) in absurd (n f)))
      (λ t. let f : x ≡ Other = rw t at (sym q ∙ e) in absurd (n f))

  pub wrong_read : (rule : Rule) (place : ℕ) → r ≡ Wrong rule place → read false p ≡ refused rule place
  wrong_read rule place q = go (read false p) (told q (λ u. never (cc))).1.1
    where
      go : (x : Reading) → Wrong rule place ≡ equal_of x → x ≡ refused rule place
      go (refused a b) f = cc
      go (accepted toc ns first taken) f = never (cc)

  pub same_read : (n each first : ℕ) → r ≡ Same n each first → EqualRead p n each first
  same_read n each first q =
      let t = told q (λ u. never (cc)) in
      go (read false p) refl (all_alike p (some p t.0) t.0 t.1.0) t.1.1
    where
      found : (toc k x f taken : ℕ) → read false p ≡ accepted toc (replicate k x) f taken
          → Same n each first ≡ Same (length (replicate k x)) (get_or (replicate k x) 0 0) f → EqualRead p n each first
      found toc k x f taken m y =
          let w = read_spelled false p toc (replicate k x) f taken bytes m in
          let g = facts false p toc (replicate k x) f taken bytes m in
          let many : length (replicate k x) ≡ k = length-replicate k x in
          let first_one : get_or (replicate k x) 0 0 ≡ x = get_or-replicate k 0 x 0 (omega (arith, g.some, many)) in
          let z : Same n each first ≡ Same k x f = rw (many, first_one) at y in
          let en : n ≡ k = cc in
          let ex : each ≡ x = cc in
          let ef : first ≡ f = cc in
          record {
            few = omega (arith, g.few, many, en);
            means = rw (en, ex, ef, ← w.toc_is, ← all_taken p toc (replicate k x) f taken w) m;
          }

      go : (x : Reading) → read false p ≡ x → Alike x → Same n each first ≡ equal_of x → EqualRead p n each first
      go x m (no rule place) y = never (cc)
      go x m (yes toc k each' f taken) y = found toc k each' f taken m y
