-- A block copied or moved in pieces: what the next piece makes of it, for a piece of any width.
-- Assumes nothing.
use mathlib.Core.Path.{◌≡◌, refl, ap, ◌∙◌}
use mathlib.Core.List.{List, [], ◌∷◌, ◌++◌}
use Prim.Native.Nat.{ℕ, suc, ◌+◌, ◌-◌, ◌≤◌, ◌<◌}
use native.Mathlib.Omega.{arith}
use lib.ListN.{length, take, drop, set}
use lib.Seq.{sets, take-set-le, drop-set-lt, drop-set-add}
use Rattle.blocks.specs.Blocks.{part, moved, copied}
use Rattle.blocks.proofs.Sets.{sets-append, sets-before-sets, sets_over, sets_again, length-part_le, length_part, part-append, take-sets}

-- a run leaves a part past it, and one before it
part_past : (l : List ℕ) (at : ℕ) (vs : List ℕ) (from n : ℕ) → at + length vs ≤ from → part (sets l at vs) from n ≡ part l from n
part_past l at [] from n h = refl
part_past l at (v ∷ vs) from n h =
    let a : at < from = omega arith in
    let h' : suc at + length vs ≤ from = omega arith in
    part_past (set l at v) (suc at) vs from n h' ∙ ap (take n) (drop-set-lt from l at v a)

part-set : (l : List ℕ) (from m v n : ℕ) → n ≤ m → part (set l (from + m) v) from n ≡ part l from n
part-set l from m v n h = rw (drop-set-add from l m v) (take-set-le n (drop from l) m v h)

part-before : (l : List ℕ) (at : ℕ) (vs : List ℕ) (from n : ℕ) → from + n ≤ at → part (sets l at vs) from n ≡ part l from n
part-before l at [] from n h = refl
part-before l at (v ∷ vs) from n h =
    let h' : from + n ≤ suc at = omega arith in
    let e : from + (at - from) ≡ at = omega arith in
    let k : n ≤ at - from = omega arith in
    part-before (set l at v) (suc at) vs from n h' ∙ rw e at (part-set l from (at - from) v n k)

-- what is written from a buffer is what was read into it
pub held : (z d : List ℕ) (at : ℕ) (s : List ℕ) (from k : ℕ) {b d' : List ℕ} → b ≡ copied z 0 s from k → d' ≡ copied d at b 0 k
    → k ≤ length z → from + k ≤ length s
    → d' ≡ copied d at s from k
held z d at s from k eb ed h fits =
    let e : length (part s from k) ≡ k = length_part s from k fits in
    let h' : length (part s from k) ≤ length z = omega arith in
    rw (ed, eb) (ap (sets d at) (rw e at (take-sets z (part s from k) h')))

-- j + m elements are copied, then k of them from place j on, over the last m
copied-over : (d : List ℕ) (at : ℕ) (s : List ℕ) (from j m k : ℕ) → m ≤ k → from + (j + k) ≤ length s
    → sets (copied d at s from (j + m)) (at + j) (part s (from + j) k) ≡ copied d at s from (j + k)
copied-over d at s from j m k h fits =
    let p = part s from j in
    let q = part s (from + j) m in
    let r = part s (from + j) k in
    let e : length p ≡ j = length_part s from j (omega arith) in
    let em : length q ≡ m = length_part s (from + j) m (omega arith) in
    let ek : length r ≡ k = length_part s (from + j) k (omega arith) in
    let h' : length q ≤ length r = omega arith in
    rw (part-append s from j m, part-append s from j k, sets-append d at p q, sets-append d at p r, e) (sets_over (sets d at p) (at + j) q r h')

-- i elements are copied: a piece of k begins among them, or right after them, and ends past them
pub copied_more : (d : List ℕ) (at : ℕ) (s : List ℕ) (from i j k n : ℕ) {m d' : List ℕ}
    → m ≡ copied d at s from i → d' ≡ copied m (at + j) s (from + j) k
    → j ≤ i → i ≤ n → n ≡ j + k → from + n ≤ length s → d' ≡ copied d at s from n
copied_more d at s from i j k n em ed h h' e fits =
    let ei : i ≡ j + (i - j) = omega arith in
    rw (ed, em, ei, e) (copied-over d at s from j (i - j) k (omega arith) (omega arith))

-- m + r elements are copied from place i on, then the first i + m, over the m
copied_under : (d : List ℕ) (at : ℕ) (s : List ℕ) (from i m r : ℕ) → from + (i + (m + r)) ≤ length s
    → sets (copied d (at + i) s (from + i) (m + r)) at (part s from (i + m)) ≡ copied d at s from (i + (m + r))
copied_under d at s from i m r fits =
    let p = part s from i in
    let q = part s (from + i) m in
    let u = part s (from + i + m) r in
    let e : length p ≡ i = length_part s from i (omega arith) in
    let a : at + length p ≡ at + i = omega arith in
    rw (
      part-append s from i (m + r),
      part-append s from i m,
      part-append s (from + i) m r,
      sets-append (sets d (at + i) (q ++ u)) at p q,
      sets-before-sets d at p (at + i) (q ++ u) a,
      sets-append d at p (q ++ u),
      e,
    )
    (sets_again (sets d at p) (at + i) q u)

-- all but the first i of n elements are copied: a piece of the first k ends among them, or right before them
copied_less : (d : List ℕ) (at : ℕ) (s : List ℕ) (from i k n : ℕ) {m d' : List ℕ}
    → m ≡ copied d (at + i) s (from + i) (n - i) → d' ≡ copied m at s from k
    → i ≤ k → k ≤ n → from + n ≤ length s → d' ≡ copied d at s from n
copied_less d at s from i k n em ed h h' fits =
    let ei : k - i + (n - k) ≡ n - i = omega arith in
    let ek : i + (k - i) ≡ k = omega arith in
    let en : i + (n - i) ≡ n = omega arith in
    rw (ed, em) (rw (ei, ek, en) at (copied_under d at s from i (k - i) (n - k) (omega arith)))

pub copied_none : (d : List ℕ) (at : ℕ) (s : List ℕ) (from n : ℕ) → n ≡ 0 → d ≡ copied d at s from n
copied_none d at s from n e = rw e

-- downward, what is read is not yet written over
pub moved-next : (s : List ℕ) (from to i k n : ℕ) {m s' : List ℕ} → m ≡ moved s from to i → s' ≡ moved m (from + i) (to + i) k
    → n ≡ i + k → to ≤ from → from + n ≤ length s
    → s' ≡ moved s from to n
moved-next s from to i k n {m} em es en h fits =
    let past : to + length (part s from i) ≤ from + i = omega (arith, length-part_le s from i) in
    let read : part m (from + i) k ≡ part s (from + i) k = rw em (part_past s to (part s from i) (from + i) k past) in
    copied_more s to s from i i k n em (es ∙ ap (sets m (to + i)) read) (omega arith) (omega arith) en fits

-- upward, from the last to the first: f, t and c are the places and the count after the turn, f⁺, t⁺ and c⁻ those before it
pub moved_prev : (s : List ℕ) (f t c f⁺ t⁺ c⁻ k : ℕ) {m s' : List ℕ} → m ≡ moved s f⁺ t⁺ c⁻ → s' ≡ moved m f t k
    → f⁺ ≡ f + k → t⁺ ≡ t + k → c ≡ k + c⁻ → f ≤ t → f + c ≤ length s
    → s' ≡ moved s f t c
moved_prev s f t c f⁺ t⁺ c⁻ k {m} em es ef et ec h fits =
    let before : f + k ≤ t⁺ = omega arith in
    let read : part m f k ≡ part s f k = rw em (part-before s t⁺ (part s f⁺ c⁻) f k before) in
    let e : c⁻ ≡ c - k = omega arith in
    copied_less s t s f k k c (rw (ef, et, e) at em) (es ∙ ap (sets m t) read) (omega arith) (omega arith) fits
