-- The laws of `sets`, a run of stores, and of what specs/Blocks.antt makes of it.
-- Assumes nothing.
use mathlib.Core.Path.{◌≡◌, refl, sym, ap, ◌∙◌}
use mathlib.Core.Logic.{◌≢◌}
use mathlib.Core.List.{List, [], ◌∷◌, ◌++◌}
use Prim.Native.Nat.{ℕ, zero, suc, ◌+◌, ◌-◌, ◌≤◌, ◌<◌}
use native.Mathlib.Nat.{add-zero, zero-add, add-suc, suc-add, not-suc-le-zero, sub-zero, zero-sub, suc-sub-suc}
use native.Mathlib.Omega.{arith}
use lib.ListN.{length, take, drop, get_or, set, length-take, length-drop, length-set, length-append}
use lib.Seq.{sets, sets-eq, take-append_seam, take-add, take-nil, drop-drop, drop-set-lt, take_at, length-take-le}
use lib.Seq.{get_or-set_same, get_or-set_other, set_comm, set-set}
use Rattle.blocks.specs.Blocks.{part}

-- two runs, one after the other, are one run
pub sets-append : (l : List ℕ) (at : ℕ) (us vs : List ℕ) → sets l at (us ++ vs) ≡ sets (sets l at us) (at + length us) vs
sets-append l at [] vs = rw add-zero
sets-append l at (u ∷ us) vs = rw (add-suc, ← suc-add, sets-append (set l at u) (suc at) us vs)

-- a run behind the first n is read back with them
pub take-sets_at : (l : List ℕ) (n : ℕ) (vs : List ℕ) → n + length vs ≤ length l → take (n + length vs) (sets l n vs) ≡ take n l ++ vs
take-sets_at l n vs h =
    let e : length (take n l ++ vs) ≡ n + length vs = length-append (take n l) vs ∙ ap (λ (k : ℕ). k + length vs) (length-take-le n l (omega arith)) in
    rw (sets-eq vs l n h) (take_at (take n l ++ vs) (drop (n + length vs) l) (n + length vs) e)

-- the same from the front of a buffer, as the code has it
pub put_behind : (l us vs : List ℕ) {d : List ℕ} {at : ℕ} → d ≡ sets l 0 us → at ≡ length us → sets d at vs ≡ sets l 0 (us ++ vs)
put_behind l us vs e a = rw (sets-append, zero-add, ← e, ← a)

-- a store before a run may go first
set-sets : (l : List ℕ) (i a at : ℕ) (vs : List ℕ) → i < at → set (sets l at vs) i a ≡ sets (set l i a) at vs
set-sets l i a at [] h = refl
set-sets l i a at (v ∷ vs) h =
    let ne : i ≢ at = λ e. omega arith in
    let h' : i < suc at = omega arith in
    set-sets (set l at v) i a (suc at) vs h' ∙ ap (λ (m : List ℕ). sets m (suc at) vs) (sym (set_comm l i at a v ne))

-- two runs that do not meet may change places
sets-sets : (l : List ℕ) (at : ℕ) (us : List ℕ) (bt : ℕ) (vs : List ℕ) → at + length us ≤ bt
    → sets (sets l bt vs) at us ≡ sets (sets l at us) bt vs
sets-sets l at [] bt vs h = refl
sets-sets l at (u ∷ us) bt vs h =
    let h' : at < bt = omega arith in
    let k : suc at + length us ≤ bt = omega arith in
    rw (set-sets l at u bt vs) (sets-sets (set l at u) (suc at) us bt vs k)

-- a run that is laid right before another makes one run with it
pub sets-before-sets : (l : List ℕ) (at : ℕ) (us : List ℕ) (bt : ℕ) (vs : List ℕ) → at + length us ≡ bt
    → sets (sets l bt vs) at us ≡ sets l at (us ++ vs)
sets-before-sets l at us bt vs e =
    let h : at + length us ≤ bt = omega arith in
    rw (sets-sets l at us bt vs, sets-append, e)

-- a run hides a shorter one at its place, and is hidden by a longer one that begins with it
pub sets_over : (l : List ℕ) (at : ℕ) (us vs : List ℕ) → length us ≤ length vs → sets (sets l at us) at vs ≡ sets l at vs
sets_over l at [] vs h = refl
sets_over l at (u ∷ us) [] h = absurd (not-suc-le-zero h)
sets_over l at (u ∷ us) (v ∷ vs) h =
    let h' : length us ≤ length vs = omega arith in
    let t : at < suc at = omega arith in
    rw (set-sets (set l at u) at v (suc at) us t, set-set) (sets_over (set l at v) (suc at) us vs h')

pub sets_again : (l : List ℕ) (at : ℕ) (us vs : List ℕ) → sets (sets l at (us ++ vs)) at us ≡ sets l at (us ++ vs)
sets_again l at [] vs = refl
sets_again l at (u ∷ us) vs =
    let t : at < suc at = omega arith in
    rw (set-sets (set l at u) at u (suc at) (us ++ vs) t, set-set) (sets_again (set l at u) (suc at) us vs)

-- what a run leaves before it
pub sets-before : (l : List ℕ) (at : ℕ) (vs : List ℕ) (k d : ℕ) → k < at → get_or (sets l at vs) k d ≡ get_or l k d
sets-before l at [] k d h = refl
sets-before l at (v ∷ vs) k d h =
    let ne : k ≢ at = λ e. omega arith in
    let h' : k < suc at = omega arith in
    sets-before (set l at v) (suc at) vs k d h' ∙ get_or-set_other l at k v d ne

-- what a run left, within it
sets_in : (l : List ℕ) (at : ℕ) (vs : List ℕ) (i d : ℕ) → i < length vs → at + i < length l → get_or (sets l at vs) (at + i) d ≡ get_or vs i d
sets_in l at [] i d h k = absurd (not-suc-le-zero h)
sets_in l at (v ∷ vs) zero d h k =
    let h' : at < suc at = omega arith in
    let k' : at < length l = omega arith in
    rw (add-zero, sets-before (set l at v) (suc at) vs at d h', get_or-set_same l at v d)
sets_in l at (v ∷ vs) (suc i) d h k =
    let h' : i < length vs = omega arith in
    let k' : suc at + i < length (set l at v) = simp length-set (omega arith) in
    rw (add-suc, ← suc-add) (sets_in (set l at v) (suc at) vs i d h' k')

-- a part's length, and a part as two
pub length-part_le : (s : List ℕ) (from n : ℕ) → length (part s from n) ≤ n
length-part_le s from n = simp length-take (omega arith)

pub length_part : (s : List ℕ) (from n : ℕ) → from + n ≤ length s → length (part s from n) ≡ n
length_part s from n h = simp (length-take, length-drop) (omega arith)

pub part-append : (s : List ℕ) (from j k : ℕ) → part s from (j + k) ≡ part s from j ++ part s (from + j) k
part-append s from j k = rw (take-add j k (drop from s), drop-drop j from s)

-- what was laid from place 0 on is read back, and what is past it is as it was
pub take-sets : (l vs : List ℕ) → length vs ≤ length l → take (length vs) (sets l 0 vs) ≡ vs
take-sets l vs h =
    let fits : 0 + length vs ≤ length l = omega arith in
    rw (sets-eq vs l 0 fits) (take-append_seam vs (drop (0 + length vs) l))

-- ---- a turn of a loop of stores

-- a store right after a run makes the run longer
pub sets-next : (l : List ℕ) (at i : ℕ) (vs : List ℕ) (a : ℕ) → length vs ≡ i → set (sets l at vs) (at + i) a ≡ sets l at (vs ++ (a ∷ []))
sets-next l at i vs a e = rw (sets-append, e)

-- ---- the same as the parts of a list, for a caller that goes by `take`, `drop` and `++`

pub drop-sets_past : (s : List ℕ) (at : ℕ) (vs : List ℕ) (n : ℕ) → at + length vs ≤ n → drop n (sets s at vs) ≡ drop n s
drop-sets_past s at [] n h = refl
drop-sets_past s at (v ∷ vs) n h =
    rw (drop-sets_past (set s at v) (suc at) vs n (omega arith)) (drop-set-lt n s at v (omega arith))

pub drop-take : (k m : ℕ) (l : List ℕ) → drop k (take m l) ≡ take (m - k) (drop k l)
drop-take zero m l = rw sub-zero
drop-take (suc k) zero l = rw zero-sub
drop-take (suc k) (suc m) [] = sym (take-nil (suc m - suc k))
drop-take (suc k) (suc m) (x ∷ l) = rw suc-sub-suc (drop-take k m l)
