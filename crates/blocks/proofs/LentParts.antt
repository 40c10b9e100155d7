-- A part of a buffer that is lent, from a place to the end or to another place.
--     put_back           the buffer with the part put back
--     sets_lent          a run of stores in the part is one in the buffer
--     sets-front         which is one from the front on with what stands before it
--     sets-part          a run of stores in a part that ends before the buffer does
--     sets-whole         a part that is stored whole
--     part_between       a part that is read
-- Assumes nothing.
use Prim.Native.Nat.{ℕ, suc, ◌+◌, ◌-◌, ◌≤◌}
use native.Mathlib.Nat.{add-suc, add-zero}
use native.Mathlib.Omega.{arith}
use mathlib.Core.Path.{◌≡◌, refl, sym, ap, ◌∙◌}
use mathlib.Core.List.{List, [], ◌∷◌, ◌++◌, append-nil, append_assoc}
use lib.ListN.{length, take, drop, set, length-take, length-drop, drop_of_length-le, take-append-drop}
use lib.Seq.{sets, sets-eq, length-take-le, drop-drop, drop-set-add, take-set-le}
use borrow.Rule.Slice.PartMut.{put_mid}
use Rattle.blocks.specs.Blocks.{part}
use Rattle.blocks.proofs.Sets.{sets-append, drop-take}

pub put_back : (s : List ℕ) (at : ℕ) (v : List ℕ) → put_mid at (length s - at) s v ≡ take at s ++ v
put_back s at v =
    let all : length (drop at s) ≤ length s - at = omega (arith, length-drop at s) in
    let none : drop (length s - at) (drop at s) ≡ [] = drop_of_length-le (drop at s) all in
    rw (none, append-nil v)

sets_behind : (s : List ℕ) (at i : ℕ) (vs : List ℕ) → take at s ++ sets (drop at s) i vs ≡ sets s (at + i) vs
sets_behind s at i [] = take-append-drop at s
sets_behind s at i (v ∷ vs) =
    let from : at ≤ at + i = omega arith in
    rw (drop-set-add at s i v, take-set-le at s (at + i) v, add-suc) at (sets_behind (set s (at + i) v) at (suc i) vs)

pub sets_lent : (s : List ℕ) (at : ℕ) (vs : List ℕ) → put_mid at (length s - at) s (sets (drop at s) 0 vs) ≡ sets s at vs
sets_lent s at vs = rw (put_back s at (sets (drop at s) 0 vs)) (rw add-zero at (sets_behind s at 0 vs))

pub sets-front : (s : List ℕ) (at : ℕ) (vs : List ℕ) → at ≤ length s → take at s ++ sets (drop at s) 0 vs ≡ sets s 0 (take at s ++ vs)
sets-front s at vs h =
    let long : length (take at s) ≡ at = length-take-le at s h in
    let place : 0 + at ≡ at = omega arith in
    let own : sets s 0 (take at s) ≡ s = rw (long, place, take-append-drop at s) at (sets-eq (take at s) s 0 (omega arith)) in
    rw (sets-append s 0 (take at s) vs, own, long, place) (rw add-zero at (sets_behind s at 0 vs))

-- ---- a part that is lent from a place to another, in which no more is stored than it holds
pub sets-part : (s : List ℕ) (at n : ℕ) (vs : List ℕ) → at + n ≤ length s → length vs ≤ n
    → put_mid at n s (sets (take n (drop at s)) 0 vs) ≡ sets s at vs
sets-part s at n vs h k =
    let d = drop at s in
    let long : length (take n d) ≡ n = rw (length-take, length-drop) (omega arith) in
    let none : 0 + length vs ≡ length vs = omega arith in
    let past : drop (length vs) (take n d) ++ drop n d ≡ drop (at + length vs) s =
    (let whole : length vs + (n - length vs) ≡ n = omega arith in
    rw (drop-take (length vs) n d) (rw (drop-drop (n - length vs) (length vs) d, whole) at (take-append-drop (n - length vs) (drop (length vs) d))
    ∙ drop-drop (length vs) at s)) in
    rw (sets-eq vs (take n d) 0 (omega arith), none, sets-eq vs s at (omega arith), ← past)
    (ap (λ (l : List ℕ). take at s ++ l) (append_assoc vs (drop (length vs) (take n d)) (drop n d))
    ∙ sym (append_assoc (take at s) vs (drop (length vs) (take n d) ++ drop n d)))

pub sets-whole : (s : List ℕ) (at n : ℕ) {v : List ℕ} (vs : List ℕ) → v ≡ vs → at + n ≤ length s → length vs ≡ n
    → put_mid at (at + n - at) s v ≡ sets s at vs
sets-whole s at n vs e h k =
    let long : at + n - at ≡ n = omega arith in
    rw (e, sets-eq vs s at (omega arith), k, long, drop-drop n at s) (sym (append_assoc (take at s) vs (drop (at + n) s)))

-- a part that is read from one place to another
pub part_between : (s : List ℕ) (from n : ℕ) → take (from + n - from) (drop from s) ≡ part s from n
part_between s from n =
    let long : from + n - from ≡ n = omega arith in
    rw long refl
