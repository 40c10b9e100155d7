-- The frames that came in one packet: a range of those held.
--     below_few, Passed, passed-..                 numbers below k, one more at a time; there are no more than numbers
--     range-is-brought                            of sound numbers, the frames with number k are the range between those below k and those below k + 1
--     range_many, ..                              where they stand, by the tests of the code
--     numbered-range                              output by number is output of that range
-- Assumes nothing.
use Prim.Native.Nat.{ℕ, suc, ◌+◌, ◌-◌, ◌≤◌, ◌<◌}
use native.Mathlib.Nat.{zero-add, add_assoc}
use native.Mathlib.Numerals.{add-one}
use native.Mathlib.Omega.{arith}
use mathlib.Core.Path.{◌≡◌, refl, sym, ap}
use mathlib.Core.List.{List, [], ◌∷◌, ◌++◌}
use mathlib.Core.Bool.{Bool, true, false, ◌||◌}
use lib.Dec.{ltb, leb, eqb}
use lib.IntN.{ℤ, pos, negsuc}
use lib.ListN.{length, get_or, take, length-take}
use lib.Seq.{take_all, take-suc, length-take-le}
use mir.Syntax.{w32}
use mir.Val.{to_z, of_z, SFits}
use mir.ValLaws.{to_z_pos, to_z-of_z}
use borrow.Author.Tests.{ltb-true, ltb-false, lt-ltb, le-ltb, leb-true, leb-false, le-leb, lt-leb, eqb-true, eqb-false, eq-eqb, ne_eqb}
use Rattle.laws.proofs.Never.{never, by_test}
use Rattle.laws.proofs.Every.{both_left, both_right}
use Rattle.opus_defines.specs.Bounds.{most_packet}
use Rattle.opus_defines.specs.Numbers.{count_of}
use Rattle.std.specs.Prelude.{None}
use Rattle.opus_toc.specs.Toc.{upper_six}
use Rattle.packet_numbers.specs.Numbers.{steps, numbered}
use Rattle.packet_numbers.proofs.Growing.{numbered-steps, numbered_first}
use Rattle.collector.specs.declared.OpusRepacketizer.{OpusRepacketizer}
use Rattle.collector.specs.Collector.{held, least_store, sound}
use Rattle.collector.proofs.Sound.{sound-framed, sound-numbered}
use Rattle.collector.proofs.Held.{holding}
use Rattle.repacketizer_out.specs.declared.by_number.Range.{Range}
use Rattle.repacketizer_out.specs.Output.{range, output, out_frames, out_range}
use Rattle.repacketizer_out.specs.Numbered.{brought_by, output_some, output_of, out_numbered, one_if, below, no_range, range_in, range_of}
use Rattle.repacketizer_out.proofs.Ranges.{length-range, length-held}

-- ---- counting
below_snoc : (k : ℕ) (ks : List ℕ) (n : ℕ) → below k (ks ++ (n ∷ [])) ≡ below k ks + one_if (ltb n k)
unfolding below
below_snoc k [] n = omega arith
below_snoc k (m ∷ ks) n = rw (below_snoc k ks n) (sym (add_assoc (one_if (ltb m k)) (below k ks) (one_if (ltb n k))))

below_more : (k : ℕ) (ks : List ℕ) (i : ℕ) → i < length ks → below k (take (i + 1) ks) ≡ below k (take i ks) + one_if (ltb (get_or ks i 0) k)
below_more k ks i h = rw (add-one, take-suc ks i 0 h) (below_snoc k (take i ks) (get_or ks i 0))

one_few : (b : Bool) → one_if b ≤ 1
one_few true = omega arith
one_few false = omega arith

below_few : (k : ℕ) (ks : List ℕ) → below k ks ≤ length ks
unfolding below
below_few k [] = omega arith
below_few k (n ∷ ks) = omega (arith, one_few (ltb n k), below_few k ks)

-- as a loop goes over at most 48 of them
pub record Passed (k : ℕ) (ks : List ℕ) (n i : ℕ) : Type 0 where
  pub within : i ≤ length ks
  pub count : n ≡ below k (take i ks)

pub passed_none : (k : ℕ) (ks : List ℕ) → Passed k ks 0 0
unfolding below
passed_none k ks = record { within = omega arith; count = refl }

module _ (k : ℕ) (ks : List ℕ) where
  pub passed_more : {n i m : ℕ} → Passed k ks n i → i < length ks → m ≡ one_if (ltb (get_or ks i 0) k) → Passed k ks (n + m) (i + 1)
  passed_more {n} {i} p h e = record { within = omega arith; count = rw (below_more k ks i h, ← p.count, e) }

  -- so the count fits a byte
  pub passed_few : {n i m : ℕ} → Passed k ks n i → i < length ks → length ks ≤ 48 → m ≡ one_if (ltb (get_or ks i 0) k) → n + m < 256
  passed_few {n} {i} p h few e =
      let long = length-take-le i ks p.within in
      omega (arith, p.count, below_few k (take i ks), long, e, one_few (ltb (get_or ks i 0) k))

  pub passed_all : {n i : ℕ} → Passed k ks n i → length ks ≤ i → n ≡ below k ks
  passed_all {n} {i} p h = rw (take_all i ks h) at p.count

-- ---- numbers that rise from a number on
-- all are at least the first, so none below it, and none with a lower number
rise : (b n : ℕ) → eqb n b || eqb n (b + 1) ≡ true → b ≤ n
rise b n g = by_test (eqb n b) (λ e. omega (arith, eqb-true n b e)) (λ e. omega (arith, eqb-true n (b + 1) (rw e at g)))

below_none : (k b : ℕ) (ks : List ℕ) → k ≤ b → steps b ks ≡ true → below k ks ≡ 0
unfolding below
below_none k b [] h s = refl
below_none k b (n ∷ ks) h s =
    let up = rise b n (both_left (eqb n b || eqb n (b + 1)) (steps n ks) s) in
    rw (le-ltb n k (omega arith), zero-add) (below_none k n ks (omega arith) (both_right (eqb n b || eqb n (b + 1)) (steps n ks) s))

brought_none : (k b : ℕ) (ks : List ℕ) (frames : List (List ℕ)) → k < b → steps b ks ≡ true → brought_by k ks frames ≡ []
unfolding brought_by
brought_none k b [] frames h s = refl
brought_none k b (n ∷ ks) [] h s = refl
brought_none k b (n ∷ ks) (f ∷ frames) h s =
    let up = rise b n (both_left (eqb n b || eqb n (b + 1)) (steps n ks) s) in
    rw (ne_eqb n k (λ e. omega arith)) (brought_none k n ks frames (omega arith) (both_right (eqb n b || eqb n (b + 1)) (steps n ks) s))

-- so the frames with number k stand behind those with a lower one, and before those with a higher
rising_range : (k b : ℕ) (ks : List ℕ) (frames : List (List ℕ)) → steps b ks ≡ true → length frames ≡ length ks
    → range (below k ks) (below (k + 1) ks) frames ≡ brought_by k ks frames
unfolding below brought_by
rising_range k b [] [] s l = refl
rising_range k b [] (f ∷ frames) s l = absurd (omega arith)
rising_range k b (n ∷ ks) [] s l = absurd (omega arith)
rising_range k b (n ∷ ks) (f ∷ frames) s l =
    let t = both_right (eqb n b || eqb n (b + 1)) (steps n ks) s in
    let rest = rising_range k n ks frames t (omega arith) in
    by_test (ltb n k) (λ low. lower (ltb-true n k low) rest)
    (λ high. by_test (eqb n k) (λ e. equal (eqb-true n k e) t rest) (λ e. higher (omega (arith, ltb-false n k high, eqb-false n k e)) t))
  where
    lower : n < k → range (below k ks) (below (k + 1) ks) frames ≡ brought_by k ks frames
        → range (below k (n ∷ ks)) (below (k + 1) (n ∷ ks)) (f ∷ frames) ≡ brought_by k (n ∷ ks) (f ∷ frames)
    lower h rest =
        let x : 1 + below k ks ≡ suc (below k ks) = omega arith in
        let y : 1 + below (k + 1) ks ≡ suc (below (k + 1) ks) = omega arith in
        let z : suc (below (k + 1) ks) - suc (below k ks) ≡ below (k + 1) ks - below k ks = omega arith in
        rw (lt-ltb n k h, lt-ltb n (k + 1) (omega arith), ne_eqb n k (λ e. omega arith), x, y, z) rest

    equal : n ≡ k → steps n ks ≡ true → range (below k ks) (below (k + 1) ks) frames ≡ brought_by k ks frames
        → range (below k (n ∷ ks)) (below (k + 1) (n ∷ ks)) (f ∷ frames) ≡ brought_by k (n ∷ ks) (f ∷ frames)
    equal e t rest =
        let none = below_none k n ks (omega arith) t in
        let y : 1 + below (k + 1) ks - 0 ≡ suc (below (k + 1) ks) = omega arith in
        let z : below (k + 1) ks - 0 ≡ below (k + 1) ks = omega arith in
        rw (le-ltb n k (omega arith), lt-ltb n (k + 1) (omega arith), eq-eqb n k e, none, zero-add, y) (ap (λ l. f ∷ l) (rw (none, z) at rest))

    higher : k < n → steps n ks ≡ true → range (below k (n ∷ ks)) (below (k + 1) (n ∷ ks)) (f ∷ frames) ≡ brought_by k (n ∷ ks) (f ∷ frames)
    higher h t =
        rw (
          le-ltb n k (omega arith),
          le-ltb n (k + 1) (omega arith),
          ne_eqb n k (λ e. omega arith),
          below_none k n ks (omega arith) t,
          below_none (k + 1) n ks (omega arith) t,
          brought_none k n ks frames h t,
        )

-- ---- sound numbers
near : (b n : ℕ) → eqb n b || eqb n (b + 1) ≡ true → n ≤ b + 1
near b n g = by_test (eqb n b) (λ e. omega (arith, eqb-true n b e)) (λ e. omega (arith, eqb-true n (b + 1) (rw e at g)))

-- none reaches the count of frames
brought_past : (k b : ℕ) (ks : List ℕ) (frames : List (List ℕ)) → b + length ks < k → steps b ks ≡ true → brought_by k ks frames ≡ []
unfolding brought_by
brought_past k b [] frames h s = refl
brought_past k b (n ∷ ks) [] h s = refl
brought_past k b (n ∷ ks) (f ∷ frames) h s =
    let close = near b n (both_left (eqb n b || eqb n (b + 1)) (steps n ks) s) in
    rw (ne_eqb n k (λ e. omega arith)) (brought_past k n ks frames (omega arith) (both_right (eqb n b || eqb n (b + 1)) (steps n ks) s))

brought_high : (k : ℕ) (ks : List ℕ) (frames : List (List ℕ)) → length ks ≤ k → numbered ks ≡ true → brought_by k ks frames ≡ []
unfolding brought_by
brought_high k [] frames h s = refl
brought_high k (n ∷ ks) [] h s = refl
brought_high k (n ∷ ks) (f ∷ frames) h s =
    let f = numbered_first n ks s in
    rw (ne_eqb n k (λ e. omega (arith, f.0))) (brought_past k n ks frames (omega (arith, f.0)) f.1)

-- ---- the output
pub some_output : (six : ℕ) (x : List (List ℕ)) (room : ℕ) → 1 ≤ length x → output_some six x room ≡ output false false six x room
some_output six [] room h = absurd (omega arith)
some_output six (f ∷ x) room h = refl

module _ (six : ℕ) (frames : List (List ℕ)) (room n : ℕ) (packet : List ℕ) (few : n ≤ 48) (within : n ≤ length packet)
    (sound : numbered (take n packet) ≡ true) (same : length frames ≡ n) where
  abbrev numbers : List ℕ
  numbers = take n packet

  count : length numbers ≡ n
  count = length-take-le n packet within

  at_number : (k : ℕ) → k < 48
      → output_some six (brought_by k numbers frames) room ≡ out_frames false false six frames (pos (below k numbers)) (pos (below (k + 1) numbers)) room
  at_number k h =
      let brought = rising_range k 0 numbers frames (numbered-steps numbers sound) (omega (arith, same, count)) in
      let end = below_few (k + 1) numbers in
      by_test (ltb (below k numbers) (below (k + 1) numbers))
      (λ t. let long = length-range (below k numbers) (below (k + 1) numbers) frames (omega (arith, end, count, same)) in
      let some : 1 ≤ length (range (below k numbers) (below (k + 1) numbers) frames) =
      omega (arith, long, ltb-true (below k numbers) (below (k + 1) numbers) t) in
      rw (← brought, t, le-leb (below (k + 1) numbers) (length frames) (omega (arith, end, count, same)))
      (some_output six (range (below k numbers) (below (k + 1) numbers) frames) room some))
      (λ t. let none : below (k + 1) numbers - below k numbers ≡ 0 = omega (arith, ltb-false (below k numbers) (below (k + 1) numbers) t) in
      rw (← brought, t, none))

  effect : (number : ℤ)
      → let r = range_of n packet number in output_of six numbers frames number room ≡ out_frames false false six frames r.begin r.end room
  effect (negsuc k) = refl
  effect (pos k) =
      by_test (leb 48 k)
      (λ t. rw (le-ltb 48 n few, t, brought_high k numbers frames (omega (arith, count, few, leb-true 48 k t)) sound))
      (λ t. rw (le-ltb 48 n few, t) (at_number k (leb-false 48 k t)))

pub numbered-range : (rp : OpusRepacketizer) → rp.toc < 256 → length rp.len ≡ 48 → length rp.packet ≡ 48
    → (store : List ℕ) (number : ℤ) (dst : List ℕ)
    → let r = range_of rp.nb_frames rp.packet number in
    out_numbered rp store number dst ≡ out_range false false rp store r.begin r.end dst
unfolding out_numbered out_range
numbered-range rp b l m store number dst =
    by_test (sound rp)
    (λ s. by_test (ltb (length store) least_store) (λ t. rw (s, t))
    (λ t. by_test (ltb most_packet (length dst)) (λ u. rw (s, t, u))
    (λ u. let h = holding rp b l (sound-framed rp s) in
    rw (
      s,
      t,
      u,
      effect (upper_six rp.toc) (held rp store) (length dst) rp.nb_frames rp.packet h.few (omega (arith, h.few, m))
          (sound-numbered rp s) (length-held rp store h) number,
    ))))
    (λ s. rw s)

-- ---- where they stand, by the tests of the code
module _ (n : ℕ) (packet : List ℕ) (number : ℤ) where
  pub range_many : 48 < n → no_range ≡ range_of n packet number
  range_many h = go number
    where
      go : (number : ℤ) → no_range ≡ range_of n packet number
      go (negsuc k) = refl
      go (pos k) = rw (lt-ltb 48 n h)

  pub range_negative : count_of number ≡ None → no_range ≡ range_of n packet number
  range_negative e = go number e
    where
      go : (number : ℤ) → count_of number ≡ None → no_range ≡ range_of n packet number
      go (negsuc k) e = refl
      go (pos k) e = never (cc)

  module _ (few : n ≤ 48) (k : ℕ) (e : number ≡ pos k) where
    pub range_high : 48 ≤ k → no_range ≡ range_of n packet number
    range_high h = rw (e, le-ltb 48 n few, le-leb 48 k h)

    pub range_low : k < 48 → {m : ℕ} → m ≡ n → range_in (take m packet) k ≡ range_of n packet number
    range_low h q = rw (e, q, le-ltb 48 n few, lt-leb 48 k h)

-- ---- as the code has signed numbers
pub range-signed : (k : ℕ) (ks : List ℕ) → length ks ≤ 48 → {b e : ℕ} → b ≡ below k ks → e ≡ below (k + 1) ks
    → record { begin = to_z w32 b; end = to_z w32 e } ≡ range_in ks k
range-signed k ks few p q =
    rw (p, q, to_z_pos w32 (below k ks) (omega (arith, below_few k ks)), to_z_pos w32 (below (k + 1) ks) (omega (arith, below_few (k + 1) ks)))

-- a call is passed the bits of the number, and hands on those of the range
few_fits : (m : ℕ) → m ≤ 48 → SFits w32 (pos m)
few_fits m h = let l : m < 2147483648 = omega arith in record { sfits = l }

abbrev Fit : Range → Type 0
Fit r = SFits w32 r.begin × SFits w32 r.end

range-fits : (n : ℕ) (packet : List ℕ) (number : ℤ) → Fit (range_of n packet number)
range-fits n packet (negsuc k) = (few_fits 0 (omega arith), few_fits 0 (omega arith))
range-fits n packet (pos k) =
    let none : Fit no_range = (few_fits 0 (omega arith), few_fits 0 (omega arith)) in
    by_test (ltb 48 n) (λ t. rw t none)
    (λ t. by_test (leb 48 k) (λ u. rw (t, u) none)
    (λ u. let few : length (take n packet) ≤ 48 = omega (arith, length-take n packet, ltb-false 48 n t) in
    rw (t, u) (
      few_fits (below k (take n packet)) (omega (arith, below_few k (take n packet))),
      few_fits (below (k + 1) (take n packet)) (omega (arith, below_few (k + 1) (take n packet))),
    )))

pub numbered_as : (rp : OpusRepacketizer) → rp.toc < 256 → length rp.len ≡ 48 → length rp.packet ≡ 48
    → (store : List ℕ) (number : ℤ) (dst : List ℕ) → SFits w32 number → {r : Range}
    → r ≡ range_of rp.nb_frames rp.packet (to_z w32 (of_z w32 number))
    → out_numbered rp store number dst ≡ out_range false false rp store (to_z w32 (of_z w32 r.begin)) (to_z w32 (of_z w32 r.end)) dst
numbered_as rp b l m store number dst f e =
    let k = range-fits rp.nb_frames rp.packet number in
    rw (e, to_z-of_z w32 number f, to_z-of_z w32 _ k.0, to_z-of_z w32 _ k.1) (numbered-range rp b l m store number dst)
