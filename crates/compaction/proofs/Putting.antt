-- What is put of the record at a place, by the spelling that is taken with what is left of the budget behind the head.
--     put_headless        no room for a head
--     put_too_long        the packet stays as it is, and has no room
--     put_as_it_is        the packet stays as it is
--     put_compact_lem         the compact packet is taken
--     head_laid           the five bytes of a head
--     Asked, Spelt                                      what the code has asked, and which spelling was taken
--     without_head, too_long, as_it_is, compact_put     what it has put then
-- Assumes nothing.
use Prim.Native.Nat.{ℕ, suc, ◌+◌, ◌-◌, ◌/◌, ◌%◌, ◌<◌, ◌≤◌}
use native.Mathlib.Omega.{arith}
use mathlib.Core.Path.{◌≡◌, refl, sym, ap, ◌∙◌}
use mathlib.Core.List.{List, [], ◌++◌}
use lib.ListN.{length, get_or, take, drop, set, length-append, length-take, length-drop}
use lib.Seq.{sets}
use lib.Dec.{ltb}
use borrow.Author.Tests.{le-leb, lt-leb, ltb-true, ltb-false}
use borrow.Rule.Slice.PartMut.{put_mid, put_same, same_len_mid}
use Rattle.laws.specs.Bytes.{Bytes}
use Rattle.laws.proofs.Never.{by_test, never}
use Rattle.blocks.specs.Blocks.{part, copied}
use Rattle.blocks.proofs.Sets.{length_part, sets-before-sets}
use Rattle.blocks.proofs.LentParts.{sets-part}
use Rattle.capture.specs.Records.{Entry, written}
use Rattle.capture.specs.Finding.{packet_length, packet_at}
use Rattle.spelling.specs.Spelling.{spelling, compact_of, shorter, work_after}
use Rattle.spelling.specs.declared.Spelling.TheVariants.{Original, Compact}
use Rattle.spelling.proofs.Laws.{original_is, compact_is, roomy, cramped}
use Rattle.compaction.specs.Account.{rewritten}
use Rattle.compaction.specs.Parts.{head_of, entry_at, put_of}
use Rattle.capture.proofs.Files.{written-parts}
use Rattle.capture.proofs.Laws.{packet_part, within as stands-in}
use Rattle.spelling.specs.declared.Spelling.{Spelling}
use Rattle.compaction.proofs.Entries.{size-written, stands_length, stands_holds, stands_written}

-- ---- five stores
pub head_laid : (d : List ℕ) (at line n : ℕ)
    → set (set (set (set (set d at 0x4B) (at + 1) 0x9D) (at + 2) line) (at + 3) (n / 256)) (at + 4) (n % 256) ≡ sets d at (head_of line n)
head_laid d at line n =
    let a : at + 1 ≡ suc at = omega arith in
    let b : at + 2 ≡ suc (suc at) = omega arith in
    let c : at + 3 ≡ suc (suc (suc at)) = omega arith in
    let e : at + 4 ≡ suc (suc (suc (suc at))) = omega arith in
    rw (a, b, c, e)

-- ---- by what is left
module _ (left : ℕ) (e : Entry) where
  pub put_all : length (written (rewritten e)) ≤ left → put_of left e ≡ written (rewritten e)
  unfolding put_of
  put_all h = rw (le-leb (length (written (rewritten e))) left h)

  pub put_none : left < length (written (rewritten e)) → put_of left e ≡ []
  unfolding put_of
  put_none h = rw (lt-leb (length (written (rewritten e))) left h)

  put_headless : left < 5 → put_of left e ≡ []
  put_headless h = put_none (omega (arith, size-written e))

-- ---- by the spelling, in the room behind the head
module _ (s : List ℕ) (bytes : Bytes s) (place n : ℕ) (is : n ≡ packet_length (drop place s)) (some : 1 ≤ n)
    (left room : ℕ) (head : left ≡ 5 + room) where
  abbrev p : List ℕ
  p = packet_at s place

  abbrev e : Entry
  e = entry_at s place

  stands : packet_length (drop place s) ≡ 0 → ⊥
  stands z = omega (arith, is)

  pub packet_length_lem : length p ≡ n
  packet_length_lem = stands_length s place stands ∙ sym is

  pub short : length p ≤ 65535
  short = (stands_holds s place stands bytes).most

  module _ (own : spelling p room ≡ Original) where
    put_too_long : room < n → put_of left e ≡ []
    put_too_long h =
        by_test (ltb room (length (shorter p 65535)))
        (λ t. put_none left e (omega (arith, ltb-true room (length (shorter p 65535)) t, size-written e)))
        (λ t. let k = ltb-false room (length (shorter p 65535)) t in
        let same = original_is p 65535 (sym (roomy p room short k) ∙ own) in
        absurd (omega (arith, ap length same, packet_length_lem)))

    put_as_it_is : n ≤ room → put_of left e ≡ part s place (5 + n)
    put_as_it_is h =
        by_test (ltb room (length (shorter p 65535)))
        (λ t. absurd (omega (arith, (cramped p room short (ltb-true room (length (shorter p 65535)) t)).1, packet_length_lem)))
        (λ t. let k = ltb-false room (length (shorter p 65535)) t in
        let same = original_is p 65535 (sym (roomy p room short k) ∙ own) in
        let stays : rewritten e ≡ e = rw same in
        put_all left e (omega (arith, k, size-written e)) ∙ (ap written stays ∙ (stands_written s place stands bytes ∙ rw (← is))))

  module _ (m : ℕ) (took : spelling p room ≡ Compact m) where
    put_compact_lem : put_of left e ≡ head_of e.line m ++ compact_of p
    put_compact_lem =
        by_test (ltb room (length (shorter p 65535)))
        (λ t. let own = (cramped p room short (ltb-true room (length (shorter p 65535)) t)).0 in never (cc))
        (λ t. let k = ltb-false room (length (shorter p 65535)) t in
        let c = compact_is p 65535 m (sym (roomy p room short k) ∙ took) in
        put_all left e (omega (arith, k, size-written e)) ∙ (written-parts (rewritten e) ∙ rw (c.0, c.1)))

    compact_room : (length (compact_of p) ≡ m) × (m ≤ room) × (m ≤ 65535)
    compact_room = let c = compact_is p room m took in (c.1, c.3, omega (arith, short, c.2))

-- ---- as the code has it: the packet is a part of the capture, and what is left of the budget behind the head a part of the destination d
abbrev packet_in : List ℕ → ℕ → ℕ → List ℕ
packet_in s place n = take (place + 5 + n - (place + 5)) (drop (place + 5) s)

abbrev work_in : List ℕ → ℕ → ℕ → List ℕ
work_in d at budget = take (budget - (at + 5)) (drop (at + 5) d)

pub record Asked (s : List ℕ) (place n : ℕ) (d : List ℕ) (at budget : ℕ) : Type 0 where
  pub bytes : Bytes s
  pub is : n ≡ packet_length (drop place s)
  pub some : 1 ≤ n
  pub fit : at ≤ budget
  pub within : budget ≤ length d

-- the spelling c was taken, and v is left in that part of the destination
pub record Spelt (s : List ℕ) (place n : ℕ) (d : List ℕ) (at budget : ℕ) (c : Spelling) (v : List ℕ) : Type 0 where
  pub asked : Asked s place n d at budget
  pub head : 5 ≤ budget - at
  pub took : c ≡ spelling (packet_in s place n) (length (work_in d at budget))
  pub wrote : v ≡ work_after (compact_of (packet_in s place n)) (work_in d at budget) c

-- r bytes are put, and the destination is x
abbrev pub Puts : List ℕ → ℕ → List ℕ → ℕ → ℕ → ℕ → List ℕ → Type 0
Puts s place d at budget r x =
    (r ≡ length (put_of (budget - at) (entry_at s place))) × (x ≡ sets d at (put_of (budget - at) (entry_at s place)))

puts : (s : List ℕ) (place : ℕ) (d : List ℕ) (at budget : ℕ) (vs : List ℕ) → put_of (budget - at) (entry_at s place) ≡ vs
    → {r : ℕ} {x : List ℕ} → r ≡ length vs → x ≡ sets d at vs → Puts s place d at budget r x
puts s place d at budget vs e a b = rw e (a, b)

pub without_head : (s : List ℕ) (place : ℕ) (d : List ℕ) (at budget : ℕ) → budget - at < 5 → Puts s place d at budget 0 d
without_head s place d at budget h = puts s place d at budget [] (put_headless (budget - at) (entry_at s place) h) refl refl

module _ {s : List ℕ} {place n : ℕ} {d : List ℕ} {at budget : ℕ} {c : Spelling} {v : List ℕ} (w : Spelt s place n d at budget c v) where
  abbrev q : Asked s place n d at budget
  q = w.asked

  abbrev x : List ℕ
  x = put_mid (at + 5) (budget - (at + 5)) d v

  pub same_long : length v ≡ length (work_in d at budget) → length x ≡ length d
  same_long e = same_len_mid (at + 5) (budget - (at + 5)) d v e

  packet_is : packet_in s place n ≡ packet_at s place
  packet_is = sym (packet_part s place n q.is)

  room_is : length (work_in d at budget) ≡ budget - (at + 5)
  room_is = rw (length-take, length-drop) (omega (arith, q.within))

  left_is : budget - at ≡ 5 + (budget - (at + 5))
  left_is = omega (arith, w.head)

  chosen : c ≡ spelling (packet_at s place) (budget - (at + 5))
  chosen = w.took ∙ rw (packet_is, room_is)

  module _ (own : c ≡ Original) where
    untouched : x ≡ d
    untouched = rw (w.wrote, own) (put_same (at + 5) (budget - (at + 5)) d)

    pub too_long : budget - at - 5 < n → Puts s place d at budget 0 x
    too_long h =
        puts s place d at budget []
        (put_too_long s q.bytes place n q.is q.some (budget - at) (budget - (at + 5)) left_is (sym chosen ∙ own) (omega arith)) refl untouched

    pub as_it_is : n ≤ budget - at - 5 → {y : List ℕ} → y ≡ copied x at s place (5 + n) → Puts s place d at budget (5 + n) y
    as_it_is h e =
        puts s place d at budget (part s place (5 + n))
        (put_as_it_is s q.bytes place n q.is q.some (budget - at) (budget - (at + 5)) left_is (sym chosen ∙ own) (omega arith))
        (sym (length_part s place (5 + n) (omega (arith, stands-in s place n q.is (λ z. omega (arith, q.some)))))) (rw untouched at e)

  module _ (k : ℕ) (shorter-one : c ≡ Compact k) where
    fits : (length (compact_of (packet_at s place)) ≡ k) × (k ≤ budget - (at + 5)) × (k ≤ 65535)
    fits =
        compact_room s q.bytes place n q.is q.some (budget - at) (budget - (at + 5)) left_is k (sym chosen ∙ shorter-one)

    pub few : k ≤ 65535
    few = fits.2

    pub compact_put : {y : List ℕ} → y ≡ sets x at (head_of (get_or s (place + 2) 0) k) → Puts s place d at budget (5 + k) y
    compact_put e =
        let p = compact_of (packet_at s place) in
        let front = head_of (get_or s (place + 2) 0) k in
        let behind : x ≡ sets d (at + 5) p =
        rw (w.wrote, shorter-one, packet_is)
        (sets-part d (at + 5) (budget - (at + 5)) p (omega (arith, w.head, q.within)) (omega (arith, fits))) in
        puts s place d at budget (front ++ p)
        (put_compact_lem s q.bytes place n q.is q.some (budget - at) (budget - (at + 5)) left_is k (sym chosen ∙ shorter-one))
        (omega (arith, length-append front p, fits)) (e ∙ rw behind (sets-before-sets d at front (at + 5) p refl))
