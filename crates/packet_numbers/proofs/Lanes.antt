-- Lengths and numbers of packets by words of eight bytes.
--     eight_go, go_place, go_fewer, first_goes, last_goes   numbers that go by 0 or 1, eight steps at a time
--     Sums, sums-..                                         four sums of lengths in one word
--     Held; sums_four, fours_more, twos_more, ones_more     lengths that are there; with four, two or one more
--     told_quick, told_wrong, told_well                     what is told in the end
-- Assumes nothing.
use Rattle.std.proofs.Common.{◌≡◌, ℕ, zero, suc, ◌+◌, ◌-◌, ◌*◌, ◌/◌, ◌%◌, ◌^◌, ◌<◌, ◌≤◌, true, false, not, eqb, leb, List, [], ◌∷◌, length, get_or, take}
use Rattle.std.proofs.Common.{replicate, sym, refl, ◌∙◌, mod-eq_of_lt, add-one, arith, length-take, eq-eqb, eqb-true, le-leb, leb-true}
use lib.Bits.{bit_and, and_block, and_high}
use borrow.Author.Tests.{lt-leb, eqb-false, not-false}
use Rattle.laws.proofs.Never.{by_test}
use Rattle.laws.proofs.Every.{both_left}
use Rattle.low_first.specs.Numbers.{from_low, number_at}
use Rattle.low_first.proofs.Numbers.{number_more}
use Rattle.opus_size.specs.Size.{most_bytes}
use Rattle.opus_format.specs.Frames.{total, longest}
use Rattle.opus_format.proofs.Lengths.{total_more, longest_more, total_most}
use Rattle.packet_numbers.specs.Numbers.{numbered, kept_well, told}
use Rattle.packet_numbers.proofs.Numbering.{goes, numbered_more, numbered_below}

-- ---- steps of numbers
-- 254 in each of n bytes
abbrev evens : ℕ → ℕ
evens n = from_low (replicate n 254)

-- q behind n bytes
abbrev behind : ℕ → ℕ → ℕ
behind zero q = q
behind (suc n) q = 256 * behind n q

step_small : (x : ℕ) → x < 256 → bit_and x 254 ≡ 0 → x ≤ 1
step_small x h e =
    let few : x / 2 < 128 = omega arith in
    let d : x / 2 % 128 * 2 ≡ 0 = sym (and_high x 7 1) ∙ e in
    omega (arith, d, mod-eq_of_lt few)

step_goes : (b x : ℕ) → x ≤ 1 → goes b (b + x) ≡ true
step_goes b x h =
    by_test (eqb (b + x) b) (λ e. rw e)
    (λ e. rw (e, eq-eqb (b + x) (b + 1) (omega (arith, eqb-false (b + x) b e))))

wrapped : (x y : ℕ) → x % 2 ^ 64 ≡ y → x ≡ y + behind 8 (x / 2 ^ 64)
wrapped x y e = omega (arith, e)

module _ (ks : List ℕ) where
  next_goes : (at x : ℕ) → at + 1 < length ks → numbered (take (at + 1) ks) ≡ true → x ≤ 1 → get_or ks (at + 1) 0 ≡ get_or ks at 0 + x
      → numbered (take (at + 1 + 1) ks) ≡ true
  next_goes at x h s l e =
      let back : at + 1 - 1 ≡ at = omega arith in
      rw (numbered_more ks (at + 1) (omega arith) h, s, back, e) (step_goes (get_or ks at 0) x l)

  -- from eight steps to the next
  pub go_place : (i : ℕ) → numbered (take (i + 9) ks) ≡ true → numbered (take (i + 8 + 1) ks) ≡ true
  go_place i s = let place : i + 8 + 1 ≡ i + 9 = omega arith in rw place s

  longer : (j : ℕ) → numbered (take (suc j) ks) ≡ true → numbered (take (j + 1) ks) ≡ true
  longer j s = rw add-one s

  -- numbers that go so far go as far as any place before
  pub go_fewer : (i j : ℕ) → 1 ≤ i → i ≤ j → j ≤ length ks → numbered (take j ks) ≡ true → numbered (take i ks) ≡ true
  go_fewer i zero some h l s = absurd (omega arith)
  go_fewer i (suc j) some h l s =
      by_test (eqb i (suc j)) (λ e. rw (eqb-true i (suc j) e) s)
      (λ e. go_fewer i j some (omega (arith, eqb-false i (suc j) e)) (omega arith)
      (both_left (numbered (take j ks)) (goes (get_or ks (j - 1) 0) (get_or ks j 0))
      (rw (numbered_more ks j (omega (arith, eqb-false i (suc j) e)) (omega arith)) at (longer j s))))

  -- the last step by itself
  pub last_goes : (n d : ℕ) → 10 ≤ n → n ≤ length ks → length ks ≤ 48 → numbered (take (n - 10 + 9) ks) ≡ true
      → (d + get_or ks (n - 2) 0) % 2 ^ 8 ≡ get_or ks (n - 1) 0 → leb d 1 ≡ true → numbered (take n ks) ≡ true
  last_goes n d some h l s e t =
      let at = n - 2 in
      let place : n - 10 + 9 ≡ at + 1 = omega arith in
      let all : n ≡ at + 1 + 1 = omega arith in
      let top : n - 1 ≡ at + 1 = omega arith in
      let back : at + 1 - 1 ≡ at = omega arith in
      let so : numbered (take (at + 1) ks) ≡ true = rw place at s in
      let low : get_or ks at 0 < at + 1 = rw back at (numbered_below ks (at + 1) (omega arith) (omega arith) so) in
      let sum : (d + get_or ks at 0) % 2 ^ 8 ≡ get_or ks (at + 1) 0 = rw top at e in
      let one : get_or ks (at + 1) 0 ≡ get_or ks at 0 + d = omega (arith, sum, low, leb-true d 1 t) in
      rw all (next_goes at d (omega arith) so (leb-true d 1 t) one)

module _ (ks : List ℕ) (bytes : (i : ℕ) → get_or ks i 0 < 256) where
  steps_go : (n at r q : ℕ) → at + n < 255 → at + n < length ks → numbered (take (at + 1) ks) ≡ true → bit_and r (evens n) ≡ 0
      → r + number_at ks at n ≡ number_at ks (at + 1) n + behind n q → numbered (take (at + 1 + n) ks) ≡ true
  steps_go zero at r q few h s e f = let same : at + 1 + 0 ≡ at + 1 = omega arith in rw same s
  steps_go (suc n) at r q few h s e f =
      let x = r % 256 in
      let y = r / 256 in
      let small : x < 256 = omega arith in
      let apart : y * 2 ^ 8 + x ≡ r = omega arith in
      let bits : bit_and y (evens n) * 2 ^ 8 + bit_and x 254 ≡ 0 =
      sym (and_block 8 y (evens n) x 254 small (omega arith)) ∙ rw (← apart) at e in
      let step : x ≤ 1 = step_small x small (omega (arith, bits)) in
      let back : at + 1 - 1 ≡ at = omega arith in
      let low : get_or ks at 0 < at + 1 = rw back at (numbered_below ks (at + 1) (omega arith) (omega arith) s) in
      let here = number_more ks at n (omega arith) in
      let next = number_more ks (at + 1) n (omega arith) in
      let one : get_or ks (at + 1) 0 ≡ get_or ks at 0 + x = omega (arith, bytes (at + 1), f, here, next) in
      let rest : y + number_at ks (at + 1) n ≡ number_at ks (at + 1 + 1) n + behind n q = omega (arith, one, f, here, next) in
      let more = next_goes ks at x (omega arith) s step one in
      let all = steps_go n (at + 1) y q (omega arith) (omega arith) more (omega (arith, bits)) rest in
      let place : at + 1 + suc n ≡ at + 1 + 1 + n = omega arith in
      rw place all

  -- by two words of eight numbers, and what r added to the one wraps to
  pub eight_go : (at r : ℕ) → at + 9 ≤ length ks → length ks ≤ 48 → {a b : ℕ} → a ≡ number_at ks (at + 1) 8 → b ≡ number_at ks at 8
      → (r + b) % 2 ^ 64 ≡ a → not (eqb (bit_and r 0xFEFEFEFEFEFEFEFE) 0) ≡ false → numbered (take (at + 1) ks) ≡ true
      → numbered (take (at + 9) ks) ≡ true
  eight_go at r h l ea eb f e s =
      let q = (r + number_at ks at 8) / 2 ^ 64 in
      let none = bit_and r 0xFEFEFEFEFEFEFEFE in
      let place : at + 9 ≡ at + 1 + 8 = omega arith in
      let sum = wrapped (r + number_at ks at 8) (number_at ks (at + 1) 8) (rw (ea, eb) at f) in
      rw place (steps_go 8 at r q (omega arith) (omega arith) s (eqb-true none 0 (not-false (eqb none 0) e)) sum)

pub first_goes : (ks : List ℕ) → 1 ≤ length ks → get_or ks 0 0 ≡ 0 → numbered (take (0 + 1) ks) ≡ true
unfolding numbered
first_goes [] h e = absurd (omega arith)
first_goes (k ∷ ks) h e = rw (eq-eqb k 0 e)

-- ---- sums of lengths
-- four numbers side by side in one word
abbrev pub lanes : ℕ → ℕ → ℕ → ℕ → ℕ
lanes x y z v = x + 65536 * y + 4294967296 * (z + 65536 * v)

-- lengths below 1,024, four sums of them in one word
pub record Sums (ns : List ℕ) (sum i : ℕ) : Type 0 where
  pub a : ℕ
  pub b : ℕ
  pub c : ℕ
  pub d : ℕ
  pub sum_is : sum ≡ lanes a b c d
  pub all : a + b + c + d ≡ total (take i ns)
  pub most : total (take i ns) ≤ 1023 * i
  pub short : longest (take i ns) < 1024

sums_none : (ns : List ℕ) → Sums ns 0 0
sums_none ns = record { a = 0; b = 0; c = 0; d = 0; sum_is = omega arith; all = omega arith; most = omega arith; short = omega arith }

-- with one length more, in the lane that is not 0
sums_more : {ns : List ℕ} {sum i j : ℕ} → Sums ns sum i → i < length ns → j ≡ i + 1 → (x y z v : ℕ) → x + y + z + v ≡ get_or ns i 0
    → get_or ns i 0 < 1024 → Sums ns (sum + lanes x y z v) j
sums_more {ns} {sum} {i} g h p x y z v e l =
    rw p (record {
      a = g.a + x;
      b = g.b + y;
      c = g.c + z;
      d = g.d + v;
      sum_is = omega (arith, g.sum_is);
      all = omega (arith, g.all, total_more ns i h, e);
      most = omega (arith, g.most, total_more ns i h, l);
      short = omega (arith, g.short, longest_more ns i h, l);
    })

-- said of another sum and another place that are the same
pub sums_as : {ns : List ℕ} {sum sum' i j : ℕ} → sum ≡ sum' → i ≡ j → Sums ns sum' i → Sums ns sum j
sums_as e p g = rw (e, ← p) g

length_small : (x : ℕ) → x < 65536 → bit_and x 0xFC00 ≡ 0 → x < 1024
length_small x h e =
    let few : x / 1024 < 64 = omega arith in
    let d : x / 1024 % 64 * 1024 ≡ 0 = sym (and_high x 6 10) ∙ e in
    omega (arith, d, mod-eq_of_lt few)

lane_short : (u mask x : ℕ) → x < 65536 → bit_and (u * 2 ^ 16 + x) (mask * 2 ^ 16 + 0xFC00) ≡ 0 → (x < 1024) × (bit_and u mask ≡ 0)
lane_short u mask x h e =
    let both = sym (and_block 16 u mask x 0xFC00 h (omega arith)) ∙ e in (length_small x h (omega (arith, both)), omega (arith, both))

-- four lengths in a word, none of them long
record Short (x y z v : ℕ) : Type 0 where
  x_short : x < 1024
  y_short : y < 1024
  z_short : z < 1024
  v_short : v < 1024

lanes_short : (w x y z v : ℕ) → x < 65536 → y < 65536 → z < 65536 → v < 65536 → w ≡ lanes x y z v → bit_and w 0xFC00FC00FC00FC00 ≡ 0
    → Short x y z v
lanes_short w x y z v p q r s e f =
    let g : w ≡ ((v * 2 ^ 16 + z) * 2 ^ 16 + y) * 2 ^ 16 + x = omega (arith, e) in
    let a = lane_short ((v * 2 ^ 16 + z) * 2 ^ 16 + y) 0xFC00FC00FC00 x p (rw g at f) in
    let b = lane_short (v * 2 ^ 16 + z) 0xFC00FC00 y q a.1 in
    let c = lane_short v 0xFC00 z r b.1 in
    record { x_short = a.0; y_short = b.0; z_short = c.0; v_short = length_small v s c.1 }

one_short : (w : ℕ) → w < 65536 → bit_and w 0xFC00FC00FC00FC00 ≡ 0 → w < 1024
one_short w p f = (lanes_short w w 0 0 0 p (omega arith) (omega arith) (omega arith) (omega arith) f).x_short

-- ---- the four sums put together
module _ {ns : List ℕ} {sum i : ℕ} (g : Sums ns sum i) (few : i ≤ 48) where
  pub sums_fit : sum < 2 ^ 64
  sums_fit = omega (arith, g.sum_is, g.all, g.most)

  upper : sum / 4294967296 ≡ g.c + 65536 * g.d
  upper = omega (arith, g.sum_is, g.all, g.most)

  pub pairs_fit : sum + sum / 4294967296 < 2 ^ 64
  pairs_fit = omega (arith, upper, g.sum_is, g.all, g.most)

  second : (sum + sum / 4294967296) / 65536 ≡ g.b + g.d + 65536 * (g.c + 65536 * g.d)
  second = rw upper (omega (arith, g.sum_is, g.all, g.most))

  pub all_fit : (x : ℕ) → x < 65536 → sum + sum / 4294967296 + (sum + sum / 4294967296) / 65536 + x < 2 ^ 64
  all_fit x h = rw (second, upper) (omega (arith, g.sum_is, g.all, g.most))

  sums_all : (x : ℕ) → x < 1024 → (sum + sum / 4294967296 + (sum + sum / 4294967296) / 65536 + x) % 65536 ≡ total (take i ns) + x
  sums_all x h =
      let y = sum + sum / 4294967296 + (sum + sum / 4294967296) / 65536 + x in
      let u = g.b + g.d + 65536 * (g.c + 65536 * g.d) + (g.c + 65536 * g.d) in
      let s : y ≡ g.a + g.b + g.c + g.d + x + 65536 * u = omega (arith, second, upper, g.sum_is) in
      let v : y / 65536 ≡ u = omega (arith, s, g.all, g.most) in
      omega (arith, s, v, g.all)

-- lengths that fit 16 bits, more than m and at most 48
pub record Held (ns : List ℕ) (m : ℕ) : Type 0 where
  pub words : (i : ℕ) → get_or ns i 0 < 65536
  pub within : m < length ns
  pub few : length ns ≤ 48

module _ {ns : List ℕ} {m : ℕ} (k : Held ns m) where
  pub sums_four : {sum i w : ℕ} → Sums ns sum i → i + 4 ≤ m
      → w ≡ lanes (get_or ns i 0) (get_or ns (i + 1) 0) (get_or ns (i + 2) 0) (get_or ns (i + 2 + 1) 0) → bit_and w 0xFC00FC00FC00FC00 ≡ 0
      → Sums ns (sum + w) (i + 4)
  sums_four {sum} {i} {w} g h e f =
      let x = get_or ns i 0 in
      let y = get_or ns (i + 1) 0 in
      let z = get_or ns (i + 2) 0 in
      let v = get_or ns (i + 2 + 1) 0 in
      let l = k.within in
      let s = lanes_short w x y z v (k.words i) (k.words (i + 1)) (k.words (i + 2)) (k.words (i + 2 + 1)) e f in
      let one : Sums ns (sum + lanes x 0 0 0) (i + 1) = sums_more g (omega arith) refl x 0 0 0 (omega arith) s.x_short in
      let two : Sums ns (sum + lanes x 0 0 0 + lanes 0 y 0 0) (i + 2) = sums_more one (omega arith) (omega arith) 0 y 0 0 (omega arith) s.y_short in
      let three = sums_more two (omega arith) refl 0 0 z 0 (omega arith) s.z_short in
      sums_as (omega (arith, e)) refl (sums_more three (omega arith) (omega arith) 0 0 0 v (omega arith) s.v_short)

  -- where four, two or one of the first m are left
  pub fours_more : {sum w : ℕ} → Sums ns sum (m / 8 * 8) → m / 4 % 2 ≡ 1 → let i = m / 8 * 8 in
      w ≡ lanes (get_or ns i 0) (get_or ns (i + 1) 0) (get_or ns (i + 2) 0) (get_or ns (i + 2 + 1) 0) → bit_and w 0xFC00FC00FC00FC00 ≡ 0
      → Sums ns (sum + w) (m / 4 * 4)
  fours_more g t e f = sums_as refl (omega (arith, t)) (sums_four g (omega (arith, t)) e f)

  pub twos_more : {sum w : ℕ} → Sums ns sum (m / 4 * 4) → m / 2 % 2 ≡ 1 → w ≡ get_or ns (m / 4 * 4) 0 + 65536 * get_or ns (m / 4 * 4 + 1) 0
      → bit_and w 0xFC00FC00FC00FC00 ≡ 0 → Sums ns (sum + w) (m / 2 * 2)
  twos_more {sum} {w} g t e f =
      let i = m / 4 * 4 in
      let x = get_or ns i 0 in
      let y = get_or ns (i + 1) 0 in
      let l = k.within in
      let s = lanes_short w x y 0 0 (k.words i) (k.words (i + 1)) (omega arith) (omega arith) (omega (arith, e)) f in
      let one : Sums ns (sum + lanes x 0 0 0) (i + 1) = sums_more g (omega arith) refl x 0 0 0 (omega arith) s.x_short in
      sums_as (omega (arith, e)) refl (sums_more one (omega arith) (omega arith) 0 y 0 0 (omega arith) s.y_short)

  pub ones_more : {sum w : ℕ} → Sums ns sum (m / 2 * 2) → m % 2 ≡ 1 → w ≡ get_or ns (m - 1) 0 → bit_and w 0xFC00FC00FC00FC00 ≡ 0
      → Sums ns (sum + w) m
  ones_more {sum} {w} g t e f =
      let l = one_short w (omega (arith, e, k.words (m - 1))) f in
      let before : Sums ns sum (m - 1) = sums_as refl (omega (arith, t)) g in
      sums_as (omega arith) refl (sums_more before (omega (arith, k.within)) (omega (arith, t)) w 0 0 0 (omega (arith, e)) (omega (arith, e, l)))

  -- with the last length, which stands by itself
  pub sums_last : {sum w : ℕ} → Sums ns sum m → (n : ℕ) → n ≡ m + 1 → w ≡ get_or ns m 0 → bit_and w 0xFC00FC00FC00FC00 ≡ 0
      → (longest (take n ns) < 1024) × ((sum + sum / 4294967296 + (sum + sum / 4294967296) / 65536 + w) % 65536 ≡ total (take n ns))
  sums_last {sum} {w} g n p e f =
      let l = one_short w (omega (arith, e, k.words m)) f in
      rw p (
        omega (arith, longest_more ns m k.within, g.short, l, e),
        omega (arith, sums_all g (omega (arith, k.within, k.few)) w l, total_more ns m k.within, e),
      )

-- ---- what is told
pub told_quick : (ns ks : List ℕ) → {t : ℕ} → (longest ns < 1024) × (t ≡ total ns) → numbered ks ≡ true → t ≡ told ns ks
told_quick ns ks e s = rw (s, le-leb (longest ns) most_bytes (omega (arith, e.0))) e.1

-- by the parts of n that were looked at
all_of : (n : ℕ) → n - 0 ≡ n
all_of n = omega arith

module _ (ns ks : List ℕ) (n : ℕ) where
  pub told_wrong : {wrong : ℕ} → leb wrong 1 ≡ kept_well (take (n - 0) ns) (take (n - 0) ks) → 1 < wrong → 65535 ≡ told (take n ns) (take n ks)
  told_wrong {wrong} e h =
      let w : kept_well (take n ns) (take n ks) ≡ false = sym (rw (all_of n) at e) ∙ lt-leb wrong 1 h in
      rw w

  pub told_well : {wrong t : ℕ} → leb wrong 1 ≡ kept_well (take (n - 0) ns) (take (n - 0) ks) → t ≡ total (take (n - 0) ns) % 65536
      → wrong ≤ 1 → n ≤ 48 → t ≡ told (take n ns) (take n ks)
  told_well {wrong} e f h few =
      let l = longest (take n ns) in
      let w : kept_well (take n ns) (take n ks) ≡ true = sym (rw (all_of n) at e) ∙ le-leb wrong 1 h in
      let short : l ≤ most_bytes = leb-true l most_bytes (both_left (leb l most_bytes) (numbered (take n ks)) w) in
      let fits : total (take n ns) < 65536 = omega (arith, total_most (take n ns) short, length-take n ns) in
      rw w (rw (all_of n) at f ∙ mod-eq_of_lt fits)
