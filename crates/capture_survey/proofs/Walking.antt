-- The part at the front of what is held, surveyed in one walk: what is found in what is held is what stands in the part.
--     part_bytes, part-within                         how many bytes the part has
--     Walking, walking_start                         where the loop stands
--     seen, is_seen                                  what is found, as an answer
--     Finds, finds_as, finds_here, finds_last, finds_next     the record that a turn takes
--     record_ends, one_room, one_short, walks_on     what the turn needs, and leads to
--     Walked, last_room, ends_last                   the end, where the file ends
--     short_room, ends_short                         the end before it
-- Assumes nothing.
use Prim.Native.Nat.{ℕ, ◌+◌, ◌*◌, ◌-◌, max, ◌<◌, ◌≤◌, ◌^◌}
use native.Mathlib.Omega.{arith}
use mathlib.Core.Path.{◌≡◌, refl, sym, ap, ◌∙◌}
use mathlib.Core.List.{List, ◌++◌}
use mathlib.Core.Bool.{Bool, true, false, cond}
use lib.Dec.{eqb}
use lib.ListN.{length, take, drop, length-drop, take-append-drop}
use lib.Seq.{drop-append-le, take-append-le, length-take-le}
use borrow.Author.Tests.{eqb-true, eqb-false}
use Rattle.laws.specs.Bytes.{Bytes}
use Rattle.laws.proofs.Never.{never, by_test}
use Rattle.laws.proofs.Bytes.{bytes_take}
use Rattle.capture.specs.Finding.{packet_length, record_from, next_record}
use Rattle.capture.specs.declared.NextRecord.{NextRecord}
use Rattle.capture.proofs.Laws.{within, next_is}
use Rattle.capture.proofs.Answers.{next_place, next_passed, next_stands, next_from, next_place_le, next-nothing, next_end, found}
use Rattle.capture_window.specs.Window.{window, settled}
use Rattle.capture_window.proofs.Settling.{Reaches, reaches_start, reaches_behind, reaches_next, reaches_end}
use Rattle.capture_window.proofs.Places.{by_order, stands_when_whole, none_when_cut}
use Rattle.capture_window.proofs.Telling.{settled_bounds}
use Rattle.capture_survey.specs.Survey.{of_record, of_passed, together, survey_of, bytes_in}
use Rattle.capture_survey.specs.declared.Survey.{Survey}
use Rattle.capture_survey.proofs.Going.{Going, going_start, packet_in, ends, packet_short, turn_room, turn}

-- ---- what stands in a front p of s
module _ (p rest s : List ℕ) (e : p ++ rest ≡ s) where
  from_front : (k : ℕ) → k ≤ length p → drop k s ≡ drop k p ++ rest
  from_front k h = sym (ap (drop k) e) ∙ drop-append-le k p rest h

  none_too : (k : ℕ) → k ≤ length p → packet_length (drop k s) ≡ 0 → packet_length (drop k p) ≡ 0
  none_too k h z = none_when_cut (drop k p) rest (sym (ap packet_length (from_front k h)) ∙ z)

  stands_too : (k : ℕ) → (packet_length (drop k s) ≡ 0 → ⊥) → k + 5 + packet_length (drop k s) ≤ length p
      → packet_length (drop k p) ≡ packet_length (drop k s)
  stands_too k f h =
      let same = ap packet_length (from_front k (omega arith)) in
      stands_when_whole (drop k p) rest (λ z. f (same ∙ z)) (omega (arith, length-drop k p)) ∙ sym same

  module _ (at : ℕ) (inside : at ≤ length p) where
    none_in_front : ((k : ℕ) → at ≤ k → k < length p → packet_length (drop k s) ≡ 0) → (next_record p at).length ≡ 0
    none_in_front clear =
        let a = next_record p at in
        by_test (eqb a.length 0) (λ t. eqb-true a.length 0 t)
        (λ t. let f = eqb-false a.length 0 t in
        let k = found p at f in
        let below : a.place < length p = omega (arith, k.next, k.inside) in
        absurd (f (next_stands p at inside ∙ none_too a.place (omega arith) (clear a.place k.from below))))

    -- the first record of s from there on, whose packet has n bytes, lies in p
    module _ (q n : ℕ) (from : at ≤ q) (is : n ≡ packet_length (drop q s)) (f : n ≡ 0 → ⊥) (whole : q + 5 + n ≤ length p)
        (clear : (k : ℕ) → at ≤ k → k < q → packet_length (drop k s) ≡ 0) where
      stands_there : packet_length (drop q p) ≡ n
      stands_there = stands_too q (λ z. f (is ∙ z)) (omega (arith, is)) ∙ sym is

      is_place : q ≡ (next_record p at).place
      is_place =
          let a = next_record p at in
          by_order q a.place (λ lt. absurd (f (sym stands_there ∙ next-nothing p at inside q from lt)))
          (λ le. by_order a.place q
          (λ lt. let z : a.length ≡ 0 =
          next_stands p at inside ∙ none_too a.place (next_place_le p at inside) (clear a.place (next_from p at inside) lt) in
          absurd (omega (arith, next_end p at inside z)))
          (λ ge. omega arith))

      is_length : n ≡ (next_record p at).length
      is_length = sym (next_stands p at inside ∙ rw (← is_place) stands_there)

      is_passed : q - at ≡ (next_record p at).passed
      is_passed = omega (arith, is_place, next_place p at inside, next_passed p at inside)

      same_packet_lem : packet_in s q n ≡ packet_in p q n
      same_packet_lem =
          rw (from_front (q + 5) (omega arith))
          (take-append-le (q + 5 + n - (q + 5)) (drop (q + 5) p) rest (omega (arith, length-drop (q + 5) p)))

-- ---- the bytes of the part
abbrev pub part_bytes : Bool → List ℕ → ℕ
part_bytes last s = cond last (length s) (settled s)

part-within : (last : Bool) (s : List ℕ) → part_bytes last s ≤ length s
part-within true s = omega arith
part-within false s = (settled_bounds s).within

part_reaches : (last : Bool) (s : List ℕ) (at : ℕ) → at ≤ length s → (last ≡ false → Reaches s at) → at ≤ part_bytes last s
part_reaches true s at h reached = h
part_reaches false s at h reached = omega (arith, (reached refl).same)

abbrev part_of : Bool → List ℕ → List ℕ
part_of last s = take (part_bytes last s) s

part_long : (last : Bool) (s : List ℕ) → length (part_of last s) ≡ part_bytes last s
part_long last s = length-take-le (part_bytes last s) s (part-within last s)

-- `sum` is counted up to the place `at`, of what was counted before and of the part; before the end of the file what is settled goes on there
pub record Walking (s : List ℕ) (last : Bool) (before sum : Survey) (at : ℕ) : Type 0 where
  pub reached : last ≡ false → Reaches s at
  pub going : Going (part_of last s) before sum at

pub walking_start : (s : List ℕ) (last : Bool) (before : Survey) → bytes_in before + 3 * length s < 2 ^ 64 → Walking s last before before 0
walking_start s last before h =
    record { reached = λ e. reaches_start s; going = going_start (part_of last s) before (omega (arith, part_long last s, part-within last s)) }

-- the first record from `at` on, with the bytes passed over before it; before the end of the file it is settled that it is the first
pub record Finds (s : List ℕ) (last : Bool) (at place n passed : ℕ) : Type 0 where
  pub from : at ≤ place
  pub inside : place ≤ length s
  pub is : n ≡ packet_length (drop place s)
  pub some : n ≡ 0 → ⊥
  pub clear : (k : ℕ) → at ≤ k → k < place → packet_length (drop k s) ≡ 0
  pub over : passed ≡ place - at
  pub reached : last ≡ false → Reaches s place

-- the same under other names
pub finds_as : {s : List ℕ} {last : Bool} {at place n passed q m o : ℕ} → m ≡ n → q ≡ place → o ≡ passed → Finds s last at place n passed
    → Finds s last at q m o
finds_as e f g h = rw (e, f, g) h

-- b bytes are the part, and t is what is counted with it
abbrev pub Walked : List ℕ → Bool → Survey → ℕ → Survey → Type 0
Walked s last before b t = (b ≡ part_bytes last s) × (t ≡ together before (survey_of (take b s)))

module _ {s : List ℕ} {last : Bool} {before sum : Survey} {at : ℕ} (w : Walking s last before sum at) where
  pub at_most : (at ≤ part_bytes last s) × (at ≤ length s)
  at_most = (omega (arith, w.going.inside, part_long last s), omega (arith, w.going.inside, part_long last s, part-within last s))

  -- ---- the record of a turn
  -- one that stands at the place
  pub finds_here : {n : ℕ} → n ≡ packet_length (drop at s) → (n ≡ 0 → ⊥) → Finds s last at at n 0
  finds_here is f =
      record {
        from = omega arith;
        inside = at_most.1;
        is = is;
        some = f;
        clear = λ k h below. absurd (omega arith);
        over = omega arith;
        reached = w.reached;
      }

  -- the answer of which place and length were found
  module _ {q n : ℕ} (is : q ≡ (record_from s at).place) (long : n ≡ (record_from s at).length) where
    abbrev pub seen : NextRecord
    seen = let a = next_record s at in record { verdict = a.verdict; line = a.line; place = q; length = n; passed = q - at }

    pub is_seen : seen ≡ next_record s at
    is_seen =
        let there : q ≡ (next_record s at).place = rw (next_is s at at_most.1) is in
        let over : q - at ≡ (next_record s at).passed = omega (arith, there, next_place s at at_most.1, next_passed s at at_most.1) in
        let bytes : n ≡ (next_record s at).length = rw (next_is s at at_most.1) long in
        rw (over, there, bytes)

  -- one that is found
  module _ {a : NextRecord} (e : a ≡ next_record s at) where
    pub place_within : (at ≤ a.place) × (a.place ≤ length s)
    place_within = rw e (next_from s at at_most.1, next_place_le s at at_most.1)

    finds : (a.length ≡ 0 → ⊥) → (last ≡ false → Reaches s a.place) → Finds s last at a.place a.length a.passed
    finds f reached =
        record {
          from = place_within.0;
          inside = place_within.1;
          is = rw e (next_stands s at at_most.1);
          some = f;
          clear = λ k h below. next-nothing s at at_most.1 k h (rw (← e) below);
          over = rw e (omega (arith, next_place s at at_most.1, next_passed s at at_most.1));
          reached = reached;
        }

    pub finds_last : last ≡ true → (a.length ≡ 0 → ⊥) → Finds s last at a.place a.length a.passed
    finds_last t f = finds f (λ u. never (cc))

    pub finds_next : last ≡ false → window - 1 ≤ length s - a.place → Finds s last at a.place a.length a.passed
    finds_next u h =
        finds
        (λ z. let end = next_end s at at_most.1 (ap (λ (x : NextRecord). x.length) (sym e) ∙ z) in
        absurd (omega (arith, ap (λ (x : NextRecord). x.place) e, end)))
        (λ t. reaches_next s at (w.reached t) a e h)

  -- ---- what the turn needs, and leads to
  module _ {place n passed : ℕ} (g : Finds s last at place n passed) where
    pub record_ends : (at ≤ place) × (1 ≤ n) × (place + 5 + n ≤ length s)
    record_ends = let f = g.some in (g.from, omega arith, within s place n g.is f)

    behind_reached : last ≡ false → Reaches s (place + 5 + n)
    behind_reached t =
        let e : place + (5 + n) ≡ place + 5 + n = omega arith in
        rw e at (reaches_behind s place (g.reached t) n g.is g.some)

    in_part : place + 5 + n ≤ length (part_of last s)
    in_part = rw (part_long last s) (part_reaches last s (place + 5 + n) record_ends.2 behind_reached)

    -- the answer of the part
    abbrev answer : NextRecord
    answer =
        let a = next_record (part_of last s) at in
        record { verdict = a.verdict; line = a.line; place = place; length = n; passed = passed }

    is_answer : answer ≡ next_record (part_of last s) at
    is_answer =
        let m = part_bytes last s in
        let all = take-append-drop m s in
        let i = w.going.inside in
        let there = is_place (take m s) (drop m s) s all at i place n g.from g.is g.some in_part g.clear in
        let long = is_length (take m s) (drop m s) s all at i place n g.from g.is g.some in_part g.clear in
        let over = g.over ∙ is_passed (take m s) (drop m s) s all at i place n g.from g.is g.some in_part g.clear in
        rw (there, long, over)

    packet_is : packet_in s place n ≡ packet_in (part_of last s) place n
    packet_is =
        let m = part_bytes last s in
        same_packet_lem (take m s) (drop m s) s (take-append-drop m s) at w.going.inside place n g.from g.is g.some in_part g.clear

    pub one_room : bytes_in sum + 3 * (passed + 5 + length (packet_in s place n)) < 2 ^ 64
    one_room = rw packet_is (turn_room w.going {a = answer} is_answer g.some)

    pub one_short : Bytes s → length (packet_in s place n) ≤ 65535
    one_short bytes = rw packet_is (packet_short w.going {a = answer} is_answer g.some (bytes_take (part_bytes last s) s bytes))

    pub walks_on : {r : Survey} → r ≡ together sum (of_record passed (packet_in s place n)) → Walking s last before r (place + 5 + n)
    walks_on is = record { reached = behind_reached; going = turn w.going {a = answer} is_answer g.some (rw packet_is at is) }

  -- ---- the end: the part has b bytes, and the last m of them are passed over
  module _ {b m : ℕ} (e : b ≡ part_bytes last s) (over : m ≡ b - at) where
    over_room : sum.passed + m < 2 ^ 64
    over_room = omega (arith, w.going.room, part_long last s)

    walked : ((k : ℕ) → at ≤ k → k < b → packet_length (drop k s) ≡ 0) → {r : Survey} → r ≡ together sum (of_passed m)
        → Walked s last before b r
    walked clear is =
        let p = part_of last s in
        let i = w.going.inside in
        let z = none_in_front p (drop (part_bytes last s) s) s (take-append-drop (part_bytes last s) s) at i
        (λ k h below. clear k h (omega (arith, part_long last s))) in
        let same : m ≡ (next_record p at).passed = omega (arith, next_end p at i z, next_place p at i, next_passed p at i, part_long last s) in
        (e, rw e (ends w.going refl z (rw same at is)))

  module _ {a : NextRecord} (e : a ≡ next_record s at) where
    -- at the end of the file, behind the last record
    module _ (t : last ≡ true) (z : a.length ≡ 0) where
      all-over : (length s ≡ part_bytes last s) × (a.place ≡ length s) × (a.passed ≡ length s - at)
      all-over =
          let end = next_end s at at_most.1 (ap (λ (x : NextRecord). x.length) (sym e) ∙ z) in
          (rw t, rw e end, rw e (omega (arith, end, next_place s at at_most.1, next_passed s at at_most.1)))

      pub last_room : sum.passed + a.passed < 2 ^ 64
      last_room = over_room all-over.0 all-over.2

      pub ends_last : {r : Survey} → r ≡ together sum (of_passed a.passed) → Walked s last before (length s) r
      ends_last = walked all-over.0 all-over.2 (λ k h below. next-nothing s at at_most.1 k h (rw (← e) (omega (arith, all-over.1))))

    -- before it, where no record stands at the place, and none is found with a window behind the place before it
    module _ (u : last ≡ false) {n : ℕ} (of : n ≡ packet_length (drop at s)) (z : n ≡ 0) (few : length s - a.place < window - 1) {b : ℕ}
        (is : b ≡ max at (length s - (window - 1))) where
      short-over : b ≡ part_bytes last s
      short-over = is ∙ (reaches_end s at (w.reached u) a e n of z few ∙ rw u)

      pub short_room : sum.passed + (b - at) < 2 ^ 64
      short_room = over_room short-over refl

      pub ends_short : {r : Survey} → r ≡ together sum (of_passed (b - at)) → Walked s last before b r
      ends_short = walked short-over refl (λ k h below. next-nothing s at at_most.1 k h (rw (← e) (omega (arith, place_within e))))
