-- The share of a capture, and what it writes, by what stands at the capture's front.
--     same-share, share_eta          shares with the same counts are the same, and one that was made is no refusal
--     share_nil, written_nil         nothing
--     share_taken, written_taken     a record that fits the budget: it is done, and the share goes on behind it with what is left
--     share-full, written-full       one that does not: the share stops before it
--     share_byte, written_byte       a byte that is passed over
-- Assumes nothing.
use Prim.Native.Nat.{ℕ, suc, ◌+◌, ◌-◌, ◌<◌, ◌≤◌}
use native.Mathlib.Omega.{arith}
use mathlib.Core.Path.{◌≡◌, refl, sym, ap, ◌∙◌}
use mathlib.Core.List.{List, [], ◌∷◌, ◌++◌, map}
use mathlib.Core.Bool.{true, false}
use lib.ListN.{length, drop, take, take-append-drop}
use lib.Seq.{length-take-le}
use Rattle.laws.proofs.Never.{by_test}
use Rattle.std.specs.Prelude.{Ok}
use Rattle.capture.specs.Records.{Entry, written}
use Rattle.capture.specs.Finding.{packet_length, next_record}
use Rattle.capture.specs.Reading.{behind, readings, entry_of}
use Rattle.capture.specs.declared.NextRecord.{NextRecord}
use Rattle.capture.proofs.Laws.{length-fits}
use Rattle.capture.proofs.Steps.{reading_induction}
use Rattle.capture.proofs.Written.{entry_in}
use Rattle.capture.proofs.Shifted.{shifted, entry_shifted}
use Rattle.capture.proofs.Held.{entries-shifted, answer_in, passing_more, first_passing, some_answer, readings_nil, readings_here, readings-over}
use Rattle.compaction.specs.Account.{rewritten, size, output, account}
use Rattle.compaction.specs.Share.{fits, done, stop, accounted}
use Rattle.compaction.specs.declared.Share.{Share}
use Rattle.compaction.proofs.Steps.{none-fits, over-fits, some_fits, stops_here, goes_on}
use Rattle.compaction.proofs.Going.{output-none, output_one}
use Rattle.compact.specs.Stream.{share_of, written_of, none, joined}

pub same-share : {r n w c p r' n' w' c' p' : ℕ} → r ≡ r' → n ≡ n' → w ≡ w' → c ≡ c' → p ≡ p'
    → ◌≡◌ {A = Share} (record { resume = r; records = n; written = w; reclaimed = c; passed = p })
    (record { resume = r'; records = n'; written = w'; reclaimed = c'; passed = p' })
same-share a b c d e = rw (a, b, c, d, e)

pub share_eta : (s : List ℕ) (b : ℕ) → let x = share_of s b in
    x
    ≡ record {
      resume = x.resume;
      records = x.records;
      written = x.written;
      reclaimed = x.reclaimed;
      passed = x.passed;
    }
unfolding share_of
share_eta s b = refl

-- ---- the share of answers, and what it writes
abbrev share_in : List ℕ → ℕ → List NextRecord → Share
share_in s b r = accounted (stop s b r) (account s (stop s b r) (done s b r))

abbrev written_in : List ℕ → ℕ → List NextRecord → List ℕ
written_in s b r = output s (done s b r)

-- a share with one record more in front, and one whose answers stand n bytes further behind, of which the first passes k more over
abbrev counted : List ℕ → NextRecord → Share → Share
counted s a x =
    record {
      resume = x.resume;
      records = suc x.records;
      written = size s a + x.written;
      reclaimed = 5 + a.length - size s a + x.reclaimed;
      passed = a.passed + x.passed;
    }

abbrev further : ℕ → ℕ → Share → Share
further n k x =
    record {
      resume = n + x.resume;
      records = x.records;
      written = x.written;
      reclaimed = x.reclaimed;
      passed = k + x.passed;
    }

-- the records done and the answer stopped at by other names
same_account : (s : List ℕ) {x y : NextRecord} {d e : List NextRecord} → x ≡ y → d ≡ e → accounted x (account s x d) ≡ accounted y (account s y e)
same_account s {y = y} {d = d} p q =
    ap (λ (z : NextRecord). accounted z (account s z d)) p ∙ ap (λ (f : List NextRecord). accounted y (account s y f)) q

-- ---- the first answer
module _ (s : List ℕ) (b : ℕ) (a : NextRecord) (more : List NextRecord) where
  in_on : (a.length ≡ 0 → ⊥) → size s a ≤ b
      → (share_in s b (a ∷ more) ≡ counted s a (share_in s (b - size s a) more))
      × (written_in s b (a ∷ more) ≡ written (rewritten (entry_of s a)) ++ written_in s (b - size s a) more)
  unfolding account
  in_on f h =
      let k = goes_on s b a more (some_fits s b a f h) in
      (same_account s k.1 k.0, rw k.0 (output_one s a (done s (b - size s a) more)))

  in_end : fits s b a ≡ false
      → (share_in s b (a ∷ more) ≡ record { resume = a.place; records = 0; written = 0; reclaimed = 0; passed = a.passed })
      × (written_in s b (a ∷ more) ≡ [])
  unfolding account
  in_end t =
      let k = stops_here s b a more t in
      (rw (k.0, k.1), rw k.0 (output-none s))

  -- it passes k bytes more over
  in_passing : (k : ℕ) → (share_in s b (first_passing k (a ∷ more)) ≡ further 0 k (share_in s b (a ∷ more)))
      × (written_in s b (first_passing k (a ∷ more)) ≡ written_in s b (a ∷ more))
  unfolding account
  in_passing k =
      let first = passing_more k a in
      by_test (fits s b a)
      (λ t. let x = goes_on s b first more t in
      let y = goes_on s b a more t in
      let z = stop s (b - size s a) more in
      let ds = done s (b - size s a) more in
      let further_on : accounted z (account s z (first ∷ ds)) ≡ further 0 k (accounted z (account s z (a ∷ ds))) =
      same-share (omega arith) refl refl refl (omega arith) in
      (same_account s x.1 x.0 ∙ (further_on ∙ ap (further 0 k) (sym (same_account s y.1 y.0))), rw (x.0, y.0)))
      (λ t. let x = stops_here s b first more t in
      let y = stops_here s b a more t in
      (rw (x.0, x.1, y.0, y.1) (same-share (omega arith) refl refl refl (omega arith)), rw (x.0, y.0)))

-- ---- answers behind some bytes
module _ (front s : List ℕ) where
  abbrev n : ℕ
  n = length front

  size-shifted : (a : NextRecord) → size (front ++ s) (shifted n a) ≡ size s a
  size-shifted a = ap (λ (e : Entry). 5 + length (rewritten e).packet) (entry_shifted front s a)

  -- as many are done, and the share stops at the same one
  record Same (b : ℕ) (r : List NextRecord) : Type 0 where
    dones : done (front ++ s) b (map (shifted n) r) ≡ map (shifted n) (done s b r)
    stops : stop (front ++ s) b (map (shifted n) r) ≡ shifted n (stop s b r)

  same_end : (b : ℕ) (a : NextRecord) (more : List NextRecord) → fits s b a ≡ false → Same b (a ∷ more)
  same_end b a more t =
      let x = stops_here (front ++ s) b (shifted n a) (map (shifted n) more) (rw (size-shifted a) t) in
      let y = stops_here s b a more t in
      record { dones = rw y.0 x.0; stops = rw y.1 x.1 }

  same_on : (b : ℕ) (a : NextRecord) (more : List NextRecord) → fits s b a ≡ true → Same (b - size s a) more → Same b (a ∷ more)
  same_on b a more t m =
      let x = goes_on (front ++ s) b (shifted n a) (map (shifted n) more) (rw (size-shifted a) t) in
      let y = goes_on s b a more t in
      record {
        dones = x.0 ∙ rw (size-shifted a, y.0, m.dones);
        stops = x.1 ∙ rw (size-shifted a, y.1, m.stops);
      }

  same-all : (b : ℕ) → Same b (readings s 0)
  same-all =
      reading_induction s (λ at r. (b : ℕ) → Same b r)
      (λ at h z b. same_end b (next_record s at) [] (none-fits s b (next_record s at) z))
      (λ at h f rest b.
      let a = next_record s at in
      by_test (fits s b a) (λ t. same_on b a (readings s (behind a)) t (rest (b - size s a))) (same_end b a (readings s (behind a))))
      0 (omega arith)

  account-shifted : (a : NextRecord) (ds : List NextRecord) → account (front ++ s) (shifted n a) (map (shifted n) ds) ≡ account s a ds
  unfolding account
  account-shifted a [] = refl
  account-shifted a (d ∷ ds) = rw (size-shifted d, account-shifted a ds)

  in_shifted : (b : ℕ) → (share_in (front ++ s) b (map (shifted n) (readings s 0)) ≡ further n 0 (share_in s b (readings s 0)))
      × (written_in (front ++ s) b (map (shifted n) (readings s 0)) ≡ written_in s b (readings s 0))
  in_shifted b =
      let r = readings s 0 in
      let k = same-all b in
      let ds = done s b r in
      (rw (k.dones, k.stops, account-shifted (stop s b r) ds) (same-share refl refl refl refl (omega arith)), rw (k.dones, entries-shifted front s ds))

-- the same of the front of a list
behind-front : (l : List ℕ) (n b : ℕ) → n ≤ length l → let r = readings (drop n l) 0 in
    (share_in l b (map (shifted n) r) ≡ further n 0 (share_in (drop n l) b r)) × (written_in l b (map (shifted n) r) ≡ written_in (drop n l) b r)
behind-front l n b h = rw (take-append-drop n l, length-take-le n l h) at (in_shifted (take n l) (drop n l) b)

-- ---- nothing
pub share_nil : (b : ℕ) → share_of [] b ≡ none
unfolding share_of
share_nil b =
    let end : NextRecord = record { verdict = Ok tt; line = 0; place = 0; length = 0; passed = 0 } in
    rw readings_nil (in_end [] b end [] (none-fits [] b end refl)).0

pub written_nil : (b : ℕ) → written_of [] b ≡ []
unfolding written_of
written_nil b =
    let end : NextRecord = record { verdict = Ok tt; line = 0; place = 0; length = 0; passed = 0 } in
    rw readings_nil (in_end [] b end [] (none-fits [] b end refl)).1

-- ---- a record
-- its bytes when it is rewritten, and the share of it alone
abbrev pub size_in : List ℕ → ℕ
size_in l = 5 + length (rewritten (entry_in l)).packet

abbrev pub of_record : List ℕ → Share
of_record l =
    record {
      resume = 5 + packet_length l;
      records = 1;
      written = size_in l;
      reclaimed = 5 + packet_length l - size_in l;
      passed = 0;
    }

module _ (l : List ℕ) (f : packet_length l ≡ 0 → ⊥) (b : ℕ) where
  abbrev behind_it : List ℕ
  behind_it = drop (5 + packet_length l) l

  abbrev rest : List NextRecord
  rest = map (shifted (5 + packet_length l)) (readings behind_it 0)

  module _ (h : size_in l ≤ b) where
    pub share_taken : share_of l b ≡ joined (of_record l) (share_of behind_it (b - size_in l))
    unfolding share_of
    share_taken =
        rw (readings_here l f)
        ((in_on l b (answer_in l) rest f h).0
        ∙ (ap (counted l (answer_in l)) (behind-front l (5 + packet_length l) (b - size_in l) (length-fits l f)).0
        ∙ same-share refl (omega arith) refl refl (omega arith)))

    pub written_taken : written_of l b ≡ written (rewritten (entry_in l)) ++ written_of behind_it (b - size_in l)
    unfolding written_of
    written_taken =
        rw (readings_here l f)
        ((in_on l b (answer_in l) rest f h).1
        ∙ ap (λ (w : List ℕ). written (rewritten (entry_in l)) ++ w) (behind-front l (5 + packet_length l) (b - size_in l) (length-fits l f)).1)

  module _ (h : b < size_in l) where
    pub share-full : share_of l b ≡ none
    unfolding share_of
    share-full = rw (readings_here l f) (in_end l b (answer_in l) rest (over-fits l b (answer_in l) h)).0

    pub written-full : written_of l b ≡ []
    unfolding written_of
    written-full = rw (readings_here l f) (in_end l b (answer_in l) rest (over-fits l b (answer_in l) h)).1

-- ---- a byte that is passed over
abbrev pub of_byte : Share
of_byte = record { resume = 1; records = 0; written = 0; reclaimed = 0; passed = 1 }

module _ (x : ℕ) (l : List ℕ) (z : packet_length (x ∷ l) ≡ 0) (b : ℕ) where
  over : (share_in (x ∷ l) b (readings (x ∷ l) 0) ≡ further 1 1 (share_in l b (readings l 0)))
      × (written_in (x ∷ l) b (readings (x ∷ l) 0) ≡ written_in l b (readings l 0))
  over =
      let first = some_answer l 0 (omega arith) in
      let a = next_record l 0 in
      let p = in_passing (x ∷ l) b (shifted 1 a) (map (shifted 1) first.0) 1 in
      let q = rw first.1 at (in_shifted (x ∷ []) l b) in
      rw (readings-over x l z, first.1)
      (p.0 ∙ (ap (further 0 1) q.0 ∙ same-share (omega arith) refl refl refl (omega arith)), p.1 ∙ q.1)

  pub share_byte : share_of (x ∷ l) b ≡ joined of_byte (share_of l b)
  unfolding share_of
  share_byte = over.0 ∙ same-share (omega arith) (omega arith) (omega arith) (omega arith) (omega arith)

  pub written_byte : written_of (x ∷ l) b ≡ written_of l b
  unfolding written_of
  written_byte = over.1
