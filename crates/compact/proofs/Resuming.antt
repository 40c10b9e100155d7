-- Where a share stops: what stands before the place at which to resume is done, all of it, and what stands behind is not touched.
--     told-done                      the front that is done can be told from what follows
--     Stopped, stopped               what was written and counted is of the front; behind it stands a record that does not fit, or nothing
-- Assumes nothing.
use Prim.Native.Nat.{ℕ, suc, ◌+◌, ◌-◌, ◌<◌, ◌≤◌}
use native.Mathlib.Numerals.{one-add}
use native.Mathlib.Omega.{arith}
use mathlib.Core.Path.{◌≡◌, refl, sym, ap, ◌∙◌}
use mathlib.Core.List.{List, [], ◌∷◌, ◌++◌, append-nil}
use lib.Dec.{eqb}
use lib.ListN.{length, drop, take, take-append-drop}
use lib.Seq.{length-take-le, drop-drop, take-add}
use borrow.Author.Tests.{lt-ltb, le-ltb, eqb-true, eqb-false}
use Rattle.laws.proofs.Never.{by_test}
use Rattle.capture.specs.Finding.{packet_length}
use Rattle.capture.specs.Reading.{records_of, passed_of}
use Rattle.capture.proofs.Held.{front_induction}
use Rattle.capture_window.proofs.Places.{by_order}
use Rattle.capture_window.proofs.Telling.{Told, nothing, byte, told_records, told_whole}
use Rattle.compaction.specs.declared.Share.{Share}
use Rattle.compact.specs.Stream.{share_of, written_of, none, joined}
use Rattle.compact.proofs.Sharing.{written_is, share_bounds}
use Rattle.compact.proofs.Fronts.{same-share, share_eta, share_nil, size_in, share_taken, share-full, share_byte}
use Rattle.compact.proofs.Parting.{none-joined, Follows, told-share}
use Rattle.compact.proofs.Doing.{compacted, all_done}

-- ---- the front that is done
abbrev ToldTo : List ℕ → ℕ → Type 0
ToldTo s c = Told (drop c s) (take c s)

told_byte : (x : ℕ) (l : List ℕ) → packet_length (x ∷ l) ≡ 0 → (c : ℕ) → ToldTo l c → ToldTo (x ∷ l) (suc c)
told_byte x l z c t =
    let none : packet_length (x ∷ (take c l ++ drop c l)) ≡ 0 = rw (take-append-drop c l) z in
    byte none t

told_record : (l : List ℕ) (f : packet_length l ≡ 0 → ⊥) (c : ℕ) → let n = 5 + packet_length l in ToldTo (drop n l) c → ToldTo l (n + c)
told_record l f c t =
    let n = 5 + packet_length l in
    rw (← drop-drop c n l, take-add n c l) (told_whole l (take c (drop n l)) (drop c (drop n l)) f t)

told-done : (s : List ℕ) (b : ℕ) → Told (drop (share_of s b).resume s) (take (share_of s b).resume s)
told-done =
    front_induction (λ s. (b : ℕ) → ToldTo s (share_of s b).resume)
    (λ b. rw (share_nil b) nothing)
    (λ x l z on b. rw (share_byte x l z b, one-add (share_of l b).resume) (told_byte x l z (share_of l b).resume (on b)))
    (λ l f on b.
    by_order b (size_in l) (λ h. rw (share-full l f b h) nothing)
    (λ h. rw (share_taken l f b h) (told_record l f (share_of (drop (5 + packet_length l) l) (b - size_in l)).resume (on (b - size_in l)))))

-- ---- a share that stops at once
nil_length : (l : List ℕ) → length l ≡ 0 → l ≡ []
nil_length [] e = refl
nil_length (x ∷ l) e = absurd (omega arith)

module _ (s : List ℕ) (b : ℕ) (z : (share_of s b).resume ≡ 0) where
  at_once : share_of s b ≡ none
  at_once = let k = share_bounds s b in share_eta s b ∙ same-share z (omega arith) (omega arith) (omega arith) (omega arith)

  nothing_written : written_of s b ≡ []
  nothing_written = let k = share_bounds s b in nil_length (written_of s b) (omega (arith, written_is s b))

-- it does so before a record that does not fit, or where there is nothing
first_not : (s : List ℕ) (b : ℕ) → (share_of s b).resume ≡ 0 → 0 < length s → (packet_length s ≡ 0 → ⊥) × (b < size_in s)
first_not [] b z h = absurd (omega arith)
first_not (x ∷ l) b z h =
    let s = x ∷ l in
    by_test (eqb (packet_length s) 0)
    (λ t. absurd (omega (arith, rw (share_byte x l (eqb-true (packet_length s) 0 t) b) at z)))
    (λ t. let f = eqb-false (packet_length s) 0 t in
    (f, by_order b (size_in s) (λ k. k) (λ k. absurd (omega (arith, rw (share_taken s f b k) at z)))))

-- ---- the share and the front
pub record Stopped (s : List ℕ) (b : ℕ) (front rest : List ℕ) : Type 0 where
  pub apart : records_of s ≡ records_of front ++ records_of rest
  pub writes : written_of s b ≡ compacted (records_of front)
  pub counts : (share_of s b).records ≡ length (records_of front)
  pub passes : (share_of s b).passed ≡ passed_of front
  pub next : 0 < length rest → (packet_length rest ≡ 0 → ⊥) × (b < (share_of s b).written + size_in rest)

module _ (s : List ℕ) (b : ℕ) where
  abbrev place : ℕ
  place = (share_of s b).resume

  abbrev front : List ℕ
  front = take place s

  abbrev rest : List ℕ
  rest = drop place s

  abbrev left : ℕ
  left = b - (share_of front b).written

  long : length front ≡ place
  long = length-take-le place s (share_bounds s b).2

  follows : Follows rest front b
  follows = told-share (told-done s b) b

  ends : length front ≤ (share_of front b).resume
  ends =
      by_order (share_of front b).resume (length front)
      (λ h. absurd (let e : share_of s b ≡ joined (share_of front b) none =
      rw (take-append-drop place s, lt-ltb (share_of front b).resume (length front) h) at follows.shares in
      omega (arith, ap (λ (x : Share). x.resume) e, long)))
      (λ h. h)

  both : share_of s b ≡ joined (share_of front b) (share_of rest left)
  both = rw (take-append-drop place s, le-ltb (share_of front b).resume (length front) ends) at follows.shares

  both_written : written_of s b ≡ written_of front b ++ written_of rest left
  both_written = rw (take-append-drop place s, le-ltb (share_of front b).resume (length front) ends) at follows.writes

  no_more : (share_of rest left).resume ≡ 0
  no_more = omega (arith, ap (λ (x : Share). x.resume) both, long, ends)

  same : share_of s b ≡ share_of front b
  same = both ∙ (ap (joined (share_of front b)) (at_once rest left no_more) ∙ none-joined front b)

  pub stopped : Stopped s b front rest
  stopped =
      let all = all_done front b ends in
      record {
        apart = ap records_of (sym (take-append-drop place s)) ∙ told_records (told-done s b);
        writes = both_written ∙ rw (nothing_written rest left no_more, append-nil) all.writes;
        counts = ap (λ (x : Share). x.records) same ∙ all.counts;
        passes = ap (λ (x : Share). x.passed) same ∙ all.passes;
        next = λ h. let n = first_not rest left no_more h in (n.0, omega (arith, n.1, ap (λ (x : Share). x.written) same));
      }
