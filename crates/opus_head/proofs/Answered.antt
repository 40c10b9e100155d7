-- What the two calls answer, by the tests on the way.
-- Assumes nothing.
use Prim.Native.Nat.{ℕ, ◌<◌, ◌≤◌}
use native.Mathlib.Omega.{arith}
use mathlib.Core.Path.{◌≡◌, refl, sym, ap, ◌∙◌}
use mathlib.Core.List.{List}
use mathlib.Core.Bool.{Bool, true, false}
use lib.Dec.{eqb}
use lib.IntN.{ℤ, pos}
use lib.ListN.{length, get_or}
use lib.Seq.{sets}
use mir.Syntax.{w16}
use mir.Val.{SFits}
use borrow.Author.Tests.{lt-ltb, le-ltb, eq-eqb, ne_eqb, eqb-true, leb-true}
use Rattle.laws.proofs.Never.{by_test}
use Rattle.opus_defines.specs.Numbers.{plain, refusal_report}
use Rattle.opus_defines.specs.Outcome.{refuses, writes}
use Rattle.opus_defines.proofs.Outcomes.{meets}
use Rattle.opus_defines.specs.declared.Refusal.TheVariants.{BufferTooSmall, BadHeader, UnknownVersion, BadField}
use Rattle.opus_defines.specs.declared.Report.{Report}
use Rattle.std.specs.Prelude.{Err}
use Rattle.opus_head.specs.declared.OpusHead.{OpusHead}
use Rattle.opus_head.specs.Header.{letters, head_bytes}
use Rattle.opus_head.specs.Reading.{begins, needed, long_as, ruled, head_of, head_read, head_written, head_write, bytes_needed}
use Rattle.opus_head.specs.Parts.{checked}
use Rattle.opus_head.proofs.Laid.{bytes_long, passed, passed_is}

-- ---- reading
module _ (s : List ℕ) where
  pub read_short : length s < 19 → head_read s ≡ Err BadHeader
  unfolding head_read
  read_short h = rw (lt-ltb (length s) 19 h)

  module _ (h : 19 ≤ length s) where
    pub read_letters : begins letters s ≡ false → head_read s ≡ Err BadHeader
    unfolding head_read
    read_letters b = rw (le-ltb (length s) 19 h, b)

    module _ (b : begins letters s ≡ true) where
      pub read-version : 15 < get_or s 8 0 → head_read s ≡ Err UnknownVersion
      unfolding head_read
      read-version v = rw (le-ltb (length s) 19 h, b, lt-ltb 15 (get_or s 8 0) v)

      module _ (v : get_or s 8 0 ≤ 15) where
        pub read_length : long_as (get_or s 8 0) (length s) (needed s) ≡ false → head_read s ≡ Err BadHeader
        unfolding head_read
        read_length l = rw (le-ltb (length s) 19 h, b, le-ltb 15 (get_or s 8 0) v, l)

        pub read_fields_lem : long_as (get_or s 8 0) (length s) (needed s) ≡ true → head_read s ≡ checked (head_of s)
        unfolding head_read
        read_fields_lem l = rw (le-ltb (length s) 19 h, b, le-ltb 15 (get_or s 8 0) v, l)

-- the length as the code tests it
pub long_said : (version n : ℕ) {m need : ℕ} {r : Bool} → m ≡ need → r ≡ long_as version n m → long_as version n need ≡ r
long_said version n e l = sym (l ∙ ap (long_as version n) e)

-- a length that is right is long enough
pub long_enough : (version n need : ℕ) → long_as version n need ≡ true → need ≤ n
long_enough version n need l =
    by_test (eqb version 1) (λ t. omega (arith, eqb-true n need (rw t at l))) (λ t. leb-true need n (rw t at l))

-- ---- writing
module _ (h : OpusHead) (dst : List ℕ) where
  pub write_version : (h.version ≡ 1 → ⊥) → head_write h dst ≡ refuses BadField dst
  unfolding head_write head_written
  write_version o = rw (ne_eqb h.version 1 o)

  module _ (v : h.version ≡ 1) where
    pub write_unruled : ruled h ≡ false → head_write h dst ≡ refuses BadField dst
    unfolding head_write head_written
    write_unruled r = rw (eq-eqb h.version 1 v, r)

    module _ (r : ruled h ≡ true) where
      pub write_full : length dst < length (head_bytes h) → head_write h dst ≡ refuses BufferTooSmall dst
      unfolding head_write head_written
      write_full l = rw (eq-eqb h.version 1 v, r, lt-ltb (length dst) (length (head_bytes h)) l)

      pub write_done : length (head_bytes h) ≤ length dst → head_write h dst ≡ writes (head_bytes h) dst
      unfolding head_write head_written
      write_done l = rw (eq-eqb h.version 1 v, r, le-ltb (length dst) (length (head_bytes h)) l)

  module _ (v : h.version ≡ 1) (r : ruled h ≡ true) (c : h.channels ≤ length h.mapping) {need : ℕ}
      (n : need ≡ bytes_needed h.family h.channels)
    where
      long : need ≡ length (head_bytes h)
      long = n ∙ sym (bytes_long h c)

      pub no_room : length dst < need → (refusal_report BufferTooSmall ≡ (head_write h dst).report) × (dst ≡ (head_write h dst).bytes)
      no_room l = meets (write_full v r (omega (arith, l, long))) refl refl

      pub wrote : need ≤ length dst → SFits w16 h.gain → {d : List ℕ} → d ≡ sets dst 0 (head_bytes (passed h))
          → (plain (pos need) ≡ (head_write h dst).report) × (d ≡ (head_write h dst).bytes)
      wrote l f e =
          meets (write_done v r (omega (arith, l, long))) (ap (λ m. plain (pos m)) long) (e ∙ ap (λ x. sets dst 0 (head_bytes x)) (passed_is h f))

  -- a call that is passed the gain by its bits answers for the gain
  pub told : SFits w16 h.gain → {r q : ℤ} {d : List ℕ} → r ≡ q → q ≡ (head_write (passed h) dst).report.number
      → d ≡ (head_write (passed h) dst).bytes → (r ≡ (head_write h dst).report.number) × (d ≡ (head_write h dst).bytes)
  told f e a b = let same = ap (λ x. head_write x dst) (passed_is h f) in (e ∙ (a ∙ ap (λ o. o.report.number) same), b ∙ ap (λ o. o.bytes) same)

  pub told_report : SFits w16 h.gain → {r q : ℤ} {p : Report} {d : List ℕ} → r ≡ q → q ≡ p.number → p ≡ (head_write (passed h) dst).report
      → d ≡ (head_write (passed h) dst).bytes → (r ≡ (head_write h dst).report.number) × (d ≡ (head_write h dst).bytes)
  told_report f e n a b = told f e (n ∙ ap (λ (x : Report). x.number) a) b
