-- What the writer answers, by the rules of RFC 7845.
--     write_against, against_only     -24 exactly where no rule-abiding version 1 is to be written
--     write_short, short_only         then -2 exactly where there is no room
--     write_all, Done, done_was       else the bytes
-- Assumes nothing.
use Prim.Native.Nat.{ℕ, ◌<◌, ◌≤◌}
use native.Mathlib.Omega.{arith}
use mathlib.Core.Path.{◌≡◌, sym, ap, ◌∙◌}
use mathlib.Core.List.{List}
use mathlib.Core.Bool.{false}
use lib.Dec.{eqb, ltb}
use lib.IntN.{pos, negsuc}
use lib.ListN.{length}
use borrow.Author.Tests.{eqb-true, eqb-false, ltb-true, ltb-false}
use Rattle.laws.proofs.Never.{never, by_test}
use Rattle.opus_defines.specs.Outcome.{Outcome, refuses, writes}
use Rattle.opus_defines.specs.declared.Refusal.TheVariants.{BufferTooSmall, BadField}
use Rattle.opus_head.specs.declared.OpusHead.{OpusHead}
use Rattle.opus_head.specs.Header.{head_bytes, Lawful}
use Rattle.opus_head.specs.Heads.{Writable}
use Rattle.opus_head.specs.Reading.{ruled, head_write}
use Rattle.opus_head.proofs.Ruling.{ruled_lawful, lawful_ruled}
use Rattle.opus_head.proofs.Answered.{write_version, write_unruled, write_full, write_done}

data Way (h : OpusHead) (dst : List ℕ) : Type 0 where
  against : (Writable h → ⊥) → head_write h dst ≡ refuses BadField dst → Way h dst
  short : Writable h → length dst < length (head_bytes h) → head_write h dst ≡ refuses BufferTooSmall dst → Way h dst
  done : Writable h → length (head_bytes h) ≤ length dst → head_write h dst ≡ writes (head_bytes h) dst → Way h dst

false_true : (h : OpusHead) → ruled h ≡ false → Lawful h → ⊥
false_true h r l = let z = sym r ∙ lawful_ruled h l in never (cc)

ways : (h : OpusHead) (dst : List ℕ) → Way h dst
ways h dst =
    by_test (eqb h.version 1)
    (λ t.
    let v = eqb-true h.version 1 t in
    by_test (ruled h)
    (λ r.
    let w : Writable h = record { one = v; lawful = ruled_lawful h (omega (arith, v)) r } in
    by_test (ltb (length dst) (length (head_bytes h)))
    (λ l. let k = ltb-true (length dst) (length (head_bytes h)) l in short w k (write_full h dst v r k))
    (λ l. let k = ltb-false (length dst) (length (head_bytes h)) l in done w k (write_done h dst v r k)))
    (λ r. against (λ w. false_true h r w.lawful) (write_unruled h dst v r)))
    (λ t. let o = eqb-false h.version 1 t in against (λ w. o w.one) (write_version h dst o))

-- ---- by the way, and by the answer
module _ (h : OpusHead) (dst : List ℕ) where
  pub write_against : (Writable h → ⊥) → head_write h dst ≡ refuses BadField dst
  write_against o = go (ways h dst)
    where
      go : Way h dst → head_write h dst ≡ refuses BadField dst
      go (against _ e) = e
      go (short w _ _) = absurd (o w)
      go (done w _ _) = absurd (o w)

  pub against_only : (head_write h dst).report.number ≡ negsuc 23 → Writable h → ⊥
  against_only a w = go (ways h dst)
    where
      go : Way h dst → ⊥
      go (against o _) = o w
      go (short _ _ e) = let z = sym (ap (λ (x : Outcome). x.report.number) e) ∙ a in never (cc)
      go (done _ _ e) = let z = sym (ap (λ (x : Outcome). x.report.number) e) ∙ a in never (cc)

  pub write_short : Writable h → length dst < length (head_bytes h) → head_write h dst ≡ refuses BufferTooSmall dst
  write_short w k = write_full h dst w.one (lawful_ruled h w.lawful) k

  pub short_only : (head_write h dst).report.number ≡ negsuc 1 → Writable h × (length dst < length (head_bytes h))
  short_only a = go (ways h dst)
    where
      go : Way h dst → Writable h × (length dst < length (head_bytes h))
      go (against _ e) = let z = sym (ap (λ (x : Outcome). x.report.number) e) ∙ a in never (cc)
      go (short w k _) = (w, k)
      go (done _ _ e) = let z = sym (ap (λ (x : Outcome). x.report.number) e) ∙ a in never (cc)

  pub write_all : Writable h → length (head_bytes h) ≤ length dst → head_write h dst ≡ writes (head_bytes h) dst
  write_all w k = write_done h dst w.one (lawful_ruled h w.lawful) k

  -- a header that was written, in n bytes
  pub record Done (n : ℕ) : Type 0 where
    pub writable : Writable h
    pub room : length (head_bytes h) ≤ length dst
    pub count : n ≡ length (head_bytes h)

  pub done_was : (n : ℕ) → (head_write h dst).report.number ≡ pos n → Done n
  done_was n a = go (ways h dst)
    where
      go : Way h dst → Done n
      go (against _ e) = let z = sym (ap (λ (x : Outcome). x.report.number) e) ∙ a in never (cc)
      go (short _ _ e) = let z = sym (ap (λ (x : Outcome). x.report.number) e) ∙ a in never (cc)
      go (done w k e) = record { writable = w; room = k; count = let z = sym (ap (λ (x : Outcome). x.report.number) e) ∙ a in cc }
