-- A capture behind some bytes: it is read as it is alone, at places that count those bytes too.
--     shifted, behind-shifted              an answer, its place counted from some bytes before
--     next-shifted, readings-shifted       the answers behind the bytes
--     entry_shifted                        their records, which are the same
-- Assumes nothing.
use mathlib.Core.Path.{◌≡◌, ◌∙◌}
use mathlib.Core.List.{List, [], ◌∷◌, ◌++◌, map}
use Prim.Native.Nat.{ℕ, ◌+◌, ◌≤◌}
use native.Mathlib.Nat.{add_assoc}
use native.Mathlib.Omega.{arith}
use lib.ListN.{length, drop, length-append}
use lib.Seq.{drop-append-add}
use Rattle.capture.specs.declared.NextRecord.{NextRecord}
use Rattle.capture.specs.Finding.{packet_at, before, record_from, next_record}
use Rattle.capture.specs.Reading.{record_bytes, behind, readings, entry_of}
use Rattle.capture.proofs.Laws.{next_is}
use Rattle.capture.proofs.Steps.{readings_end, readings_on, reading_induction}

abbrev pub shifted : ℕ → NextRecord → NextRecord
shifted n a = record { verdict = a.verdict; line = a.line; place = n + a.place; length = a.length; passed = a.passed }

behind-shifted : (n : ℕ) (a : NextRecord) → behind (shifted n a) ≡ n + behind a
unfolding record_bytes
behind-shifted n a = omega arith

-- ---- the capture s behind the bytes `front`
module _ (front s : List ℕ) where
  inside_both : (at : ℕ) → at ≤ length s → length front + at ≤ length (front ++ s)
  inside_both at h = omega (arith, length-append front s)

  next-shifted : (at : ℕ) → at ≤ length s → next_record (front ++ s) (length front + at) ≡ shifted (length front) (next_record s at)
  unfolding record_from
  next-shifted at h =
      rw (
        next_is s at h,
        next_is (front ++ s) (length front + at) (inside_both at h),
        drop-append-add front s at,
        add_assoc (length front) at (before (drop at s)),
        drop-append-add front s (at + before (drop at s)),
      )

  shifted_end : (at : ℕ) → at ≤ length s → (next_record s at).length ≡ 0
      → readings (front ++ s) (length front + at) ≡ map (shifted (length front)) (next_record s at ∷ [])
  shifted_end at h z =
      let next = next-shifted at h in
      readings_end (front ++ s) (length front + at) (rw next z) ∙ rw next

  shifted_on : (at : ℕ) → at ≤ length s → ((next_record s at).length ≡ 0 → ⊥) → (more : List NextRecord)
      → readings (front ++ s) (length front + behind (next_record s at)) ≡ map (shifted (length front)) more
      → readings (front ++ s) (length front + at) ≡ map (shifted (length front)) (next_record s at ∷ more)
  shifted_on at h f more rest =
      let next = next-shifted at h in
      let a = next_record s at in
      readings_on (front ++ s) (length front + at) (inside_both at h) (rw next f)
      ∙ rw (next, behind-shifted (length front) a, rest)

  pub readings-shifted : (at : ℕ) → at ≤ length s → readings (front ++ s) (length front + at) ≡ map (shifted (length front)) (readings s at)
  readings-shifted =
      reading_induction s (λ at r. readings (front ++ s) (length front + at) ≡ map (shifted (length front)) r) shifted_end
      (λ at h f. shifted_on at h f (readings s (behind (next_record s at))))

  pub entry_shifted : (a : NextRecord) → entry_of (front ++ s) (shifted (length front) a) ≡ entry_of s a
  unfolding packet_at
  entry_shifted a =
      rw (
        drop-append-add front s a.place,
        add_assoc (length front) a.place 5,
        drop-append-add front s (a.place + 5),
      )
