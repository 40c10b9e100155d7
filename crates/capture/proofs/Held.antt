-- What a capture holds, its records and the bytes that belong to none, by what stands at its front: nothing, a record, or a byte that is passed over.
--     records_are, passed_are                            both by the answers from the front on
--     records_none, records_one, records_end             the records among answers
--     passed_one, passed_end                             what answers pass over
--     records_shifted, passed_shifted, entries-shifted   the same of answers behind some bytes
--     readings_nil, readings_here, readings-over         the answers
--     records_of_nil, records_of_here, records_of_over   the records
--     passed_of_nil, passed_of_here, passed_of_over      the bytes passed over
--     front_induction                                    what each such step keeps holds of every capture
--     all-counted                                        records and passed-over bytes are all there is
-- Assumes nothing.
use mathlib.Core.Path.{◌≡◌, refl, sym, ap, ◌∙◌}
use mathlib.Core.List.{List, [], ◌∷◌, ◌++◌, map}
use Prim.Native.Nat.{ℕ, zero, suc, ◌+◌, ◌<◌, ◌≤◌}
use native.Mathlib.Nat.{zero-add, add-zero, le_refl}
use native.Mathlib.Numerals.{one-add}
use native.Mathlib.Omega.{arith}
use lib.Dec.{eqb}
use lib.ListN.{length, get_or, drop, take, length-append, length-drop, take-append-drop}
use lib.Seq.{length-take-le}
use borrow.Author.Tests.{eq-eqb, ne_eqb, eqb-true, eqb-false}
use Rattle.laws.proofs.Never.{by_test}
use Rattle.std.specs.Prelude.{Ok}
use Rattle.capture.specs.declared.NextRecord.{NextRecord}
use Rattle.capture.specs.Records.{written, file_of}
use Rattle.capture.specs.Finding.{packet_length, before, record_from, next_record}
use Rattle.capture.specs.Reading.{record_bytes, behind, readings_in, readings, entries, records_in, records_of, passed_in, passed_of}
use Rattle.capture.proofs.Laws.{length-fits, before_here, before_later, next_is}
use Rattle.capture.proofs.Written.{entry_in, written-length, found_length}
use Rattle.capture.proofs.Files.{file_none, file_one}
use Rattle.capture.proofs.Answers.{all_bytes, next-within}
use Rattle.capture.proofs.Steps.{readings_end, readings_on}
use Rattle.capture.proofs.Shifted.{shifted, readings-shifted, entry_shifted}

-- ---- by the answers from the front on
module _ (s : List ℕ) where
  pub records_are : records_of s ≡ entries s (records_in (readings s 0))
  unfolding records_of
  records_are = refl

  pub passed_are : passed_of s ≡ passed_in (readings s 0)
  unfolding passed_of
  passed_are = refl

-- ---- the records among answers, and what answers pass over
module _ (a : NextRecord) (more : List NextRecord) where
  pub records_none : a.length ≡ 0 → records_in (a ∷ more) ≡ records_in more
  unfolding records_in
  records_none z = rw (eq-eqb a.length 0 z)

  pub records_one : (a.length ≡ 0 → ⊥) → records_in (a ∷ more) ≡ a ∷ records_in more
  unfolding records_in
  records_one f = rw (ne_eqb a.length 0 f)

  pub passed_one : passed_in (a ∷ more) ≡ a.passed + passed_in more
  unfolding passed_in
  passed_one = refl

pub records_end : records_in [] ≡ []
unfolding records_in
records_end = refl

pub passed_end : passed_in [] ≡ 0
unfolding passed_in
passed_end = refl

-- the same of answers behind some bytes
records_shifted : (n : ℕ) (r : List NextRecord) → records_in (map (shifted n) r) ≡ map (shifted n) (records_in r)
records_shifted n [] = rw records_end
records_shifted n (a ∷ r) =
    by_test (eqb a.length 0)
    (λ t. let z = eqb-true a.length 0 t in
    records_none (shifted n a) (map (shifted n) r) z ∙ (records_shifted n r ∙ ap (map (shifted n)) (sym (records_none a r z))))
    (λ t. let f = eqb-false a.length 0 t in
    records_one (shifted n a) (map (shifted n) r) f
    ∙ (ap (λ (l : List NextRecord). shifted n a ∷ l) (records_shifted n r) ∙ ap (map (shifted n)) (sym (records_one a r f))))

passed_shifted : (n : ℕ) (r : List NextRecord) → passed_in (map (shifted n) r) ≡ passed_in r
unfolding passed_in
passed_shifted n [] = refl
passed_shifted n (a ∷ r) = ap (λ (k : ℕ). a.passed + k) (passed_shifted n r)

pub entries-shifted : (front s : List ℕ) (r : List NextRecord) → entries (front ++ s) (map (shifted (length front)) r) ≡ entries s r
entries-shifted front s [] = refl
entries-shifted front s (a ∷ r) = rw (entry_shifted front s a, entries-shifted front s r)

-- ---- nothing
pub readings_nil : readings [] 0 ≡ record { verdict = Ok tt; line = 0; place = 0; length = 0; passed = 0 } ∷ []
unfolding readings_in next_record record_from before packet_length
readings_nil = refl

pub records_of_nil : records_of [] ≡ []
unfolding records_of readings_in next_record record_from before packet_length records_in
records_of_nil = refl

pub passed_of_nil : passed_of [] ≡ 0
unfolding passed_of readings_in next_record record_from before packet_length passed_in
passed_of_nil = refl

-- ---- a record
-- its answer
abbrev pub answer_in : List ℕ → NextRecord
answer_in l = record { verdict = Ok tt; line = get_or l 2 0; place = 0; length = packet_length l; passed = 0 }

module _ (l : List ℕ) (f : packet_length l ≡ 0 → ⊥) where
  next_here : next_record l 0 ≡ answer_in l
  unfolding record_from
  next_here = rw (next_is l 0 (omega arith), before_here l f)

  behind_here : behind (answer_in l) ≡ 5 + packet_length l
  behind_here = omega (arith, all_bytes (answer_in l) f)

  front_length : length (take (5 + packet_length l) l) ≡ 5 + packet_length l
  front_length = length-take-le (5 + packet_length l) l (length-fits l f)

  -- what is behind it
  rest_here : readings l (5 + packet_length l) ≡ map (shifted (5 + packet_length l)) (readings (drop (5 + packet_length l) l) 0)
  rest_here =
      let n = 5 + packet_length l in
      rw (take-append-drop n l, front_length, add-zero) at (readings-shifted (take n l) (drop n l) 0 (omega arith))

  pub readings_here : readings l 0 ≡ answer_in l ∷ map (shifted (5 + packet_length l)) (readings (drop (5 + packet_length l) l) 0)
  readings_here =
      let first = readings_on l 0 (omega arith) (rw next_here f) in
      first ∙ rw (next_here, behind_here, rest_here)

  entries_here : (r : List NextRecord) → entries l (map (shifted (5 + packet_length l)) r) ≡ entries (drop (5 + packet_length l) l) r
  entries_here r =
      let n = 5 + packet_length l in
      rw (take-append-drop n l, front_length) at (entries-shifted (take n l) (drop n l) r)

  pub records_of_here : records_of l ≡ entry_in l ∷ records_of (drop (5 + packet_length l) l)
  unfolding records_of
  records_of_here =
      let n = 5 + packet_length l in
      let more = readings (drop n l) 0 in
      rw (readings_here, records_one (answer_in l) (map (shifted n) more) f, records_shifted n more, entries_here (records_in more))

  pub passed_of_here : passed_of l ≡ passed_of (drop (5 + packet_length l) l)
  unfolding passed_of
  passed_of_here =
      let n = 5 + packet_length l in
      let more = readings (drop n l) 0 in
      rw (readings_here, passed_one (answer_in l) (map (shifted n) more), passed_shifted n more) (omega arith)

-- ---- a byte that is passed over
-- an answer that passes so many bytes more over, and answers of which the first does
abbrev pub passing_more : ℕ → NextRecord → NextRecord
passing_more k a = record { verdict = a.verdict; line = a.line; place = a.place; length = a.length; passed = k + a.passed }

abbrev pub first_passing : ℕ → List NextRecord → List NextRecord
first_passing k [] = []
first_passing k (a ∷ more) = passing_more k a ∷ more

-- they have the same records
entries_passing : (k : ℕ) (s : List ℕ) (r : List NextRecord) → entries s (records_in (first_passing k r)) ≡ entries s (records_in r)
entries_passing k s [] = refl
entries_passing k s (a ∷ r) =
    by_test (eqb a.length 0)
    (λ t. let z = eqb-true a.length 0 t in rw (records_none (passing_more k a) r z, records_none a r z))
    (λ t. let f = eqb-false a.length 0 t in rw (records_one (passing_more k a) r f, records_one a r f))

passed_passing : (k : ℕ) (a : NextRecord) (more : List NextRecord) → passed_in (first_passing k (a ∷ more)) ≡ k + passed_in (a ∷ more)
passed_passing k a more = rw (passed_one (passing_more k a) more, passed_one a more) (omega arith)

-- there is an answer, whatever is behind it
pub some_answer : (s : List ℕ) (at : ℕ) → at ≤ length s → (more : List NextRecord) × (readings s at ≡ next_record s at ∷ more)
some_answer s at h =
    by_test (eqb (next_record s at).length 0) (λ t. ([], readings_end s at (eqb-true (next_record s at).length 0 t)))
    (λ t. (readings s (behind (next_record s at)), readings_on s at h (eqb-false (next_record s at).length 0 t)))

behind-over : (a : NextRecord) → behind (passing_more 1 (shifted 1 a)) ≡ 1 + behind a
unfolding record_bytes
behind-over a = omega arith

module _ (b : ℕ) (l : List ℕ) (z : packet_length (b ∷ l) ≡ 0) where
  next-over : next_record (b ∷ l) 0 ≡ passing_more 1 (shifted 1 (next_record l 0))
  unfolding record_from
  next-over =
      let n = before l in
      rw (next_is (b ∷ l) 0 (omega arith), next_is l 0 (omega arith), before_later b l z, zero-add (suc n), zero-add n, one-add n)

  over_end : (next_record l 0).length ≡ 0 → readings (b ∷ l) 0 ≡ first_passing 1 (map (shifted 1) (readings l 0))
  over_end e = readings_end (b ∷ l) 0 (rw next-over e) ∙ rw (next-over, readings_end l 0 e)

  over_on : ((next_record l 0).length ≡ 0 → ⊥) → readings (b ∷ l) 0 ≡ first_passing 1 (map (shifted 1) (readings l 0))
  over_on f =
      let a = next_record l 0 in
      let rest : readings (b ∷ l) (1 + behind a) ≡ map (shifted 1) (readings l (behind a)) =
      readings-shifted (b ∷ []) l (behind a) (next-within l 0 (omega arith) f) in
      readings_on (b ∷ l) 0 (omega arith) (rw next-over f)
      ∙ rw (next-over, behind-over a, rest, readings_on l 0 (omega arith) f)

  pub readings-over : readings (b ∷ l) 0 ≡ first_passing 1 (map (shifted 1) (readings l 0))
  readings-over =
      by_test (eqb (next_record l 0).length 0) (λ t. over_end (eqb-true (next_record l 0).length 0 t))
      (λ t. over_on (eqb-false (next_record l 0).length 0 t))

  pub records_of_over : records_of (b ∷ l) ≡ records_of l
  unfolding records_of
  records_of_over =
      let r = readings l 0 in
      rw (readings-over, entries_passing 1 (b ∷ l) (map (shifted 1) r), records_shifted 1 r) (entries-shifted (b ∷ []) l (records_in r))

  pub passed_of_over : passed_of (b ∷ l) ≡ suc (passed_of l)
  unfolding passed_of
  passed_of_over =
      let first = some_answer l 0 (omega arith) in
      let a = next_record l 0 in
      rw (readings-over, first.1, passed_passing 1 (shifted 1 a) (map (shifted 1) first.0)) (omega (arith, passed_shifted 1 (a ∷ first.0)))

-- ---- what each step keeps
module _ (P : List ℕ → Type 0) (nil : P []) (over : (b : ℕ) (l : List ℕ) → packet_length (b ∷ l) ≡ 0 → P l → P (b ∷ l))
    (here : (l : List ℕ) → (packet_length l ≡ 0 → ⊥) → P (drop (5 + packet_length l) l) → P l) where
  step : (l : List ℕ) → ((m : List ℕ) → length m < length l → P m) → P l
  step [] shorter = nil
  step (b ∷ l) shorter =
      let n = packet_length (b ∷ l) in
      by_test (eqb n 0) (λ t. over b l (eqb-true n 0 t) (shorter l (omega arith)))
      (λ t. here (b ∷ l) (eqb-false n 0 t) (shorter (drop (5 + n) (b ∷ l)) (omega (arith, length-drop (5 + n) (b ∷ l)))))

  induct : (most : ℕ) (l : List ℕ) → length l ≤ most → P l
  induct zero l h = step l (λ m k. absurd (omega arith))
  induct (suc most) l h = step l (λ m k. induct most m (omega arith))

  pub front_induction : (l : List ℕ) → P l
  front_induction l = induct (length l) l (le_refl (length l))

-- ---- all there is
counted_here : (l : List ℕ) → (packet_length l ≡ 0 → ⊥)
    → let n = 5 + packet_length l in length (drop n l) ≡ length (file_of (records_of (drop n l))) + passed_of (drop n l)
    → length l ≡ length (file_of (records_of l)) + passed_of l
counted_here l f e =
    let n = 5 + packet_length l in
    let more = records_of (drop n l) in
    let file = ap length (file_one (entry_in l) more) ∙ length-append (written (entry_in l)) (file_of more) in
    rw (records_of_here l f, passed_of_here l f)
    (omega (arith, file, written-length (entry_in l), found_length l f, length-fits l f, length-drop n l))

pub all-counted : (s : List ℕ) → length s ≡ length (file_of (records_of s)) + passed_of s
all-counted =
    front_induction (λ l. length l ≡ length (file_of (records_of l)) + passed_of l)
    (rw (records_of_nil, passed_of_nil, file_none))
    (λ b l z e. rw (records_of_over b l z, passed_of_over b l z) (omega arith))
    counted_here
