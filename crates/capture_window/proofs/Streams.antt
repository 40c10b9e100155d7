-- The answers of a file that is read part by part, with places in the file, are those of the file.
--     answers_at                       the answers of a capture that stands behind `base` bytes, of which the last `carried` were passed over
--     on_end, on_record               the first answer of a part, which says that there is none, or is a record
--     on_passing, on_shifted          answers that pass more over, and that are counted from further before
--     told_answers, cuts_answers      a part and the rest, and all parts
-- Assumes nothing.
use mathlib.Core.Path.{◌≡◌, refl, sym, ap, ◌∙◌}
use mathlib.Core.List.{List, [], ◌∷◌, ◌++◌, map}
use Prim.Native.Nat.{ℕ, ◌+◌}
use native.Mathlib.Nat.{zero-add, add-zero, add_assoc}
use native.Mathlib.Omega.{arith}
use lib.ListN.{length, drop, length-drop}
use borrow.Author.Tests.{eq-eqb, ne_eqb}
use Rattle.std.specs.Prelude.{Ok}
use Rattle.capture.specs.declared.NextRecord.{NextRecord}
use Rattle.capture.specs.Finding.{packet_length, next_record}
use Rattle.capture.specs.Reading.{readings}
use Rattle.capture.proofs.Laws.{length-fits}
use Rattle.capture.proofs.Shifted.{shifted}
use Rattle.capture.proofs.Held.{answer_in, passing_more, first_passing, some_answer, readings_nil, readings_here, readings-over}
use Rattle.capture_window.specs.Parts.{in_file, answers_on, answers_from}
use Rattle.capture_window.proofs.Places.{stands_with_more, none_when_cut}
use Rattle.capture_window.proofs.Telling.{Told, nothing, whole, byte, behind_with_more, same_line}
use Rattle.capture_window.proofs.Cutting.{Cuts, over, part}

-- ---- answers counted from further before, and passing more over
pub shifted_none : (r : List NextRecord) → map (shifted 0) r ≡ r
shifted_none [] = refl
shifted_none (a ∷ r) = rw (zero-add a.place, shifted_none r)

shifted_twice : (n m : ℕ) (r : List NextRecord) → map (shifted n) (map (shifted m) r) ≡ map (shifted (n + m)) r
shifted_twice n m [] = refl
shifted_twice n m (a ∷ r) = rw (add_assoc n m a.place, shifted_twice n m r)

pub passing_none : (r : List NextRecord) → first_passing 0 r ≡ r
passing_none [] = refl
passing_none (a ∷ r) = rw (zero-add a.passed)

passing_twice : (j k : ℕ) (r : List NextRecord) → first_passing j (first_passing k r) ≡ first_passing (j + k) r
passing_twice j k [] = refl
passing_twice j k (a ∷ r) = rw (add_assoc j k a.passed)

passing_shifted : (k n : ℕ) (r : List NextRecord) → first_passing k (map (shifted n) r) ≡ map (shifted n) (first_passing k r)
passing_shifted k n [] = refl
passing_shifted k n (a ∷ r) = refl

abbrev pub answers_at : ℕ → ℕ → List ℕ → List NextRecord
answers_at base carried s = map (shifted base) (first_passing carried (readings s 0))

-- ---- the answers of a part, and of what follows
module _ (base : ℕ) (on : ℕ → List NextRecord) where
  on_end : (carried : ℕ) (a : NextRecord) (more : List NextRecord) → a.length ≡ 0 → answers_on base carried (a ∷ more) on ≡ on (carried + a.passed)
  unfolding answers_on
  on_end carried a more z = rw (eq-eqb a.length 0 z)

  on_record : (carried : ℕ) (a : NextRecord) (more : List NextRecord) → (a.length ≡ 0 → ⊥)
      → answers_on base carried (a ∷ more) on ≡ in_file base carried a ∷ answers_on base 0 more on
  unfolding answers_on
  on_record carried a more f = rw (ne_eqb a.length 0 f)

  -- the first passes k bytes more over
  on_passing : (carried k : ℕ) (a : NextRecord) (more : List NextRecord)
      → answers_on base carried (passing_more k a ∷ more) on ≡ answers_on base (carried + k) (a ∷ more) on
  unfolding answers_on
  on_passing carried k a more = rw (add_assoc carried k a.passed)

-- each counted from n bytes before
on_shifted : (base n : ℕ) (on : ℕ → List NextRecord) (carried : ℕ) (r : List NextRecord)
    → answers_on base carried (map (shifted n) r) on ≡ answers_on (base + n) carried r on
unfolding answers_on
on_shifted base n on carried [] = refl
on_shifted base n on carried (a ∷ r) = rw (on_shifted base n on 0 r, add_assoc base n a.place)

-- ---- a part p, and `rest` behind it
-- what follows the part is read with k bytes carried over
abbrev pub rest_on : ℕ → List ℕ → ℕ → List NextRecord
rest_on at rest k = answers_at at k rest

-- the part, and what follows it, make the answers of both
abbrev Follows : List ℕ → List ℕ → ℕ → ℕ → Type 0
Follows rest p base carried = answers_on base carried (readings p 0) (rest_on (base + length p) rest) ≡ answers_at base carried (p ++ rest)

follows_nothing : (rest : List ℕ) (base carried : ℕ) → Follows rest [] base carried
follows_nothing rest base carried =
    rw readings_nil
    (on_end base (rest_on (base + 0) rest) carried (record { verdict = Ok tt; line = 0; place = 0; length = 0; passed = 0 }) [] refl
    ∙ rw (add-zero base, add-zero carried))

module _ (p rest : List ℕ) (f : packet_length p ≡ 0 → ⊥) (base carried : ℕ) where
  abbrev n : ℕ
  n = 5 + packet_length p

  readings_with_more : readings (p ++ rest) 0 ≡ answer_in p ∷ map (shifted n) (readings (drop n p ++ rest) 0)
  readings_with_more =
      readings_here (p ++ rest) (λ z. f (sym (stands_with_more p rest f) ∙ z))
      ∙ rw (behind_with_more p rest f, stands_with_more p rest f, same_line p rest f)

  both_whole : answers_at base carried (p ++ rest) ≡ in_file base carried (answer_in p) ∷ answers_at (base + n) 0 (drop n p ++ rest)
  both_whole =
      let more = readings (drop n p ++ rest) 0 in
      rw (readings_with_more, shifted_twice base n more, passing_none more)

  follows_whole : Follows rest (drop n p) (base + n) 0 → Follows rest p base carried
  follows_whole ih =
      let place : base + n + length (drop n p) ≡ base + length p = omega (arith, length-drop n p, length-fits p f) in
      let on = rest_on (base + length p) rest in
      let more = readings (drop n p) 0 in
      let first : answers_on base carried (readings p 0) on ≡ in_file base carried (answer_in p) ∷ answers_on (base + n) 0 more on =
      rw (readings_here p f) (on_record base on carried (answer_in p) (map (shifted n) more) f ∙ rw (on_shifted base n on 0 more)) in
      first ∙ (ap (λ (r : List NextRecord). in_file base carried (answer_in p) ∷ r) (rw place at ih) ∙ sym both_whole)

module _ (b : ℕ) (p rest : List ℕ) (z : packet_length (b ∷ (p ++ rest)) ≡ 0) (base carried : ℕ) where
  both_byte : answers_at base carried (b ∷ (p ++ rest)) ≡ answers_at (base + 1) (carried + 1) (p ++ rest)
  both_byte =
      let r = readings (p ++ rest) 0 in
      rw (
        readings-over b (p ++ rest) z,
        passing_twice carried 1 (map (shifted 1) r),
        passing_shifted (carried + 1) 1 r,
        shifted_twice base 1 (first_passing (carried + 1) r),
      )

  first_byte : (on : ℕ → List NextRecord) → answers_on base carried (readings (b ∷ p) 0) on ≡ answers_on (base + 1) (carried + 1) (readings p 0) on
  first_byte on =
      let first = some_answer p 0 (omega arith) in
      let a = next_record p 0 in
      rw (readings-over b p (none_when_cut (b ∷ p) rest z), first.1)
      (on_passing base on carried 1 (shifted 1 a) (map (shifted 1) first.0) ∙ on_shifted base 1 on (carried + 1) (a ∷ first.0))

  follows_byte : Follows rest p (base + 1) (carried + 1) → Follows rest (b ∷ p) base carried
  follows_byte ih =
      let place : base + 1 + length p ≡ base + length (b ∷ p) = omega arith in
      first_byte (rest_on (base + length (b ∷ p)) rest) ∙ (rw place at ih ∙ sym both_byte)

told_answers : {rest p : List ℕ} → Told rest p → (base carried : ℕ) → Follows rest p base carried
told_answers {rest} nothing base carried = follows_nothing rest base carried
told_answers {rest} {p} (whole f t) base carried = follows_whole p rest f base carried (told_answers t (base + (5 + packet_length p)) 0)
told_answers {rest} (byte {b} {p} z t) base carried = follows_byte b p rest z base carried (told_answers t (base + 1) (carried + 1))

-- ---- all parts
on_same : (base : ℕ) (on on' : ℕ → List NextRecord) → ((k : ℕ) → on k ≡ on' k) → (carried : ℕ) (r : List NextRecord)
    → answers_on base carried r on ≡ answers_on base carried r on'
unfolding answers_on
on_same base on on' e carried [] = e carried
on_same base on on' e carried (a ∷ r) = rw (e (carried + a.passed), on_same base on on' e 0 r)

answers_over : (base carried : ℕ) → answers_from base carried [] ≡ answers_at base carried []
unfolding answers_from
answers_over base carried = rw (readings_nil, add-zero base, add-zero carried)

pub cuts_answers : {ps : List (List ℕ)} {s : List ℕ} → Cuts ps s → (base carried : ℕ) → answers_from base carried ps ≡ answers_at base carried s
unfolding answers_from
cuts_answers over base carried = answers_over base carried
cuts_answers (part {p} {ps} {rest} t c) base carried =
    let at = base + length p in
    on_same base (λ k. answers_from at k ps) (rest_on at rest) (λ k. cuts_answers c at k) carried (readings p 0) ∙ told_answers t base carried
