-- The answers from one of them on are the reading from the place at which that one begins; and so is reading from behind its record, and from a
-- place before it.
-- Assumes nothing.
use mathlib.Core.Path.{◌≡◌, sym, ap, ◌∙◌}
use mathlib.Core.List.{List, [], ◌∷◌, ◌++◌}
use Prim.Native.Nat.{ℕ, ◌≤◌}
use native.Mathlib.Omega.{arith}
use lib.ListN.{length}
use lib.Dec.{eqb}
use borrow.Author.Tests.{eqb-true, eqb-false}
use Rattle.laws.proofs.Never.{never, by_test}
use Rattle.capture.specs.declared.NextRecord.{NextRecord}
use Rattle.capture.specs.Finding.{next_record}
use Rattle.capture.specs.Reading.{record_bytes, behind, begins, readings}
use Rattle.capture.proofs.Answers.{seen_from, next-begins, next_place_le, next_moves, next_again}
use Rattle.capture.proofs.Steps.{Answer, the_answer, later_answer, readings_end, readings_on, reading_induction}

-- an answer, and those behind it
pub record Splits (s : List ℕ) (at : ℕ) (a : NextRecord) (more : List NextRecord) : Type 0 where
  pub answer : Answer s at a
  pub rest : readings s (begins a) ≡ a ∷ more

splits_here : (s : List ℕ) (at : ℕ) (a : NextRecord) (tail more : List NextRecord) → at ≤ length s
    → readings s at ≡ next_record s at ∷ tail → next_record s at ∷ tail ≡ a ∷ more → Splits s at a more
splits_here s at a tail more h r e =
    let same : next_record s at ≡ a = cc in
    let from : begins a ≡ at = ap begins (sym same) ∙ next-begins s at h in
    record { answer = rw (← same) (the_answer s at h); rest = ap (readings s) from ∙ r ∙ e }

splits_end : (s : List ℕ) (at : ℕ) (a : NextRecord) (done more : List NextRecord) → at ≤ length s → (next_record s at).length ≡ 0
    → next_record s at ∷ [] ≡ done ++ (a ∷ more) → Splits s at a more
splits_end s at a [] more h z e = splits_here s at a [] more h (readings_end s at z) e
splits_end s at a (d ∷ []) more h z e = never (cc)
splits_end s at a (d ∷ d' ∷ done) more h z e = never (cc)

splits_on : (s : List ℕ) (at : ℕ) (a : NextRecord) (done more : List NextRecord) → at ≤ length s → ((next_record s at).length ≡ 0 → ⊥)
    → ((done : List NextRecord) → readings s (behind (next_record s at)) ≡ done ++ (a ∷ more) → Splits s (behind (next_record s at)) a more)
    → next_record s at ∷ readings s (behind (next_record s at)) ≡ done ++ (a ∷ more) → Splits s at a more
splits_on s at a [] more h f next e = splits_here s at a (readings s (behind (next_record s at))) more h (readings_on s at h f) e
splits_on s at a (d ∷ done) more h f next e =
    let tails : readings s (behind (next_record s at)) ≡ done ++ (a ∷ more) = cc in
    let n = next done tails in
    let b = behind (next_record s at) in
    record { answer = later_answer s at b a (omega (arith, next_moves s at h f)) n.answer; rest = n.rest }

pub splits : (s : List ℕ) (at : ℕ) (done more : List NextRecord) (a : NextRecord) → at ≤ length s → readings s at ≡ done ++ (a ∷ more)
    → Splits s at a more
splits s at done more a h =
    reading_induction s (λ at r. (done : List NextRecord) → r ≡ done ++ (a ∷ more) → Splits s at a more)
    (λ at h z done. splits_end s at a done more h z) (λ at h f next done. splits_on s at a done more h f next) at h done

-- ---- the reading from behind an answer's record, and from a place between
module _ (s : List ℕ) (at : ℕ) (h : at ≤ length s) (more : List NextRecord) (r : readings s at ≡ next_record s at ∷ more) where
  from_behind : ((next_record s at).length ≡ 0 → ⊥) → readings s (behind (next_record s at)) ≡ more
  from_behind f =
      let e : next_record s at ∷ readings s (behind (next_record s at)) ≡ next_record s at ∷ more = sym (readings_on s at h f) ∙ r in
      cc

  module _ (k : ℕ) (from : at ≤ k) (to : k ≤ (next_record s at).place) where
    same_length : (next_record s k).length ≡ (next_record s at).length
    same_length = rw (next_again s at h k from to)

    same-behind : behind (next_record s k) ≡ behind (next_record s at)
    unfolding record_bytes
    same-behind = rw (next_again s at h k from to)

    between_end : (next_record s at).length ≡ 0 → readings s k ≡ next_record s k ∷ more
    between_end z =
        let e : next_record s at ∷ [] ≡ next_record s at ∷ more = sym (readings_end s at z) ∙ r in
        let none : [] ≡ more = cc in
        rw (← none) (readings_end s k (same_length ∙ z))

    between_on : ((next_record s at).length ≡ 0 → ⊥) → readings s k ≡ next_record s k ∷ more
    between_on f =
        let e : readings s (behind (next_record s k)) ≡ more = ap (readings s) same-behind ∙ from_behind f in
        rw (← e) (readings_on s k (omega (arith, next_place_le s at h)) (λ z. f (sym same_length ∙ z)))

    from_between : readings s k ≡ next_record s k ∷ more
    from_between =
        by_test (eqb (next_record s at).length 0) (λ t. between_end (eqb-true (next_record s at).length 0 t))
        (λ t. between_on (eqb-false (next_record s at).length 0 t))

-- ---- the same of an answer, and those behind it
module _ (s : List ℕ) (at : ℕ) (a : NextRecord) (more : List NextRecord) (p : Splits s at a more) where
  its_rest : readings s (begins a) ≡ next_record s (begins a) ∷ more
  its_rest = p.rest ∙ ap (λ (a : NextRecord). a ∷ more) p.answer.is

  pub splits_behind : (a.length ≡ 0 → ⊥) → readings s (behind a) ≡ more
  splits_behind f =
      let is = p.answer.is in
      ap (λ (a : NextRecord). readings s (behind a)) is
      ∙ from_behind s (begins a) p.answer.inside more its_rest (λ z. f (ap (λ (a : NextRecord). a.length) is ∙ z))

  pub splits_before : (k : ℕ) → begins a ≤ k → k ≤ a.place
      → readings s k ≡ seen_from k a ∷ more
  splits_before k from to =
      let h = p.answer.inside in
      let is = p.answer.is in
      let to' : k ≤ (next_record s (begins a)).place = omega (arith, ap (λ (a : NextRecord). a.place) is) in
      from_between s (begins a) h more its_rest k from to'
      ∙ ap (λ (a : NextRecord). a ∷ more) (next_again s (begins a) h k from to' ∙ ap (seen_from k) (sym is))
