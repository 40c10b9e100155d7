-- What an answer among those read says of the places: none stands where it passes over, its record stands at its place, and a byte that it
-- passes over is in the record of none.
-- Assumes nothing.
use mathlib.Core.Path.{◌≡◌, sym, ap, ◌∙◌}
use mathlib.Core.Logic.{inl, inr}
use mathlib.Core.List.{List, [], ◌∷◌}
use Prim.Native.Nat.{ℕ, ◌≤◌}
use native.Mathlib.Omega.{arith}
use lib.ListN.{length, drop}
use Rattle.capture.specs.declared.NextRecord.{NextRecord}
use Rattle.capture.specs.Finding.{packet_length, next_record}
use Rattle.capture.specs.Reading.{behind, begins, readings, Among, PassedOver, InRecord}
use Rattle.capture.proofs.Answers.{next_stands, next-nothing, next_end, next-within}
use Rattle.capture.proofs.Steps.{Answer, among_is, reading_induction}

-- ---- one of the answers
module _ (s : List ℕ) (at : ℕ) (a : NextRecord) (r : Answer s at a) where
  pub answer_nothing : (k : ℕ) → PassedOver a k → packet_length (drop k s) ≡ 0
  answer_nothing k p = next-nothing s (begins a) r.inside k p.from (rw r.is at p.below)

  its_place : a.place ≡ (next_record s (begins a)).place
  its_place = ap (λ (a : NextRecord). a.place) r.is

  its_length : a.length ≡ (next_record s (begins a)).length
  its_length = ap (λ (a : NextRecord). a.length) r.is

  pub answer_stands : packet_length (drop a.place s) ≡ a.length
  answer_stands =
      ap (λ (k : ℕ). packet_length (drop k s)) its_place ∙ sym (next_stands s (begins a) r.inside) ∙ sym its_length

  pub answer_end : a.length ≡ 0 → a.place ≡ length s
  answer_end z = its_place ∙ next_end s (begins a) r.inside (sym its_length ∙ z)

-- ---- any two of them
-- no byte is both passed over by one of the answers and in the record of one
abbrev Disjoint : List NextRecord → Type 0
Disjoint r = (a b : NextRecord) → Among a r → Among b r → (k : ℕ) → PassedOver a k → InRecord b k → ⊥

in_one : (a b c : NextRecord) (k : ℕ) → a ≡ c → b ≡ c → PassedOver a k → InRecord b k → ⊥
in_one a b c k e e' p q = let same : a.place ≡ b.place = rw (e, e') in omega (arith, p.below, q.from)

one_apart : (c : NextRecord) → Disjoint (c ∷ [])
one_apart c a b (inl e) (inl e') k p q = in_one a b c k e e' p q
one_apart c a b (inl e) (inr m) k p q = m
one_apart c a b (inr m) m' k p q = m

-- an answer, and others that begin behind its record
more_apart : (c : NextRecord) (r : List NextRecord) → ((b : NextRecord) → Among b r → behind c ≤ begins b) → Disjoint r → Disjoint (c ∷ r)
more_apart c r from rest a b (inl e) (inl e') k p q = in_one a b c k e e' p q
more_apart c r from rest a b (inl e) (inr m) k p q =
    let same : a.place ≡ c.place = rw e in
    omega (arith, from b m, p.below, q.from)
more_apart c r from rest a b (inr m) (inl e) k p q =
    let same : behind b ≡ behind c = rw e in
    omega (arith, from a m, p.from, q.below)
more_apart c r from rest a b (inr m) (inr m') k p q = rest a b m m' k p q

pub apart : (s : List ℕ) (at : ℕ) → at ≤ length s → Disjoint (readings s at)
apart s =
    reading_induction s (λ at r. Disjoint r) (λ at h z. one_apart (next_record s at))
    (λ at h f. more_apart (next_record s at) (readings s (behind (next_record s at)))
    (λ b m. (among_is s (behind (next_record s at)) b (next-within s at h f) m).from))
