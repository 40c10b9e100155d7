-- A capture surveyed record by record: what is counted, what is still to come, and that no count can wrap.
--     Going, going_start     where the loop stands
--     Turn, turn             what one turn needs and leads to, where a record is found
--     ends                   the end
-- Assumes nothing.
use Prim.Native.Nat.{ℕ, ◌+◌, ◌*◌, ◌-◌, ◌<◌, ◌≤◌, ◌^◌}
use native.Mathlib.Omega.{arith}
use mathlib.Core.Path.{◌≡◌, refl, sym, ap, ◌∙◌}
use mathlib.Core.List.{List}
use lib.ListN.{length, take, drop, length-drop}
use lib.Seq.{length-take-le}
use Rattle.laws.specs.Bytes.{Bytes}
use Rattle.laws.proofs.Bytes.{bytes_drop}
use Rattle.capture.specs.Finding.{packet_length, packet_at, next_record}
use Rattle.capture.specs.declared.NextRecord.{NextRecord}
use Rattle.capture.proofs.Laws.{packet_part}
use Rattle.capture.proofs.Written.{found_length, found_holds}
use Rattle.capture.proofs.Answers.{next_place, next_passed, next_stands, next_place_le, found}
use Rattle.capture_survey.specs.Survey.{of_record, of_passed, together, survey_of, bytes_in}
use Rattle.capture_survey.specs.declared.Survey.{Survey}
use Rattle.capture_survey.proofs.Counting.{together-all, rest, rest_none, rest_one, record_most, bytes_together}

-- `sum` is counted up to the place `at`, of what was counted before and of the capture s
pub record Going (s : List ℕ) (before sum : Survey) (at : ℕ) : Type 0 where
  pub inside : at ≤ length s
  pub same : together before (survey_of s) ≡ together sum (rest s at)
  pub room : bytes_in sum + 3 * (length s - at) < 2 ^ 64

pub going_start : (s : List ℕ) (before : Survey) → bytes_in before + 3 * length s < 2 ^ 64 → Going s before before 0
unfolding survey_of
going_start s before h = record { inside = omega arith; same = refl; room = omega arith }

-- the bytes lent on as the packet
abbrev pub packet_in : List ℕ → ℕ → ℕ → List ℕ
packet_in s place n = take (place + 5 + n - (place + 5)) (drop (place + 5) s)

module _ {s : List ℕ} {before sum : Survey} {at : ℕ} (g : Going s before sum at) {a : NextRecord} (e : a ≡ next_record s at) where
  -- the bytes passed over lie before the answer's place
  pub passes : (at + a.passed ≡ a.place) × (a.place ≤ length s)
  passes = rw e (omega (arith, next_place s at g.inside, next_passed s at g.inside), next_place_le s at g.inside)

  -- ---- the end
  pub ends : a.length ≡ 0 → {r : Survey} → r ≡ together sum (of_passed a.passed) → r ≡ together before (survey_of s)
  ends z is =
      let end = rest_none s at (ap (λ (x : NextRecord). x.length) (sym e) ∙ z) ∙ ap (λ (x : NextRecord). of_passed x.passed) (sym e) in
      is ∙ sym (g.same ∙ ap (together sum) end)

  -- ---- a record
  module _ (f : a.length ≡ 0 → ⊥) where
    pub there : (1 ≤ a.length) × (a.place + 5 + a.length ≤ length s)
    there =
        let k = found s at (λ z. f (ap (λ (x : NextRecord). x.length) e ∙ z)) in
        rw e (k.some, omega (arith, k.inside, k.next))

    is_packet : packet_in s a.place a.length ≡ packet_at s a.place
    is_packet = sym (packet_part s a.place a.length (rw e (next_stands s at g.inside)))

    packet_long : length (packet_in s a.place a.length) ≡ a.length
    packet_long =
        length-take-le (a.place + 5 + a.length - (a.place + 5)) (drop (a.place + 5) s) (omega (arith, length-drop (a.place + 5) s, there)) ∙ omega arith

    pub packet_short : Bytes s → length (packet_in s a.place a.length) ≤ 65535
    packet_short bytes =
        let stands : packet_length (drop a.place s) ≡ a.length = rw e (sym (next_stands s at g.inside)) in
        let h = found_holds (drop a.place s) (bytes_drop a.place s bytes) (λ z. f (sym stands ∙ z)) in
        omega (arith, packet_long, stands, found_length (drop a.place s) (λ z. f (sym stands ∙ z)), h.most)

    pub turn_room : bytes_in sum + 3 * (a.passed + 5 + length (packet_in s a.place a.length)) < 2 ^ 64
    turn_room = omega (arith, g.room, passes, there, packet_long)

    pub turn : {r : Survey} → r ≡ together sum (of_record a.passed (packet_in s a.place a.length))
        → Going s before r (a.place + 5 + a.length)
    turn {r} is =
        let p = packet_in s a.place a.length in
        let k = found s at (λ z. f (ap (λ (x : NextRecord). x.length) e ∙ z)) in
        let step = rest_one s at g.inside (λ z. f (ap (λ (x : NextRecord). x.length) e ∙ z)) in
        let here : rest s at ≡ together (of_record a.passed p) (rest s (a.place + 5 + a.length)) =
        rw (is_packet, e, ← k.next) step in
        record {
          inside = there.1;
          same = g.same ∙ (ap (together sum) here ∙ (sym (together-all sum (of_record a.passed p) (rest s (a.place + 5 + a.length))) ∙ rw is));
          room = omega (arith, ap bytes_in is, bytes_together sum (of_record a.passed p), record_most a.passed p, g.room, passes, there, packet_long);
        }
