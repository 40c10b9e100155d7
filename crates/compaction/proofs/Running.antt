-- Records side by side that stay as they are: they are done one after another, and what is written for them is what stands there.
--     runs_within, runs_move     where they end
--     Found, none_found, told, next-within, piece, next_found     from turn to turn
--     run_taken, run_done     they are done
-- Assumes nothing.
use Prim.Native.Nat.{ℕ, suc, ◌+◌, ◌-◌, ◌≤◌}
use native.Mathlib.Omega.{arith}
use mathlib.Core.Path.{◌≡◌, refl, sym, ap, ◌∙◌}
use mathlib.Core.List.{List}
use lib.ListN.{length, take, drop}
use lib.Seq.{sets}
use Rattle.laws.specs.Bytes.{Bytes}
use Rattle.blocks.specs.Blocks.{part}
use Rattle.blocks.proofs.Sets.{sets-append, part-append, length_part}
use Rattle.opus_defines.specs.Bounds.{most_packet}
use Rattle.capture.specs.Records.{Entry, written}
use Rattle.capture.specs.Finding.{packet_length, packet_at, next_record}
use Rattle.capture.specs.Reading.{behind, entry_of}
use Rattle.capture.proofs.Laws.{before_here, packet_part, within}
use Rattle.capture.proofs.Answers.{found as found_next, next_place, next_passed, next_stands}
use Rattle.spelling.specs.Spelling.{shorter}
use Rattle.compaction.specs.Account.{rewritten, size}
use Rattle.compaction.specs.Parts.{entry_at, Runs, none, more}
use Rattle.compaction.proofs.Entries.{stands_length, stands_written, answer_entry}
use Rattle.compaction.proofs.Going.{Going, taken}

runs_within : (s : List ℕ) (at : ℕ) → at ≤ length s → {end k : ℕ} → Runs s at end k → (at ≤ end) × (end ≤ length s)
runs_within s at h none = (omega arith, h)
runs_within s at h (more {end} r f c) =
    let w = within s end (packet_length (drop end s)) refl f in
    (omega (arith, (runs_within s at h r).0), w)

pub runs_move : {s : List ℕ} {at end k : ℕ} → Runs s at end k → at + k ≤ end
runs_move none = omega arith
runs_move (more r f c) = omega (arith, runs_move r)

-- ---- from turn to turn: so many records up to `end`, where a packet of n bytes comes next
pub record Found (s : List ℕ) (at left end records n : ℕ) : Type 0 where
  pub runs : Runs s at end records
  pub from : at ≤ end
  pub inside : end ≤ length s
  pub few : end - at ≤ left
  pub count : records ≤ end - at
  pub next : n ≡ packet_length (drop end s)

pub none_found : (s : List ℕ) (at left n : ℕ) → at ≤ length s → n ≡ packet_length (drop at s) → Found s at left at 0 n
none_found s at left n h e =
    record { runs = none; from = omega arith; inside = h; few = omega arith; count = omega arith; next = e }

pub told : {s : List ℕ} {at left end records n : ℕ} → Found s at left end records n
    → Runs s at end records × ((end - at ≤ left) × (at ≤ end) × (end ≤ length s))
told g = (g.runs, (g.few, g.from, g.inside))

module _ {s : List ℕ} {at left end records n : ℕ} (g : Found s at left end records n) (some : n ≡ 0 → ⊥) where
  stands : packet_length (drop end s) ≡ 0 → ⊥
  stands z = some (g.next ∙ z)

  pub next-within : end + 5 + n ≤ length s
  next-within = within s end n g.next some

  -- the bytes lent on as the packet
  abbrev pub piece : List ℕ
  piece = take (end + 5 + n - (end + 5)) (drop (end + 5) s)

  pub next_found : 5 + n ≤ left - (end - at) → shorter piece most_packet ≡ piece → (m : ℕ) → m ≡ packet_length (drop (end + (5 + n)) s)
      → Found s at left (end + (5 + n)) (records + 1) m
  next_found fit c m e =
      let place : end + 5 + packet_length (drop end s) ≡ end + (5 + n) = omega (arith, g.next) in
      let one : suc records ≡ records + 1 = omega arith in
      record {
        runs = rw (place, one) at (more g.runs stands (rw (packet_part s end n g.next) c));
        from = omega (arith, g.from);
        inside = omega (arith, next-within);
        few = omega (arith, g.from, g.few);
        count = omega (arith, g.from, g.count);
        next = e;
      }

-- ---- a record at a place whose packet stays as it is
module _ (s : List ℕ) (bytes : Bytes s) (at : ℕ) (inside : at ≤ length s)
    (f : packet_length (drop at s) ≡ 0 → ⊥) (c : shorter (packet_at s at) most_packet ≡ packet_at s at) where
  stays : rewritten (entry_at s at) ≡ entry_at s at
  stays = rw c

  here : (next_record s at).place ≡ at
  here = omega (arith, next_place s at inside, before_here (drop at s) f)

  passes_none : (next_record s at).passed ≡ 0
  passes_none = omega (arith, next_passed s at inside, before_here (drop at s) f)

  length_is : (next_record s at).length ≡ packet_length (drop at s)
  length_is = rw here at (next_stands s at inside)

  entry_is : entry_of s (next_record s at) ≡ entry_at s at
  entry_is = answer_entry s at inside ∙ ap (entry_at s) here

  same_size : size s (next_record s at) ≡ 5 + packet_length (drop at s)
  same_size =
      ap (λ (e : Entry). 5 + length (rewritten e).packet) entry_is
      ∙ (ap (λ (e : Entry). 5 + length e.packet) stays ∙ ap (λ (n : ℕ). 5 + n) (stands_length s at f))

  same_bytes : written (rewritten (entry_of s (next_record s at))) ≡ part s at (5 + packet_length (drop at s))
  same_bytes = ap (λ (e : Entry). written (rewritten e)) entry_is ∙ (ap written stays ∙ stands_written s at f bytes)

  next_is_one : (next_record s at).length ≡ 0 → ⊥
  next_is_one z = f (sym length_is ∙ z)

  behind_is : behind (next_record s at) ≡ at + 5 + packet_length (drop at s)
  behind_is = omega (arith, (found_next s at next_is_one).next, here, length_is)

-- ---- all of them
moved : {s : List ℕ} {start budget : ℕ} {d x : List ℕ} {at at' records records' put put' passed passed' : ℕ}
    → at ≡ at' → records ≡ records' → put ≡ put' → passed ≡ passed'
    → Going s start budget d x at records put passed → Going s start budget d x at' records' put' passed'
moved a b c e g = rw (← a, ← b, ← c, ← e) g

module _ {s : List ℕ} {start budget : ℕ} {d x : List ℕ} {at records put passed : ℕ} (bytes : Bytes s)
    (g : Going s start budget d x at records put passed) where
  run_taken : {end k : ℕ} → Runs s at end k → end - at ≤ budget - put
      → Going s start budget d (sets x put (part s at (end - at))) end (records + k) (put + (end - at)) passed
  run_taken none h =
      let zero : at - at ≡ 0 = omega arith in
      rw zero (moved refl (omega arith) (omega arith) refl g)
  run_taken (more {end} {count} r f c) h =
      let within = runs_within s at g.inside r in
      let n = packet_length (drop end s) in
      let far : end - at ≤ budget - put = omega arith in
      let before = run_taken r far in
      let a = next_record s end in
      let one = same_bytes s bytes end within.1 f c in
      let wide : size s a ≡ 5 + n = same_size s bytes end within.1 f c in
      let sum : end + 5 + n - at ≡ end - at + (5 + n) = omega (arith, within.0) in
      let place : at + (end - at) ≡ end = omega (arith, within.0) in
      let long : length (part s at (end - at)) ≡ end - at = length_part s at (end - at) (omega (arith, within)) in
      let joined : sets x put (part s at (end + 5 + n - at))
      ≡ sets (sets x put (part s at (end - at))) (put + (end - at)) (written (rewritten (entry_of s a))) =
      rw (sum, part-append s at (end - at) (5 + n), place, sets-append, long, one) in
      let fit : size s a ≤ budget - (put + (end - at)) = omega (arith, within.0) in
      let next = next_is_one s bytes end within.1 f c in
      moved (behind_is s bytes end within.1 f c) (omega arith) (omega (arith, within.0)) (omega (arith, passes_none s bytes end within.1 f c))
      (taken before next fit joined)

  -- as the code has it
  pub run_done : {end k : ℕ} → Runs s at end k → end - at ≤ budget - put → {y : List ℕ} → y ≡ sets x put (part s at (end - at))
      → Going s start budget d y end (records + k) (put + (end - at)) passed
  run_done r h e = rw e (run_taken r h)
