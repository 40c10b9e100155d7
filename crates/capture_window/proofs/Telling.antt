-- What is settled at the front of a capture can be told from it alone, and the rest without it.
--     Told                           a front that is whole records, and bytes at which none stands whatever follows
--     told_records, told_passed      it and the rest are read as two captures
--     told_end, told-settled         all of a capture is such a front of it, and so is what is settled of what is held
--     settled_bounds                 how much that is
-- Assumes nothing.
use mathlib.Core.Path.{◌≡◌, refl, sym, ap, ◌∙◌}
use mathlib.Core.List.{List, [], ◌∷◌, ◌++◌, append_assoc, append-nil}
use Prim.Native.Nat.{ℕ, ◌+◌, ◌-◌, ◌<◌, ◌≤◌}
use native.Mathlib.Omega.{arith}
use lib.ListN.{length, get_or, take, drop, length-drop, take-append-drop}
use lib.Seq.{take-append-le, drop-append-le, drop_at, take-add, drop-drop, length-take-le}
use Rattle.laws.specs.Bytes.{Bytes}
use Rattle.laws.proofs.Bytes.{bytes_tail, bytes_drop}
use Rattle.capture.specs.Finding.{packet_length, packet_at}
use Rattle.capture.specs.Reading.{records_of, passed_of}
use Rattle.capture.proofs.Laws.{length-fits, packet_part}
use Rattle.capture.proofs.Written.{entry_in}
use Rattle.capture.proofs.Answers.{none_at_end}
use Rattle.capture.proofs.Held.{records_of_nil, records_of_here, records_of_over, passed_of_nil, passed_of_here, passed_of_over, front_induction}
use Rattle.capture_window.specs.Window.{window, settled}
use Rattle.capture_window.proofs.Settling.{settled_here, settled-over, settled-short}
use Rattle.capture_window.proofs.Places.{by_order, head_byte, stands_with_more, stands_when_whole, none_when_cut, window_with_more}

-- p in front of `rest`: nothing; a record that is held whole, and such a front behind it; a byte at whose place none stands, and such a front
pub data Told (rest : List ℕ) : List ℕ → Type 0 where
  nothing : Told rest []
  whole : {p : List ℕ} → (packet_length p ≡ 0 → ⊥) → Told rest (drop (5 + packet_length p) p) → Told rest p
  byte : {b : ℕ} {p : List ℕ} → packet_length (b ∷ (p ++ rest)) ≡ 0 → Told rest p → Told rest (b ∷ p)

-- ---- a record at the front, with more behind
module _ (p rest : List ℕ) (f : packet_length p ≡ 0 → ⊥) where
  pub some_with_more : packet_length (p ++ rest) ≡ 0 → ⊥
  some_with_more z = f (sym (stands_with_more p rest f) ∙ z)

  pub behind_with_more : drop (5 + packet_length (p ++ rest)) (p ++ rest) ≡ drop (5 + packet_length p) p ++ rest
  behind_with_more = rw (stands_with_more p rest f) (drop-append-le (5 + packet_length p) p rest (length-fits p f))

  pub same_line : get_or (p ++ rest) 2 0 ≡ get_or p 2 0
  same_line = head_byte p rest (omega (arith, length-fits p f)) 2 (omega arith)

  pub same_packet_lem : packet_at (p ++ rest) 0 ≡ packet_at p 0
  same_packet_lem =
      let n = packet_length p in
      let fits = length-fits p f in
      let room : 0 + 5 + n - (0 + 5) ≤ length (drop 5 p) = omega (arith, length-drop 5 p) in
      packet_part (p ++ rest) 0 n (sym (stands_with_more p rest f))
      ∙ (rw (drop-append-le 5 p rest (omega arith)) (take-append-le (0 + 5 + n - (0 + 5)) (drop 5 p) rest room) ∙ sym (packet_part p 0 n refl))

  records_with_more : records_of (p ++ rest) ≡ entry_in p ∷ records_of (drop (5 + packet_length p) p ++ rest)
  records_with_more = records_of_here (p ++ rest) some_with_more ∙ rw (behind_with_more, same_line, same_packet_lem)

  passed_with_more : passed_of (p ++ rest) ≡ passed_of (drop (5 + packet_length p) p ++ rest)
  passed_with_more = passed_of_here (p ++ rest) some_with_more ∙ rw behind_with_more

-- ---- read as two captures
pub told_records : {rest p : List ℕ} → Told rest p → records_of (p ++ rest) ≡ records_of p ++ records_of rest
told_records nothing = rw records_of_nil
told_records {rest} {p} (whole f t) = records_with_more p rest f ∙ rw (told_records t, records_of_here p f)
told_records {rest} (byte {b} {p} z t) =
    records_of_over b (p ++ rest) z ∙ (told_records t ∙ rw (records_of_over b p (none_when_cut (b ∷ p) rest z)))

pub told_passed : {rest p : List ℕ} → Told rest p → passed_of (p ++ rest) ≡ passed_of p + passed_of rest
told_passed nothing = rw passed_of_nil (omega arith)
told_passed {rest} {p} (whole f t) = passed_with_more p rest f ∙ (told_passed t ∙ rw (passed_of_here p f))
told_passed {rest} (byte {b} {p} z t) =
    let here = passed_of_over b p (none_when_cut (b ∷ p) rest z) in
    passed_of_over b (p ++ rest) z ∙ omega (arith, told_passed t)

-- ---- all of a capture
pub told_end : (p : List ℕ) → Told [] p
told_end = front_induction (Told []) nothing (λ b l z t. byte (rw (append-nil l) z) t) (λ l f t. whole f t)

-- ---- what is settled of what is held
-- a record, and a front behind it
module _ (s x rest : List ℕ) (f : packet_length s ≡ 0 → ⊥) where
  abbrev bytes : ℕ
  bytes = 5 + packet_length s

  front_stands : packet_length (take bytes s) ≡ packet_length s
  front_stands =
      let all = take-append-drop bytes s in
      let long = length-take-le bytes s (length-fits s f) in
      stands_when_whole (take bytes s) (drop bytes s) (rw all f) (rw all (omega arith)) ∙ ap packet_length all

  front_found : packet_length (take bytes s ++ x) ≡ packet_length s
  front_found = stands_with_more (take bytes s) x (λ z. f (sym front_stands ∙ z)) ∙ front_stands

  pub told_whole : Told rest x → Told rest (take bytes s ++ x)
  told_whole t =
      let there : drop bytes (take bytes s ++ x) ≡ x = drop_at (take bytes s) x bytes (length-take-le bytes s (length-fits s f)) in
      whole {p = take bytes s ++ x} (rw front_found f) (rw (front_found, there) t)

module _ (rest : List ℕ) where
  -- the first c bytes of s, in front of the others and `rest`
  abbrev ToldTo : List ℕ → ℕ → Type 0
  ToldTo s c = Told (drop c s ++ rest) (take c s)

  settled_whole : (s : List ℕ) → (packet_length s ≡ 0 → ⊥)
      → let l = drop (5 + packet_length s) s in ToldTo l (settled l) → ToldTo s (settled s)
  settled_whole s f t =
      let n = 5 + packet_length s in
      let c = settled (drop n s) in
      rw (settled_here s f, ← drop-drop c n s, take-add n c s) (told_whole s (take c (drop n s)) (drop c (drop n s) ++ rest) f t)

  settled_byte : (b : ℕ) (l : List ℕ) → Bytes (b ∷ l) → packet_length (b ∷ l) ≡ 0 → window ≤ length (b ∷ l) → ToldTo l (settled l)
      → ToldTo (b ∷ l) (settled (b ∷ l))
  settled_byte b l h z w t =
      let c = settled l in
      let all : take c l ++ (drop c l ++ rest) ≡ l ++ rest = rw (← append_assoc (take c l) (drop c l) rest, take-append-drop c l) in
      let none : packet_length (b ∷ (take c l ++ (drop c l ++ rest))) ≡ 0 = rw all (window_with_more (b ∷ l) rest h w ∙ z) in
      rw (settled-over (b ∷ l) z w) (byte none t)

  settled-none : (s : List ℕ) → packet_length s ≡ 0 → length s < window → ToldTo s (settled s)
  settled-none s z w = rw (settled-short s z w) nothing

pub told-settled : (rest s : List ℕ) → Bytes s → Told (drop (settled s) s ++ rest) (take (settled s) s)
told-settled rest =
    front_induction (λ s. Bytes s → Told (drop (settled s) s ++ rest) (take (settled s) s))
    (λ h. settled-none rest [] (none_at_end []) (omega arith))
    (λ b l z on h. by_order (length (b ∷ l)) window (settled-none rest (b ∷ l) z) (λ w. settled_byte rest b l h z w (on (bytes_tail h))))
    (λ l f on h. settled_whole rest l f (on (bytes_drop (5 + packet_length l) l h)))

-- ---- how much is settled: no more than is held, and all but fewer bytes than a window
pub record Bounds (s : List ℕ) : Type 0 where
  pub within : settled s ≤ length s
  pub few : length s - settled s < window

bounds_none : (s : List ℕ) → packet_length s ≡ 0 → length s < window → Bounds s
bounds_none s z w = let e = settled-short s z w in record { within = omega arith; few = omega arith }

bounds_byte : (b : ℕ) (l : List ℕ) → packet_length (b ∷ l) ≡ 0 → window ≤ length (b ∷ l) → Bounds l → Bounds (b ∷ l)
bounds_byte b l z w h = let e = settled-over (b ∷ l) z w in record { within = omega (arith, h.within); few = omega (arith, h.within, h.few) }

bounds_whole : (s : List ℕ) → (packet_length s ≡ 0 → ⊥) → Bounds (drop (5 + packet_length s) s) → Bounds s
bounds_whole s f h =
    let e = settled_here s f in
    let long = length-drop (5 + packet_length s) s in
    let fits = length-fits s f in
    record { within = omega (arith, h.within); few = omega (arith, h.within, h.few) }

pub settled_bounds : (s : List ℕ) → Bounds s
settled_bounds =
    front_induction Bounds (bounds_none [] (none_at_end []) (omega arith))
    (λ b l z h. by_order (length (b ∷ l)) window (bounds_none (b ∷ l) z) (λ w. bounds_byte b l z w h)) bounds_whole
