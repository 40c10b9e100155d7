-- A file cut into parts that are read one by one.
--     Cuts                        parts of a file, each a front of it that can be told, of what is behind the parts before
--     cuts_records, cuts_passed   what is read of the parts is what is read of the file
--     parts_join, parts_cut       the parts of a file that comes in chunks
--     rewritten-all               what is written part by part
-- Assumes nothing.
use mathlib.Core.Path.{◌≡◌, refl, sym, ap, ◌∙◌}
use mathlib.Core.List.{List, [], ◌∷◌, ◌++◌, append_assoc}
use Prim.Native.Nat.{ℕ, ◌+◌, ◌≤◌}
use lib.ListN.{length, take, drop, take-append-drop}
use lib.Seq.{take-append_seam, drop-append-le}
use Rattle.laws.specs.Bytes.{Bytes}
use Rattle.laws.proofs.Bytes.{bytes_take, bytes_drop}
use Rattle.capture.specs.Records.{Entry}
use Rattle.capture.specs.Reading.{records_of, passed_of}
use Rattle.capture.proofs.Held.{records_of_nil, passed_of_nil}
use Rattle.capture_window.specs.Window.{settled}
use Rattle.capture_window.specs.Parts.{joined_up, parts_from, records_of_all, passed_of_all, written_by, rewritten}
use Rattle.capture_window.proofs.Telling.{Told, told_records, told_passed, told_end, told-settled, settled_bounds}

pub data Cuts : List (List ℕ) → List ℕ → Type 0 where
  over : Cuts [] []
  part : {p : List ℕ} {ps : List (List ℕ)} {rest : List ℕ} → Told rest p → Cuts ps rest → Cuts (p ∷ ps) (p ++ rest)

-- ---- what is read of the parts
pub cuts_records : {ps : List (List ℕ)} {s : List ℕ} → Cuts ps s → records_of_all ps ≡ records_of s
unfolding records_of_all
cuts_records over = sym records_of_nil
cuts_records (part {p} t c) = ap (λ (es : List Entry). records_of p ++ es) (cuts_records c) ∙ sym (told_records t)

pub cuts_passed : {ps : List (List ℕ)} {s : List ℕ} → Cuts ps s → passed_of_all ps ≡ passed_of s
unfolding passed_of_all
cuts_passed over = sym passed_of_nil
cuts_passed (part {p} t c) = ap (λ (k : ℕ). passed_of p + k) (cuts_passed c) ∙ sym (told_passed t)

-- ---- the parts of a file that comes in chunks
-- x is held, of which c bytes are settled, and y follows
pub both : (c : ℕ) (x y : List ℕ) → take c x ++ (drop c x ++ y) ≡ x ++ y
both c x y = rw (← append_assoc (take c x) (drop c x) y, take-append-drop c x)

pub parts_join : (held : List ℕ) (cs : List (List ℕ)) → joined_up (parts_from held cs) ≡ held ++ joined_up cs
unfolding joined_up parts_from
parts_join held [] = refl
parts_join held (c ∷ []) = append_assoc held c []
parts_join held (c ∷ d ∷ cs) =
    let x = held ++ c in
    let k = settled x in
    ap (λ (l : List ℕ). take k x ++ l) (parts_join (drop k x) (d ∷ cs)) ∙ (both k x (joined_up (d ∷ cs)) ∙ append_assoc held c (joined_up (d ∷ cs)))

bytes_front : (x y : List ℕ) → Bytes (x ++ y) → Bytes x
bytes_front x y h = rw (take-append_seam x y) at (bytes_take (length x) (x ++ y) h)

bytes_rest : (c : ℕ) (x y : List ℕ) → c ≤ length x → Bytes (x ++ y) → Bytes (drop c x ++ y)
bytes_rest c x y k h = rw (drop-append-le c x y k) at (bytes_drop c (x ++ y) h)

cut_one : (x y : List ℕ) (ps : List (List ℕ)) → Bytes (x ++ y) → (Bytes (drop (settled x) x ++ y) → Cuts ps (drop (settled x) x ++ y))
    → Cuts (take (settled x) x ∷ ps) (x ++ y)
cut_one x y ps h on =
    let c = settled x in
    rw (both c x y) at (part (told-settled y x (bytes_front x y h)) (on (bytes_rest c x y (settled_bounds x).within h)))

pub parts_cut : (held : List ℕ) (cs : List (List ℕ)) → Bytes (held ++ joined_up cs) → Cuts (parts_from held cs) (held ++ joined_up cs)
unfolding joined_up parts_from
parts_cut held [] h = part (told_end held) over
parts_cut held (c ∷ []) h = rw (append_assoc held c []) at (part (told_end (held ++ c)) over)
parts_cut held (c ∷ d ∷ cs) h =
    let x = held ++ c in
    let more = joined_up (d ∷ cs) in
    let all = append_assoc held c more in
    rw all at (cut_one x more (parts_from (drop (settled x) x) (d ∷ cs)) (rw all h) (parts_cut (drop (settled x) x) (d ∷ cs)))

-- ---- what is written
module _ (f : Entry → List ℕ) where
  written-append : (xs ys : List Entry) → written_by f (xs ++ ys) ≡ written_by f xs ++ written_by f ys
  unfolding written_by
  written-append [] ys = refl
  written-append (e ∷ xs) ys =
      ap (λ (l : List ℕ). f e ++ l) (written-append xs ys) ∙ sym (append_assoc (f e) (written_by f xs) (written_by f ys))

  pub rewritten-all : (ps : List (List ℕ)) → rewritten f ps ≡ written_by f (records_of_all ps)
  unfolding written_by rewritten records_of_all
  rewritten-all [] = refl
  rewritten-all (p ∷ ps) =
      ap (λ (l : List ℕ). written_by f (records_of p) ++ l) (rewritten-all ps) ∙ sym (written-append (records_of p) (records_of_all ps))
