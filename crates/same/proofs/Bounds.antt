-- How many records can be found, and how many bytes they take.
--     begins-within     the bytes lie in what is held
--     few_records       a capture has fewer records than bytes
--     seen_few          no more are found than there are
-- Assumes nothing.
use Prim.Native.Nat.{ℕ, ◌≤◌}
use native.Mathlib.Omega.{arith}
use mathlib.Core.Path.{◌≡◌, ap}
use mathlib.Core.List.{List, [], ◌∷◌}
use mathlib.Core.Bool.{Bool, true}
use lib.Dec.{ltb}
use lib.ListN.{length, take, length-take, length-append}
use lib.Seq.{take_all}
use borrow.Author.Tests.{ltb-true, ltb-false}
use Rattle.laws.proofs.Never.{by_test}
use Rattle.capture.specs.Records.{Entry, written, file_of}
use Rattle.capture.specs.Reading.{records_of}
use Rattle.capture.proofs.Files.{file_one}
use Rattle.capture.proofs.Written.{written-length}
use Rattle.capture.proofs.Held.{all-counted}
use Rattle.sameness.specs.Sameness.{Begins}

pub begins-within : {es : List Entry} {file : List ℕ} {n : ℕ} → Begins es file n → n ≤ length file
begins-within {es} {file} {n} b = omega (arith, ap length b.front, b.long, length-take n file)

few_in_file : (es : List Entry) → length es ≤ length (file_of es)
few_in_file [] = omega arith
few_in_file (e ∷ es) = omega (arith, ap length (file_one e es), length-append (written e) (file_of es), written-length e, few_in_file es)

few_records : (s : List ℕ) → length (records_of s) ≤ length s
few_records s = omega (arith, all-counted s, few_in_file (records_of s))

pub seen_few : (s file : List ℕ) (all : Bool) (records bytes : ℕ) → Begins (take records (records_of s)) file bytes
    → (all ≡ true → records ≡ length (records_of s)) → ((n : ℕ) → Begins (records_of s) file n → all ≡ true) → records ≤ length s
seen_few s file all records bytes b so only =
    by_test (ltb (length (records_of s)) records)
    (λ t.
    let more = ltb-true (length (records_of s)) records t in
    let whole : Begins (records_of s) file bytes = rw (take_all records (records_of s) (omega arith)) at b in
    omega (arith, so (only bytes whole), few_records s))
    (λ t. omega (arith, ltb-false (length (records_of s)) records t, few_records s))
