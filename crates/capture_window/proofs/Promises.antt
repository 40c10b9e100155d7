-- What a buyer may count on when a capture of any size is read part by part (beyond document 02).
-- Assumes nothing.
use mathlib.Core.Path.{◌≡◌, sym, ap, ◌∙◌}
use mathlib.Core.List.{List, [], ◌++◌}
use Prim.Native.Nat.{ℕ, ◌+◌, ◌-◌, ◌<◌, ◌≤◌}
use lib.ListN.{length, take, drop}
use Rattle.laws.specs.Bytes.{Bytes}
use Rattle.capture.specs.Records.{Entry, written}
use Rattle.capture.specs.Finding.{packet_length}
use Rattle.capture.specs.Reading.{readings, records_of, passed_of}
use Rattle.capture_window.specs.Window.{window, settled}
use Rattle.capture_window.specs.Parts.{joined_up, parts, records_of_all, passed_of_all, streamed, written_by, rewritten}
use Rattle.capture_window.proofs.Places.{window_is_enough as enough, no_less_is_enough as no_less}
use Rattle.capture_window.proofs.Telling.{told_records, told_passed, told-settled, settled_bounds}
use Rattle.capture_window.proofs.Cutting.{both, cuts_records, cuts_passed, parts_join, parts_cut, rewritten-all}
use Rattle.capture_window.proofs.Streams.{shifted_none, passing_none, cuts_answers}

-- ---- 1. The next 65,540 bytes tell what stands at a place, and fewer do not: the longest record, cut anywhere, is not found.
pub window_is_enough : (W : ℕ) (l : List ℕ) → window ≤ W → Bytes l → packet_length (take W l) ≡ packet_length l
window_is_enough W l w h = enough W l w h

pub no_less_is_enough : (W : ℕ) (e : Entry) → length e.packet ≡ 65535 → W < window
    → (packet_length (written e) ≡ 65535) × (packet_length (take W (written e)) ≡ 0)
no_less_is_enough W e long w = no_less W e long w

-- ---- 2. No more is settled than is held, and all of it but fewer bytes than a window: a buffer of 65,540 bytes always has room again.
pub settled-within : (s : List ℕ) → settled s ≤ length s
settled-within s = (settled_bounds s).within

pub settled-leaves_few : (s : List ℕ) → length s - settled s < window
settled-leaves_few s = (settled_bounds s).few

-- ---- 3. What is settled can be told apart, whatever follows: its records and then those of the rest are the file's, and so are the bytes
-- that belong to none.
pub settled_tells : (s rest : List ℕ) → Bytes s
    → let c = settled s in
    (records_of (s ++ rest) ≡ records_of (take c s) ++ records_of (drop c s ++ rest))
    × (passed_of (s ++ rest) ≡ passed_of (take c s) + passed_of (drop c s ++ rest))
settled_tells s rest h =
    let c = settled s in
    let t = told-settled rest s h in
    (ap records_of (sym (both c s rest)) ∙ told_records t, ap passed_of (sym (both c s rest)) ∙ told_passed t)

-- ---- 4. The parts of a file are the file, whatever the chunks are in which it comes.
pub parts_are_the_file : (chunks : List (List ℕ)) → joined_up (parts chunks) ≡ joined_up chunks
parts_are_the_file chunks = parts_join [] chunks

-- ---- 5. Read part by part it has the records that it has when it is read whole, in order, and as many bytes belong to none.
pub parts-read_as_the_file : (chunks : List (List ℕ)) → Bytes (joined_up chunks)
    → (records_of_all (parts chunks) ≡ records_of (joined_up chunks)) × (passed_of_all (parts chunks) ≡ passed_of (joined_up chunks))
parts-read_as_the_file chunks h =
    let cut = parts_cut [] chunks h in
    (cuts_records cut, cuts_passed cut)

-- ---- 6. What is written for the records part by part, by any rule, is what the rule writes for the records of the file.
pub rewritten_is_written : (f : Entry → List ℕ) (chunks : List (List ℕ)) → Bytes (joined_up chunks)
    → rewritten f (parts chunks) ≡ written_by f (records_of (joined_up chunks))
rewritten_is_written f chunks h = rewritten-all f (parts chunks) ∙ ap (written_by f) (parts-read_as_the_file chunks h).0

-- ---- 7. The answers of reading part by part, with places in the file, are those of reading it whole: each place, length and number of bytes
-- passed over.
pub streamed_is_readings : (chunks : List (List ℕ)) → Bytes (joined_up chunks) → streamed chunks ≡ readings (joined_up chunks) 0
streamed_is_readings chunks h =
    let r = readings (joined_up chunks) 0 in
    cuts_answers (parts_cut [] chunks h) 0 0 ∙ rw (passing_none r) (shifted_none r)
