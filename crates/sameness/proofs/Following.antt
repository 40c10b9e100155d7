-- The parts of an original, found one behind the other in a new file.
--     none_passed                   a file of records passes nothing over
--     Filed, followed_filed         a new file in which the parts are found is a file of records, which say what theirs say
--     one_part, rest_behind         records that say what those of a part say, in whatever is held, and what is behind them
--     filed_followed                and those of all parts: a file of such records is one in which the parts are found
--     file_no_longer                records as compaction writes them take no more bytes,
--     anew_holds, anew_same         and say the same
-- Assumes nothing.
use Prim.Native.Nat.{ℕ, ◌≤◌}
use native.Mathlib.Nat.{le_refl}
use native.Mathlib.Omega.{arith}
use mathlib.Core.Path.{◌≡◌, refl, sym, ap, ◌∙◌}
use mathlib.Core.List.{List, [], ◌∷◌, ◌++◌, append_assoc, map, map-append}
use lib.ListN.{length, take, drop, length-append, take-append-drop}
use lib.Seq.{take-append_seam, drop-append_seam, take-append-le, drop-append-le}
use Rattle.laws.specs.Bytes.{Bytes}
use Rattle.laws.proofs.Bytes.{bytes_take, bytes_after}
use Rattle.capture.specs.Records.{Entry, written, file_of, HoldAll}
use Rattle.capture.specs.Reading.{records_of, passed_of}
use Rattle.capture.proofs.Files.{file_none, file_one}
use Rattle.capture.proofs.Written.{written-length}
use Rattle.capture.proofs.Held.{all-counted}
use Rattle.capture_window.specs.Parts.{joined_up, records_of_all}
use Rattle.spelling.proofs.Laws.{no_longer}
use Rattle.compaction.specs.Account.{rewritten}
use Rattle.compaction.specs.Lossless.{Faithful, none, one}
use Rattle.compaction.proofs.Faithful.{records_back, records_hold, records_same}
use Rattle.sameness.specs.Sameness.{Begins, Followed, over, next}
use Rattle.sameness.proofs.Beginning.{file_append, hold_append, faithful_append, begins_once}

-- ---- a file of records
module _ (es : List Entry) (h : HoldAll es) where
  pub none_passed : passed_of (file_of es) ≡ 0
  none_passed = omega (arith, all-counted (file_of es), ap (λ (x : List Entry). length (file_of x)) (records_back es h))

-- ---- such a file, of records that say what es say
pub record Filed (es : List Entry) (new : List ℕ) : Type 0 where
  pub records : List Entry
  pub hold : HoldAll records
  pub same : Faithful es records
  pub file : new ≡ file_of records

filed_more : {es more-es : List Entry} {n : ℕ} (held more : List ℕ) → Begins es held n → Filed more-es (drop n held ++ more)
    → Filed (es ++ more-es) (held ++ more)
filed_more {n = n} held more b r =
    let split : take n held ++ (drop n held ++ more) ≡ held ++ more = rw (← append_assoc (take n held) (drop n held) more, take-append-drop n held) in
    record {
      records = b.records ++ r.records;
      hold = hold_append b.records r.records b.hold r.hold;
      same = faithful_append b.same r.same;
      file = sym split ∙ rw (b.front, r.file, file_append b.records r.records);
    }

pub followed_filed : {ps : List (List ℕ)} {new : List ℕ} → Followed ps new → Filed (records_of_all ps) new
unfolding records_of_all
followed_filed over = record { records = []; hold = tt; same = none; file = sym file_none }
followed_filed (next held more n b rest) = filed_more held more b (followed_filed rest)

-- ---- the records fs say what es say, and stand at the front of a file, of which `held` is held
module _ {es fs : List Entry} (h : HoldAll fs) (same : Faithful es fs) (held more rest : List ℕ) (e : held ++ more ≡ file_of fs ++ rest)
    (enough : length (file_of fs) ≤ length held) where
  pub one_part : Begins es held (length (file_of fs))
  one_part =
      let w = file_of fs in
      record {
        records = fs;
        hold = h;
        same = same;
        long = refl;
        front = sym (take-append-le (length w) held more enough) ∙ (ap (take (length w)) e ∙ take-append_seam w rest);
      }

  pub rest_behind : (n : ℕ) → Begins es held n → drop n held ++ more ≡ rest
  rest_behind n b =
      let w = file_of fs in
      rw (begins_once es b one_part) (sym (drop-append-le (length w) held more enough) ∙ (ap (drop (length w)) e ∙ drop-append_seam w rest))

-- ---- all parts
-- records that say what two runs of records say are two such runs
record Runs (xs ys fs : List Entry) : Type 0 where
  pub left : List Entry
  pub right : List Entry
  pub both : fs ≡ left ++ right
  pub left_same : Faithful xs left
  pub right_same : Faithful ys right

runs : (xs ys : List Entry) {fs : List Entry} → Faithful (xs ++ ys) fs → Runs xs ys fs
runs [] ys {fs} f = record { left = []; right = fs; both = refl; left_same = none; right_same = f }
runs (x ∷ xs) ys (one {f = f} l s more) =
    let r = runs xs ys more in
    record {
      left = f ∷ r.left;
      right = r.right;
      both = ap (λ (i : List Entry). f ∷ i) r.both;
      left_same = one l s r.left_same;
      right_same = r.right_same;
    }

hold_both : (xs ys : List Entry) → HoldAll (xs ++ ys) → HoldAll xs × HoldAll ys
hold_both [] ys h = (tt, h)
hold_both (x ∷ xs) ys h = let r = hold_both xs ys h.1 in ((h.0, r.0), r.1)

pub filed_followed : (ps : List (List ℕ)) {fs : List Entry} → Faithful (records_of_all ps) fs → HoldAll fs → Followed ps (file_of fs)
unfolding records_of_all
filed_followed [] none h = rw file_none over
filed_followed (p ∷ ps) f h =
    let r = runs (records_of p) (records_of_all ps) f in
    let k = hold_both r.left r.right (rw r.both at h) in
    let held = file_of r.left in
    let more = file_of r.right in
    let b = one_part k.0 r.left_same held more more refl (le_refl (length held)) in
    let behind = rest_behind k.0 r.left_same held more more refl (le_refl (length held)) (length held) b in
    let later : Followed ps (drop (length held) held ++ more) = rw behind (filed_followed ps r.right_same k.1) in
    rw (r.both, file_append r.left r.right) (next held more (length held) b later)

-- ---- records as compaction writes them
pub file_no_longer : (es : List Entry) → length (file_of (map rewritten es)) ≤ length (file_of es)
file_no_longer [] = le_refl (length (file_of []))
file_no_longer (e ∷ es) =
    let more = map rewritten es in
    let new = ap length (file_one (rewritten e) more) ∙ length-append (written (rewritten e)) (file_of more) in
    let old = ap length (file_one e es) ∙ length-append (written e) (file_of es) in
    omega (arith, new, old, written-length (rewritten e), written-length e, no_longer e.packet 65535, file_no_longer es)

bytes_front : (x y : List ℕ) → Bytes (x ++ y) → Bytes x
bytes_front x y h = rw (take-append_seam x y) at (bytes_take (length x) (x ++ y) h)

pub anew_holds : (ps : List (List ℕ)) → Bytes (joined_up ps) → HoldAll (map rewritten (records_of_all ps))
unfolding joined_up records_of_all
anew_holds [] h = tt
anew_holds (p ∷ ps) h =
    rw (map-append rewritten (records_of p) (records_of_all ps))
    (hold_append (map rewritten (records_of p)) (map rewritten (records_of_all ps)) (records_hold p (bytes_front p (joined_up ps) h))
    (anew_holds ps (bytes_after p (joined_up ps) h)))

pub anew_same : (ps : List (List ℕ)) → Bytes (joined_up ps) → Faithful (records_of_all ps) (map rewritten (records_of_all ps))
unfolding joined_up records_of_all
anew_same [] h = none
anew_same (p ∷ ps) h =
    rw (map-append rewritten (records_of p) (records_of_all ps))
    (faithful_append (records_same p (bytes_front p (joined_up ps) h)) (anew_same ps (bytes_after p (joined_up ps) h)))
