-- Records at the front of a file, one right behind another, that say what given records say.
--     file_append, hold_append, faithful_append     two runs of records
--     begins-none                                   no record
--     begins_more                                   one record more, which stands behind those found
--     Heads, heads                                  the first of the given records is the one that stands at the front
--     begins_once                                   they take so many bytes, and no other number
-- Assumes nothing.
use Prim.Native.Nat.{ℕ, ◌+◌}
use native.Mathlib.Omega.{arith}
use mathlib.Core.Path.{◌≡◌, refl, sym, ap, ◌∙◌}
use mathlib.Core.List.{List, [], ◌∷◌, ◌++◌, append_assoc, append-nil}
use lib.ListN.{length, get_or, take, drop, length-append, take-append-drop}
use lib.Seq.{take-append_seam, drop_at, take-add}
use Rattle.laws.specs.Bytes.{Bytes}
use Rattle.capture.specs.Records.{Entry, written, file_of, HoldAll}
use Rattle.capture.specs.Finding.{packet_length, packet_at}
use Rattle.capture.proofs.Files.{file_none, file_one}
use Rattle.capture.proofs.Written.{entry_in, written-length, written_found, written_line, written_packet, found_length, found_holds, found_written}
use Rattle.compaction.specs.Lossless.{Same, Faithful, none, one}
use Rattle.sameness.specs.Sameness.{Begins}

-- ---- two runs of records
pub file_append : (xs ys : List Entry) → file_of (xs ++ ys) ≡ file_of xs ++ file_of ys
file_append [] ys = rw file_none
file_append (x ∷ xs) ys =
    file_one x (xs ++ ys)
    ∙ (ap (λ (l : List ℕ). written x ++ l) (file_append xs ys)
    ∙ (sym (append_assoc (written x) (file_of xs) (file_of ys)) ∙ ap (λ (l : List ℕ). l ++ file_of ys) (sym (file_one x xs))))

pub hold_append : (xs ys : List Entry) → HoldAll xs → HoldAll ys → HoldAll (xs ++ ys)
hold_append [] ys h k = k
hold_append (x ∷ xs) ys h k = (h.0, hold_append xs ys h.1 k)

pub faithful_append : {es fs es' fs' : List Entry} → Faithful es fs → Faithful es' fs' → Faithful (es ++ es') (fs ++ fs')
faithful_append none g = g
faithful_append (one l s f) g = one l s (faithful_append f g)

-- ---- no record
pub begins-none : (file : List ℕ) → Begins [] file 0
begins-none file = record { records = []; hold = tt; same = none; long = rw file_none; front = sym file_none }

-- ---- one record more
-- what stands at the front of l
front-written : (l : List ℕ) → Bytes l → (packet_length l ≡ 0 → ⊥) → take (5 + packet_length l) l ≡ written (entry_in l)
front-written l bytes f =
    let w = written (entry_in l) in
    let n : length w ≡ 5 + packet_length l = written-length (entry_in l) ∙ rw (found_length l f) in
    rw (← n) (ap (take (length w)) (found_written l bytes f) ∙ take-append_seam w (drop (length w) l))

one_file : (f : Entry) → file_of (f ∷ []) ≡ written f
one_file f = file_one f [] ∙ rw (file_none, append-nil (written f))

pub begins_more : {es : List Entry} {file : List ℕ} {to : ℕ} → Begins es file to → (e : Entry) → let l = drop to file in
    Bytes l → (packet_length l ≡ 0 → ⊥) → get_or l 2 0 ≡ e.line → Same e.packet (packet_at l 0)
    → Begins (es ++ (e ∷ [])) file (to + (5 + packet_length l))
begins_more {file = file} {to = to} b e bytes f line same =
    let l = drop to file in
    let g = entry_in l in
    let fs = b.records in
    let whole : file_of (fs ++ (g ∷ [])) ≡ file_of fs ++ written g = file_append fs (g ∷ []) ∙ rw (one_file g) in
    record {
      records = fs ++ (g ∷ []);
      hold = hold_append fs (g ∷ []) b.hold (found_holds l bytes f, tt);
      same = faithful_append b.same (one line same none);
      long = ap length whole ∙ (length-append (file_of fs) (written g) ∙ omega (arith, b.long, written-length g, found_length l f));
      front = take-add to (5 + packet_length l) file ∙ rw (b.front, front-written l bytes f, whole);
    }

-- ---- the first
pub record Heads (e : Entry) (more : List Entry) (l : List ℕ) (n : ℕ) : Type 0 where
  pub stands : packet_length l ≡ 0 → ⊥
  pub line : get_or l 2 0 ≡ e.line
  pub same : Same e.packet (packet_at l 0)
  pub size : ℕ
  pub rest : Begins more (drop (5 + packet_length l) l) size
  pub long : n ≡ 5 + packet_length l + size

-- a record, and what is behind it
written_heads : (e f : Entry) (more fs : List Entry) (x : List ℕ) (n : ℕ) → length (file_of (f ∷ fs)) ≡ n → HoldAll (f ∷ fs)
    → f.line ≡ e.line → Same e.packet f.packet → Faithful more fs → Heads e more (written f ++ (file_of fs ++ x)) n
written_heads e f more fs x n long h line same faithful =
    let rest = file_of fs ++ x in
    let k = written_found f rest in
    let behind : drop (5 + packet_length (written f ++ rest)) (written f ++ rest) ≡ rest =
    drop_at (written f) rest (5 + packet_length (written f ++ rest)) (written-length f ∙ rw k) in
    record {
      stands = λ z. omega (arith, h.0.some, k);
      line = written_line f rest ∙ line;
      same = rw (written_packet f rest) same;
      size = length (file_of fs);
      rest = rw behind (record { records = fs; hold = h.1; same = faithful; long = refl; front = take-append_seam (file_of fs) x });
      long = omega (arith, long, ap length (file_one f fs), length-append (written f) (file_of fs), written-length f, k);
    }

heads_of : {e : Entry} {more fs : List Entry} → Faithful (e ∷ more) fs → HoldAll fs → (l : List ℕ) (n : ℕ) → length (file_of fs) ≡ n
    → take n l ≡ file_of fs → Heads e more l n
heads_of {e} {more} (one {f = f} {fs = fs} line same faithful) h l n long front =
    let whole : l ≡ written f ++ (file_of fs ++ drop n l) =
    sym (take-append-drop n l) ∙ (ap (λ (i : List ℕ). i ++ drop n l) (front ∙ file_one f fs) ∙ append_assoc (written f) (file_of fs) (drop n l)) in
    rw whole (written_heads e f more fs (drop n l) n long h line same faithful)

pub heads : {e : Entry} {more : List Entry} {l : List ℕ} {n : ℕ} → Begins (e ∷ more) l n → Heads e more l n
heads {l = l} {n = n} b = heads_of b.same b.hold l n b.long b.front

-- ---- how many bytes they take
none_long : {fs : List Entry} → Faithful [] fs → length (file_of fs) ≡ 0
none_long none = rw file_none

pub begins_once : (es : List Entry) {l : List ℕ} {n m : ℕ} → Begins es l n → Begins es l m → n ≡ m
begins_once [] b c = sym b.long ∙ (none_long b.same ∙ sym (sym c.long ∙ none_long c.same))
begins_once (e ∷ es) b c = let h = heads b in let k = heads c in omega (arith, h.long, k.long, begins_once es h.rest k.rest)
