-- The share of a capture, made part by part, is its share: a front of it that can be told is done, and what follows where that is done to its end.
--     joined-none, none-joined       a share resumed where none was made, and none where one was
--     Follows                        what is done of a front and what follows it
--     told-share, cuts_share         a front that can be told, and all parts of a file
-- Assumes nothing.
use Prim.Native.Nat.{ℕ, ◌+◌, ◌-◌, ◌<◌, ◌≤◌}
use native.Mathlib.Nat.{sub-zero}
use native.Mathlib.Omega.{arith}
use mathlib.Core.Path.{◌≡◌, sym, ◌∙◌}
use mathlib.Core.List.{List, [], ◌∷◌, ◌++◌, append_assoc}
use mathlib.Core.Bool.{cond}
use lib.Dec.{ltb}
use lib.ListN.{length, drop, length-drop}
use borrow.Author.Tests.{ltb-true, ltb-false, lt-ltb, le-ltb}
use Rattle.laws.proofs.Never.{by_test}
use Rattle.capture.specs.Records.{written}
use Rattle.capture.specs.Finding.{packet_length}
use Rattle.capture.proofs.Laws.{length-fits}
use Rattle.capture.proofs.Written.{entry_in}
use Rattle.capture_window.proofs.Places.{by_order, stands_with_more, none_when_cut}
use Rattle.capture_window.proofs.Telling.{Told, nothing, whole, byte, some_with_more, behind_with_more, same_line, same_packet_lem}
use Rattle.capture_window.proofs.Cutting.{Cuts, over, part}
use Rattle.compaction.specs.Account.{rewritten}
use Rattle.compaction.specs.declared.Share.{Share}
use Rattle.compact.specs.Stream.{share_of, written_of, none, joined, shared_by, written_for}
use Rattle.compact.proofs.Fronts.{same-share, share_eta, share_nil, written_nil, size_in, of_record, of_byte, share_byte, written_byte}
use Rattle.compact.proofs.Fronts.{share_taken, written_taken, share-full, written-full}

-- ---- shares joined
module _ (s : List ℕ) (b : ℕ) where
  joined-none : joined none (share_of s b) ≡ share_of s b
  joined-none = same-share (omega arith) (omega arith) (omega arith) (omega arith) (omega arith) ∙ sym (share_eta s b)

  pub none-joined : joined (share_of s b) none ≡ share_of s b
  none-joined = same-share (omega arith) (omega arith) (omega arith) (omega arith) (omega arith) ∙ sym (share_eta s b)

joined_assoc : (x y z : Share) → joined (joined x y) z ≡ joined x (joined y z)
joined_assoc x y z = same-share (omega arith) (omega arith) (omega arith) (omega arith) (omega arith)

-- a share of n bytes, and what is done behind them where it comes to their end
abbrev pub and_then : ℕ → Share → Share → Share
and_then n x y = cond (ltb x.resume n) (joined x none) (joined x y)

abbrev pub and_written : ℕ → Share → List ℕ → List ℕ → List ℕ
and_written n x w v = w ++ cond (ltb x.resume n) [] v

-- with the share of so many bytes more in front
same_test : (k m x n : ℕ) → k + m ≡ n → ltb (k + x) n ≡ ltb x m
same_test k m x n e =
    by_test (ltb x m) (λ t. lt-ltb (k + x) n (omega (arith, ltb-true x m t)) ∙ sym t)
    (λ t. le-ltb (k + x) n (omega (arith, ltb-false x m t)) ∙ sym t)

then_front : (o x y : Share) (m n : ℕ) → o.resume + m ≡ n → and_then n (joined o x) y ≡ joined o (and_then m x y)
then_front o x y m n e =
    by_test (ltb x.resume m)
    (λ t. rw (same_test o.resume m x.resume n e, t) (joined_assoc o x none))
    (λ t. rw (same_test o.resume m x.resume n e, t) (joined_assoc o x y))

written-front : (o x : Share) (m n : ℕ) → o.resume + m ≡ n → (u w v : List ℕ)
    → and_written n (joined o x) (u ++ w) v ≡ u ++ and_written m x w v
written-front o x m n e u w v =
    rw (same_test o.resume m x.resume n e) (append_assoc u w (cond (ltb x.resume m) [] v))

-- ---- a front p, and `rest` behind it
pub record Follows (rest p : List ℕ) (b : ℕ) : Type 0 where
  pub shares : share_of (p ++ rest) b ≡ and_then (length p) (share_of p b) (share_of rest (b - (share_of p b).written))
  pub writes : written_of (p ++ rest) b ≡ and_written (length p) (share_of p b) (written_of p b) (written_of rest (b - (share_of p b).written))

follows_nothing : (rest : List ℕ) (b : ℕ) → Follows rest [] b
follows_nothing rest b =
    record {
      shares = rw (share_nil b, sub-zero) (sym (joined-none rest b));
      writes = rw (share_nil b, written_nil b, sub-zero);
    }

module _ (p rest : List ℕ) (f : packet_length p ≡ 0 → ⊥) (b : ℕ) where
  abbrev q : List ℕ
  q = drop (5 + packet_length p) p

  same_size : size_in (p ++ rest) ≡ size_in p
  same_size = rw (same_packet_lem p rest f)

  long : 5 + packet_length p + length q ≡ length p
  long = omega (arith, length-drop (5 + packet_length p) p, length-fits p f)

  module _ (h : size_in p ≤ b) where
    both_share : share_of (p ++ rest) b ≡ joined (of_record p) (share_of (q ++ rest) (b - size_in p))
    both_share =
        share_taken (p ++ rest) (some_with_more p rest f) b (rw same_size h)
        ∙ rw (behind_with_more p rest f, stands_with_more p rest f, same_packet_lem p rest f)

    both_written : written_of (p ++ rest) b ≡ written (rewritten (entry_in p)) ++ written_of (q ++ rest) (b - size_in p)
    both_written =
        written_taken (p ++ rest) (some_with_more p rest f) b (rw same_size h)
        ∙ rw (behind_with_more p rest f, same_line p rest f, same_packet_lem p rest f)

    follows_taken : Follows rest q (b - size_in p) → Follows rest p b
    follows_taken ih =
        let x = share_of q (b - size_in p) in
        let left : b - (size_in p + x.written) ≡ b - size_in p - x.written = omega arith in
        let u = written (rewritten (entry_in p)) in
        let w = written_of q (b - size_in p) in
        record {
          shares = both_share ∙ rw (ih.shares, share_taken p f b h, left)
              (sym (then_front (of_record p) x (share_of rest (b - size_in p - x.written)) (length q) (length p) long));
          writes = both_written ∙ rw (ih.writes, share_taken p f b h, written_taken p f b h, left)
              (sym (written-front (of_record p) x (length q) (length p) long u w (written_of rest (b - size_in p - x.written))));
        }

  follows_full : b < size_in p → Follows rest p b
  follows_full h =
      let some : 0 < length p = omega (arith, length-fits p f) in
      let over : b < size_in (p ++ rest) = rw same_size h in
      record {
        shares = share-full (p ++ rest) (some_with_more p rest f) b over ∙ rw (share-full p f b h, lt-ltb 0 (length p) some);
        writes = written-full (p ++ rest) (some_with_more p rest f) b over
            ∙ rw (share-full p f b h, written-full p f b h, lt-ltb 0 (length p) some);
      }

  follows_whole : Follows rest q (b - size_in p) → Follows rest p b
  follows_whole ih = by_order b (size_in p) follows_full (λ h. follows_taken h ih)

follows_byte : (x : ℕ) (p rest : List ℕ) → packet_length (x ∷ (p ++ rest)) ≡ 0 → (b : ℕ) → Follows rest p b → Follows rest (x ∷ p) b
follows_byte x p rest z b ih =
    let here = none_when_cut (x ∷ p) rest z in
    let y = share_of p b in
    let left : b - (0 + y.written) ≡ b - y.written = omega arith in
    let long : 1 + length p ≡ length (x ∷ p) = omega arith in
    record {
      shares = share_byte x (p ++ rest) z b ∙ rw (ih.shares, share_byte x p here b, left)
          (sym (then_front of_byte y (share_of rest (b - y.written)) (length p) (length (x ∷ p)) long));
      writes = written_byte x (p ++ rest) z b ∙ rw (ih.writes, share_byte x p here b, written_byte x p here b, left)
          (sym (written-front of_byte y (length p) (length (x ∷ p)) long [] (written_of p b) (written_of rest (b - y.written))));
    }

pub told-share : {rest p : List ℕ} → Told rest p → (left : ℕ) → Follows rest p left
told-share {rest} nothing left = follows_nothing rest left
told-share {rest} {p} (whole f t) left = follows_whole p rest f left (told-share t (left - size_in p))
told-share {rest} (byte {b} {p} z t) left = follows_byte b p rest z left (told-share t left)

-- ---- all parts
pub cuts_share : {ps : List (List ℕ)} {s : List ℕ} → Cuts ps s → (b : ℕ) → (shared_by b ps ≡ share_of s b) × (written_for b ps ≡ written_of s b)
unfolding shared_by written_for
cuts_share over b = (sym (share_nil b), sym (written_nil b))
cuts_share (part {p} t c) b =
    let f = told-share t b in
    let on = cuts_share c (b - (share_of p b).written) in
    (rw on.0 (sym f.shares), rw on.1 (sym f.writes))
