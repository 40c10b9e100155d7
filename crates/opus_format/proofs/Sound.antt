-- Whatever is read RFC 6716 spells: the bytes taken, with the frames cut from the first one's place on.
--     read_laid         what is read has a layout: a header, and behind it room for the frames and the padding
--     read_spelled      so it is spelled
--     read_taken        and reads the same without what stands behind
--     ordinary_whole    which is nothing in the ordinary form
-- Assumes nothing.
use Prim.Native.Nat.{ℕ, zero, suc, ◌+◌, ◌-◌, ◌/◌, ◌%◌, ◌≤◌, ◌<◌}
use native.Mathlib.Omega.{arith}
use mathlib.Core.Path.{◌≡◌, refl, sym, ap, ◌∙◌}
use mathlib.Core.List.{List, [], ◌∷◌, ◌++◌, append_assoc, append-nil}
use mathlib.Core.Bool.{Bool, true, false}
use lib.Dec.{ltb}
use lib.ListN.{length, get_or, take, drop, length-append, length-drop, take-append-drop, drop_of_length-le}
use lib.Seq.{take-append_seam, drop-append_seam, take-append-add, drop-append-add, take-add, length-take-le}
use borrow.Author.Tests.{ltb-false}
use Rattle.laws.specs.Bytes.{Bytes}
use Rattle.laws.proofs.Never.{never, by_test}
use Rattle.laws.proofs.Bytes.{bytes_tail, bytes_after, bytes_take}
use Rattle.opus_size.specs.Size.{most_bytes, length_field, length_fields, Field, no_field, field}
use Rattle.opus_toc.specs.Toc.{upper_six, toc_byte}
use Rattle.opus_format.specs.Frames.{lengths, cut, total, longest}
use Rattle.opus_format.specs.Format.{count_byte, Lasts, Padding, own_length, Spells, Behind}
use Rattle.opus_format.specs.Format.{Layout, code0, code1, code2, code3equal, code3unequal}
use Rattle.opus_defines.specs.declared.Rule.TheVariants.{R2, R3, R4, R6, R7}
use Rattle.opus_format.specs.Reading.{Front, broken, front, unequal, equal, read_padding}
use Rattle.opus_format.specs.Reading.{frames3, lasts, accepted, accept, behind_padding, read3, read_code, read}
use Rattle.opus_format.proofs.Frames.{joined-cut, lengths-cut, longest-same}
use Rattle.opus_format.proofs.Padding.{padding_was}
use Rattle.opus_format.proofs.Fronts.{Holds, FrontWas, unequal_was, equal_was}
use Rattle.opus_format.proofs.Counts.{byte_whole, passed_lasts}
use Rattle.opus_format.proofs.Complete.{layout_read, layout_toc}

pub record Spelled (sd : Bool) (p : List ℕ) (toc : ℕ) (ns : List ℕ) (first taken : ℕ) : Type 0 where
  pub packet : Spells sd (upper_six toc) (take taken p) (cut ns (drop first p))
  pub header : packet.head ≡ take first p
  pub place : first ≡ length packet.head
  pub lengths_are : lengths (cut ns (drop first p)) ≡ ns
  pub toc_is : toc ≡ get_or p 0 0
  pub within : taken ≤ length p
  pub behind : Behind sd (drop taken p)

-- ---- the last part of a header
-- the bytes s are such a part, by the layout L, and then the frames from t on
record Body (sd : Bool) (L : List ℕ → List ℕ → Type 0) (s ns t : List ℕ) : Type 0 where
  part : List ℕ
  spelled : s ≡ part ++ t
  layout : L part ns
  small : longest ns ≤ most_bytes
  holds : Holds sd (total ns) t

-- where the lengths go by one number
front_body : {sd : Bool} {of : ℕ → List ℕ} {s ns t : List ℕ} (L : List ℕ → List ℕ → Type 0) → ((n : ℕ) → L (own_length sd n) (of n))
    → ((n : ℕ) → longest (of n) ≡ n) → FrontWas sd of s ns t → Body sd L s ns t
front_body {sd} L layout most w =
    record {
      part = own_length sd w.last;
      spelled = w.spelled;
      layout = rw w.same (layout w.last);
      small = rw w.same (omega (arith, most w.last, w.small));
      holds = w.holds;
    }

toc_whole : (toc c : ℕ) → toc % 4 ≡ c → toc_byte (upper_six toc) c ≡ toc
toc_whole toc c e = omega arith

-- behind the TOC byte, in the codes without padding
Plain : Bool → ℕ → List ℕ → List ℕ → Type 0
Plain sd toc b ns = Layout sd (upper_six toc) (toc ∷ b) ns 0

as_plain : {sd : Bool} (toc c : ℕ) {b ns : List ℕ} → toc % 4 ≡ c → Layout sd (upper_six toc) (toc_byte (upper_six toc) c ∷ b) ns 0
    → Plain sd toc b ns
unfolding Plain
as_plain toc c e l = rw (toc_whole toc c e) at l

module _ (sd : Bool) (toc : ℕ) (s ns t : List ℕ) (bytes : Bytes s) where
  body0 : toc % 4 ≡ 0 → unequal sd R2 0 s ≡ front ns t → Body sd (Plain sd toc) s ns t
  body0 c e =
      let w = unequal_was sd R2 0 s ns t bytes e in
      go w.others w.last w.count w.same w.spelled w.small w.holds
    where
      go : (ms : List ℕ) (n : ℕ) → length ms ≡ 0 → ns ≡ ms ++ (n ∷ []) → s ≡ length_fields ms ++ own_length sd n ++ t
          → longest ns ≤ most_bytes
          → Holds sd (total ns) t → Body sd (Plain sd toc) s ns t
      go [] n none same spelled small holds =
          record { part = own_length sd n; spelled = spelled; layout = rw same (as_plain toc 0 c (code0 n)); small = small; holds = holds }
      go (m ∷ ms) n none same spelled small holds = absurd (omega arith)

  body1 : toc % 4 ≡ 1 → equal sd R3 2 s ≡ front ns t → Body sd (Plain sd toc) s ns t
  body1 c e =
      front_body (Plain sd toc) (λ n. as_plain toc 1 c (code1 n)) (λ n. omega arith) (equal_was sd R3 2 s ns t bytes e)

  body2 : toc % 4 ≡ 2 → unequal sd R4 1 s ≡ front ns t → Body sd (Plain sd toc) s ns t
  body2 c e =
      let w = unequal_was sd R4 1 s ns t bytes e in
      go w.others w.last w.count w.same w.spelled w.small w.holds
    where
      go : (ms : List ℕ) (n : ℕ) → length ms ≡ 1 → ns ≡ ms ++ (n ∷ []) → s ≡ length_fields ms ++ own_length sd n ++ t
          → longest ns ≤ most_bytes → Holds sd (total ns) t → Body sd (Plain sd toc) s ns t
      go [] n one same spelled small holds = absurd (omega arith)
      go (m ∷ []) n one same spelled small holds =
          record {
            part = length_field m ++ own_length sd n;
            spelled = cc (append-nil (length_field m));
            layout = rw same (as_plain toc 2 c (code2 m n));
            small = small;
            holds = holds;
          }
      go (m ∷ k ∷ ms) n one same spelled small holds = absurd (omega arith)

-- behind the padding lengths a in code 3, with v for unequal lengths
module _ (sd : Bool) (six p count pad : ℕ) (a s ns t : List ℕ) (l : Lasts six count) (d : Padding p a pad) (bytes : Bytes s) where
  body3 : (v : ℕ) → v < 2 → frames3 sd v count s ≡ front ns t
      → Body sd (λ b ns. Layout sd six (toc_byte six 3 ∷ count_byte v p count ∷ (a ++ b)) ns pad) s ns t
  body3 zero h e =
      front_body (λ b ns. Layout sd six (toc_byte six 3 ∷ count_byte 0 p count ∷ (a ++ b)) ns pad) (λ n. code3equal count n l d)
      (λ n. longest-same count n l.some) (equal_was sd R6 count s ns t bytes e)
  body3 (suc zero) h e =
      let w = unequal_was sd R7 (count - 1) s ns t bytes e in
      let many : suc (length w.others) ≡ count = omega (arith, w.count, l.some) in
      let part = length_fields w.others ++ own_length sd w.last in
      let k : Layout sd six (toc_byte six 3 ∷ count_byte 1 p (suc (length w.others)) ∷ (a ++ part)) (w.others ++ (w.last ∷ [])) pad =
      code3unequal w.others w.last (rw many l) d in
      record {
        part = part;
        spelled = w.spelled;
        layout = rw (many, ← w.same) at k;
        small = w.small;
        holds = w.holds;
      }
  body3 (suc (suc v)) h e = absurd (omega arith)

-- ---- what is read has a layout
-- the bytes p are a header, and behind it room for the frames and the padding
record Laid (sd : Bool) (p : List ℕ) (toc : ℕ) (ns : List ℕ) (first taken : ℕ) : Type 0 where
  head : List ℕ
  rest : List ℕ
  pad : ℕ
  whole : p ≡ head ++ rest
  layout : Layout sd (upper_six toc) head ns pad
  small : longest ns ≤ most_bytes
  holds : Holds sd (total ns + pad) rest
  place : first ≡ length head
  size : taken ≡ length head + (total ns + pad)
  toc_is : toc ≡ get_or p 0 0

-- k bytes of frames with padding q behind them
holds_whole : (sd : Bool) (k : ℕ) (t q : List ℕ) → Holds sd k t → Holds sd (k + length q) (t ++ q)
holds_whole sd k t q h =
    let long = length-append t q in
    record { enough = omega (arith, h.enough); full = λ e. omega (arith, h.full e) }

-- toc is the byte that was read, toc' the one that the reading says
module _ (sd : Bool) (toc toc' : ℕ) (ns : List ℕ) (first taken : ℕ) where
  -- behind the TOC byte stand a, then s with the frames, then padding q
  accept_laid : (a s q : List ℕ) (f : Front)
      → ((t : List ℕ) → f ≡ front ns t → Body sd (λ b ns. Layout sd (upper_six toc) (toc ∷ (a ++ b)) ns (length q)) s ns t)
      → accept (suc (length (a ++ (s ++ q)))) toc (length q) f ≡ accepted toc' ns first taken → Laid sd (toc ∷ (a ++ (s ++ q))) toc' ns first taken
  accept_laid a s q (broken r u) body e = never (cc)
  accept_laid a s q (front ms t) body e =
      let same : ms ≡ ns = cc in
      let w = body t (ap (λ l. front l t) same) in
      let b = w.part in
      let m = suc (length (a ++ (s ++ q))) in
      let tocs : toc ≡ toc' = cc in
      let start : m - length q - length t ≡ first = cc in
      let end : first + total ns + length q ≡ taken = cc in
      let parts : length s ≡ length b + length t = ap length w.spelled ∙ length-append b t in
      let long : m ≡ suc (length (a ++ b)) + length t + length q = omega (arith, length-append a (s ++ q), length-append s q, length-append a b) in
      record {
        head = toc ∷ (a ++ b);
        rest = t ++ q;
        pad = length q;
        whole = cc (w.spelled, append_assoc b t q, append_assoc a b (t ++ q));
        layout = rw (← tocs) w.layout;
        small = w.small;
        holds = holds_whole sd (total ns) t q w.holds;
        place = omega arith;
        size = omega arith;
        toc_is = sym tocs;
      }

  plain_laid : (s : List ℕ) (f : Front) → ((t : List ℕ) → f ≡ front ns t → Body sd (Plain sd toc) s ns t)
      → accept (suc (length s)) toc 0 f ≡ accepted toc' ns first taken → Laid sd (toc ∷ s) toc' ns first taken
  unfolding Plain
  plain_laid s f body e = rw (append-nil s) at (accept_laid [] s [] f body (rw (append-nil s) e))

  code3_laid : (c : ℕ) (a u : List ℕ) (pad : ℕ) → toc % 4 ≡ 3 → c < 256 → Bytes u → Lasts (upper_six toc) (c % 64) → Padding (c / 64 % 2) a pad
      → pad ≤ length u
      → accept (suc (suc (length (a ++ u)))) toc pad (frames3 sd (c / 128 % 2) (c % 64) (take (length u - pad) u)) ≡ accepted toc' ns first taken
      → Laid sd (toc ∷ c ∷ (a ++ u)) toc' ns first taken
  code3_laid c a u pad three byte bytes l d h e =
      let k = length u - pad in
      let s = take k u in
      let q = drop k u in
      let split : s ++ q ≡ u = take-append-drop k u in
      let long : length q ≡ pad = omega (arith, length-drop k u) in
      rw split at
      (accept_laid (c ∷ a) s q (frames3 sd (c / 128 % 2) (c % 64) s)
      (λ t f. rw (toc_whole toc 3 three, byte_whole c byte) at
      (body3 sd (upper_six toc) (c / 64 % 2) (c % 64) (length q) a s ns t l (rw long d) (bytes_take k u bytes) (c / 128 % 2) (omega arith) f))
      (rw (split, long) e))

  read3_laid : (s : List ℕ) → Bytes s → toc % 4 ≡ 3 → read3 sd (suc (length s)) toc s ≡ accepted toc' ns first taken
      → Laid sd (toc ∷ s) toc' ns first taken
  read3_laid [] bytes three e = never (cc)
  read3_laid (c ∷ s) bytes three e =
      by_test (lasts (upper_six toc) (c % 64))
      (λ d. go (passed_lasts (upper_six toc) (c % 64) d) (read_padding (c / 64 % 2) s) refl (rw d at e)) (λ d. never (cc))
    where
      go : Lasts (upper_six toc) (c % 64) → (f : Field) → read_padding (c / 64 % 2) s ≡ f
          → behind_padding sd (suc (suc (length s))) toc (c / 128 % 2) (c % 64) f ≡ accepted toc' ns first taken
          → Laid sd (toc ∷ c ∷ s) toc' ns first taken
      go l no_field d e = never (cc)
      go l (field pad u) d e =
          by_test (ltb (length u) pad) (λ f. never (cc))
          (λ f.
          let w = padding_was (c / 64 % 2) (omega arith) s pad u (bytes_tail bytes) d in
          let inner = bytes_after w.chain u (rw w.spelled at (bytes_tail bytes)) in
          rw (← w.spelled) at
          (code3_laid c w.chain u pad three (bytes.byte 0) inner l w.padding (ltb-false (length u) pad f) (rw (← w.spelled) (rw f at e))))

read_laid : (sd : Bool) (p : List ℕ) (toc : ℕ) (ns : List ℕ) (first taken : ℕ) → Bytes p → read sd p ≡ accepted toc ns first taken
    → Laid sd p toc ns first taken
unfolding read
read_laid sd [] toc ns first taken bytes e = never (cc)
read_laid sd (a ∷ s) toc ns first taken bytes e = go (a % 4) refl e
  where
    inner : Bytes s
    inner = bytes_tail bytes

    go : (c : ℕ) → a % 4 ≡ c → read_code sd c (suc (length s)) a s ≡ accepted toc ns first taken → Laid sd (a ∷ s) toc ns first taken
    go zero c e = plain_laid sd a toc ns first taken s (unequal sd R2 0 s) (λ t. body0 sd a s ns t inner c) e
    go (suc zero) c e = plain_laid sd a toc ns first taken s (equal sd R3 2 s) (λ t. body1 sd a s ns t inner c) e
    go (suc (suc zero)) c e = plain_laid sd a toc ns first taken s (unequal sd R4 1 s) (λ t. body2 sd a s ns t inner c) e
    go (suc (suc (suc zero))) c e = read3_laid sd a toc ns first taken s inner c e
    go (suc (suc (suc (suc k)))) c e = absurd (omega arith)

-- ---- what has a layout is spelled
-- nothing is left of the ordinary form
behind-drop : (sd : Bool) (n : ℕ) (s : List ℕ) → (sd ≡ false → length s ≤ n) → Behind sd (drop n s)
behind-drop false n s h = drop_of_length-le s (h refl)
behind-drop true n s h = tt

header_spelled : (sd : Bool) (toc : ℕ) (head rest ns : List ℕ) (pad : ℕ) → toc ≡ get_or (head ++ rest) 0 0 → Layout sd (upper_six toc) head ns pad
    → longest ns ≤ most_bytes → Holds sd (total ns + pad) rest → Spelled sd (head ++ rest) toc ns (length head) (length head + (total ns + pad))
header_spelled sd toc head rest ns pad tocs l small h =
    let after : drop (length head) (head ++ rest) ≡ rest = drop-append_seam head rest in
    let are : lengths (cut ns rest) ≡ ns = lengths-cut ns rest (omega arith) in
    let long : length (take pad (drop (total ns) rest)) ≡ pad =
    length-take-le pad (drop (total ns) rest) (omega (arith, length-drop (total ns) rest, h.enough)) in
    record {
      packet = record {
        head = head;
        padding = take pad (drop (total ns) rest);
        bytes = rw (take-append-add head rest (total ns + pad), after, joined-cut ns rest, take-add (total ns) pad rest);
        layout = rw (after, are, long) l;
        small = rw (after, are) small;
      };
      header = sym (take-append_seam head rest);
      place = refl;
      lengths_are = rw after are;
      toc_is = tocs;
      within = omega (arith, length-append head rest, h.enough);
      behind = rw (drop-append-add head rest (total ns + pad)) (behind-drop sd (total ns + pad) rest h.full);
    }

laid_spelled : {sd : Bool} {p : List ℕ} {toc : ℕ} {ns : List ℕ} {first taken : ℕ} → Laid sd p toc ns first taken → Spelled sd p toc ns first taken
laid_spelled {sd} {toc = toc} {ns} w =
    rw (w.whole, w.place, w.size)
    (header_spelled sd toc w.head w.rest ns w.pad (rw w.whole at w.toc_is) w.layout w.small w.holds)

pub read_spelled : (sd : Bool) (p : List ℕ) (toc : ℕ) (ns : List ℕ) (first taken : ℕ) → Bytes p → read sd p ≡ accepted toc ns first taken
    → Spelled sd p toc ns first taken
read_spelled sd p toc ns first taken bytes r = laid_spelled (read_laid sd p toc ns first taken bytes r)

-- ---- what stands behind
laid_taken : {sd : Bool} {p : List ℕ} {toc : ℕ} {ns : List ℕ} {first taken : ℕ} → Laid sd p toc ns first taken
    → read sd (take taken p) ≡ accepted toc ns first taken
laid_taken {p = p} {toc} {ns} {taken = taken} w =
    let k = total ns + w.pad in
    let u = take k w.rest in
    let long : length u ≡ k = length-take-le k w.rest w.holds.enough in
    let is : take taken p ≡ w.head ++ u = rw (w.whole, w.size) (take-append-add w.head w.rest k) in
    let same : toc ≡ get_or w.head 0 0 = cc (w.toc_is, w.whole, (layout_toc w.layout w.rest).0) in
    cc (is, same, w.place, w.size, layout_read w.layout w.small u (omega arith))

-- a self-delimited packet that is cut to the bytes taken reads the same
pub read_taken : (sd : Bool) (p : List ℕ) (toc : ℕ) (ns : List ℕ) (first taken : ℕ) → Bytes p → read sd p ≡ accepted toc ns first taken
    → read sd (take taken p) ≡ accepted toc ns first taken
read_taken sd p toc ns first taken bytes r = laid_taken (read_laid sd p toc ns first taken bytes r)

-- ordinary reading takes the whole packet
pub ordinary_whole : (p : List ℕ) (toc : ℕ) (ns : List ℕ) (first taken : ℕ) → Bytes p → read false p ≡ accepted toc ns first taken
    → taken ≡ length p
ordinary_whole p toc ns first taken bytes r =
    let w = read_spelled false p toc ns first taken bytes r in
    omega (arith, w.within, length-drop taken p, ap length w.behind)
