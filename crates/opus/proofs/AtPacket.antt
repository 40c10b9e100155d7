-- A packet of frames that were read at a place.
--     head_found, head_broken             the packet by what was read of its frames
--     uneven-..                           code 3 with its flag for unequal lengths
--     rule-.., body-..                    code 3 behind its count byte
--     three-..                            code 3: its count byte, and 120 ms counted in samples
--     no_fields_lem, one_field, two-..        codes 0 and 2: no length field, and one
--     code-.., ..-fits                    a packet by its code, and that its frames end within it
--     parse-..                            what the reader answers, by the tests on the length
-- Assumes nothing.
use Prim.Native.Nat.{ℕ, zero, suc, ◌+◌, ◌*◌, ◌-◌, ◌/◌, ◌%◌, ◌≤◌, ◌<◌}
use native.Mathlib.Omega.{arith}
use native.Mathlib.Nat.{add-zero, mul-le-mul_left}
use mathlib.Core.Path.{◌≡◌, refl, sym, ap, ◌∙◌}
use mathlib.Core.List.{List, [], ◌∷◌}
use mathlib.Core.Bool.{Bool, true, false, cond}
use lib.Dec.{ltb, leb}
use lib.ListN.{length, get_or, take, drop, set, length-drop}
use lib.Seq.{drop-drop, length-take-le}
use borrow.Author.Tests.{lt-ltb, le-ltb, leb-true}
use borrow.Author.Rules.{part_to_end}
use Rattle.laws.proofs.Every.{every_at}
use Rattle.laws.proofs.Never.{never, by_test}
use Rattle.opus_defines.specs.Rules.{rule_refusal}
use Rattle.opus_defines.specs.declared.Refusal.{Refusal}
use Rattle.opus_defines.specs.declared.Refusal.TheVariants.{BadArg}
use Rattle.std.specs.Prelude.{Ok, Err, None, Result, Some}
use Rattle.opus_size.specs.Size.{Field, read_field, no_field, field}
use Rattle.opus_toc.specs.Toc.{upper_six, configuration, duration, samples}
use Rattle.opus_toc.proofs.Samples.{lasts_at_lem}
use Rattle.opus_format.specs.Frames.{total, padded48}
use Rattle.opus_defines.specs.declared.Rule.{Rule}
use Rattle.opus_defines.specs.declared.Rule.TheVariants.{R1, R2, R3, R4, R5, R6, R7}
use Rattle.opus_format.specs.Reading.{Front, broken, front, no_fields, fields, read_fields, together}
use Rattle.opus_format.specs.Reading.{unequal, equal, read_padding, frames3, size_rule, lasts, pointed}
use Rattle.opus_format.specs.Reading.{Reading, refused, accept, behind_padding, read3, read_code, read}
use Rattle.opus.specs.Answers.{packet_of, parsed, answer_of}
use Rattle.opus_parts.specs.Parts.{sizes_at, SizesRead, frames_at, frames_lent, FramesRead, end_of, padding_at}
use Rattle.opus.specs.Heads.{head_at}
use Rattle.opus.specs.declared.Packet.{Packet}
use Rattle.opus.specs.declared.PacketHead.{PacketHead}
use Rattle.opus_size.proofs.At.{Found}
use Rattle.opus_parts.proofs.AtSizes.{place_is, one_fits, one_over, none_known}
use Rattle.opus_parts.proofs.AtFrames.{Within, unequal-within, equal-within}
use Rattle.opus_parts.proofs.AtPadding.{Padded, padding_was}

module _ (toc count at pad : ℕ) (f : Result (ℕ × ℕ) (Rule × ℕ)) where
  pub head_found : (first sum : ℕ) → f ≡ Ok (first, sum)
      → Ok (record { toc = toc; count = count; first = at + first; taken = at + first + sum + pad }) ≡ head_at toc count at pad f
  head_found first sum e = rw e

  pub head_broken : (r : Rule) (place : ℕ) → f ≡ Err (r, place) → Err (rule_refusal r (pointed r (at + place))) ≡ head_at toc count at pad f
  head_broken r place e = rw e

pub end_found : (f : Result (ℕ × ℕ) (Rule × ℕ)) (first sum : ℕ) → f ≡ Ok (first, sum) → end_of f ≡ first + sum
end_found f first sum e = rw e

pub end_broken : (f : Result (ℕ × ℕ) (Rule × ℕ)) (r : Rule) (place : ℕ) → f ≡ Err (r, place) → end_of f ≡ place
end_broken f r place e = rw e

-- the place of what breaks in the n bytes behind `at` bytes, where m bytes are these and the padding; the field concerned is within them
head_place : (m n at pad k : ℕ) → k ≤ n → m ≡ at + n + pad → m - pad - k ≡ at + (n - k)
head_place m n at pad k h e = omega arith

-- m bytes are `at` bytes, n bytes in which the frames were read, and the padding
packet_of_lem : (m n toc count at pad : ℕ) (r : Front) (l : List ℕ) → Within n count r → frames_lent r l → m ≡ at + n + pad
    → answer_of (head_at toc count at pad (frames_at n r)) l ≡ packet_of (accept m toc pad r)
packet_of_lem m n toc count at pad (broken r t) l w g e =
    ap (λ place. Err (rule_refusal r (pointed r place))) (sym (head_place m n at pad (length t) w e))
packet_of_lem m n toc count at pad (front ns t) l w g e =
    let first : m - pad - length t ≡ at + (n - length t) = omega arith in
    rw (first, g, w.2)

packet_fits : (m n count at pad : ℕ) (r : Front) → Within n count r → m ≡ at + n + pad → at + end_of (frames_at n r) + pad ≤ m
packet_fits m n count at pad (broken r t) w e = omega arith
packet_fits m n count at pad (front ns t) w e = omega arith

-- the same of an answer f that is those frames, with their lengths in the array
module _ (s : List ℕ) (m toc count at pad : ℕ) (r : Front) (w : Within (length s) count r) (e : m ≡ at + length s + pad) (f : Result (ℕ × ℕ) (Rule × ℕ)) (l : List ℕ)
    (g : FramesRead s r f l) where
  answer_of_lem : answer_of (head_at toc count at pad f) l ≡ packet_of (accept m toc pad r)
  answer_of_lem = rw g.0 (packet_of_lem m (length s) toc count at pad r l w g.1 e)

  answer_fits : at + end_of f + pad ≤ m
  answer_fits = rw g.0 (packet_fits m (length s) count at pad r w e)

-- ---- length fields of which one breaks, or which are too long together
cut_refused : (s : List ℕ) (sd : Bool) (r : Rule) (k m toc pad place : ℕ) (t : List ℕ) → together (read_fields k s) ≡ no_fields t
    → place ≡ pointed r (m - pad - length t)
    → Err (rule_refusal r place) ≡ packet_of (accept m toc pad (unequal sd r k s))
cut_refused s sd r k m toc pad place t q e = rw (q, e)

-- ---- code 3 with its flag for unequal lengths, whose frames stand in s behind `at` bytes
pub uneven_place : (s : List ℕ) (k place : ℕ) → Err place ≡ sizes_at (length s) (together (read_fields k s)) → place ≤ length s
uneven_place s k place c = omega (arith, (none_known s k place c).2)

module _ (s : List ℕ) (sd : Bool) (toc count at pad : ℕ) (one : 1 ≤ count) where
  uneven_within : Within (length s) count (unequal sd R7 (count - 1) s)
  uneven_within = unequal-within s count sd R7 (count - 1) (omega arith)

  pub uneven_cut : (place : ℕ) → Err place ≡ sizes_at (length s) (together (read_fields (count - 1) s))
      → Err (rule_refusal R7 (at + place)) ≡ packet_of (accept (at + length s + pad) toc pad (unequal sd R7 (count - 1) s))
  uneven_cut place c =
      let b = none_known s (count - 1) place c in
      let inside : length b.0 ≤ length s = rw b.1 at uneven_within in
      cut_refused s sd R7 (count - 1) (at + length s + pad) toc pad (at + place) b.0 b.1 (omega (arith, b.2))

  module _ (f : Result (ℕ × ℕ) (Rule × ℕ)) (l : List ℕ) (g : FramesRead s (unequal sd R7 (count - 1) s) f l) where
    pub uneven_fits : at + end_of f + pad ≤ at + length s + pad
    uneven_fits = answer_fits s (at + length s + pad) toc count at pad (unequal sd R7 (count - 1) s) uneven_within refl f l g

    pub uneven_read : (h : Result PacketHead Refusal) → h ≡ head_at toc count at pad f
        → answer_of h l ≡ packet_of (accept (at + length s + pad) toc pad (unequal sd R7 (count - 1) s))
    uneven_read h e =
        rw e (answer_of_lem s (at + length s + pad) toc count at pad (unequal sd R7 (count - 1) s) uneven_within refl f l g)

-- ---- code 3 behind its count byte
-- which rule a length breaks, and how the frames are read, by the flag for unequal lengths
pub rule_equal : (v : ℕ) → v ≡ 0 → R6 ≡ size_rule v
rule_equal v e = rw e

pub rule_unequal : (v : ℕ) → (v ≡ 0 → ⊥) → R7 ≡ size_rule v
rule_unequal zero n = absurd (n refl)
rule_unequal (suc v) n = refl

pub frames_equal : (sd : Bool) (v count : ℕ) (s : List ℕ) → v ≡ 0 → frames3 sd v count s ≡ equal sd R6 count s
frames_equal sd v count s e = rw e

frames_unequal : (sd : Bool) (v count : ℕ) (s : List ℕ) → (v ≡ 0 → ⊥) → frames3 sd v count s ≡ unequal sd R7 (count - 1) s
frames_unequal sd zero count s n = absurd (n refl)
frames_unequal sd (suc v) count s n = refl

unfit_refused : (sd : Bool) (k m toc v count : ℕ) (f : Field) → padding_at k f ≡ None → refused (size_rule v) 2 ≡ behind_padding sd m toc v count f
unfit_refused sd k m toc v count no_field e = refl
unfit_refused sd k m toc v count (field pad t) e = by_test (ltb (length t) pad) (λ b. rw b) (λ b. never (let q = rw b at e in cc))

-- the part of a list from one place up to another, as the code lends it
abbrev pub part : List ℕ → ℕ → ℕ → List ℕ
part d a e = take (e - a) (drop a d)

abbrev pub body : Bool → List ℕ → ℕ → Reading
body sd d count = behind_padding sd (length d) (get_or d 0 0) (get_or d 1 0 / 128 % 2) count (read_padding (get_or d 1 0 / 64 % 2) (drop 2 d))

-- the padding of a slice that was lent from place 2 on
abbrev pub padding : List ℕ → Field
padding d = read_padding (get_or d 1 0 / 64 % 2) (part d 2 (length d))

module _ (sd : Bool) (d : List ℕ) (count : ℕ) where
  pub body_refused : padding_at (length (part d 2 (length d))) (padding d) ≡ None → refused (size_rule (get_or d 1 0 / 128 % 2)) 2 ≡ body sd d count
  body_refused e =
      unfit_refused sd (length (drop 2 d)) (length d) (get_or d 0 0) (get_or d 1 0 / 128 % 2) count (read_padding (get_or d 1 0 / 64 % 2) (drop 2 d))
      (rw (part_to_end d 2) at e)

  pub body_unfit : padding_at (length (part d 2 (length d))) (padding d) ≡ None
      → Err (rule_refusal (size_rule (get_or d 1 0 / 128 % 2)) 2) ≡ packet_of (body sd d count)
  body_unfit e = ap packet_of (body_refused e)

  module _ (h : 2 ≤ length d) (pad next : ℕ) (e : padding_at (length (part d 2 (length d))) (padding d) ≡ Some (pad, next)) where
    was : Padded (get_or d 1 0 / 64 % 2) (drop 2 d) pad next
    was = padding_was (get_or d 1 0 / 64 % 2) (drop 2 d) pad next (rw (part_to_end d 2) at e)

    pub body_room : 2 + next + pad ≤ length d
    body_room = omega (arith, was.room, length-drop 2 d)

    -- the frames lie between the padding lengths and the padding
    pub inner : List ℕ
    inner = part d (2 + next) (length d - pad)

    pub all_bytes : length d ≡ 2 + next + length inner + pad
    unfolding inner
    all_bytes =
        let l : length inner ≡ length d - pad - (2 + next) =
        length-take-le (length d - pad - (2 + next)) (drop (2 + next) d) (omega (arith, body_room, length-drop (2 + next) d)) in
        omega (arith, body_room)

    pub body_reads : body sd d count ≡ accept (length d) (get_or d 0 0) pad (frames3 sd (get_or d 1 0 / 128 % 2) count inner)
    unfolding inner
    body_reads =
        let left : length (drop (2 + next) d) - pad ≡ length d - pad - (2 + next) = omega (arith, length-drop (2 + next) d) in
        let enough : ltb (length (drop (2 + next) d)) pad ≡ false =
        le-ltb (length (drop (2 + next) d)) pad (omega (arith, body_room, length-drop (2 + next) d)) in
        rw (was.means, drop-drop next 2 d, enough, left)

    pub body_bytes : 2 + next + length (part d (2 + next) (length d - pad)) + pad ≡ length d
    unfolding inner
    body_bytes = sym all_bytes

    module _ (f : Result (ℕ × ℕ) (Rule × ℕ)) (l : List ℕ)
        (g : FramesRead (part d (2 + next) (length d - pad)) (equal sd R6 count (part d (2 + next) (length d - pad))) f l) where
      pub body_fits : 2 + next + end_of f + pad ≤ length d
      unfolding inner
      body_fits =
          answer_fits inner (length d) (get_or d 0 0) count (2 + next) pad (equal sd R6 count inner) (equal-within inner count sd R6) all_bytes f l g

      pub body_equal : get_or d 1 0 / 128 % 2 ≡ 0 → (h : Result PacketHead Refusal) → h ≡ head_at (get_or d 0 0) count (2 + next) pad f
          → answer_of h l ≡ packet_of (body sd d count)
      unfolding inner
      body_equal v h e =
          rw (e, body_reads, frames_equal sd (get_or d 1 0 / 128 % 2) count inner v)
          (answer_of_lem inner (length d) (get_or d 0 0) count (2 + next) pad (equal sd R6 count inner) (equal-within inner count sd R6) all_bytes f l g)

    -- what the packet with its flag is, counted from what stands before and behind its frames
    pub body_unequal : (get_or d 1 0 / 128 % 2 ≡ 0 → ⊥) → (x : Result Packet Refusal)
        → x ≡ packet_of (accept (2 + next + length (part d (2 + next) (length d - pad)) + pad) (get_or d 0 0) pad
        (unequal sd R7 (count - 1) (part d (2 + next) (length d - pad))))
        → x ≡ packet_of (body sd d count)
    unfolding inner
    body_unequal n x e = rw (body_reads, frames_unequal sd (get_or d 1 0 / 128 % 2) count inner n) (rw body_bytes at e)

-- ---- code 3
-- a frame is at least 2.5 ms
some_samples : (c : ℕ) → c < 32 → 120 ≤ samples 48000 c
unfolding samples duration
some_samples c h = leb-true 120 (samples 48000 c) (every_at 32 (λ c. leb 120 (samples 48000 c)) refl c h)

module _ (toc count n : ℕ) (b : toc < 256) (e : n ≡ samples 48000 (configuration toc)) where
  pub lasts_is : (count ≡ 0 → ⊥) → leb (count * n) 5760 ≡ lasts (upper_six toc) count
  lasts_is z = rw (e, lt-ltb 0 count (omega arith)) (lasts_at_lem 48000 refl count (configuration toc) (omega arith))

  pub most_frames : leb (count * n) 5760 ≡ true → count ≤ 48
  most_frames t =
      let each : 120 ≤ n = omega (arith, some_samples (configuration toc) (omega arith)) in
      omega (arith, leb-true (count * n) 5760 t, mul-le-mul_left count each)

module _ (sd : Bool) where
  -- a packet that is long enough for its count byte
  pub three_is : (d : List ℕ) → 2 ≤ length d
      → read3 sd (length d) (get_or d 0 0) (drop 1 d) ≡ cond (lasts (upper_six (get_or d 0 0)) (get_or d 1 0 % 64)) (body sd d (get_or d 1 0 % 64))
      (refused R5 1)
  three_is [] h = absurd (omega arith)
  three_is (toc ∷ []) h = absurd (omega arith)
  three_is (toc ∷ c ∷ s) h = refl

  pub three_short : (d : List ℕ) → length d < 2 → Err (rule_refusal R5 1) ≡ packet_of (read3 sd (length d) (get_or d 0 0) (drop 1 d))
  three_short [] h = refl
  three_short (toc ∷ []) h = refl
  three_short (toc ∷ c ∷ s) h = absurd (omega arith)

  module _ (d : List ℕ) (h : 2 ≤ length d) where
    pub three_none : get_or d 1 0 % 64 ≡ 0 → Err (rule_refusal R5 1) ≡ packet_of (read3 sd (length d) (get_or d 0 0) (drop 1 d))
    three_none z = rw (three_is d h, z)

    module _ (z : get_or d 1 0 % 64 ≡ 0 → ⊥) (n : ℕ) (b : get_or d 0 0 < 256) (e : n ≡ samples 48000 (configuration (get_or d 0 0))) where
      lasting : leb (get_or d 1 0 % 64 * n) 5760 ≡ lasts (upper_six (get_or d 0 0)) (get_or d 1 0 % 64)
      lasting = lasts_is (get_or d 0 0) (get_or d 1 0 % 64) n b e z

      pub three_long : leb (get_or d 1 0 % 64 * n) 5760 ≡ false → Err (rule_refusal R5 1) ≡ packet_of (read3 sd (length d) (get_or d 0 0) (drop 1 d))
      three_long t = rw (three_is d h, ← lasting, t)

      pub three_read : leb (get_or d 1 0 % 64 * n) 5760 ≡ true → (x : Result Packet Refusal) → x ≡ packet_of (body sd d (get_or d 1 0 % 64))
          → x ≡ packet_of (read3 sd (length d) (get_or d 0 0) (drop 1 d))
      three_read t x e = rw (three_is d h, ← lasting, t) e

-- ---- the codes
-- frames that were read behind the TOC byte, as r reads them from any list
module _ (d : List ℕ) (h : 1 ≤ length d) (count : ℕ) (r : List ℕ → Front) (w : (s : List ℕ) → Within (length s) count (r s)) where
  rest : List ℕ
  rest = part d 1 (length d)

  all_rest : length d ≡ 1 + length rest + 0
  unfolding rest
  all_rest = rw (part_to_end d 1) (omega (arith, length-drop 1 d))

  module _ (f : Result (ℕ × ℕ) (Rule × ℕ)) (l : List ℕ) (g : FramesRead (part d 1 (length d)) (r (part d 1 (length d))) f l) where
    rest_fits : 1 + end_of f + 0 ≤ length d
    unfolding rest
    rest_fits = answer_fits rest (length d) 0 count 1 0 (r rest) (w rest) all_rest f l g

    rest_read : answer_of (head_at (get_or d 0 0) count 1 0 f) l ≡ packet_of (accept (length d) (get_or d 0 0) 0 (r (drop 1 d)))
    unfolding rest
    rest_read = rw (part_to_end d 1) at (answer_of_lem rest (length d) (get_or d 0 0) count 1 0 (r rest) (w rest) all_rest f l g)

-- a packet that is not empty is read by its code
pub by_code : (sd : Bool) (d : List ℕ) → 1 ≤ length d → read sd d ≡ read_code sd (get_or d 0 0 % 4) (length d) (get_or d 0 0) (drop 1 d)
unfolding read
by_code sd [] h = absurd (omega arith)
by_code sd (toc ∷ s) h = refl

-- the two kinds of frames behind a TOC byte
abbrev unequal_in : Bool → Rule → ℕ → List ℕ → Front
unequal_in sd r k s = unequal sd r k s

abbrev equal_in : Bool → List ℕ → Front
equal_in sd s = equal sd R3 2 s

-- no length field was read
pub no_fields_lem : (s l : List ℕ) → l ≡ padded48 [] → SizesRead s (together (read_fields 0 s)) (Ok (0, 0)) l
no_fields_lem s l e =
    let none : ltb (length s) (total []) ≡ false = le-ltb (length s) (total []) (omega arith) in
    let start : length s - length s ≡ 0 = omega arith in
    rw (none, start) (refl, e)

-- one field: its length by itself is the sum
module _ (s : List ℕ) where
  one_none : read_field s ≡ no_field → together (read_fields 1 s) ≡ no_fields s
  one_none e = rw e

  module _ (n next : ℕ) (f : Found s 0 n next) where
    one_long : length s - next < n → together (read_fields 1 s) ≡ no_fields s
    one_long h = ap together (one_over s 0 n next 0 f h)

    pub one_field : n ≤ length s - next → (l : List ℕ) → l ≡ padded48 [] → SizesRead s (together (read_fields 1 s)) (Ok (next, n)) (set l 0 n)
    one_field h l e =
        let fits : ltb (length (drop next s)) (n + 0) ≡ false = le-ltb (length (drop next s)) (n + 0) (omega (arith, length-drop next s)) in
        let all : together (read_fields 1 s) ≡ fields (n ∷ []) (drop next s) = ap together (one_fits s 0 n next 0 f h) ∙ rw fits in
        rw (all, place_is s next f.within, e) (ap (λ (t : ℕ). Ok (next, t)) (sym (add-zero n)), refl)

module _ (sd : Bool) (d : List ℕ) (h : 1 ≤ length d) where
  module _ (k count : ℕ) (c : k + 1 ≡ count) (r : Rule) (f : Result (ℕ × ℕ) (Rule × ℕ)) (l : List ℕ)
      (g : FramesRead (part d 1 (length d)) (unequal_in sd r k (part d 1 (length d))) f l) where
    pub unequal-fits : 1 + end_of f + 0 ≤ length d
    unequal-fits = rest_fits d h count (unequal_in sd r k) (λ s. unequal-within s count sd r k c) f l g

    unequal_read : answer_of (head_at (get_or d 0 0) count 1 0 f) l ≡ packet_of (accept (length d) (get_or d 0 0) 0 (unequal_in sd r k (drop 1 d)))
    unequal_read = rest_read d h count (unequal_in sd r k) (λ s. unequal-within s count sd r k c) f l g

  pub code_0 : (f : Result (ℕ × ℕ) (Rule × ℕ)) (l : List ℕ) → FramesRead (part d 1 (length d)) (unequal_in sd R2 0 (part d 1 (length d))) f l
      → (x : Result PacketHead Refusal) → x ≡ head_at (get_or d 0 0) 1 1 0 f → get_or d 0 0 % 4 ≡ 0 → answer_of x l ≡ packet_of (read sd d)
  code_0 f l g x y e = rw (y, by_code sd d h, e) (unequal_read 0 1 refl R2 f l g)

  module _ (f : Result (ℕ × ℕ) (Rule × ℕ)) (l : List ℕ) (g : FramesRead (part d 1 (length d)) (equal_in sd (part d 1 (length d))) f l) where
    pub equal-fits : 1 + end_of f + 0 ≤ length d
    equal-fits = rest_fits d h 2 (equal_in sd) (λ s. equal-within s 2 sd R3) f l g

    pub code_1 : (x : Result PacketHead Refusal) → x ≡ head_at (get_or d 0 0) 2 1 0 f → get_or d 0 0 % 4 ≡ 1 → answer_of x l ≡ packet_of (read sd d)
    code_1 x y e = rw (y, by_code sd d h, e) (rest_read d h 2 (equal_in sd) (λ s. equal-within s 2 sd R3) f l g)

  two_cut : together (read_fields 1 (part d 1 (length d))) ≡ no_fields (part d 1 (length d))
      → Err (rule_refusal R4 1) ≡ packet_of (accept (length d) (get_or d 0 0) 0 (unequal sd R4 1 (drop 1 d)))
  two_cut c =
      let b : together (read_fields 1 (drop 1 d)) ≡ no_fields (drop 1 d) = rw (part_to_end d 1) at c in
      cut_refused (drop 1 d) sd R4 1 (length d) (get_or d 0 0) 0 1 (drop 1 d) b (omega (arith, length-drop 1 d))

  pub two_none : read_field (part d 1 (length d)) ≡ no_field
      → Err (rule_refusal R4 1) ≡ packet_of (accept (length d) (get_or d 0 0) 0 (unequal sd R4 1 (drop 1 d)))
  two_none e = two_cut (one_none (part d 1 (length d)) e)

  pub two_over : (n next : ℕ) → Found (part d 1 (length d)) 0 n next → length (part d 1 (length d)) - next < n
      → Err (rule_refusal R4 1) ≡ packet_of (accept (length d) (get_or d 0 0) 0 (unequal sd R4 1 (drop 1 d)))
  two_over n next f over = two_cut (one_long (part d 1 (length d)) n next f over)

  pub two_read : (f : Result (ℕ × ℕ) (Rule × ℕ)) (l : List ℕ) → FramesRead (part d 1 (length d)) (unequal_in sd R4 1 (part d 1 (length d))) f l
      → (x : Result PacketHead Refusal) → x ≡ head_at (get_or d 0 0) 2 1 0 f
      → answer_of x l ≡ packet_of (accept (length d) (get_or d 0 0) 0 (unequal sd R4 1 (drop 1 d)))
  two_read f l g x y = rw y (unequal_read 1 2 refl R4 f l g)

  pub code_2 : (get_or d 0 0 % 4 ≡ 3 → ⊥) → (get_or d 0 0 % 4 ≡ 0 → ⊥) → (get_or d 0 0 % 4 ≡ 1 → ⊥)
      → packet_of (accept (length d) (get_or d 0 0) 0 (unequal sd R4 1 (drop 1 d))) ≡ packet_of (read sd d)
  code_2 n₃ n₀ n₁ = let two : get_or d 0 0 % 4 ≡ 2 = omega arith in rw (by_code sd d h, two)

  pub code_3_lem : get_or d 0 0 % 4 ≡ 3 → packet_of (read3 sd (length d) (get_or d 0 0) (drop 1 d)) ≡ packet_of (read sd d)
  code_3_lem e = rw (by_code sd d h, e)

-- ---- the tests on the length
module _ (sd : Bool) where
  pub parse_long : (d : List ℕ) → 65535 < length d → Err BadArg ≡ parsed sd d
  unfolding parsed
  parse_long d h = rw (lt-ltb 65535 (length d) h)

  pub parse_empty : (d : List ℕ) → length d ≡ 0 → Err (rule_refusal R1 0) ≡ parsed sd d
  unfolding parsed read
  parse_empty [] e = refl
  parse_empty (a ∷ d) e = absurd (omega arith)

  pub parse_read : (d : List ℕ) → length d ≤ 65535 → packet_of (read sd d) ≡ parsed sd d
  unfolding parsed
  parse_read d h = rw (le-ltb 65535 (length d) h)
