-- Which packet is judged to be what.
--     judged_long, judged-short            by the bytes lent
--     least_long, least_short, least_unread, least_accepted     the least length likewise
--     long_only, unreadable_only           what a verdict says of the bytes, and of the reading
--     dirty_only, dirty-said               what dirt is
--     said_longer, said_clean, says_longer, says_clean     by the least length and the bytes taken
--     judged_spelled                       a packet that the RFC spells, whatever may stand behind it
-- Assumes nothing.
use Prim.Native.Nat.{ℕ, ◌+◌, ◌≤◌, ◌<◌}
use native.Mathlib.Omega.{arith}
use mathlib.Core.Path.{◌≡◌, refl, sym, ◌∙◌}
use mathlib.Core.List.{List, ◌++◌}
use mathlib.Core.Bool.{Bool, true, false}
use lib.Dec.{ltb}
use lib.ListN.{length, get_or, drop, length-append}
use borrow.Author.Tests.{ltb-true, ltb-false, lt-ltb, le-ltb}
use Rattle.laws.proofs.Never.{never, by_test}
use Rattle.opus_defines.specs.declared.Rule.{Rule}
use Rattle.opus_defines.specs.declared.Refusal.{Refusal}
use Rattle.opus_defines.specs.declared.Refusal.TheVariants.{BadArg}
use Rattle.opus_toc.specs.Toc.{upper_six}
use Rattle.opus_format.specs.Frames.{lengths, joined, cut, total}
use Rattle.opus_format.specs.Format.{Spells, Behind}
use Rattle.opus_format.specs.Reading.{Reading, refused, accepted, read}
use Rattle.opus_format.specs.Dirt.{padding_of, dirty, dirty_packet}
use Rattle.opus_format.proofs.Frames.{total-lengths}
use Rattle.opus_format.proofs.Complete.{spelled_read}
use Rattle.opus_format.proofs.Dirt.{padding_is_spelled, dirt_is}
use Rattle.opus_header.specs.Compact.{compact}
use Rattle.opus_header.specs.Sums.{sums_of}
use Rattle.opus_header.specs.Forms.{compact_bytes}
use Rattle.opus_header.proofs.Forms.{compact_bytes_lem, compact-size}
use Rattle.opus_header.proofs.Standing.{compact_needs}
use Rattle.packet_judge.specs.Judging.{least_bytes, said, judge_read, judged, least_read, least_length}
use Rattle.packet_judge.specs.declared.Judged.TheVariants.{Refused, Unreadable, Dirty, Longer, Clean}

-- ---- by the padding, the least length and the bytes taken
by_said : {P : Type 0} (d : Bool) (least taken : ℕ) → (d ≡ true → said d least taken ≡ Dirty → P)
    → (d ≡ false → least < taken → said d least taken ≡ Longer least → P)
    → (d ≡ false → taken ≤ least → said d least taken ≡ Clean → P) → P
by_said true least taken f g h = f refl refl
by_said false least taken f g h =
    by_test (ltb least taken) (λ t. g refl (ltb-true least taken t) (rw t)) (λ t. h refl (ltb-false least taken t) (rw t))

module _ (d : Bool) (least taken : ℕ) where
  said-dirty : said d least taken ≡ Dirty → d ≡ true
  said-dirty e = by_said d least taken (λ t q. t) (λ t l q. never (cc)) (λ t l q. never (cc))

  pub said_longer : (n : ℕ) → said d least taken ≡ Longer n → (d ≡ false) × (least < taken) × (least ≡ n)
  said_longer n e = by_said d least taken (λ t q. never (cc)) (λ t l q. (t, l, cc)) (λ t l q. never (cc))

  pub said_clean : said d least taken ≡ Clean → taken ≤ least
  said_clean e = by_said d least taken (λ t q. never (cc)) (λ t l q. never (cc)) (λ t l q. l)

  pub says_longer : d ≡ false → least < taken → said d least taken ≡ Longer least
  says_longer e h = rw (e, lt-ltb least taken h)

  pub says_clean : d ≡ false → taken ≤ least → said d least taken ≡ Clean
  says_clean e h = rw (e, le-ltb least taken h)

  said-not_refused : (c : Refusal) → said d least taken ≡ Refused c → ⊥
  said-not_refused c e = by_said d least taken (λ t q. never (cc)) (λ t l q. never (cc)) (λ t l q. never (cc))

  said-not-unreadable : (rule : Rule) (place : ℕ) → said d least taken ≡ Unreadable rule place → ⊥
  said-not-unreadable rule place e = by_said d least taken (λ t q. never (cc)) (λ t l q. never (cc)) (λ t l q. never (cc))

-- ---- by the reading
module _ (sd : Bool) (p : List ℕ) where
  read-unreadable : (x : Reading) (rule : Rule) (place : ℕ) → judge_read sd p x ≡ Unreadable rule place → x ≡ refused rule place
  unfolding judge_read
  read-unreadable (refused r n) rule place e = cc
  read-unreadable (accepted toc ns first taken) rule place e =
      absurd (said-not-unreadable (dirty (padding_of p (accepted toc ns first taken))) (least_bytes sd p toc ns first) taken rule place e)

  read-not_refused : (x : Reading) (c : Refusal) → judge_read sd p x ≡ Refused c → ⊥
  unfolding judge_read
  read-not_refused (refused r n) c e = never (cc)
  read-not_refused (accepted toc ns first taken) c e =
      said-not_refused (dirty (padding_of p (accepted toc ns first taken))) (least_bytes sd p toc ns first) taken c e

  read-dirty : (x : Reading) → judge_read sd p x ≡ Dirty → dirty (padding_of p x) ≡ true
  unfolding judge_read
  read-dirty (refused r n) e = never (cc)
  read-dirty (accepted toc ns first taken) e = said-dirty (dirty (padding_of p (accepted toc ns first taken))) (least_bytes sd p toc ns first) taken e

  dirty-read : (x : Reading) → dirty (padding_of p x) ≡ true → judge_read sd p x ≡ Dirty
  unfolding judge_read
  dirty-read (refused r n) d = never (cc)
  dirty-read (accepted toc ns first taken) d = rw d

  -- ---- by the bytes lent
  pub judged_long : 65535 < length p → judged sd p ≡ Refused BadArg
  unfolding judged
  judged_long h = rw (lt-ltb 65535 (length p) h)

  pub judged-short : length p ≤ 65535 → judged sd p ≡ judge_read sd p (read sd p)
  unfolding judged
  judged-short h = rw (le-ltb 65535 (length p) h)

  pub least_long : 65535 < length p → least_length sd p ≡ length p
  unfolding least_length
  least_long h = rw (lt-ltb 65535 (length p) h)

  pub least_short : length p ≤ 65535 → least_length sd p ≡ least_read sd p (read sd p)
  unfolding least_length
  least_short h = rw (le-ltb 65535 (length p) h)

  pub least_unread : (rule : Rule) (place : ℕ) → read sd p ≡ refused rule place → least_length sd p ≡ length p
  unfolding least_read
  least_unread rule place r =
      by_test (ltb 65535 (length p)) (λ t. least_long (ltb-true 65535 (length p) t)) (λ t. rw (least_short (ltb-false 65535 (length p) t), r))

  pub least_accepted : length p ≤ 65535 → (toc : ℕ) (ns : List ℕ) (first taken : ℕ) → read sd p ≡ accepted toc ns first taken
      → least_length sd p ≡ length (compact sd (upper_six toc) (cut ns (drop first p)))
  unfolding least_read least_bytes
  least_accepted h toc ns first taken r = rw (least_short h, r)

  pub long_only : (c : Refusal) → judged sd p ≡ Refused c → (c ≡ BadArg) × (65535 < length p)
  long_only c e =
      by_test (ltb 65535 (length p))
      (λ t. let long = ltb-true 65535 (length p) t in let is = judged_long long in (cc, long))
      (λ t. absurd (read-not_refused (read sd p) c (sym (judged-short (ltb-false 65535 (length p) t)) ∙ e)))

  module _ (short : length p ≤ 65535) where
    pub unreadable_only : (rule : Rule) (place : ℕ) → judged sd p ≡ Unreadable rule place → read sd p ≡ refused rule place
    unreadable_only rule place e = read-unreadable (read sd p) rule place (sym (judged-short short) ∙ e)

    pub unreadable-said : (rule : Rule) (place : ℕ) → read sd p ≡ refused rule place → judged sd p ≡ Unreadable rule place
    unfolding judge_read
    unreadable-said rule place r = rw (judged-short short, r)

    pub dirty_only : judged sd p ≡ Dirty → dirty_packet sd p ≡ true
    dirty_only e = rw (dirt_is sd p) (read-dirty (read sd p) (sym (judged-short short) ∙ e))

    pub dirty-said : dirty_packet sd p ≡ true → judged sd p ≡ Dirty
    dirty-said d = rw (judged-short short) (dirty-read (read sd p) (rw (dirt_is sd p) at d))

-- ---- a packet that the RFC spells
-- the least length goes by the lengths of the frames alone
least_is : (sd : Bool) (six : ℕ) (frames : List (List ℕ)) (p : List ℕ) (toc first : ℕ) → first + total (lengths frames) ≤ length p
    → least_bytes sd p toc (lengths frames) first ≡ length (compact sd six frames)
unfolding least_bytes
least_is sd six frames p toc first h =
    let ns = lengths frames in
    let m = sums_of ns in
    compact_needs sd (upper_six toc) ns p first h m refl (compact_bytes (length ns) m sd) refl
    ∙ (compact_bytes_lem sd six ns m refl ∙ rw (total-lengths frames) (sym (compact-size sd six frames)))

module _ {sd : Bool} {six : ℕ} {q : List ℕ} {frames : List (List ℕ)} (w : Spells sd six q frames) where
  block : (rest : List ℕ) → length w.head + total (lengths frames) ≤ length (q ++ rest)
  block rest =
      rw w.bytes
      (omega (
        arith,
        total-lengths frames,
        length-append (w.head ++ (joined frames ++ w.padding)) rest,
        length-append w.head (joined frames ++ w.padding),
        length-append (joined frames) w.padding,
      ))

  pub judged_spelled : (rest : List ℕ) → Behind sd rest → length (q ++ rest) ≤ 65535
      → judged sd (q ++ rest) ≡ said (dirty w.padding) (length (compact sd six frames)) (length q)
  unfolding judge_read
  judged_spelled rest b h =
      let r = spelled_read w rest b in
      let pad = rw r at (padding_is_spelled w rest b) in
      rw (judged-short sd (q ++ rest) h, r, pad, least_is sd six frames (q ++ rest) (get_or q 0 0) (length w.head) (block rest))
