-- Streams that are read one behind another.
--     pass_found, pass_refused                           one stream, by the reader's answer
--     reach-within, reach_lent                           the bytes passed are there, and so is the place of what cannot be read
--     Passing                                            what the loop keeps: the bytes so far with the streams from here on are all of them
--     passing_start, passing_end                         its start and its end
--     passing_stuck, passing_more_lem                        a stream that cannot be read, and one that can
--     all_stuck, all-last                                all streams can be read where the first ones can, and then the last
-- Assumes nothing.
use Prim.Native.Nat.{ℕ, zero, suc, ◌+◌, ◌-◌, ◌≤◌, ◌<◌}
use native.Mathlib.Nat.{add-zero}
use native.Mathlib.Omega.{arith}
use mathlib.Core.Path.{◌≡◌, refl, sym, ap, ◌∙◌}
use mathlib.Core.List.{List, []}
use mathlib.Core.Bool.{Bool, true, false}
use lib.ListN.{get_or, length, take, drop, length-drop}
use lib.Seq.{drop-drop}
use borrow.Author.Rules.{part_to_end}
use Rattle.laws.specs.Bytes.{Bytes}
use Rattle.laws.proofs.Bytes.{bytes_drop}
use Rattle.laws.proofs.Never.{never}
use Rattle.opus_defines.proofs.Others.{shifted_none, shifted_more}
use Rattle.opus_defines.specs.Rules.{shifted, rule_refusal}
use Rattle.opus_defines.specs.declared.Refusal.{Refusal}
use Rattle.std.specs.Prelude.{Err, Ok, Result}
use Rattle.opus_defines.proofs.Outcomes.{rule_report}
use Rattle.opus_defines.specs.Numbers.{refusal_report}
use Rattle.opus_toc.specs.Toc.{upper_six}
use Rattle.opus_format.specs.Frames.{cut}
use Rattle.opus_format.specs.Reading.{Reading, refused, accepted, read}
use Rattle.opus_format.proofs.Within.{refused_within}
use Rattle.opus.specs.Answers.{parsed}
use Rattle.opus.specs.declared.Packet.{Packet}
use Rattle.opus.proofs.Parsed.{parsed_accepted, parsed_refused}
use Rattle.opus_header.specs.Compact.{compact}
use Rattle.multistream.specs.Streams.{pass_by, further, then_pass, pass_streams}
use Rattle.multistream.specs.Unpad.{Repacked, unread, repacked, ahead, repack_reading, repack_streams}
use Rattle.multistream.specs.Parts.{reach, verdict_by, verdict_of}
use Rattle.multistream.proofs.Bounds.{taken_within}

-- ---- one stream, with the reader's answer r
module _ (sd : Bool) (s : List ℕ) where
  pub pass_found : (r : Packet) → Ok r ≡ parsed sd s → Ok r.taken ≡ pass_by (read sd s)
  pass_found r p = rw (parsed_accepted sd s r p).means

  pub pass_refused : (e : Refusal) → Err e ≡ parsed sd s → length s ≤ 65535 → Err e ≡ pass_by (read sd s)
  pass_refused e p short = let q = parsed_refused sd s e p short in rw q.3 (ap (λ (x : Refusal). Err x) q.2)

pass_inside : (sd : Bool) (s : List ℕ) (n : ℕ) → Bytes s → pass_by (read sd s) ≡ Ok n → n ≤ length s
pass_inside sd s n bytes e = go (read sd s) refl e
  where
    go : (x : Reading) → read sd s ≡ x → pass_by x ≡ Ok n → n ≤ length s
    go (refused rule place) q e = never (cc)
    go (accepted toc ns first taken) q e =
        let same : taken ≡ n = cc in
        omega (arith, taken_within sd s toc ns first taken bytes q)

-- the bytes passed are there, and so is the place of what cannot be read
reach-within : (sd : Bool) (s : List ℕ) → Bytes s → reach (pass_by (read sd s)) ≤ length s
reach-within sd s bytes = go (read sd s) refl
  where
    go : (x : Reading) → read sd s ≡ x → reach (pass_by x) ≤ length s
    go (refused rule place) q =
        let within : (refusal_report (rule_refusal rule place)).place ≤ length s = rw (rule_report rule place) (refused_within sd s rule place q) in
        within
    go (accepted toc ns first taken) q = taken_within sd s toc ns first taken bytes q

-- as the code lends the stream
pub reach_lent : (sd : Bool) (s : List ℕ) (at : ℕ) → Bytes s → at ≤ length s → {x : Result ℕ Refusal} → x
    ≡ pass_by (read sd (take (length s - at) (drop at s)))
    → at + reach x ≤ length s
reach_lent sd s at bytes h e =
    rw e (rw (part_to_end s at) (omega (arith, reach-within sd (drop at s) (bytes_drop at s bytes), length-drop at s)))

-- ---- several streams
further-none : (x : Result ℕ Refusal) → further 0 x ≡ x
further-none (Ok at) = let e : 0 + at ≡ at = omega arith in rw e
further-none (Err e) = ap Err (shifted_none e)

further_more : (n m : ℕ) (x : Result ℕ Refusal) → further n (further m x) ≡ further (n + m) x
further_more n m (Ok at) = let e : n + (m + at) ≡ n + m + at = omega arith in rw e
further_more n m (Err e) = ap Err (shifted_more n m e)

-- i of k streams are passed, up to the place `at`
pub record Passing (s : List ℕ) (k at i : ℕ) : Type 0 where
  pub inside : at ≤ length s
  pub left : ℕ
  pub count : left + i ≡ k
  pub rest : further at (pass_streams left (drop at s)) ≡ pass_streams k s

module _ (s : List ℕ) (k : ℕ) where
  pub passing_start : Passing s k 0 0
  passing_start =
      record { inside = omega arith; left = k; count = add-zero k; rest = further-none (pass_streams k s) }

  module _ (at i : ℕ) (z : Passing s k at i) where
    pub passing_end : k ≤ i → Ok at ≡ pass_streams k s
    passing_end h = go z.left z.count z.rest
      where
        go : (left : ℕ) → left + i ≡ k → further at (pass_streams left (drop at s)) ≡ pass_streams k s → Ok at ≡ pass_streams k s
        go zero c e = rw (add-zero at) at e
        go (suc left) c e = absurd (omega arith)

    -- x is what reading the next stream answered
    module _ (x : Result ℕ Refusal) (p : x ≡ pass_by (read true (take (length s - at) (drop at s)))) (h : i < k) where
      answer : pass_by (read true (drop at s)) ≡ x
      answer = sym (rw (part_to_end s at) at p)

      pub passing_stuck : (e : Refusal) → x ≡ Err e → further at x ≡ pass_streams k s
      passing_stuck e v = go z.left z.count z.rest
        where
          go : (left : ℕ) → left + i ≡ k → further at (pass_streams left (drop at s)) ≡ pass_streams k s → further at x ≡ pass_streams k s
          go zero c q = absurd (omega arith)
          go (suc left) c q = ap (further at) v ∙ rw (answer, v) at q

      module _ (n : ℕ) (v : x ≡ Ok n) (bytes : Bytes s) where
        pub passing_more_lem : Passing s k (at + n) (i + 1)
        passing_more_lem = go z.left z.count z.rest
          where
            go : (left : ℕ) → left + i ≡ k → further at (pass_streams left (drop at s)) ≡ pass_streams k s → Passing s k (at + n) (i + 1)
            go zero c q = absurd (omega arith)
            go (suc left) c q =
                record {
                  inside = omega (arith, z.inside, length-drop at s, pass_inside true (drop at s) n (bytes_drop at s bytes) (answer ∙ v));
                  left = left;
                  count = omega arith;
                  rest = rw (answer, v, further_more at n (pass_streams left (drop n (drop at s))), drop-drop n at s) at q;
                }

-- ---- all streams
abbrev pub shifted_verdict : ℕ → Result (Unit {0}) Refusal → Result (Unit {0}) Refusal
shifted_verdict n (Ok tt) = (Ok tt)
shifted_verdict n (Err e) = Err (shifted n e)

pub ahead_verdict : (q : List ℕ) (n : ℕ) (x : Repacked) → verdict_of (ahead q n x) ≡ shifted_verdict n (verdict_of x)
ahead_verdict q n (unread e) = refl
ahead_verdict q n (repacked v) = refl

further_verdict : (n : ℕ) (x : Result ℕ Refusal) → verdict_by (further n x) ≡ shifted_verdict n (verdict_by x)
further_verdict n (Ok at) = refl
further_verdict n (Err e) = refl

last_verdict : (s : List ℕ) (x : Reading) → verdict_by (pass_by x) ≡ verdict_of (repack_reading false (λ t. repacked []) s x)
last_verdict s (refused rule place) = refl
last_verdict s (accepted toc ns first taken) = refl

-- what is known of the streams behind the first
further_was : (n at : ℕ) (x : Result ℕ Refusal) → further n x ≡ Ok at → (b : ℕ) × (x ≡ Ok b) × (n + b ≡ at)
further_was n at (Ok b) e = (b, refl, cc)
further_was n at (Err f) e = never (cc)

further_stuck : (n : ℕ) (x : Result ℕ Refusal) (e : Refusal) → further n x ≡ Err e → (f : Refusal) × (x ≡ Err f) × (shifted n f ≡ e)
further_stuck n (Ok b) e h = never (cc)
further_stuck n (Err f) e h = (f, refl, cc)

pub all_stuck : (k : ℕ) (s : List ℕ) (e : Refusal) → pass_streams k s ≡ Err e → Err e ≡ verdict_of (repack_streams k s)
all_stuck zero s e h = never (cc)
all_stuck (suc k) s e h = go (all_stuck k) (read true s) h
  where
    go : ((t : List ℕ) (f : Refusal) → pass_streams k t ≡ Err f → Err f ≡ verdict_of (repack_streams k t)) → (x : Reading)
        → then_pass (pass_streams k) s (pass_by x) ≡ Err e → Err e ≡ verdict_of (repack_reading true (repack_streams k) s x)
    go next (refused rule place) h = cc
    go next (accepted toc ns first taken) h =
        let f = further_stuck taken (pass_streams k (drop taken s)) e h in
        ap Err (sym f.2)
        ∙ (ap (shifted_verdict taken) (next (drop taken s) f.0 f.1)
        ∙ sym (ahead_verdict (compact true (upper_six toc) (cut ns (drop first s))) taken (repack_streams k (drop taken s))))

pub all-last : (k : ℕ) (s : List ℕ) (at : ℕ) → pass_streams k s ≡ Ok at
    → verdict_by (further at (pass_by (read false (drop at s)))) ≡ verdict_of (repack_streams k s)
all-last zero s at h =
    let none : 0 ≡ at = cc in
    rw (← none, further-none (pass_by (read false s))) (last_verdict s (read false s))
all-last (suc k) s at h = go (λ t. all-last k t) (read true s) h
  where
    Last : Type 0
    Last =
        (t : List ℕ) (at : ℕ) → pass_streams k t ≡ Ok at → verdict_by (further at (pass_by (read false (drop at t)))) ≡ verdict_of (repack_streams k t)

    go : Last → (x : Reading) → then_pass (pass_streams k) s (pass_by x) ≡ Ok at
        → verdict_by (further at (pass_by (read false (drop at s)))) ≡ verdict_of (repack_reading true (repack_streams k) s x)
    go next (refused rule place) h = never (cc)
    go next (accepted toc ns first taken) h =
        let w = further_was taken at (pass_streams k (drop taken s)) h in
        let there : drop w.0 (drop taken s) ≡ drop at s = drop-drop w.0 taken s ∙ ap (λ (n : ℕ). drop n s) w.2 in
        let last = pass_by (read false (drop at s)) in
        let behind : verdict_by (further w.0 last) ≡ verdict_of (repack_streams k (drop taken s)) = rw there at (next (drop taken s) w.0 w.1) in
        ap (λ n. verdict_by (further n last)) (sym w.2)
        ∙ (ap verdict_by (sym (further_more taken w.0 last))
        ∙ (further_verdict taken (further w.0 last)
        ∙ (ap (shifted_verdict taken) behind
        ∙ sym (ahead_verdict (compact true (upper_six toc) (cut ns (drop first s))) taken (repack_streams k (drop taken s))))))

-- the same where the elements are known one by one, for a packet that is not too long: the place that is handed on fits
pub reach_fits : (s : List ℕ) (at : ℕ) {x : Result ℕ Refusal} → x ≡ pass_by (read true (take (length s - at) (drop at s))) → at ≤ length s
    → length s ≤ 65535 → ((i : ℕ) → get_or s i 0 < 256) → at + reach x < 65536
reach_fits s at e h most byte = omega (arith, reach_lent true s at (record { byte = byte }) h e)
