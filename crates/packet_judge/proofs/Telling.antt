-- What the code tells of a packet is what it is judged to be.
--     other_unread                   a refusal without rule and place
--     refused_told, refused_least    a packet that the reader refuses
--     Readable, readable             a packet that it accepts: where its frames lie, and what the verdict goes by
--     frames_end                     the frames end where the padding begins
--     least_told, bytes_told         the least length, and the verdict by it and the padding bytes
-- Assumes nothing.
use Prim.Native.Nat.{ℕ, ◌+◌, ◌-◌, ◌≤◌}
use native.Mathlib.Omega.{arith}
use mathlib.Core.Path.{◌≡◌, sym, ap, ◌∙◌}
use mathlib.Core.List.{List}
use mathlib.Core.Bool.{Bool}
use lib.Dec.{ltb}
use lib.ListN.{length, take, drop}
use borrow.Author.Tests.{ltb-true, ltb-false, le-ltb}
use Rattle.laws.specs.Bytes.{Bytes}
use Rattle.laws.proofs.Never.{by_test}
use Rattle.blocks.proofs.Sets.{drop-take}
use Rattle.opus_defines.specs.Rules.{rule_refusal}
use Rattle.opus_defines.proofs.Others.{other_or}
use Rattle.opus_defines.specs.declared.Rule.{Rule}
use Rattle.opus_defines.specs.declared.Refusal.{Refusal}
use Rattle.opus_defines.specs.declared.Refusal.TheVariants.{BadArg, Unreadable as Breaks}
use Rattle.std.specs.Prelude.{Err, Ok}
use Rattle.opus_defines.proofs.Outcomes.{rule_or}
use Rattle.opus_size.specs.Size.{most_bytes}
use Rattle.opus_toc.specs.Toc.{upper_six}
use Rattle.opus_format.specs.Frames.{total, longest}
use Rattle.opus_format.specs.Reading.{accepted}
use Rattle.opus_format.specs.Dirt.{padding_of, dirty}
use Rattle.opus_format.proofs.Facts.{facts}
use Rattle.opus.specs.Answers.{parsed}
use Rattle.opus.specs.declared.Packet.{Packet}
use Rattle.opus.proofs.AtPacket.{parse_long}
use Rattle.opus.proofs.Parsed.{lengths_of, parsed_accepted, parsed_refused}
use Rattle.opus_header.specs.Sums.{sums_of}
use Rattle.opus_header.specs.Forms.{compact_bytes}
use Rattle.opus_header.specs.declared.Sums.{Sums}
use Rattle.opus_header.proofs.Standing.{compact_needs}
use Rattle.opus_header.proofs.Forms.{sums_total}
use Rattle.packet_judge.specs.Judging.{least_bytes, said, judge_read, judged, least_read, least_length, unread}
use Rattle.packet_judge.specs.declared.Judged.{Judged}
use Rattle.packet_judge.specs.declared.Judged.TheVariants.{Refused, Unreadable}
use Rattle.packet_judge.proofs.Verdicts.{least_long, least_short, least_unread}

-- ---- refused
pub other_unread : (e : Refusal) → ((rule : Rule) (place : ℕ) → e ≡ Breaks rule place → ⊥) → Refused e ≡ unread e
other_unread e u = sym (other_or Unreadable (Refused e) e u)

rule_unread : (rule : Rule) (place : ℕ) → unread (rule_refusal rule place) ≡ Unreadable rule place
rule_unread rule place = rule_or Unreadable (Refused (rule_refusal rule place)) rule place

module _ (sd : Bool) (p : List ℕ) (c : Refusal) (e : Err c ≡ parsed sd p) where
  pub refused_told : unread c ≡ judged sd p
  unfolding judged judge_read
  refused_told =
      by_test (ltb 65535 (length p))
      (λ t. let none = e ∙ sym (parse_long sd p (ltb-true 65535 (length p) t)) in
      let is : c ≡ BadArg = cc in
      rw (t, is))
      (λ t. let r = parsed_refused sd p c e (ltb-false 65535 (length p) t) in
      rw (t, r.3) (ap unread r.2 ∙ rule_unread r.0 r.1))

  pub refused_least : length p ≡ least_length sd p
  refused_least =
      by_test (ltb 65535 (length p)) (λ t. sym (least_long sd p (ltb-true 65535 (length p) t)))
      (λ t. let r = parsed_refused sd p c e (ltb-false 65535 (length p) t) in sym (least_unread sd p r.0 r.1 r.3))

-- ---- accepted, with the reader's answer
module _ (sd : Bool) (p : List ℕ) (answer : Packet) (e : Ok answer ≡ parsed sd p) where
  pub record Readable : Type 0 where
    pub inside : answer.count ≤ length answer.lengths
    pub some : (1 ≤ length (lengths_of answer)) × (length (lengths_of answer) ≤ 48) × (longest (lengths_of answer) ≤ most_bytes)
    pub block : (answer.first + total (lengths_of answer) ≤ answer.taken) × (answer.taken ≤ length p)
    pub goes_by : {j : Judged} → j ≡ judge_read sd p (accepted answer.toc (lengths_of answer) answer.first answer.taken) → j ≡ judged sd p
    pub least_by : {n : ℕ} → n ≡ least_read sd p (accepted answer.toc (lengths_of answer) answer.first answer.taken) → n ≡ least_length sd p

  pub readable : Bytes p → Readable
  unfolding judged
  readable bytes =
      let q = answer in
      let d = parsed_accepted sd p q e in
      let f = facts sd p q.toc (lengths_of q) q.first q.taken bytes d.means in
      record {
        inside = d.inside;
        some = (f.some, f.few, f.small);
        block = (f.block, f.within);
        goes_by = λ e. rw (le-ltb 65535 (length p) d.short, d.means) e;
        least_by = λ e. rw (least_short sd p d.short, d.means) e;
      }

-- ---- the verdict on frames of lengths ns from `first` on, counted as m
module _ (sd : Bool) (p ns : List ℕ) (first taken : ℕ) (within : (first + total ns ≤ taken) × (taken ≤ length p)) (m : Sums)
    (e : m ≡ sums_of ns) where
  pub frames_end : first + m.total ≡ first + total ns
  frames_end = ap (λ (n : ℕ). first + n) (sums_total ns e)

  padding_is : (toc : ℕ) → padding_of p (accepted toc ns first taken) ≡ take (taken - (first + m.total)) (drop (first + m.total) p)
  padding_is toc = rw frames_end (drop-take (first + total ns) taken p)

  module _ (least : ℕ) (n : least ≡ compact_bytes (length ns) m sd) where
    least_is : (toc : ℕ) → least_bytes sd p toc ns first ≡ least
    unfolding least_bytes
    least_is toc = compact_needs sd (upper_six toc) ns p first (omega arith) m e least n

    pub least_told : (toc : ℕ) → least ≡ least_read sd p (accepted toc ns first taken)
    unfolding least_read
    least_told toc = sym (least_is toc)

    pub bytes_told : (d : Bool) → d ≡ dirty (take (taken - (first + m.total)) (drop (first + m.total) p)) → {j : Judged} → j ≡ said d least taken
        → (toc : ℕ) → j ≡ judge_read sd p (accepted toc ns first taken)
    unfolding judge_read
    bytes_told d b k toc = rw (padding_is toc, ← b, least_is toc) k
