-- What the code takes of a packet is the shorter spelling.
--     refused_told           a packet that the reader refuses
--     Readable, readable     a packet that it accepts: where its frames lie, and what the spelling goes by
--     part-told              the first bytes of the work buffer, where the compact packet is taken
-- Assumes nothing.
use Prim.Native.Nat.{ℕ, ◌+◌, ◌≤◌}
use native.Mathlib.Omega.{arith}
use mathlib.Core.Path.{◌≡◌, sym, ◌∙◌}
use mathlib.Core.List.{List}
use mathlib.Core.Bool.{false}
use lib.Dec.{ltb}
use lib.ListN.{length, take, drop}
use lib.Seq.{length-take-le}
use borrow.Author.Tests.{ltb-true, ltb-false}
use Rattle.laws.specs.Bytes.{Bytes}
use Rattle.laws.proofs.Never.{by_test}
use Rattle.blocks.proofs.Sets.{take-sets}
use Rattle.opus_defines.specs.Rules.{rule_refusal}
use Rattle.opus_defines.specs.Outcome.{written}
use Rattle.opus_defines.specs.declared.Refusal.{Refusal}
use Rattle.std.specs.Prelude.{Err, Ok}
use Rattle.opus_size.specs.Size.{most_bytes}
use Rattle.opus_toc.specs.Toc.{upper_six}
use Rattle.opus_format.specs.Frames.{cut, total, longest}
use Rattle.opus.specs.Answers.{parsed}
use Rattle.opus.specs.declared.Packet.{Packet}
use Rattle.opus.proofs.Parsed.{lengths_of, parsed_accepted, parsed_refused}
use Rattle.opus_header.specs.Compact.{compact}
use Rattle.padding.proofs.Looked.{framed}
use Rattle.spelling.specs.Spelling.{spelling_of, spelling, compact_of, shorter, work_after}
use Rattle.spelling.specs.declared.Spelling.{Spelling}
use Rattle.spelling.specs.declared.Spelling.TheVariants.{Original, Compact}
use Rattle.packet_pad.proofs.Unpadding.{unpad_unread, unpad_taken}
use Rattle.spelling.proofs.Choice.{long_original, unread_original, written_is, compact-written, compact-told, handed_compact}

-- ---- the reader's answer
pub refused_told : (p : List ℕ) (room : ℕ) {c : Refusal} → Err c ≡ parsed false p → Original ≡ spelling p room
refused_told p room {c} e =
    by_test (ltb 65535 (length p)) (λ t. sym (long_original p room (ltb-true 65535 (length p) t)))
    (λ t. let r = parsed_refused false p c e (ltb-false 65535 (length p) t) in
    sym (unread_original p room (rule_refusal r.0 r.1) (unpad_unread p r.0 r.1 r.3)))

module _ (p : List ℕ) (room : ℕ) (answer : Packet) (e : Ok answer ≡ parsed false p) where
  -- the compact packet of what was read
  abbrev rebuilt : List ℕ
  rebuilt = compact false (upper_six answer.toc) (cut (lengths_of answer) (drop answer.first p))

  pub record Readable : Type 0 where
    pub inside : answer.count ≤ length answer.lengths
    pub some : (1 ≤ length (lengths_of answer)) × (length (lengths_of answer) ≤ 48) × (longest (lengths_of answer) ≤ most_bytes)
    pub block : answer.first + total (lengths_of answer) ≤ length p
    pub goes_by : (w : List ℕ) {w' : List ℕ} {s : Spelling} → s ≡ spelling_of p room (written rebuilt) → w' ≡ work_after rebuilt w s
        → (s ≡ spelling p room) × (w' ≡ work_after (compact_of p) w s)

  pub readable : Bytes p → Readable
  readable bytes =
      let f = framed false p answer e bytes in
      let d = parsed_accepted false p answer e in
      let u = unpad_taken p answer.toc (lengths_of answer) answer.first answer.taken d.means in
      record {
        inside = f.inside;
        some = f.some;
        block = omega (arith, f.block, f.within);
        goes_by = λ w s b. (s ∙ written_is p room rebuilt u d.short, rw (compact-written p rebuilt u) b);
      }

-- ---- the work buffer w, which has become x
module _ (p w x : List ℕ) (s : Spelling) (n : ℕ) (is : s ≡ Compact n) (e : s ≡ spelling p (length w)) (f : x ≡ work_after (compact_of p) w s) where
  told : (length (compact_of p) ≡ n) × (n ≤ length w)
  told = let k = compact-told p (length w) n (sym e ∙ is) in (k.0, k.2)

  pub part-told : take n x ≡ shorter p (length w)
  part-told =
      let q = compact_of p in
      let back : take n (work_after q w (Compact n)) ≡ q = rw told.0 at (take-sets w q (omega (arith, told))) in
      rw (handed_compact p (length w) n (sym e ∙ is), f, is) back

  pub part_long : length x ≡ length w → n ≡ length (take n x)
  part_long same = sym (length-take-le n x (omega (arith, told)))
