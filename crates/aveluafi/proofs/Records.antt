-- The core's answers fit the records that C sees.
--     size_few                     the bytes used are a small number
--     size_passed, rate_passed     a call is passed the bits of a signed number
--     size_reported, ..            a report in a record
--     size_number_lem, packet_number_lem   the number of a record is the one of the core's answer
--     record_read, record_unread   a packet that was read, by its answer
--     one_record, two_record       a packet of one frame or two that was read without an array
--     same_record                  one of frames that are equally long
--     long_record, broken_record   a packet that is too long, or breaks a rule
--     record_found                 a record of a capture
--     head_made, head_refused      an identification header
-- Assumes nothing.
use Prim.Native.Nat.{ℕ, ◌-◌, ◌≤◌, ◌<◌}
use native.Mathlib.Omega.{arith}
use mathlib.Core.Path.{◌≡◌, refl, sym, ap, ◌∙◌}
use mathlib.Core.List.{List, [], ◌∷◌}
use mathlib.Core.Bool.{Bool, false}
use lib.Dec.{eqb}
use lib.IntN.{ℤ, pos}
use lib.ListN.{length, get_or, set, replicate, length-append, length-replicate}
use mir.Syntax.{w32}
use mir.Val.{to_z, of_z, SFits}
use mir.ValLaws.{to_z-of_z}
use Rattle.laws.specs.Bytes.{Bytes}
use Rattle.laws.proofs.Never.{by_test}
use Rattle.opus_defines.specs.Rules.{rule_refusal}
use Rattle.opus_defines.specs.Numbers.{plain, refusal_report, refusal_number, verdict_number}
use Rattle.opus_defines.specs.declared.Refusal.{Refusal}
use Rattle.opus_defines.specs.declared.Refusal.TheVariants.{BadArg}
use Rattle.opus_defines.specs.declared.Report.{Report}
use Rattle.opus_defines.specs.declared.Rule.{Rule}
use Rattle.opus_defines.specs.declared.Rule.TheVariants.{R4, R7, R8}
use Rattle.std.specs.Prelude.{Err, Ok, Result, IfOk}
use Rattle.opus_size.specs.Size.{Field, no_field, field, length_field, read_field}
use Rattle.opus_size.specs.Answers.{encode_size, size_of, size_number, size_told, parse_size}
use Rattle.opus_size.specs.declared.Size.{Size}
use Rattle.opus_size.proofs.Fields.{width, field_was}
use Rattle.opus_toc.specs.Answers.{samples_per_frame}
use Rattle.opus_format.specs.Frames.{padded48}
use Rattle.opus_format.specs.Reading.{refused, accepted, read}
use Rattle.opus.specs.Answers.{packet_number, packet_with, parsed}
use Rattle.opus.specs.declared.Packet.{Packet}
use Rattle.opus.specs.declared.PacketHead.{PacketHead}
use Rattle.opus.proofs.AtPacket.{parse_long, parse_read}
use Rattle.opus.proofs.AtEqual.{EqualRead}
use Rattle.capture.specs.declared.NextRecord.{NextRecord}
use Rattle.opus_head.specs.declared.OpusHead.{OpusHead}
use Rattle.opus_head.specs.Reading.{zero_head}
use Rattle.aveluafi.specs.Records.{size_record, packet_record, whole_record, capture_record, head_record}

-- ---- a packet that was read, with its lengths in the array l
module _ (sd : Bool) (p : List ℕ) (h : PacketHead) (l : List ℕ) (e : Ok (packet_with h l) ≡ parsed sd p) where
  pub record_read : whole_record h l ≡ packet_record (parsed sd p)
  record_read = ap packet_record e

pub record_unread : (sd : Bool) (p : List ℕ) {c : Refusal} → Err c ≡ parsed sd p → packet_record (Err c) ≡ packet_record (parsed sd p)
record_unread sd p e = ap packet_record e

-- ---- a packet, by what was read of it without an array: its frames, or the rule that it breaks
module _ (sd : Bool) (p : List ℕ) where
  pub long_record : 65535 < length p → packet_record (Err BadArg) ≡ packet_record (parsed sd p)
  long_record h = ap packet_record (parse_long sd p h)

  module _ (h : length p ≤ 65535) where
    read_record : (ns : List ℕ) (first taken : ℕ) → read sd p ≡ accepted (get_or p 0 0) ns first taken
        → {r : Report} {l : List ℕ} {end : ℕ} → r ≡ plain (pos (length ns)) → l ≡ padded48 ns → end ≡ taken
        → record { report = r; lengths = l; toc = get_or p 0 0; payload_offset = first; packet_offset = end } ≡ packet_record (parsed sd p)
    read_record ns first taken m e q t = rw (← parse_read sd p h, m, e, q, t)

    pub one_record : (n first taken : ℕ) → read sd p ≡ accepted (get_or p 0 0) (n ∷ []) first taken
        → {r : Report} {end : ℕ} → r ≡ plain (pos 1) → end ≡ taken
        → record { report = r; lengths = set (padded48 []) 0 n; toc = get_or p 0 0; payload_offset = first; packet_offset = end }
        ≡ packet_record (parsed sd p)
    one_record n first taken m e t = read_record (n ∷ []) first taken m e refl t

    pub two_record : (m n first taken : ℕ) → read sd p ≡ accepted (get_or p 0 0) (m ∷ n ∷ []) first taken
        → {r : Report} {end : ℕ} → r ≡ plain (pos 2) → end ≡ taken
        → record { report = r; lengths = set (set (padded48 []) 0 m) 1 n; toc = get_or p 0 0; payload_offset = first; packet_offset = end }
        ≡ packet_record (parsed sd p)
    two_record m n first taken k e t = read_record (m ∷ n ∷ []) first taken k e refl t

    pub broken_record : (rule : Rule) (place : ℕ) → read sd p ≡ refused rule place → {e : Refusal} → e ≡ rule_refusal rule place
        → packet_record (Err e) ≡ packet_record (parsed sd p)
    broken_record rule place q r = rw (← parse_read sd p h, q, r)

-- one of code 3 with frames of one length
pub same_record : (p : List ℕ) → length p ≤ 65535 → (n each first : ℕ) → EqualRead p n each first → {r : Report} {l : List ℕ}
    → r ≡ plain (pos n)
    → l ≡ padded48 (replicate n each)
    → record { report = r; lengths = l; toc = get_or p 0 0; payload_offset = first; packet_offset = length p } ≡ packet_record (parsed false p)
same_record p h n each first s e q =
    read_record false p h (replicate n each) first (length p) s.means (e ∙ ap (λ (k : ℕ). plain (pos k)) (sym (length-replicate n each))) q refl

-- a field of one or two bytes, whatever rule asks for it
abbrev Few : Result Size Refusal → Type 0
Few s = IfOk s (λ (x : Size). x.bytes ≤ 2)

told_few : (rule : Rule) (s : List ℕ) → Bytes s → Few (size_told rule s)
unfolding size_told
told_few rule s bytes = go (read_field s) refl
  where
    go : (x : Field) → read_field s ≡ x → Few (size_of rule s (read_field s))
    go no_field q = rw q tt
    go (field n t) q =
        let w = (field_was s t n bytes q).0 in
        let few : length s - length t ≤ 2 = rw w (omega (arith, length-append (length_field n) t, width n)) in
        rw q few

pub size_few : (told : ℕ) (s : List ℕ) → Bytes s → Few (parse_size told s)
unfolding parse_size
size_few told s bytes =
    by_test (eqb told 4) (λ t. rw t (told_few R4 s bytes)) (λ t. rw t
    (by_test (eqb told 7) (λ u. rw u (told_few R7 s bytes)) (λ u. rw u
    (by_test (eqb told 8) (λ v. rw v (told_few R8 s bytes)) (λ v. rw v tt)))))

-- ---- a report in a record
pub size_reported : (s : Size) {r : Report} → r ≡ plain (pos s.bytes) → record { report = r; size = s.size } ≡ size_record (Ok s)
size_reported s e = rw e

pub no_size_reported : (e : Refusal) {r : Report} → r ≡ refusal_report e → record { report = r; size = 0 } ≡ size_record (Err e)
no_size_reported e q = rw q

pub whole_reported : (h : PacketHead) (l : List ℕ) {r : Report} → r ≡ plain (pos h.count)
    → record { report = r; lengths = l; toc = h.toc; payload_offset = h.first; packet_offset = h.taken } ≡ whole_record h l
whole_reported h l e = rw e

pub none_reported : (c : Refusal) {r : Report} → r ≡ refusal_report c
    → record { report = r; lengths = padded48 []; toc = 0; payload_offset = 0; packet_offset = 0 } ≡ packet_record (Err c)
none_reported c e = rw e

-- ---- the number of a record is the one of the core's answer: rule and place change none
pub size_number_lem : (s : Result Size Refusal) → (size_record s).report.number ≡ size_number s
size_number_lem (Ok s) = refl
size_number_lem (Err e) = refl

pub packet_number_lem : (p : Result Packet Refusal) → (packet_record p).report.number ≡ packet_number p
packet_number_lem (Ok p) = refl
packet_number_lem (Err e) = refl

-- ---- numbers as C hands them over: a call is passed the bits of the number
pub size_passed : (size : ℤ) (s : List ℕ) → SFits w32 size → {n : ℤ} {t : List ℕ}
    → n ≡ (encode_size (to_z w32 (of_z w32 size)) s).report.number → t ≡ (encode_size (to_z w32 (of_z w32 size)) s).bytes
    → (n ≡ (encode_size size s).report.number) × (t ≡ (encode_size size s).bytes)
size_passed size s f a b = rw (← to_z-of_z w32 size f) (a, b)

pub rate_passed : (s : List ℕ) (rate : ℤ) → SFits w32 rate → samples_per_frame s (to_z w32 (of_z w32 rate)) ≡ samples_per_frame s rate
rate_passed s rate f = rw (to_z-of_z w32 rate f)

-- ---- a record of a capture
pub record_found : (r : NextRecord) {a : NextRecord} → r ≡ a → {n : ℤ} → n ≡ verdict_number (pos 0) r.verdict
    → record { number = n; line = r.line; place = r.place; length = r.length; passed = r.passed } ≡ capture_record a
record_found r e m = rw m (ap capture_record e)

-- ---- an identification header
module _ {a : Result OpusHead Refusal} {n : ℤ} where
  pub head_made : (h : OpusHead) → Ok h ≡ a → n ≡ pos 0 → record { number = n; head = h } ≡ head_record a
  head_made h e m = rw m (ap head_record e)

  pub head_refused : (c : Refusal) → Err c ≡ a → n ≡ refusal_number c → {z : OpusHead} → z ≡ zero_head → record { number = n; head = z } ≡ head_record a
  head_refused c e m q = rw (m, q) (ap head_record e)
